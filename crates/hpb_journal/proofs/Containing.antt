-- The contents of a journal, whatever its layout.
use Rattle.std.proofs.Common.{◌≡◌, ◌≢◌, ◌⊎◌, inl, inr, ℕ, suc, ◌+◌, ◌*◌, ◌/◌, ◌%◌, ◌<◌, ◌≤◌, ◌↔◌, List, [], ◌∷◌, ◌++◌, length, refl, sym, ◌∙◌, ap, subst, arith, length-append}
use Rattle.std.proofs.lemmas.Bool.{cases_lt, cases_eq}
use Rattle.std.proofs.Math.Nat.{mul-le-mul_left, add-mod_right}
use Rattle.hpb_rules.specs.Tree.{Rules}
use Rattle.hpb_rules.specs.declared.command.Command.{Command}
use Rattle.hpb_codec.specs.declared.batch.Batch.{Batch}
use Rattle.hpb_journal.specs.Layouts.{Layout, IsLayout, AreApart, SameFrame}
use Rattle.hpb_journal.specs.Frames.{IsOpen, IsClosed, IsOwn, IsFrame, Kept, batch_at}
use Rattle.hpb_rules.specs.Fronts.{joined}
use Rattle.hpb_disk.proofs.GateBytes.{is_open_byte}
use Rattle.hpb_journal.specs.Changes.{ChangesBody}
use Rattle.hpb_journal.specs.Laws.{ShowsTheSame}

-- Two different indexes that are less than the modulus apart differ modulo it.
differ : (count b other : ℕ) → 0 < count → b < other → other < b + count → b % count ≢ other % count
differ count b other some before near same = elim (cases_lt (b / count) (other / count)) [
  | inl below ↦
      let more : count * (b / count + 1) ≤ count * (other / count) = mul-le-mul_left count (omega arith) in
      omega arith
  | inr above ↦
      let no_more : count * (other / count) ≤ count * (b / count) = mul-le-mul_left count above in
      omega arith
]

pub open_or_closed : (layout : Layout) (b : ℕ) (image : List ℕ) → IsOpen layout b image ⊎ IsClosed layout b image
open_or_closed layout b image = is_open_byte (layout.gate b image)

module _ (layout : Layout) (rules : Rules) where
  frame_stays : (b first : ℕ) (commands : List Command) (old new : List ℕ) → SameFrame layout b old new → IsFrame layout rules b first commands old → IsFrame layout rules b first commands new
  frame_stays b first commands old new same frame = (same.gate ∙ frame.0, subst (λ (bytes : List ℕ). layout.spells rules bytes (batch_at b first commands)) (sym same.body) frame.1)

  pub kept_stays : (index first : ℕ) (batches : List (List Command)) (old new : List ℕ) → ((b : ℕ) → index ≤ b → b < index + length batches → SameFrame layout b old new)
      → Kept layout rules index first batches old → Kept layout rules index first batches new
  kept_stays index first [] old new same kept = tt
  kept_stays index first (commands ∷ batches) old new same kept = (
    frame_stays index first commands old new (same index (omega arith) (omega arith)) kept.0,
    kept_stays (suc index) (first + length commands) batches old new (λ b from below. same b (omega (arith, from)) (omega (arith, below))) kept.1,
  )

  frame_at : (b other first next : ℕ) (commands : List Command) (image : List ℕ) → b ≡ other → first ≡ next → IsFrame layout rules b first commands image → IsFrame layout rules other next commands image
  frame_at b other first next commands image index number frame =
      subst (λ (n : ℕ). IsFrame layout rules other n commands image) number (subst (λ (k : ℕ). IsFrame layout rules k first commands image) index frame)

  pub kept_goes_on : (index first : ℕ) (batches : List (List Command)) (commands : List Command) (image : List ℕ) → Kept layout rules index first batches image
      → IsFrame layout rules (index + length batches) (first + length (joined batches)) commands image → Kept layout rules index first (batches ++ commands ∷ []) image
  kept_goes_on index first [] commands image kept frame = (frame_at (index + length {A = List Command} []) index (first + length (joined {A = Command} [])) first commands image (omega arith) (omega arith) frame, tt)
  kept_goes_on index first (some ∷ batches) commands image kept frame = (
    kept.0,
    kept_goes_on (suc index) (first + length some) batches commands image kept.1
        (frame_at (index + length (some ∷ batches)) (suc index + length batches) (first + length (some ++ joined batches)) (first + length some + length (joined batches))
        commands image (omega arith) (omega (arith, length-append some (joined batches))) frame),
  )

  kept_at : (b other first next : ℕ) (batches : List (List Command)) (image : List ℕ) → b ≡ other → first ≡ next → Kept layout rules b first batches image → Kept layout rules other next batches image
  kept_at b other first next batches image index number kept =
      subst (λ (n : ℕ). Kept layout rules other n batches image) number (subst (λ (k : ℕ). Kept layout rules k first batches image) index kept)

  pub kept_is_cut : (index first : ℕ) (batches others : List (List Command)) (image : List ℕ) → Kept layout rules index first (batches ++ others) image
      → Kept layout rules index first batches image × Kept layout rules (index + length batches) (first + length (joined batches)) others image
  kept_is_cut index first [] others image kept = (tt, kept_at index (index + length {A = List Command} []) first (first + length (joined {A = Command} [])) others image (omega arith) (omega arith) kept)
  kept_is_cut index first (some ∷ batches) others image kept =
      let behind = kept_is_cut (suc index) (first + length some) batches others image kept.1 in (
        (kept.0, behind.0),
        kept_at (suc index + length batches) (index + length (some ∷ batches)) (first + length some + length (joined batches)) (first + length (some ++ joined batches))
            others image (omega arith) (omega (arith, length-append some (joined batches))) behind.1,
      )

module _ (layout : Layout) (is : IsLayout layout) where
  pub near_are_apart : (b other : ℕ) → b < other → other < b + layout.count → AreApart layout b other × AreApart layout other b
  near_are_apart b other before near =
      let apart = differ layout.count b other (omega (arith, is.least)) before near in
      (apart, λ same. apart (sym same))

  -- If one batch's frame is closed, so is that of any batch with the same frame.
  not_own : (b other : ℕ) (image : List ℕ) → b % layout.count ≡ other % layout.count → IsClosed layout b image → IsOwn layout other image → ⊥
  not_own b other image same closed own = closed ((is.shared b other image same).0 ∙ own.0)

  own_stays : (b : ℕ) (old new : List ℕ) → SameFrame layout b old new → IsOwn layout b old → IsOwn layout b new
  own_stays b old new same own = (same.gate ∙ own.0, ap layout.index same.body ∙ own.1)

  same_back : (b : ℕ) (old new : List ℕ) → SameFrame layout b old new → SameFrame layout b new old
  same_back b old new same = record { gate = sym same.gate; body = sym same.body }

  module _ (rules : Rules) where
    own_of_frame : (b first : ℕ) (commands : List Command) (image : List ℕ) → IsFrame layout rules b first commands image → IsOwn layout b image
    own_of_frame b first commands image frame = (frame.0, is.indexed rules (layout.body b image) (batch_at b first commands) frame.1)

    kept_own : (index first : ℕ) (batches : List (List Command)) (image : List ℕ) → Kept layout rules index first batches image → (b : ℕ) → index ≤ b → b < index + length batches → IsOwn layout b image
    kept_own index first [] image kept b from below = absurd (omega (arith, from, below))
    kept_own index first (commands ∷ batches) image kept b from below = elim (cases_eq b index) [
      | inl here ↦ subst (λ (k : ℕ). IsOwn layout k image) (sym here) (own_of_frame index first commands image kept.0)
      | inr not ↦ kept_own (suc index) (first + length commands) batches image kept.1 b (omega (arith, from, not)) (omega (arith, below))
    ]

    kept_fit : (index first : ℕ) (batches : List (List Command)) (image : List ℕ) → Kept layout rules index first batches image → length batches ≤ layout.count
    kept_fit index first batches image kept = elim (cases_lt layout.count (length batches)) [
      | inr le ↦ le
      | inl more ↦
          let one = kept_own index first batches image kept index (omega arith) (omega (arith, more)) in
          let again = kept_own index first batches image kept (index + layout.count) (omega arith) (omega (arith, more)) in
          let body = (is.shared (index + layout.count) index image (add-mod_right index layout.count)).1 in
          absurd (omega (arith, is.least, sym one.1 ∙ (sym (ap layout.index body) ∙ again.1)))
    ]

    pub kept_is_own : (index first : ℕ) (batches : List (List Command)) (image : List ℕ) → Kept layout rules index first batches image
        → ((b : ℕ) → index ≤ b → b < index + length batches → IsOwn layout b image) × (length batches ≤ layout.count)
    kept_is_own index first batches image kept = (kept_own index first batches image kept, kept_fit index first batches image kept)

    pub kept_is_one : (index first : ℕ) (batches others : List (List Command)) (image : List ℕ) → Kept layout rules index first batches image → Kept layout rules index first others image
        → length others ≤ length batches → (rest : List (List Command)) × (batches ≡ others ++ rest)
    kept_is_one index first batches [] image kept other le = (batches, refl)
    kept_is_one index first [] (some ∷ others) image kept other le = absurd (omega (arith, le))
    kept_is_one index first (commands ∷ batches) (some ∷ others) image kept other le =
        let same : some ≡ commands = ap (λ (batch : Batch). batch.commands) (is.one rules (layout.body index image) (batch_at index first some) (batch_at index first commands) other.0.1 kept.0.1) in
        let there : Kept layout rules (suc index) (first + length commands) others image = subst (λ (l : List Command). Kept layout rules (suc index) (first + length l) others image) same other.1 in
        let more = kept_is_one (suc index) (first + length commands) batches others image kept.1 there (omega (arith, le)) in
        (more.0, ap (λ (l : List (List Command)). commands ∷ l) more.1 ∙ ap (λ (l : List Command). l ∷ others ++ more.0) (sym same))

  -- A torn body behind a closed gate.
  module _ (b : ℕ) (old new : List ℕ) (closed : IsClosed layout b old) (changes : ChangesBody layout b old new) where
    elsewhere : (other : ℕ) → AreApart layout b other → SameFrame layout other old new
    elsewhere other apart = record { gate = changes.gates other; body = changes.bodies other apart }

    still_closed : IsClosed layout b new
    still_closed is_open = closed (sym (changes.gates b) ∙ is_open)

    shows_own : (other : ℕ) → IsOwn layout other old ↔ IsOwn layout other new
    shows_own other = elim (cases_eq (b % layout.count) (other % layout.count)) [
      | inl same ↦ (λ own. absurd (not_own b other old same closed own), λ own. absurd (not_own b other new same still_closed own))
      | inr apart ↦ (own_stays other old new (elsewhere other apart), own_stays other new old (same_back other old new (elsewhere other apart)))
    ]

    -- A batch that is kept has another frame.
    kept_elsewhere : (image : List ℕ) → IsClosed layout b image → (rules : Rules) (index first : ℕ) (batches : List (List Command)) → Kept layout rules index first batches image
        → (other : ℕ) → index ≤ other → other < index + length batches → SameFrame layout other old new
    kept_elsewhere image shut rules index first batches kept other from below =
        elsewhere other (λ same. not_own b other image same shut (kept_own rules index first batches image kept other from below))

    pub shows_the_same : ShowsTheSame layout old new
    shows_the_same = record {
      kept = λ rules index first batches. (
        λ kept. kept_stays layout rules index first batches old new (kept_elsewhere old closed rules index first batches kept) kept,
        λ kept. kept_stays layout rules index first batches new old (λ other from below. same_back other old new (kept_elsewhere new still_closed rules index first batches kept other from below)) kept,
      );
      own = shows_own;
    }
