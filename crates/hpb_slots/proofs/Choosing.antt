-- Which of two slots is the newest.
use Rattle.std.specs.Prelude.{IfSome, MatchOption}
use Rattle.std.proofs.Common.{◌≡◌, ◌⊎◌, inl, inr, ℕ, ◌+◌, ◌<◌, ◌≤◌, List, Option, Some, None, sym, ◌∙◌, ap, subst, arith}
use Rattle.hpb_codec.specs.States.{SpellsState}
use Rattle.hpb_slots.specs.declared.found.Found.{Found}
use Rattle.hpb_slots.specs.Reading.{IsFound}
use Rattle.std.proofs.lemmas.Bool.{cases_lt}
use Rattle.hpb_rules.specs.Tree.{Rules}
use Rattle.hpb_rules.specs.declared.saved.Saved.{Saved}
use Rattle.hpb_slots.specs.declared.slot.Slot.{Slot}
use Rattle.hpb_slots.specs.declared.slot.Slot.TheVariants.{First, Second}
use Rattle.hpb_disk.specs.Images.{part}
use Rattle.hpb_slots.specs.Slots.{Holds, IsOpen, body_of, gate_at, place_of}
use Rattle.hpb_slots.specs.Newest.{IsNewest, IsWithout}
use Rattle.hpb_slots.specs.Laws.{HoldsOne}

abbrev pub HoldsNone : Rules → Slot → List ℕ → Type 0
HoldsNone rules slot image = (index : ℕ) (state : Saved) → Holds rules slot index state image → ⊥

none_is_none : (i : ℕ) → None ≡ Some i → ⊥
none_is_none i is = absurd (cc)

module _ (rules : Rules) (slot : Slot) (image : List ℕ) (saved : Saved) where
  abbrev Says : Option ℕ → Type 0
  Says index = MatchOption index (HoldsNone rules slot image) (λ i. Holds rules slot i saved image)

  pub none_found : (found : Found) → found.index ≡ None → IsFound rules slot image saved found → HoldsNone rules slot image
  none_found found is h = subst Says is h.1

  pub some_found : (found : Found) (i : ℕ) → found.index ≡ Some i → IsFound rules slot image saved found → Holds rules slot i saved image
  some_found found i is h = subst Says is h.1

  -- The state of an open slot, from its decoded body.
  module _ (body : List ℕ) (read : body ≡ body_of slot image) (is_open : IsOpen slot image) where
    pub decoded : (index : Option ℕ) → IfSome index (λ i. SpellsState rules body saved i)
        → ((state : Saved) (i : ℕ) → SpellsState rules body state i → (index ≡ Some i) × (saved ≡ state)) → Says index
    decoded None found only = λ i state holds. let no = (only state i (subst (λ (bytes : List ℕ). SpellsState rules bytes state i) (sym read) holds.1)).0 in absurd (none_is_none i no)
    decoded (Some i) found only = (is_open, subst (λ (bytes : List ℕ). SpellsState rules bytes saved i) read found)

module _ (one : HoldsOne) (rules : Rules) (image : List ℕ) where
  pub neither : HoldsNone rules First image → HoldsNone rules Second image → IsWithout rules image
  neither first second First index saved holds = first index saved holds
  neither first second Second index saved holds = second index saved holds

  -- The statement to prove for each slot.
  abbrev Compared : Slot → ℕ → Slot → Type 0
  Compared slot i other = (j : ℕ) (older : Saved) → Holds rules other j older image → (j < i) ⊎ ((j ≡ i) × (place_of slot ≤ place_of other))

  of_both : (slot : Slot) (i : ℕ) → Compared slot i First → Compared slot i Second → (other : Slot) → Compared slot i other
  of_both slot i first second First = first
  of_both slot i first second Second = second

  itself : (slot : Slot) (i : ℕ) (saved : Saved) → Holds rules slot i saved image → Compared slot i slot
  itself slot i saved has j older holds = inr ((one rules slot j i older saved image holds has).0, omega arith)

  module _ (i : ℕ) (saved : Saved) where
    pub only_first : Holds rules First i saved image → HoldsNone rules Second image → IsNewest rules First i saved image
    only_first has none = record { holds = has; greatest = of_both First i (itself First i saved has) (λ j older holds. absurd (none j older holds)) }

    pub only_second : HoldsNone rules First image → Holds rules Second i saved image → IsNewest rules Second i saved image
    only_second none has = record { holds = has; greatest = of_both Second i (λ j older holds. absurd (none j older holds)) (itself Second i saved has) }

    module _ (k : ℕ) (other : Saved) where
      pub first_newest : Holds rules First i saved image → Holds rules Second k other image → k ≤ i → IsNewest rules First i saved image
      first_newest has second le = record {
        holds = has;
        greatest = of_both First i (itself First i saved has) (λ j older holds.
            let same : j ≡ k = (one rules Second j k older other image holds second).0 in
            elim (cases_lt j i) [ inl less ↦ inl less | inr ge ↦ inr (omega (arith, same, le, ge), omega arith) ]);
      }

      pub second_newest : Holds rules First k other image → Holds rules Second i saved image → k < i → IsNewest rules Second i saved image
      second_newest first has less = record {
        holds = has;
        greatest = of_both Second i (λ j older holds. let same : j ≡ k = (one rules First j k older other image holds first).0 in inl (omega (arith, same, less))) (itself Second i saved has);
      }

-- A body that was read out of an image.
pub body_read : (slot : Slot) (at count : ℕ) (seen image out : List ℕ) → at ≡ gate_at slot → count ≡ 16384 → seen ≡ image → out ≡ part (at + 4096) count seen → out ≡ body_of slot image
body_read slot at count seen image out here size same is =
    is ∙ ap (part (at + 4096) count) same ∙ ap (λ (n : ℕ). part (at + 4096) n image) size ∙ ap (λ (from : ℕ). part (from + 4096) 16384 image) here
