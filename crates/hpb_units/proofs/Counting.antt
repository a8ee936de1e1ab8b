-- Units summed up licence by licence.
use Rattle.std.proofs.Common.{◌≡◌, ℕ, zero, suc, ◌+◌, ◌*◌, ◌/◌, ◌^◌, ◌<◌, ◌≤◌, Bool, true, false, cond, ◌||◌, eqb, List, length, Option, Some, None, bit_and, refl, sym, ap, ◌∙◌, arith, ⊎_elim}
use Rattle.std.specs.Option.{IsSome, is_some}
use Rattle.std.specs.Int.{bit_at}
use Rattle.std.specs.List.{sum_by, range_with_len}
use Rattle.std.proofs.Math.Numerals.{add-one}
use Rattle.std.proofs.lemmas.Bool.{both_ways, cases_lt, eqb-true, eq-eqb, ne_eqb, false_from_ne_true}
use Rattle.std.proofs.lemmas.Nat.Bits.{shr_and_one}
use Rattle.hpb_rules.specs.declared.limits.TheConstants.{MOST_LICENCES, MOST_LICENCE_UNITS}
use Rattle.hpb_rules.specs.declared.licence.Terms.{Terms}
use Rattle.hpb_rules.specs.Tree.{Node, IsTree, parent_of, terms_of, places, at_parent, at_or_under, at_or_under_within, sum_over, units, units_at}
use Rattle.hpb_tree.specs.Licences.{licence_count, licence_number, part_over}
use Rattle.hpb_rules.proofs.Places.{sum_more, sum_has, count_yes, count_no, terms_in}
use Rattle.hpb_units.specs.Activity.{has_licence}

-- a sum to which no place adds
pub sum_none : (f : ℕ → ℕ) (n : ℕ) → ((m : ℕ) → m < n → f m ≡ 0) → sum_by f (range_with_len 0 n) ≡ 0
sum_none f zero h = refl
sum_none f (suc n) h = ap (λ m. sum_by f (range_with_len 0 m)) (sym (add-one n)) ∙ omega (arith, sum_more f n, sum_none f n (λ m l. h m (omega arith)), h n (omega arith))

-- a sum to which one place adds
pub sum_one : (f : ℕ → ℕ) (k n : ℕ) → k < n → ((m : ℕ) → (m ≡ k → ⊥) → f m ≡ 0) → sum_by f (range_with_len 0 n) ≡ f k
sum_one f k zero l h = absurd (omega arith)
sum_one f k (suc n) l h =
    ap (λ m. sum_by f (range_with_len 0 m)) (sym (add-one n))
    ∙ ⊎_elim
    (λ less. omega (arith, sum_more f n, sum_one f k n less h, h n (λ e. omega arith)))
    (λ last. let same : n ≡ k = omega arith in omega (arith, sum_more f n, sum_none f n (λ m less. h m (λ e. omega arith)), ap f same))
    (cases_lt k n)

-- the number if there are terms, else 0
abbrev part : Option Terms → ℕ → ℕ
part t x = elim t [ None ↦ 0 | Some terms ↦ x ]

module _ (nodes : List Node) where
  -- a node is at or under itself
  itself : (k l : ℕ) → at_or_under_within nodes k l l ≡ true
  itself zero l = eq-eqb l l refl
  itself (suc k) l = ap (λ b. b || at_parent (parent_of nodes l) (at_or_under_within nodes k l)) (eq-eqb l l refl)

  -- the part that a place adds, if it is a licence and if it isn't
  pub part_some : (test : ℕ → Bool) (f : ℕ → ℕ) (l : ℕ) → is_some (terms_of nodes l) ≡ true → part_over nodes test f l ≡ cond (test l) (f l) 0
  part_some test f l some = by (terms_of nodes l) some
    where
      by : (t : Option Terms) → is_some t ≡ true → part t (cond (test l) (f l) 0) ≡ cond (test l) (f l) 0
      by None e = absurd (both_ways _ refl e)
      by (Some t) e = refl

  pub part_none : (test : ℕ → Bool) (f : ℕ → ℕ) (l : ℕ) → is_some (terms_of nodes l) ≡ false → part_over nodes test f l ≡ 0
  part_none test f l none = by (terms_of nodes l) none
    where
      by : (t : Option Terms) → is_some t ≡ false → part t (cond (test l) (f l) 0) ≡ 0
      by None e = refl
      by (Some t) e = absurd (both_ways _ e refl)

  -- whether a place is a licence, from the fields that the code reads
  pub licence_at : {i node : ℕ} {t : Option Terms} {b v : Bool} → node ≡ i → t ≡ terms_of nodes node → b ≡ is_some t → b ≡ v → is_some (terms_of nodes i) ≡ v
  licence_at at read tested e = ap (λ k. is_some (terms_of nodes k)) (sym at) ∙ ap is_some (sym read) ∙ sym tested ∙ e

  -- tests that agree on each licence give the same sum
  pub sum_over_same : (one other : ℕ → Bool) (f : ℕ → ℕ) → ((l : ℕ) → IsSome (terms_of nodes l) → one l ≡ other l) → sum_over nodes one f ≡ sum_over nodes other f
  sum_over_same one other f h = ap (λ (g : ℕ → ℕ). sum_by g (places nodes)) (λ i. λ l. at l (is_some (terms_of nodes l)) refl i)
    where
      at : (l : ℕ) (b : Bool) → is_some (terms_of nodes l) ≡ b → part_over nodes one f l ≡ part_over nodes other f l
      at l true e = part_some one f l e ∙ ap (λ b. cond b (f l) 0) (h l e) ∙ sym (part_some other f l e)
      at l false e = part_none one f l e ∙ sym (part_none other f l e)

  module _ (tree : IsTree nodes) (l : ℕ) (some : is_some (terms_of nodes l) ≡ true) where
    -- no node but itself is at or under a licence
    only_itself : (k m : ℕ) → at_or_under_within nodes k l m ≡ true → m ≡ l
    only_itself zero m h = sym (eqb-true l m h)
    only_itself (suc k) m h = by (only_itself k) (eqb l m) refl (parent_of nodes m) refl h
      where
        by : ((p : ℕ) → at_or_under_within nodes k l p ≡ true → p ≡ l) → (b : Bool) → eqb l m ≡ b → (c : Option ℕ) → parent_of nodes m ≡ c → (b || at_parent c (at_or_under_within nodes k l)) ≡ true → m ≡ l
        by rec true e c up h = sym (eqb-true l m e)
        by rec false e None up h = absurd (both_ways _ refl h)
        by rec false e (Some p) up h =
            let same : p ≡ l = rec p h in
            let none : terms_of nodes l ≡ None = tree.packages m l (up ∙ ap Some same) in
            absurd (both_ways _ (ap is_some none) some)

    -- so its units are its own
    pub units_own : units nodes l ≡ units_at nodes l
    units_own =
        sum_one (part_over nodes (at_or_under nodes l) (units_at nodes)) l (length nodes) (terms_in nodes l some) (λ m other. elsewhere m other (is_some (terms_of nodes m)) refl)
        ∙ part_some (at_or_under nodes l) (units_at nodes) l some
        ∙ ap (λ b. cond b (units_at nodes l) 0) (itself l l)
      where
        elsewhere : (m : ℕ) → (m ≡ l → ⊥) → (b : Bool) → is_some (terms_of nodes m) ≡ b → part_over nodes (at_or_under nodes l) (units_at nodes) m ≡ 0
        elsewhere m other true e = part_some (at_or_under nodes l) (units_at nodes) m e ∙ ap (λ b. cond b (units_at nodes m) 0) (false_from_ne_true (at_or_under nodes l m) (λ h. other (only_itself m m h)))
        elsewhere m other false e = part_none (at_or_under nodes l) (units_at nodes) m e

  -- the number of a licence is below the most licences that there can be
  pub number_small : (l : ℕ) → licence_count nodes ≤ MOST_LICENCES → is_some (terms_of nodes l) ≡ true → licence_number nodes l < MOST_LICENCES
  number_small l most some =
      let one : cond {A = ℕ} (is_some (terms_of nodes l)) 1 0 ≡ 1 = ap (λ b. cond {A = ℕ} b 1 0) some in
      omega (arith, sum_has (λ n. cond {A = ℕ} (is_some (terms_of nodes n)) 1 0) l (length nodes) (terms_in nodes l some))

  module _ (mask : ℕ) where
    -- the sum and the number of licences before place i
    pub record Counted (i total number : ℕ) : Type 0 where
      pub counted : number ≡ licence_number nodes i
      pub summed : total ≡ sum_by (part_over nodes (has_licence nodes mask) (units_at nodes)) (range_with_len 0 i)
      pub most : total ≤ MOST_LICENCES * MOST_LICENCE_UNITS * number

    module _ {i total number : ℕ} (s : Counted i total number) where
      -- the bit that the code reads
      bit_here : bit_and (mask / 2 ^ number) 1 ≡ bit_at mask (licence_number nodes i)
      bit_here = shr_and_one mask number ∙ ap (bit_at mask) s.counted

      -- a package is passed over
      pub counted_package : is_some (terms_of nodes i) ≡ false → Counted (i + 1) total number
      counted_package none = record {
        counted = count_no (λ m. is_some (terms_of nodes m)) i number none s.counted;
        summed = omega (arith, s.summed, sum_more (part_over nodes (has_licence nodes mask) (units_at nodes)) i, part_none (has_licence nodes mask) (units_at nodes) i none);
        most = s.most;
      }

      -- a licence whose bit is clear is only counted
      pub counted_other : is_some (terms_of nodes i) ≡ true → (bit_and (mask / 2 ^ number) 1 ≡ 1 → ⊥) → Counted (i + 1) total (number + 1)
      counted_other some clear = record {
        counted = count_yes (λ m. is_some (terms_of nodes m)) i number some s.counted;
        summed =
            let left : has_licence nodes mask i ≡ false = ne_eqb (bit_at mask (licence_number nodes i)) 1 (λ e. clear (bit_here ∙ e)) in
            let here : part_over nodes (has_licence nodes mask) (units_at nodes) i ≡ 0 = part_some (has_licence nodes mask) (units_at nodes) i some ∙ ap (λ b. cond b (units_at nodes i) 0) left in
            omega (arith, s.summed, sum_more (part_over nodes (has_licence nodes mask) (units_at nodes)) i);
        most = omega (arith, s.most);
      }

      -- a licence whose bit is set adds its units
      pub counted_own : {own : ℕ} → IsTree nodes → is_some (terms_of nodes i) ≡ true → bit_and (mask / 2 ^ number) 1 ≡ 1 → own ≡ units nodes i → own ≤ MOST_LICENCES * MOST_LICENCE_UNITS → Counted (i + 1) (total + own) (number + 1)
      counted_own tree some set e small = record {
        counted = count_yes (λ m. is_some (terms_of nodes m)) i number some s.counted;
        summed =
            let taken : has_licence nodes mask i ≡ true = eq-eqb (bit_at mask (licence_number nodes i)) 1 (sym bit_here ∙ set) in
            let here : part_over nodes (has_licence nodes mask) (units_at nodes) i ≡ units_at nodes i = part_some (has_licence nodes mask) (units_at nodes) i some ∙ ap (λ b. cond b (units_at nodes i) 0) taken in
            omega (arith, s.summed, sum_more (part_over nodes (has_licence nodes mask) (units_at nodes)) i, units_own tree i some);
        most = omega (arith, s.most);
      }
