-- The licences that a bidder holds, as a mask, and their units.
use Rattle.std.proofs.Common.{◌≡◌, ℕ, zero, suc, ◌+◌, ◌*◌, ◌<◌, ◌≤◌, min, Bool, true, false, cond, ◌&&◌, ◌||◌, eqb, List, [], ◌∷◌, bit_and, bit_or, get_or, length, refl, sym, ap, ◌∙◌, arith, subst}
use Rattle.std.specs.Option.{IsSome, is_some}
use Rattle.std.specs.Int.{bit_at}
use Rattle.std.specs.List.{sum_by, list_any}
use Rattle.std.proofs.lemmas.List.Sums.{sum_by-cons}
use Rattle.std.proofs.lemmas.Nat.Bits.{bit_at_and, bit_at-lt, bit_at-zero}
use Rattle.hpb_rules.specs.declared.limits.TheConstants.{MOST_BIDDERS, MOST_LICENCE_UNITS}
use Rattle.hpb_rules.specs.Tree.{Node, terms_of, places, at_or_under, sum_over, units, units_at}
use Rattle.hpb_rules.proofs.Tests.{no_bit}
use Rattle.hpb_tree.specs.Licences.{licence_count, licence_number, licences_among, part_over, IsMask}
use Rattle.hpb_bids.specs.View.{BooksView, IsQuiet}
use Rattle.hpb_winners.specs.View.{OutcomeView}
use Rattle.hpb_units.specs.Activity.{has_licence, is_won_by, is_active_on, held}
use Rattle.std.specs.Prelude.{slice_index}
use Rattle.std.proofs.lemmas.Bool.{both_ways, eqb-true, eq-eqb}
use Rattle.std.proofs.Math.Bool.{or-false}
use Rattle.hpb_units.specs.Holdings.{HoldingsView, holds, IsNothing, AreLicenceUnits, AreSmall, AreSummed, HoldsMore}
use Rattle.hpb_units.proofs.Masks.{or_in_mask, node_in_mask}
use Rattle.hpb_units.proofs.Counting.{part_some, part_none, sum_none, sum_over_same}

module _ (nodes : List Node) where
  -- masks without a common bit have no licence in common
  pub apart_in_mask : (a b l : ℕ) → bit_and a b ≡ 0 → (has_licence nodes a l && has_licence nodes b l) ≡ false
  apart_in_mask a b l none =
      least (bit_at a (licence_number nodes l)) (bit_at b (licence_number nodes l)) (bit_at-lt a (licence_number nodes l)) (bit_at-lt b (licence_number nodes l))
      (sym (bit_at_and a b (licence_number nodes l)) ∙ ap (λ m. bit_at m (licence_number nodes l)) none ∙ bit_at-zero (licence_number nodes l))
    where
      least : (x y : ℕ) → x < 2 → y < 2 → min x y ≡ 0 → (eqb x 1 && eqb y 1) ≡ false
      least zero y p q e = refl
      least (suc zero) zero p q e = refl
      least (suc zero) (suc zero) p q e = cc
      least (suc zero) (suc (suc y)) p q e = absurd (omega arith)
      least (suc (suc x)) y p q e = absurd (omega arith)

  -- the sum over the licences that pass one of two tests, if no licence passes both
  pub sum_over_either : (one other : ℕ → Bool) (f : ℕ → ℕ) → ((l : ℕ) → IsSome (terms_of nodes l) → (one l && other l) ≡ false)
      → sum_over nodes (λ l. one l || other l) f ≡ sum_over nodes one f + sum_over nodes other f
  sum_over_either one other f apart = by (places nodes)
    where
      add : (x y : Bool) (v : ℕ) → (x && y) ≡ false → cond (x || y) v 0 ≡ cond x v 0 + cond y v 0
      add true true v e = cc
      add true false v e = omega arith
      add false y v e = omega arith

      at : (l : ℕ) (b : Bool) → is_some (terms_of nodes l) ≡ b → part_over nodes (λ l. one l || other l) f l ≡ part_over nodes one f l + part_over nodes other f l
      at l true e = part_some nodes (λ l. one l || other l) f l e ∙ add (one l) (other l) (f l) (apart l e) ∙ omega (arith, part_some nodes one f l e, part_some nodes other f l e)
      at l false e = omega (arith, part_none nodes (λ l. one l || other l) f l e, part_none nodes one f l e, part_none nodes other f l e)

      by : (ls : List ℕ) → sum_by (part_over nodes (λ l. one l || other l) f) ls ≡ sum_by (part_over nodes one f) ls + sum_by (part_over nodes other f) ls
      by [] = refl
      by (l ∷ ls) = omega (arith, at l (is_some (terms_of nodes l)) refl, by ls, sum_by-cons (part_over nodes (λ l. one l || other l) f) l ls, sum_by-cons (part_over nodes one f) l ls, sum_by-cons (part_over nodes other f) l ls)

  -- a sum of units is small
  pub sum_over_small : (test : ℕ → Bool) → AreSmall nodes → sum_over nodes test (units_at nodes) ≤ MOST_LICENCE_UNITS * licence_count nodes
  sum_over_small test small = by (places nodes)
    where
      at : (l : ℕ) (b : Bool) → is_some (terms_of nodes l) ≡ b → (t : Bool) → test l ≡ t → part_over nodes test (units_at nodes) l ≤ MOST_LICENCE_UNITS * cond {A = ℕ} (is_some (terms_of nodes l)) 1 0
      at l true e true p = omega (arith, part_some nodes test (units_at nodes) l e, ap (λ b. cond b (units_at nodes l) 0) p, small l, ap (λ b. cond {A = ℕ} b 1 0) e)
      at l true e false p = omega (arith, part_some nodes test (units_at nodes) l e, ap (λ b. cond b (units_at nodes l) 0) p, ap (λ b. cond {A = ℕ} b 1 0) e)
      at l false e t p = omega (arith, part_none nodes test (units_at nodes) l e)

      by : (ls : List ℕ) → sum_by (part_over nodes test (units_at nodes)) ls ≤ MOST_LICENCE_UNITS * licences_among nodes ls
      by [] = omega arith
      by (l ∷ ls) = omega (arith, at l (is_some (terms_of nodes l)) refl (test l) refl, by ls, sum_by-cons (part_over nodes test (units_at nodes)) l ls, sum_by-cons (λ l. cond {A = ℕ} (is_some (terms_of nodes l)) 1 0) l ls)

  module _ (own more n : ℕ) (mask : IsMask nodes n more) where
    -- both masks together have the licences of the first and those at or under the node
    pub either_in_mask : (l : ℕ) → IsSome (terms_of nodes l) → has_licence nodes (bit_or own more) l ≡ (has_licence nodes own l || at_or_under nodes n l)
    either_in_mask l some = or_in_mask nodes own more l ∙ ap (λ b. has_licence nodes own l || b) (node_in_mask nodes n more l mask some)

    -- a node whose licences are held adds nothing
    pub sum_held : bit_or own more ≡ own → sum_over nodes (has_licence nodes own) (units_at nodes) ≡ sum_over nodes (λ l. has_licence nodes own l || at_or_under nodes n l) (units_at nodes)
    sum_held same = sum_over_same nodes (has_licence nodes own) (λ l. has_licence nodes own l || at_or_under nodes n l) (units_at nodes) (λ l some. ap (λ m. has_licence nodes m l) (sym same) ∙ either_in_mask l some)

    -- a node of which no licence is held adds its units
    pub sum_apart : bit_and own more ≡ 0 → sum_over nodes (λ l. has_licence nodes own l || at_or_under nodes n l) (units_at nodes) ≡ sum_over nodes (has_licence nodes own) (units_at nodes) + units nodes n
    sum_apart none = sum_over_either (has_licence nodes own) (at_or_under nodes n) (units_at nodes)
        (λ l some. ap (λ b. has_licence nodes own l && b) (sym (node_in_mask nodes n more l mask some)) ∙ apart_in_mask own more l none)

    -- the units of both masks together
    pub sum_both : sum_over nodes (has_licence nodes (bit_or own more)) (units_at nodes) ≡ sum_over nodes (λ l. has_licence nodes own l || at_or_under nodes n l) (units_at nodes)
    sum_both = sum_over_same nodes (has_licence nodes (bit_or own more)) (λ l. has_licence nodes own l || at_or_under nodes n l) (units_at nodes) either_in_mask

  -- if nobody bid, the licences held are those won
  pub held_won : (books : BooksView) (outcome : OutcomeView) → IsQuiet books → (b l : ℕ) → list_any (λ n. at_or_under nodes n l && is_won_by books outcome b n) (places nodes) ≡ held nodes books outcome b l
  held_won books outcome quiet b l = ap (λ (test : ℕ → Bool). list_any test (places nodes)) (λ i. λ n. at n i)
    where
      at : (n : ℕ) → (at_or_under nodes n l && is_won_by books outcome b n) ≡ (at_or_under nodes n l && is_active_on books outcome b n)
      at n = ap (λ bid. at_or_under nodes n l && (bid || is_won_by books outcome b n)) (sym (no_bit (get_or books.bids b 0) n (quiet b)))

  -- the units of a mask
  abbrev pub units_of_mask : ℕ → ℕ
  units_of_mask mask = sum_over nodes (has_licence nodes mask) (units_at nodes)

  -- the units of a mask with those of a node
  abbrev pub units_either : ℕ → ℕ → ℕ
  units_either mask n = sum_over nodes (λ l. has_licence nodes mask l || at_or_under nodes n l) (units_at nodes)

  -- the same for the mask that was read
  module _ {read own : ℕ} (more n : ℕ) (mask : IsMask nodes n more) (is : read ≡ own) where
    pub read_held : bit_or read more ≡ read → units_of_mask own ≡ units_either own n
    read_held same = ap units_of_mask (sym is) ∙ sum_held read more n mask same ∙ ap (λ m. units_either m n) is

    pub read_apart : bit_and read more ≡ 0 → units_either own n ≡ units_of_mask own + units nodes n
    read_apart none = ap (λ m. units_either m n) (sym is) ∙ sum_apart read more n mask none ∙ ap (λ m. units_of_mask m + units nodes n) is

  -- a table in which one bidder's entry was set
  pub record IsSet (old new : HoldingsView) (bidder mask sum : ℕ) : Type 0 where
    pub licences : slice_index new.licences bidder ≡ mask
    pub units : slice_index new.units bidder ≡ sum
    pub other_licences : (other : ℕ) → (other ≡ bidder → ⊥) → slice_index new.licences other ≡ slice_index old.licences other
    pub other_units : (other : ℕ) → (other ≡ bidder → ⊥) → slice_index new.units other ≡ slice_index old.units other
    pub licence_units : new.licence_units ≡ old.licence_units

  module _ (old new : HoldingsView) (bidder own more n units : ℕ) (mask : IsMask nodes n more) (read : own ≡ slice_index old.licences bidder) (set : IsSet old new bidder (bit_or own more) units) where
    pub holds_more : HoldsMore nodes old new bidder n
    holds_more other l some = by (eqb bidder other) refl
      where
        by : (b : Bool) → eqb bidder other ≡ b → holds nodes new other l ≡ (holds nodes old other l || (b && at_or_under nodes n l))
        by true e =
            let same : bidder ≡ other = eqb-true bidder other e in
            ap (λ k. holds nodes new k l) (sym same)
            ∙ ap (λ m. has_licence nodes m l) set.licences
            ∙ either_in_mask own more n mask l some
            ∙ ap (λ m. has_licence nodes m l || at_or_under nodes n l) (read ∙ ap (λ k. slice_index old.licences k) same)
        by false e =
            ap (λ m. has_licence nodes m l) (set.other_licences other (λ same. both_ways (eqb bidder other) e (eq-eqb bidder other (sym same))))
            ∙ sym (or-false (holds nodes old other l))

    pub summed_more : units ≡ sum_over nodes (λ l. holds nodes old bidder l || at_or_under nodes n l) (units_at nodes) → AreSummed nodes old → AreSummed nodes new
    summed_more counted summed = record {
      sums = λ other within. by other within (eqb bidder other) refl;
      licences = subst (AreLicenceUnits nodes) (sym set.licence_units) summed.licences;
    }
      where
        by : (other : ℕ) → other < MOST_BIDDERS → (b : Bool) → eqb bidder other ≡ b → slice_index new.units other ≡ units_of_mask (slice_index new.licences other)
        by other within true e =
            let same : bidder ≡ other = eqb-true bidder other e in
            ap (λ k. slice_index new.units k) (sym same)
            ∙ set.units
            ∙ counted
            ∙ ap (λ m. sum_over nodes (λ l. has_licence nodes m l || at_or_under nodes n l) (units_at nodes)) (sym read)
            ∙ sym (sum_both own more n mask)
            ∙ ap units_of_mask (sym set.licences)
            ∙ ap (λ k. units_of_mask (slice_index new.licences k)) same
        by other within false e =
            let another : other ≡ bidder → ⊥ = λ same. both_ways (eqb bidder other) e (eq-eqb bidder other (sym same)) in
            set.other_units other another ∙ summed.sums other within ∙ ap units_of_mask (sym (set.other_licences other another))

  -- a bidder that holds nothing has no units
  pub nothing_holds : (holdings : HoldingsView) → IsNothing holdings → (b l : ℕ) → holds nodes holdings b l ≡ false
  nothing_holds holdings none b l = no_bit (slice_index holdings.licences b) (licence_number nodes l) (none.licences b)

  -- an empty mask has no units
  pub units_empty : units_of_mask 0 ≡ 0
  units_empty = sum_none (part_over nodes (has_licence nodes 0) (units_at nodes)) (length nodes) (λ l less. at l (is_some (terms_of nodes l)) refl)
    where
      at : (l : ℕ) (t : Bool) → is_some (terms_of nodes l) ≡ t → part_over nodes (has_licence nodes 0) (units_at nodes) l ≡ 0
      at l true e = part_some nodes (has_licence nodes 0) (units_at nodes) l e ∙ ap (λ t. cond t (units_at nodes l) 0) (no_bit 0 (licence_number nodes l) refl)
      at l false e = part_none nodes (has_licence nodes 0) (units_at nodes) l e

  pub nothing_summed : (holdings : HoldingsView) → IsNothing holdings → AreLicenceUnits nodes holdings.licence_units → AreSummed nodes holdings
  nothing_summed holdings none known = record {
    sums = λ b within. none.units b ∙ sym units_empty ∙ ap units_of_mask (sym (none.licences b));
    licences = known;
  }

  module _ (books : BooksView) (outcome : OutcomeView) where
    -- the licences and units of a bidder are right
    pub record IsFound (holdings : HoldingsView) (bidder : ℕ) : Type 0 where
      pub licences : (l : ℕ) → IsSome (terms_of nodes l) → holds nodes holdings bidder l ≡ held nodes books outcome bidder l
      pub units : slice_index holdings.units bidder ≡ units_of_mask (slice_index holdings.licences bidder)

    -- one bidder more whose licences and units are right
    pub found_more : (old new : HoldingsView) (bidder place licences units : ℕ) → bidder ≡ place → ((l : ℕ) → IsSome (terms_of nodes l) → has_licence nodes licences l ≡ held nodes books outcome bidder l)
        → units ≡ units_of_mask licences → IsSet old new bidder licences units → ((b : ℕ) → b < place → IsFound old b) → (b : ℕ) → b < place + 1 → IsFound new b
    found_more old new bidder place licences units here has counted set before b less = by (eqb bidder b) refl
      where
        by : (t : Bool) → eqb bidder b ≡ t → IsFound new b
        by true e =
            let same : bidder ≡ b = eqb-true bidder b e in
            subst (IsFound new) same (record {
              licences = λ l some. ap (λ m. has_licence nodes m l) set.licences ∙ has l some;
              units = set.units ∙ counted ∙ ap units_of_mask (sym set.licences);
            })
        by false e =
            let another : b ≡ bidder → ⊥ = λ same. both_ways (eqb bidder b) e (eq-eqb bidder b (sym same)) in
            let old_one : IsFound old b = before b (omega (arith, λ (same : b ≡ place). another (same ∙ sym here))) in
            record {
              licences = λ l some. ap (λ m. has_licence nodes m l) (set.other_licences b another) ∙ old_one.licences l some;
              units = set.other_units b another ∙ old_one.units ∙ ap units_of_mask (sym (set.other_licences b another));
            }
