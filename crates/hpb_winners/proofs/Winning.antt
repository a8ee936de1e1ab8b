-- The winners, from the kept tables.
use Rattle.std.proofs.Common.{◌≡◌, ℕ, zero, suc, ◌+◌, ◌<◌, ◌≤◌, Bool, true, false, not, ◌&&◌, ltb, List, [], ◌∷◌, map, Option, Some, None, length, get_or, set, take, max, refl, sym, ap, ◌∙◌, ⊎_elim, arith, subst}
use Rattle.std.specs.List.{range_with_len}
use Rattle.std.proofs.lemmas.Bool.{cases_lt, lt-ltb, le-ltb}
use Rattle.std.proofs.lemmas.List.{get_or-take}
use Rattle.std.proofs.lemmas.List.FromFn.{length-map-range_with_len, get_or-map-range_with_len, take-map-range_with_len}
use Rattle.hpb_rules.specs.declared.limits.TheConstants.{MOST_NODES}
use Rattle.hpb_rules.specs.Tree.{Node, parent_of, IsTree}
use Rattle.hpb_rules.specs.Choices.{IsWinners, best, answer_at, is_in, winners, revenue}
use Rattle.hpb_rules.proofs.TreeLaws.{winners_are_one}
use Rattle.hpb_rules.proofs.Loops.{freed, freed_set, winners_after, winners_start, winners_step, winners_end}
use Rattle.hpb_winners.specs.View.{IsOutcome, AreParents, AreBefore, is_ahead, is_free, is_free_within, or_top, wins_of}

-- ---- two tests that agree on the parent agree one step up

or_top_same : (c : Option ℕ) (f g : ℕ → Bool) → ((p : ℕ) → c ≡ Some p → f p ≡ g p) → or_top c f ≡ or_top c g
or_top_same None f g h = refl
or_top_same (Some p) f g h = h p refl

module _ (parents : List (Option ℕ)) (before : AreBefore parents) (test : ℕ → Bool) where
  -- no node stands above the first place
  first_free : (c : Option ℕ) (n : ℕ) (f : ℕ → Bool) → get_or parents n None ≡ c → n ≤ 0 → or_top c f ≡ true
  first_free None n f e h = refl
  first_free (Some p) n f e h = absurd (omega (arith, before n p e))

  -- the number of steps makes no difference once it is large enough
  same_steps : (k l n : ℕ) → n ≤ k → n ≤ l → is_free_within parents test k n ≡ is_free_within parents test l n
  same_steps zero zero n a b = refl
  same_steps zero (suc l) n a b = sym (first_free (get_or parents n None) n _ refl a)
  same_steps (suc k) zero n a b = first_free (get_or parents n None) n _ refl b
  same_steps (suc k) (suc l) n a b = or_top_same (get_or parents n None) _ _ (λ p up. ap (λ t. not (test p) && t) (same_steps k l p (omega (arith, before n p up)) (omega (arith, before n p up))))

  pub free_step : (n : ℕ) → is_free parents test n ≡ or_top (get_or parents n None) (λ p. not (test p) && is_free parents test p)
  free_step zero = sym (first_free (get_or parents 0 None) 0 _ refl (omega arith))
  free_step (suc n) = or_top_same (get_or parents (suc n) None) _ _ (λ p up. ap (λ t. not (test p) && t) (same_steps n p p (omega (arith, before (suc n) p up)) (omega arith)))

  pub free_under : (n : ℕ) {p : ℕ} → get_or parents n None ≡ Some p → is_free parents test n ≡ (not (test p) && is_free parents test p)
  free_under n up = free_step n ∙ ap (λ c. or_top c (λ p. not (test p) && is_free parents test p)) up

  pub free_top : (n : ℕ) → get_or parents n None ≡ None → is_free parents test n ≡ true
  free_top n top = free_step n ∙ ap (λ c. or_top c (λ p. not (test p) && is_free parents test p)) top

-- ---- the winners by the definitions

set_got : (xs : List Bool) (i : ℕ) (x : Bool) → x ≡ get_or xs i false → i < length xs → set xs i x ≡ xs
set_got [] i x e h = absurd (omega arith)
set_got (y ∷ ys) zero x e h = ap (λ z. z ∷ ys) e
set_got (y ∷ ys) (suc i) x e h = ap (λ zs. y ∷ zs) (set_got ys i x e (omega arith))

and_both : (a f : Bool) → (f && a) ≡ (a && f)
and_both true true = refl
and_both true false = refl
and_both false true = refl
and_both false false = refl

left_open : (a f : Bool) → (f && not (f && a)) ≡ (not a && f)
left_open true true = refl
left_open true false = refl
left_open false true = refl
left_open false false = refl

-- the greater of a bid and a sum exceeds the sum if and only if the bid does
ahead_by : (b s : ℕ) → ltb s (max b s) ≡ ltb s b
ahead_by b s = ⊎_elim
    (λ less. lt-ltb s (max b s) (omega arith) ∙ sym (lt-ltb s b less))
    (λ le. le-ltb s (max b s) (omega arith) ∙ sym (le-ltb s b le))
    (cases_lt s b)

module _ (nodes : List Node) (bid : ℕ → ℕ) (parents : List (Option ℕ)) (inside values : List ℕ) (few : length nodes ≤ MOST_NODES) (before : AreBefore parents) (kept : AreParents nodes parents)
    (inside_is : (n : ℕ) → n < length nodes → get_or inside n 0 ≡ best nodes bid n) (values_are : (n : ℕ) → n < length nodes → get_or values n 0 ≡ max (bid n) (best nodes bid n)) where
  abbrev ahead : ℕ → Bool
  ahead = is_ahead inside values

  abbrev free : ℕ → Bool
  free = is_free parents ahead

  abbrev won : ℕ → Bool
  won n = ahead n && free n

  -- the nodes that neither win nor stand below a winner
  abbrev opens : List Bool
  opens = map (λ n. not (ahead n) && free n) (range_with_len 0 (length nodes))

  opens_count : length opens ≡ length nodes
  opens_count = length-map-range_with_len (λ n. not (ahead n) && free n) 0 (length nodes)

  open_is : (n : ℕ) → n < length nodes → is_in opens n ≡ (not (ahead n) && free n)
  open_is n h = get_or-map-range_with_len (λ n. not (ahead n) && free n) 0 (length nodes) n n false h (omega arith)

  ahead_is : (n : ℕ) → n < length nodes → ahead n ≡ ltb (best nodes bid n) (bid n)
  ahead_is n h = ap (λ s. ltb s (get_or values n 0)) (inside_is n h) ∙ ap (ltb (best nodes bid n)) (values_are n h) ∙ ahead_by (bid n) (best nodes bid n)

  above_is : (i : ℕ) → i < length nodes → freed nodes bid opens i (parent_of nodes i) ≡ free i
  above_is i h = by (parent_of nodes i) (kept i h)
    where
      by : (c : Option ℕ) → get_or parents i None ≡ c → freed nodes bid opens i c ≡ free i
      by None top = sym (free_top parents before ahead i top)
      by (Some p) up = ap (λ t. t && is_in opens p) (lt-ltb p i (before i p up)) ∙ open_is p (omega (arith, before i p up)) ∙ sym (free_under parents before ahead i up)

  won_from : (k i : ℕ) → i + k ≡ length nodes → map won (range_with_len i k) ≡ winners_after nodes bid i (freed nodes bid opens i)
  won_from zero i e = let all : length nodes ≡ i = omega arith in
      sym (subst (λ n. winners_after nodes bid n (freed nodes bid opens i) ≡ []) all (winners_end nodes bid (freed nodes bid opens i)))
  won_from (suc k) i e =
      let h : i < length nodes = omega arith in
      let o = freed nodes bid opens i in
      let j : i + 1 ≡ suc i = omega arith in
      let flag : (o (parent_of nodes i) && ltb (best nodes bid i) (bid i)) ≡ won i = ap (λ t. t && ltb (best nodes bid i) (bid i)) (above_is i h) ∙ ap (λ t. free i && t) (sym (ahead_is i h)) ∙ and_both (ahead i) (free i) in
      let left : (o (parent_of nodes i) && not (o (parent_of nodes i) && ltb (best nodes bid i) (bid i))) ≡ is_in opens i
      = ap (λ t. t && not (t && ltb (best nodes bid i) (bid i))) (above_is i h) ∙ ap (λ t. free i && not (free i && t)) (sym (ahead_is i h)) ∙ left_open (ahead i) (free i) ∙ sym (open_is i h) in
      let has : i < length opens = omega (arith, opens_count) in
      sym (winners_step nodes bid i o h
      ∙ ap (λ t. t ∷ winners_after nodes bid (suc i) (answer_at o i (o (parent_of nodes i) && not (o (parent_of nodes i) && ltb (best nodes bid i) (bid i))))) flag
      ∙ ap (λ t. won i ∷ winners_after nodes bid (suc i) (answer_at o i t)) left
      ∙ ap (λ t. won i ∷ winners_after nodes bid (suc i) t) (freed_set nodes bid opens i (is_in opens i) has)
      ∙ ap (λ t. won i ∷ winners_after nodes bid (suc i) (freed nodes bid t (suc i))) (set_got opens i (is_in opens i) refl has)
      ∙ ap (λ m. won i ∷ winners_after nodes bid m (freed nodes bid opens m)) (sym j)
      ∙ ap (λ ws. won i ∷ ws) (sym (won_from k (i + 1) (omega arith))))

  pub wins_are : take (length nodes) (wins_of parents inside values) ≡ winners nodes bid
  wins_are = take-map-range_with_len won 0 MOST_NODES (length nodes) few ∙ won_from (length nodes) 0 (omega arith) ∙ winners_start nodes bid opens

  pub wins_right : IsTree nodes → IsWinners nodes bid (take (length nodes) (wins_of parents inside values))
  wins_right tree = subst (IsWinners nodes bid) (sym wins_are) (winners_are_one nodes bid tree).0

  -- the code's tables are those of the outcome
  pub outcome_of : {sum formed : ℕ} → sum ≡ revenue bid (winners nodes bid)
      → IsOutcome nodes bid (record { parents = parents; inside = inside; values = values; wins = wins_of parents inside values; revenue = sum; formed = formed })
  outcome_of sum = record {
    parents = kept;
    inside = inside_is;
    values = values_are;
    wins = λ n h. sym (get_or-take (length nodes) (wins_of parents inside values) n false h) ∙ ap (λ xs. is_in xs n) wins_are;
    revenue = sum;
  }
