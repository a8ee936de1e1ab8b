-- The outcome of a tree without a bid.
use Rattle.std.proofs.Common.{◌≡◌, ℕ, zero, suc, ◌<◌, ◌≤◌, Bool, false, not, ◌&&◌, ltb, List, [], ◌∷◌, Option, Some, None, length, get_or, replicate, max, refl, sym, ap, ◌∙◌, arith}
use Rattle.std.proofs.lemmas.Bool.{le-ltb, and_right}
use Rattle.hpb_rules.specs.declared.limits.TheConstants.{MOST_NODES}
use Rattle.hpb_rules.specs.Tree.{Node}
use Rattle.hpb_rules.specs.Choices.{is_top, is_node, answer_at, total, values_from, best, winners_from, revenue_from, revenue}
use Rattle.hpb_rules.proofs.Lists.{get_or-replicate_same}
use Rattle.hpb_rules.proofs.Loops.{Test, below_is, best_from, sum_bound}
use Rattle.hpb_winners.specs.View.{IsOutcome, AreParents, AreBefore, wins_of, no_bid}
use Rattle.hpb_winners.proofs.Winning.{outcome_of}

best_none : (nodes : List Node) (n : ℕ) → n < length nodes → best nodes no_bid n ≡ 0
best_none nodes n h = omega (arith, best_from nodes no_bid n h, sum_bound nodes no_bid 0 (suc n) (is_node n) (λ k. omega arith) (below_is n))

winners_none : (i : ℕ) (o : Test) (ns : List Node) → winners_from i o ns no_bid ≡ replicate (length ns) false
winners_none i o [] = refl
winners_none i o (n ∷ ns) =
    let loses : (o n.parent && ltb (total (is_node i) ns (values_from (suc i) ns no_bid)) 0) ≡ false
    = and_right (o n.parent) _ (le-ltb (total (is_node i) ns (values_from (suc i) ns no_bid)) 0 (omega arith)) in
    ap (λ (t : Bool). t ∷ winners_from (suc i) (answer_at o i (o n.parent && not t)) ns no_bid) loses
    ∙ ap (λ (ws : List Bool). false ∷ ws) (winners_none (suc i) (answer_at o i (o n.parent && not false)) ns)

revenue_none : (i n : ℕ) (bid : ℕ → ℕ) → revenue_from i bid (replicate n false) ≡ 0
revenue_none i zero bid = refl
revenue_none i (suc n) bid = omega (arith, revenue_none (suc i) n bid)

-- the tree's parents with values of 0 are that outcome
pub outcome_none : (nodes : List Node) {parents : List (Option ℕ)} {inside values : List ℕ} {formed : ℕ} → length nodes ≤ MOST_NODES → AreBefore parents → AreParents nodes parents
    → inside ≡ replicate MOST_NODES 0 → values ≡ replicate MOST_NODES 0
    → IsOutcome nodes no_bid (record { parents = parents; inside = inside; values = values; wins = wins_of parents inside values; revenue = 0; formed = formed })
outcome_none nodes {parents = parents} {inside = inside} {values = values} few before kept i v = outcome_of nodes no_bid parents inside values few before kept
    (λ n h. ap (λ xs. get_or xs n 0) i ∙ get_or-replicate_same MOST_NODES n 0 ∙ sym (best_none nodes n h))
    (λ n h. ap (λ xs. get_or xs n 0) v ∙ get_or-replicate_same MOST_NODES n 0 ∙ sym (ap (max 0) (best_none nodes n h)))
    (sym (ap (revenue no_bid) (winners_none 0 is_top nodes) ∙ revenue_none 0 (length nodes) no_bid))

pub none_before : {parents : List (Option ℕ)} → parents ≡ replicate MOST_NODES None → AreBefore parents
none_before e n p up = let none : None ≡ Some p = sym (ap (λ xs. get_or xs n None) e ∙ get_or-replicate_same MOST_NODES n None) ∙ up in absurd (cc)
