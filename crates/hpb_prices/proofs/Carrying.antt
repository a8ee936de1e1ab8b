-- The dollars carried down, from the first node to the last.
use Rattle.std.proofs.Common.{◌≡◌, ℕ, ◌+◌, ◌-◌, ◌<◌, ◌≤◌, List, Some, None, length, get_or, set, max, sym, ap, ◌∙◌, ⊎_elim, arith}
use Rattle.std.specs.List.{range_with_len}
use Rattle.std.proofs.lemmas.Bool.{cases_lt}
use Rattle.std.proofs.lemmas.Grind.{get_or-set_at}
use Rattle.std.proofs.lemmas.List.{get_or-set_other, length-set}
use Rattle.hpb_rules.specs.declared.limits.TheConstants.{MOST_AMOUNT, MOST_NODES}
use Rattle.hpb_rules.specs.Tree.{Node, parent_of, places, IsTree}
use Rattle.hpb_rules.specs.Choices.{best}
use Rattle.hpb_rules.specs.Prices.{share, children_among, of_package, surplus, carried as carried_of, price}
use Rattle.hpb_rules.proofs.TreeLaws.{price_is_value}
use Rattle.hpb_rules.proofs.Loops.{carried_child, carried_top, passed_bound, rank_lt}
use Rattle.hpb_money.specs.Shares.{SharesView, shared, part}
use Rattle.hpb_prices.specs.Shares.{passed_on, ArePassedOn, IsPassedDown}
use Rattle.hpb_winners.specs.declared.outcome.TheConstants.{MOST_VALUE}

module _ (nodes : List Node) (bid : ℕ → ℕ) where
  module _ (tree : IsTree nodes) where
    -- the share that a parent passes on
    module _ {node parent p : ℕ} {shares : List SharesView} (other : SharesView) (so_far : IsPassedDown nodes bid node shares) (up : Some parent ≡ parent_of nodes node) (same : p ≡ parent) where
      before : parent < node
      before = tree.parents node parent (sym up)

      part_is : get_or shares p other ≡ passed_on nodes bid parent
      part_is = ap (λ n. get_or shares n other) same ∙ so_far.values parent other before node (sym up)

      pub carried_part : {rank : ℕ} → rank ≡ children_among nodes parent (range_with_len 0 node) → part (get_or shares p other) rank ≡ carried_of nodes bid node
      carried_part {rank = rank} r =
          ap (λ x. part x rank) part_is
          ∙ ap (share (carried_of nodes bid parent + surplus nodes bid parent) (children_among nodes parent (places nodes))) r
          ∙ sym (carried_child nodes bid tree node parent (sym up))

    pub carried_none : (node : ℕ) → None ≡ parent_of nodes node → 0 ≡ carried_of nodes bid node
    carried_none node top = sym (carried_top nodes bid tree node (sym top))

    pub carried_small : (node : ℕ) → ((n : ℕ) → bid n ≤ MOST_AMOUNT) → node < length nodes → length nodes ≤ MOST_NODES → carried_of nodes bid node ≤ MOST_VALUE
    carried_small node amounts within most = omega (arith, passed_bound nodes bid tree MOST_AMOUNT node amounts within)

    -- a node with children passes on the dollars that it must
    parts_are : {node inside value p children : ℕ} → inside ≡ best nodes bid node → value ≡ max (bid node) (best nodes bid node) → p ≡ value + carried_of nodes bid node → children ≡ children_among nodes node (places nodes)
        → ArePassedOn nodes bid node (shared (p - inside) children)
    parts_are {node = node} {inside = inside} {p = p} {children = children} i v e k child up =
        let extra : surplus nodes bid node ≡ bid node - best nodes bid node = ap (λ t. of_package t (bid node - best nodes bid node)) (tree.packages child node up) in
        let all : p - inside ≡ carried_of nodes bid node + surplus nodes bid node = omega (arith, extra, i, v, e) in
        ap (λ x. shared x children) all ∙ ap (shared (carried_of nodes bid node + surplus nodes bid node)) k

    pub parts_set : {node place inside value p children : ℕ} {parts : SharesView} {shares : List SharesView} → place ≡ node → node < MOST_NODES
        → parts ≡ shared (p - inside) children → inside ≡ best nodes bid node → value ≡ max (bid node) (best nodes bid node) → p ≡ value + carried_of nodes bid node → children ≡ children_among nodes node (places nodes)
        → IsPassedDown nodes bid node shares → IsPassedDown nodes bid (node + 1) (set shares place parts)
    parts_set {node = node} {place = place} {parts = parts} {shares = shares} at few is i v e k s = record {
      count = length-set shares place parts ∙ s.count;
      values = λ n other l child up. ⊎_elim
          (λ earlier. get_or-set_other shares place n parts other (λ e. omega (arith, e)) ∙ s.values n other earlier child up)
          (λ le. let same : n ≡ node = omega arith in
          get_or-set_at shares place n parts other (same ∙ sym at) (omega (arith, s.count)) ∙ is
          ∙ parts_are i v e k child (up ∙ ap Some same) ∙ ap (passed_on nodes bid) (sym same))
          (cases_lt n node);
    }

    -- and one without children passes nothing on
    pub no_parts : {node children : ℕ} {shares : List SharesView} → children ≡ children_among nodes node (places nodes) → children ≡ 0 → IsPassedDown nodes bid node shares → IsPassedDown nodes bid (node + 1) shares
    no_parts {node = node} k none s = record {
      count = s.count;
      values = λ n other l child up. ⊎_elim
          (λ earlier. s.values n other earlier child up)
          (λ le. let same : n ≡ node = omega arith in absurd (omega (arith, rank_lt nodes node child (up ∙ ap Some same), k, none)))
          (cases_lt n node);
    }

    -- the price of one more node is set
    pub price_set : (prices : List ℕ) {i node p carried value : ℕ} {new : List ℕ} → node ≡ i → i < length nodes → i < length prices
        → new ≡ set prices node p → p ≡ value + carried → carried ≡ carried_of nodes bid node → value ≡ max (bid node) (best nodes bid node)
        → ((n : ℕ) → n < i → get_or prices n 0 ≡ price nodes bid n) → (n : ℕ) → n < i + 1 → get_or new n 0 ≡ price nodes bid n
    price_set prices {i = i} {node = node} {p = p} {carried = carried} {value = value} at h room is sum c v so_far n l = ap (λ xs. get_or xs n 0) is ∙ ⊎_elim
        (λ earlier. get_or-set_other prices node n p 0 (λ e. omega (arith, e)) ∙ so_far n earlier)
        (λ le. let same : n ≡ node = omega arith in
        get_or-set_at prices node n p 0 same (omega arith) ∙ sum
        ∙ ap (λ x. x + carried) v ∙ ap (λ x. max (bid node) (best nodes bid node) + x) c ∙ sym (price_is_value nodes bid node tree (omega arith)) ∙ ap (price nodes bid) (sym same))
        (cases_lt n i)
