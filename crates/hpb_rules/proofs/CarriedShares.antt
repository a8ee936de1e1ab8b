-- A node is carried its share of the dollars that its parent passes down.
use Rattle.std.proofs.Common.{ℕ, ◌+◌, sym, ◌∙◌, arith}
use Rattle.std.specs.List.{range_with_len}
use Rattle.std.proofs.lemmas.List.FromFn.{get_or-map-range_with_len}
use Rattle.hpb_rules.specs.Tree.{places}
use Rattle.hpb_rules.specs.Prices.{share, children_among, surplus, carried}
use Rattle.hpb_rules.specs.Laws.{CarriedIsShare}
use Rattle.hpb_rules.proofs.Carried.{carried_child, carried_top}
use Rattle.hpb_rules.proofs.Ranks.{rank_lt}

pub carried_is_share : CarriedIsShare
carried_is_share nodes bid node tree = (
  carried_top nodes bid tree node,
  λ parent e.
      let passed : ℕ = carried nodes bid parent + surplus nodes bid parent in
      let count : ℕ = children_among nodes parent (places nodes) in
      let rank : ℕ = children_among nodes parent (range_with_len 0 node) in
      carried_child nodes bid tree node parent e
      ∙ sym (get_or-map-range_with_len (share passed count) 0 count rank rank 0 (rank_lt nodes parent node e) (omega arith)),
)
