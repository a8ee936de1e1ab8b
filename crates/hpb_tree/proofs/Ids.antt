-- The places of nodes, in their order.
use Rattle.std.proofs.Common.{◌≡◌, ℕ, ◌+◌, ◌<◌, List, length, get_or, ap, ◌∙◌, arith}
use Rattle.std.specs.List.{All}
use Rattle.std.proofs.lemmas.List.FromFn.{get_or-range_with_len, length-range_with_len}
use Rattle.hpb_rules.specs.Tree.{Node, places}

module _ (ids : List ℕ) (nodes : List Node) (seen : ids ≡ places nodes) where
  -- there are as many as nodes
  pub ids_count : length ids ≡ length nodes
  ids_count = ap length seen ∙ length-range_with_len 0 (length nodes)

  -- each stands at its place
  pub ids_each : (place other : ℕ) → place < length nodes → get_or ids place other ≡ place
  ids_each place other h =
      let none : 0 + place ≡ place = omega arith in
      ap (λ xs. get_or xs place other) seen ∙ get_or-range_with_len 0 (length nodes) place other h ∙ none

  -- each is a node's
  pub ids_within : All (λ id. id < length nodes) ids
  ids_within place other h = omega (arith, ids_each place other (omega (arith, ids_count)), ids_count)
