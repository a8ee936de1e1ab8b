-- The licences of a tree, numbered from 0 in the order of the nodes.
use Rattle.std.specs.Prelude.{◌≡◌, ℕ, ◌<◌, ◌^◌, Bool, cond, List, Some, None, is_some, IsSome}
use Rattle.std.specs.List.{sum_by, range_with_len}
use Rattle.std.specs.Int.{bit_at}
use Rattle.hpb_rules.specs.Tree.{Node, terms_of, places, at_or_under}

-- How many of these nodes are licences.
abbrev pub licences_among : List Node → List ℕ → ℕ
licences_among nodes some = sum_by (λ node. cond (is_some (terms_of nodes node)) 1 0) some

-- How many licences there are.
abbrev pub licence_count : List Node → ℕ
licence_count nodes = licences_among nodes (places nodes)

-- The number of the licence at a place: how many licences stand before it.
abbrev pub licence_number : List Node → ℕ → ℕ
licence_number nodes licence = licences_among nodes (range_with_len 0 licence)

-- Bit i of the mask says whether the licence of number i is at or under the node.
pub record IsMask (nodes : List Node) (node mask : ℕ) : Type 0 where
  pub bits : (licence : ℕ) → IsSome (terms_of nodes licence) → bit_at mask (licence_number nodes licence) ≡ cond (at_or_under nodes node licence) 1 0
  pub most : mask < 2 ^ licence_count nodes

-- What a place adds to a sum over the licences that pass a test: its number if it is such a licence, else 0.
abbrev pub part_over : List Node → (ℕ → Bool) → (ℕ → ℕ) → ℕ → ℕ
part_over nodes test number licence = elim (terms_of nodes licence) [ None ↦ 0 | Some terms ↦ cond (test licence) (number licence) 0 ]
