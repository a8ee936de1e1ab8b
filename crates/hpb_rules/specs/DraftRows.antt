-- The worked rows of drafts: the small definition is accepted, and with one change each it is refused.
use Rattle.std.specs.Prelude.{◌≡◌, ℕ, ◌-◌, List, [], ◌∷◌, ◌++◌, map, Option, Some, None, codes, decimal, replicate}
use Rattle.std.specs.List.{range_with_len}
use Rattle.std.specs.Fmt.{digits}
use mathlib.Core.Path.{refl}
use Rattle.hpb_rules.specs.declared.refusal.Refusal.TheVariants as refusals
use Rattle.hpb_rules.specs.Tree.{Rules, Node}
use Rattle.hpb_rules.specs.Drafts.{draft_refusal}
use Rattle.hpb_rules.specs.RowRules.{small, tens, group, licence, numbered, with_units}

-- A licence with an opening of its own.
abbrev opened : List ℕ → Option ℕ → ℕ → ℕ → Node
opened name parent units opening = record { name = name; parent = parent; terms = Some (record { units = units; opening = opening }) }

-- The small definition with other nodes.
abbrev with_nodes : List Node → Rules
with_nodes nodes = record small { nodes = nodes }

-- The six nodes of the small definition, four of them as given.
abbrev nodes_with : Node → Node → Node → Node → List Node
nodes_with east a c d = group (codes "all") None ∷ east ∷ a ∷ licence (codes "b") (Some 1) 10 ∷ c ∷ d ∷ []

-- The package in the east.
abbrev east : Node
east = group (codes "east") (Some 0)

-- Licence a.
abbrev a : Node
a = licence (codes "a") (Some 1) 10

-- Licence c.
abbrev c : Node
c = licence (codes "c") (Some 0) 20

-- Licence d.
abbrev d : Node
d = licence (codes "d") None 5

-- The small definition with a name of this many bytes for its last licence.
abbrev with_name_of : ℕ → Rules
with_name_of count = with_nodes (nodes_with east a c (licence (replicate count 97) None 5))

-- A definition with this many licences at the top, and one bidder with this many units.
abbrev flat : ℕ → ℕ → Rules
flat count units = tens (80 ∷ []) (map (numbered None) (range_with_len 0 count)) (with_units (codes "g") units ∷ [])

-- A package inside another.
abbrev inner : ℕ → Node
inner place = group (codes "p" ++ decimal place) (Some (place - 1))

-- A licence in the package at a place.
abbrev inside : ℕ → Node
inside place = numbered (Some place) place

-- Packages on this many levels, each in the one before it, with a licence in each and one more in the last.
abbrev nested : ℕ → List Node
nested levels =
    group (codes "p0") None ∷ map inner (range_with_len 1 (levels - 1))
    ++ map inside (range_with_len 0 levels) ++ licence (codes "last") (Some (levels - 1)) 1 ∷ []

accepted : draft_refusal small ≡ None
accepted = refl

percent_of_51 : draft_refusal (record small { percent = 51 }) ≡ Some refusals.Number
percent_of_51 = refl

percent_of_51_without_nodes : draft_refusal (record small { percent = 51; nodes = [] }) ≡ Some refusals.Number
percent_of_51_without_nodes = refl

no_nodes : draft_refusal (with_nodes []) ≡ Some refusals.Empty
no_nodes = refl

no_stages : draft_refusal (record small { stages = [] }) ≡ Some refusals.Empty
no_stages = refl

bad_name : draft_refusal (with_nodes (nodes_with east a c (licence (codes "D") None 5))) ≡ Some refusals.Name
bad_name = refl

name_twice : draft_refusal (with_nodes (nodes_with east a c (licence (codes "a") None 5))) ≡ Some refusals.Duplicate
name_twice = refl

own_parent : draft_refusal (with_nodes (nodes_with (group (codes "east") (Some 1)) a c d)) ≡ Some refusals.Parent
own_parent = refl

one_child : draft_refusal (with_nodes (group (codes "all") None ∷ east ∷ a ∷ licence (codes "b") (Some 1) 10 ∷ licence (codes "c") None 20 ∷ [])) ≡ Some refusals.Children
one_child = refl

licence_with_child : draft_refusal (with_nodes (nodes_with east a c d ++ licence (codes "e") (Some 2) 5 ∷ [])) ≡ Some refusals.Leaf
licence_with_child = refl

five_stages : draft_refusal (record small { stages = 80 ∷ 80 ∷ 80 ∷ 80 ∷ 80 ∷ [] }) ≡ Some refusals.Limits
five_stages = refl

opening_of_105 : draft_refusal (with_nodes (nodes_with east (opened (codes "a") (Some 1) 10 105) c d)) ≡ Some refusals.Terms
opening_of_105 = refl

name_of_16_bytes : draft_refusal (with_name_of 16) ≡ None
name_of_16_bytes = refl

name_of_17_bytes : draft_refusal (with_name_of 17) ≡ Some refusals.Name
name_of_17_bytes = refl

units_of_64_millions : draft_refusal (flat 1 64000000) ≡ None
unfolding digits
units_of_64_millions = refl

units_above_64_millions : draft_refusal (flat 1 64000001) ≡ Some refusals.Number
unfolding digits
units_above_64_millions = refl

licences_64 : draft_refusal (flat 64 1) ≡ None
unfolding digits
licences_64 = refl

licences_65 : draft_refusal (flat 65 1) ≡ Some refusals.Limits
unfolding digits
licences_65 = refl

depth_of_8 : draft_refusal (with_nodes (nested 7)) ≡ None
unfolding digits
depth_of_8 = refl

depth_of_9 : draft_refusal (with_nodes (nested 8)) ≡ Some refusals.Limits
unfolding digits
depth_of_9 = refl

empty_before_name : draft_refusal (record (with_name_of 17) { stages = [] }) ≡ Some refusals.Empty
empty_before_name = refl

name_before_duplicate : draft_refusal (with_nodes (nodes_with east a (licence (codes "D") (Some 0) 20) (licence (codes "D") None 5))) ≡ Some refusals.Name
name_before_duplicate = refl

duplicate_before_parent : draft_refusal (with_nodes (nodes_with (group (codes "east") (Some 1)) a c (licence (codes "a") None 5))) ≡ Some refusals.Duplicate
duplicate_before_parent = refl

children_before_leaf : draft_refusal (with_nodes (group (codes "all") None ∷ east ∷ a ∷ licence (codes "b") (Some 1) 10 ∷ licence (codes "c") None 20 ∷ licence (codes "e") (Some 2) 5 ∷ [])) ≡ Some refusals.Children
children_before_leaf = refl

leaf_before_limits : draft_refusal (record (with_nodes (nodes_with east a c d ++ licence (codes "e") (Some 2) 5 ∷ [])) { stages = 80 ∷ 80 ∷ 80 ∷ 80 ∷ 80 ∷ [] }) ≡ Some refusals.Leaf
leaf_before_limits = refl

limits_before_terms : draft_refusal (record (with_nodes (nodes_with east (opened (codes "a") (Some 1) 10 105) c d)) { stages = 80 ∷ 80 ∷ 80 ∷ 80 ∷ 80 ∷ [] }) ≡ Some refusals.Limits
limits_before_terms = refl

percent_of_0 : draft_refusal (record small { percent = 0 }) ≡ Some refusals.Number
percent_of_0 = refl

stage_of_49 : draft_refusal (record small { stages = 49 ∷ [] }) ≡ Some refusals.Number
stage_of_49 = refl

opening_of_0 : draft_refusal (with_nodes (nodes_with east (opened (codes "a") (Some 1) 10 0) c d)) ≡ Some refusals.Terms
opening_of_0 = refl

underscore : draft_refusal (with_nodes (nodes_with east a c (licence (codes "d_0") None 5))) ≡ None
underscore = refl
