-- The properties of nodes on which the kept sums depend.
use Rattle.std.specs.Prelude.{◌≡◌, ℕ, ◌<◌, ◌≤◌, false, List, length}
use Rattle.hpb_rules.specs.declared.limits.TheConstants.{MOST_NODES, MOST_LICENCES, MOST_LICENCE_UNITS, MOST_LICENCE_OPENING}
use Rattle.hpb_rules.specs.Drafts.{has_late_parent, has_thin_package, has_licence_with_child}
use Rattle.hpb_rules.specs.Tree.{Node, units_at, opening_at}
use Rattle.hpb_tree.specs.Licences.{licence_count}

-- Nodes that no test refuses, as far as the kept sums depend on it.
pub record AreSound (nodes : List Node) : Type 0 where
  pub some : 0 < length nodes
  pub most : length nodes ≤ MOST_NODES
  pub ordered : has_late_parent nodes ≡ false
  pub packages : has_thin_package nodes ≡ false
  pub licences : has_licence_with_child nodes ≡ false
  pub most_licences : licence_count nodes ≤ MOST_LICENCES
  pub units : (licence : ℕ) → units_at nodes licence ≤ MOST_LICENCE_UNITS
  pub openings : (licence : ℕ) → opening_at nodes licence ≤ MOST_LICENCE_OPENING
