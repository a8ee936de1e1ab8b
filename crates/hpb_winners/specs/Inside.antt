-- The outcome of the code as definitions see it.
use Rattle.std.specs.Prelude.{◌≡◌, ℕ, ◌≤◌, length, slice_index}
use Rattle.hpb_rules.specs.declared.limits.TheConstants.{MOST_NODES}
use Rattle.hpb_winners.specs.View.{OutcomeView, wins_of, AreBefore}
use Rattle.hpb_winners.specs.declared.outcome.TheConstants.{MOST_VALUE}
use Rattle.hpb_winners.specs.declared.outcome.Outcome.TheInside.{Inside}

-- The code's tables, and the winners by them.
abbrev pub outcome_view : Inside → OutcomeView
outcome_view o = record {
  parents = o.parents.items;
  inside = o.inside.items;
  values = o.values.values.items;
  wins = wins_of o.parents.items o.inside.items o.values.values.items;
  revenue = o.revenue;
  formed = o.values.formed;
}

-- Each table has `MOST_NODES` places, a parent stands before its children, and no amount is out of range.
pub record IsKept (o : Inside) : Type 0 where
  pub parents : length o.parents.items ≡ MOST_NODES
  pub inside : length o.inside.items ≡ MOST_NODES
  pub values : length o.values.values.items ≡ MOST_NODES
  pub before : AreBefore o.parents.items
  pub most_inside : (node : ℕ) → slice_index o.inside.items node ≤ MOST_VALUE
  pub most_value : (node : ℕ) → slice_index o.values.values.items node ≤ MOST_VALUE
  pub most_revenue : o.revenue ≤ MOST_VALUE
