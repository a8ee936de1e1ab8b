-- The refusals that faults are reported by.
use Rattle.hpb_rules.specs.declared.refusal.Refusal.{Refusal}
use Rattle.hpb_rules.specs.declared.refusal.Refusal.TheVariants as refusals
use Rattle.hpb_tree.specs.declared.fault.DefinitionFault.{DefinitionFault}
use Rattle.hpb_tree.specs.declared.fault.DefinitionFault.TheVariants as faults

-- The refusal that a fault of a draft is reported by: the one of the same name.
abbrev pub refusal_of : DefinitionFault → Refusal
refusal_of faults.Memory = refusals.Memory
refusal_of faults.Number = refusals.Number
refusal_of faults.Empty = refusals.Empty
refusal_of faults.Name = refusals.Name
refusal_of faults.Duplicate = refusals.Duplicate
refusal_of faults.Parent = refusals.Parent
refusal_of faults.Children = refusals.Children
refusal_of faults.Leaf = refusals.Leaf
refusal_of faults.Limits = refusals.Limits
refusal_of faults.Terms = refusals.Terms
