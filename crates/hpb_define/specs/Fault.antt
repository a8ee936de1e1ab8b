-- The refusals that report faults, and the faults that other faults become.
use Rattle.hpb_rules.specs.declared.refusal.Refusal.{Refusal}
use Rattle.hpb_rules.specs.declared.refusal.Refusal.TheVariants as refusals
use Rattle.hpb_tree.specs.Fault as tree
use Rattle.hpb_tree.specs.declared.fault.DefinitionFault.{DefinitionFault}
use Rattle.hpb_tree.specs.declared.fault.DefinitionFault.TheVariants as faults
use Rattle.serde_json.specs.Errors.{category}
use Rattle.serde_json.specs.declared.error.Category.{Category}
use Rattle.serde_json.specs.declared.error.Category.TheVariants as categories
use Rattle.serde_json.specs.declared.error.Error.{Error}
use Rattle.hpb_define.specs.declared.fault.DefineCause.{DefineCause}
use Rattle.hpb_define.specs.declared.fault.DefineCause.TheVariants.{Memory, Json, Field, Number, Refused}

-- The contract of `read_definition` is `Answers`, which is about its result by cause. A fault also has words for
-- people, and nothing is claimed about these. Each cause has one refusal that reports it; the causes of a draft have
-- their own.
--
-- The refusal that reports a fault.
abbrev pub refusal_of : DefineCause → Refusal
refusal_of Memory = refusals.Memory
refusal_of Json = refusals.Json
refusal_of Field = refusals.Field
refusal_of Number = refusals.Number
refusal_of (Refused fault) = tree.refusal_of fault

-- The fault of reading that a fault of the tree becomes: refused memory has one name in both.
abbrev pub refused : DefinitionFault → DefineCause
refused faults.Memory = Memory
refused fault = Refused fault

-- The fault that a failed read becomes, by the category of its error.
abbrev pub unread_by : Category → DefineCause
unread_by categories.Memory = Memory
unread_by category = Json

-- A text that couldn't be read isn't JSON, unless memory was refused.
abbrev pub unread : Error → DefineCause
unread error = unread_by (category error)
