-- The faults of jobs: the refusal of each, and the faults from which they come.
use Rattle.hpb_rules.specs.declared.refusal.Refusal.{Refusal}
use Rattle.hpb_rules.specs.declared.refusal.Refusal.TheVariants as refusals
use Rattle.hpb_define.specs.declared.fault.DefineCause.{DefineCause}
use Rattle.hpb_define.specs.declared.fault.DefineCause.TheVariants as defining
use Rattle.hpb_define.specs.declared.fault.DefineFault.{DefineFault}
use Rattle.hpb_define.specs.Fault as definitions
use Rattle.hpb_disk.specs.declared.fault.FileFault.{FileFault}
use Rattle.hpb_disk.specs.declared.fault.FileFault.TheVariants as files
use Rattle.hpb_format.specs.declared.fault.FormatCause.{FormatCause}
use Rattle.hpb_format.specs.declared.fault.FormatCause.TheVariants as formatting
use Rattle.hpb_format.specs.Outcomes as formats
use Rattle.hpb_recover.specs.declared.cause.Cause.{Cause}
use Rattle.hpb_recover.specs.declared.cause.Cause.TheVariants as opening
use Rattle.hpb_recover.specs.Causes as causes
use Rattle.hpb_messages.specs.declared.job_fault.JobFault.{JobFault}
use Rattle.hpb_messages.specs.declared.job_fault.JobFault.TheVariants as faults

-- The refusal by which a fault is reported.
abbrev pub refusal_of : JobFault → Refusal
refusal_of faults.Memory = refusals.Memory
refusal_of faults.Reader = refusals.Stream
refusal_of faults.Writer = refusals.Stream
refusal_of (faults.Definition fault) = definitions.refusal_of fault.cause
refusal_of faults.Journal = refusals.Length
refusal_of (faults.File fault) = refusals.Device
refusal_of (faults.Format cause) = formats.refusal_of cause
refusal_of (faults.Open cause) = causes.refusal_of cause
refusal_of (faults.Port at error) = refusals.Stream
refusal_of (faults.Descriptors sessions wanted error) = refusals.Stream
refusal_of faults.Place = refusals.Place
refusal_of faults.Order = refusals.Order
refusal_of faults.Counts = refusals.Counts

-- The fault of a job if its definition was refused.
abbrev pub made_by : DefineCause → DefineFault → JobFault
made_by defining.Memory fault = faults.Memory
made_by cause fault = faults.Definition fault

abbrev pub made_of_definition : DefineFault → JobFault
made_of_definition fault = made_by fault.cause fault

-- The same if its file was not opened or made,
abbrev pub made_of_file : FileFault → JobFault
made_of_file (files.Memory refused) = faults.Memory
made_of_file fault = faults.File fault

-- if it was not formatted,
abbrev pub made_of_formatting : FormatCause → JobFault
made_of_formatting formatting.Memory = faults.Memory
made_of_formatting cause = faults.Format cause

-- and if its contents were not opened.
abbrev pub made_of_opening : Cause → JobFault
made_of_opening opening.Memory = faults.Memory
made_of_opening cause = faults.Open cause
