-- The fault of a job that comes from the fault of a file: memory's, or the file's own.
use Rattle.std.proofs.Common.{◌≡◌, sym, subst}
use Rattle.hpb_disk.specs.declared.fault.FileFault.{FileFault}
use Rattle.hpb_disk.specs.declared.fault.FileFault.TheVariants as files
use Rattle.hpb_format.specs.declared.fault.FormatCause.{FormatCause}
use Rattle.hpb_messages.specs.declared.job_fault.JobFault.{JobFault}
use Rattle.hpb_messages.specs.declared.job_fault.JobFault.TheVariants as faults
use Rattle.hpb_program.specs.Jobs.{IsOfFile}
use Rattle.hpb_messages.specs.Faults.{made_of_file}

-- a fact about both holds of the fault that comes from a file's fault
pub of_each_file : (Is : JobFault → Type 0) → Is faults.Memory → ((fault : FileFault) → Is (faults.File fault)) → (fault : FileFault) (made : JobFault) → made ≡ made_of_file fault → Is made
of_each_file Is memory file fault made is = subst Is (sym is) (go fault)
  where
    go : (fault : FileFault) → Is (made_of_file fault)
    go (files.Memory e) = memory
    go files.Busy = file files.Busy
    go files.NotAFile = file files.NotAFile
    go files.TooLong = file files.TooLong
    go files.Stream = file files.Stream
    go files.Errors = file files.Errors
    go files.Beside = file files.Beside
    go files.BesideForeign = file files.BesideForeign
    go files.BesideWritable = file files.BesideWritable
    go files.Foreign = file files.Foreign
    go files.ForeignLink = file files.ForeignLink
    go files.DanglingLink = file files.DanglingLink
    go (files.Limit len limit) = file (files.Limit len limit)
    go (files.System e) = file (files.System e)

-- a fact about memory's faults, a file's and those of formatting holds of each fault of a file that is made
pub of_each_made : (Is : JobFault → Type 0) → Is faults.Memory → ((fault : FileFault) → Is (faults.File fault)) → ((cause : FormatCause) → Is (faults.Format cause))
    → (fault : JobFault) → IsOfFile fault → Is fault
of_each_made Is memory file format faults.Memory of = memory
of_each_made Is memory file format (faults.File fault) of = file fault
of_each_made Is memory file format (faults.Format cause) of = format cause
of_each_made Is memory file format faults.Reader of = absurd of
of_each_made Is memory file format faults.Writer of = absurd of
of_each_made Is memory file format (faults.Definition fault) of = absurd of
of_each_made Is memory file format faults.Journal of = absurd of
of_each_made Is memory file format (faults.Open cause) of = absurd of
of_each_made Is memory file format (faults.Port at error) of = absurd of
of_each_made Is memory file format (faults.Descriptors sessions wanted error) of = absurd of
of_each_made Is memory file format faults.Place of = absurd of
of_each_made Is memory file format faults.Order of = absurd of
of_each_made Is memory file format faults.Counts of = absurd of
