use Rattle.std.proofs.Common.{sym, subst}
use Rattle.std.specs.Bool.{⊤}
use Rattle.std.specs.Prelude.{Result}
use Rattle.hpb_messages.specs.declared.job_fault.JobFault.{JobFault}
use Rattle.hpb_messages.specs.Telling.{IsCutBy}
use Rattle.hpb_program.specs.Program.{TellsEnd}
use Rattle.hpb_program.proofs.Ends.{told_end}
use Rattle.hpb_program.proofs.running.tell_end.Goals as goal

pub returns-in-Err-clause-told : goal.returns-in-Err-clause-told
returns-in-Err-clause-told g c =
    let before = c.args.console.now in
    let after = c.tell_fault.new.console in
    let by = subst (λ (end : Result ⊤ JobFault). IsCutBy before.is_cut end) c.in-Err.is c.requires in
    subst (λ (end : Result ⊤ JobFault). TellsEnd before after end c.tell_fault.result) (sym c.in-Err.is)
    (told_end before after _ c.tell_fault.ensures.cut c.in-Err.fault by c.tell_fault.ensures.told)
