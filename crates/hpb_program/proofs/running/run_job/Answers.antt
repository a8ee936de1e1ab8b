use Rattle.std.proofs.Common.{sym, subst}
use Rattle.hpb_words.specs.declared.words.Job.{Job}
use Rattle.hpb_program.specs.Program.{RunsJob}
use Rattle.hpb_program.proofs.running.run_job.Goals as goal

pub returns-in-Script-clause-streams : goal.returns-in-Script-clause-streams
returns-in-Script-clause-streams g c =
    rw (c.in-Script.is, ← c.console.view_is)
    (c.run_script-end.result, c.run_script-end.ensures.runs, c.tell_script.ensures.value, g.E.Write.contents c.run_script-end.new.errors, c.run_script-end.ensures.said, c.tell_script.ensures.told)

pub returns-in-Format-clause-streams : goal.returns-in-Format-clause-streams
returns-in-Format-clause-streams g c =
    subst (λ (job : Job). RunsJob job c.args.console.now c.tell_end.new.console c.tell_end.result) (sym c.in-Format.is)
    (c.run_format-end.new.console, c.run_format-end.result, c.run_format-end.ensures.formats, c.run_format-end.ensures.untold, c.tell_end.ensures.told)

pub returns-in-Check-clause-streams : goal.returns-in-Check-clause-streams
returns-in-Check-clause-streams g c =
    subst (λ (job : Job). RunsJob job c.args.console.now c.tell_end-in-Check.new.console c.tell_end-in-Check.result) (sym c.in-Check.is)
    (c.run_check-end.new.console, c.run_check-end.result, c.run_check-end.ensures.checks, c.run_check-end.ensures.unread, c.tell_end-in-Check.ensures.told)

pub returns-in-Run-clause-streams : goal.returns-in-Run-clause-streams
returns-in-Run-clause-streams g c =
    subst (λ (job : Job). RunsJob job c.args.console.now c.tell_run.new.console c.tell_run.result) (sym c.in-Run.is)
    (c.run_file-end.new.console, c.run_file-end.result, c.run_file-end.ensures.runs, c.tell_run.ensures.told)

pub returns-in-Serve-clause-streams : goal.returns-in-Serve-clause-streams
returns-in-Serve-clause-streams g c =
    subst (λ (job : Job). RunsJob job c.args.console.now c.tell_served.new.console c.tell_served.result) (sym c.in-Serve.is)
    (c.serve_file-end.new.console, c.serve_file-end.result, c.serve_file-end.ensures.serves, c.serve_file-end.ensures.told, c.serve_file-end.ensures.unread, c.tell_served.ensures.told)
