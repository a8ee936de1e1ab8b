use Rattle.std.proofs.Common.{◌+◌, List, sym, ◌∙◌, ap, subst, arith}
use Rattle.hpb_rules.specs.AuctionValue.{AuctionValue, Shows}
use Rattle.hpb_disk.specs.Asked.{Asked}
use Rattle.hpb_recover.specs.Flaws.{HasFlaw}
use Rattle.hpb_recover.specs.Standing.{Stands}
use Rattle.hpb_recover.specs.Plans.{IsPlan}
use Rattle.hpb_recover.proofs.Faulting.{machine_only}
use Rattle.hpb_recover.specs.Causes.{ended_by}
use Rattle.hpb_recover.proofs.Quietly.{at_most, opened_calls}
use Rattle.hpb_recover.specs.Quiet.{IsQuiet, reads_in}
use Rattle.hpb_recover.proofs.opening.open.Given.{Over}
use Rattle.hpb_recover.proofs.opening.open.Goals.{After-read_plan}
use Rattle.hpb_recover.proofs.opening.open.Goals as goal

-- A bound on the calls of the sync and the reads.
calls_made : (g : Over) (c : After-read_plan g) → IsQuiet (1 + reads_in (g.D.Disk.device c.args.disk).seen) (g.D.Disk.device c.args.disk) (g.D.Disk.device c.read_plan.new.disk)
calls_made g c =
    opened_calls c.settle.ensures.quiet c.read_plan.ensures.reads.quiet

pub returns-in-Ok-read_plan-clause-shows : goal.returns-in-Ok-read_plan-clause-shows
returns-in-Ok-read_plan-clause-shows g c history stands =
    let image = (g.D.Disk.device c.settle.new.disk).seen in
    let here = subst (Stands history) (sym c.settle.ensures.quiet.same) stands in
    let found = c.in-Ok-read_plan.ensures.found in
    subst (λ (value : AuctionValue). Shows value history) (sym found.2.auction) (c.read_is_shown.ensures history found.0 image here found.1)

-- an image that was read has no flaw
pub returns-in-Ok-read_plan-clause-exact : goal.returns-in-Ok-read_plan-clause-exact
returns-in-Ok-read_plan-clause-exact g c flaw has =
    let image = (g.D.Disk.device c.settle.new.disk).seen in
    let found = c.in-Ok-read_plan.ensures.found in
    c.read_is_flawless.ensures found.0 flaw image found.1 (subst (HasFlaw flaw) (sym c.settle.ensures.quiet.same) has)

pub returns-in-Err-read_plan-clause-stands : goal.returns-in-Err-read_plan-clause-stands
returns-in-Err-read_plan-clause-stands g c history stands =
    let d = g.D.Disk in
    let settled = d.device c.settle.new.disk in
    let read = (c.stands_is_read.ensures history settled.seen).0 (subst (Stands history) (sym c.settle.ensures.quiet.same) stands) in
    machine_only c.read_is_flawless.ensures read.0 settled (d.device c.read_plan.new.disk) read.1 c.in-Err-read_plan.cause c.in-Err-read_plan.ensures.cause

pub invariant_of-result : goal.invariant_of-result
invariant_of-result g c = record {
  durable = λ other left. c.in-Ok.ensures.settled other (c.read_plan.ensures.reads.quiet.crash other left) ∙ sym c.read_plan.ensures.reads.quiet.same;
  read = subst (IsPlan c.in-Ok-read_plan.plan) (sym c.read_plan.ensures.reads.quiet.same) c.in-Ok-read_plan.ensures.plan;
}

pub returns-in-Ok-read_plan-clause-quiet : goal.returns-in-Ok-read_plan-clause-quiet
returns-in-Ok-read_plan-clause-quiet g c = calls_made g (goal.at.returns-in-Ok-read_plan-clause-quiet g c).After-read_plan

pub returns-in-Err-read_plan-clause-quiet : goal.returns-in-Err-read_plan-clause-quiet
returns-in-Err-read_plan-clause-quiet g c = calls_made g (goal.at.returns-in-Err-read_plan-clause-quiet g c).After-read_plan

pub returns-in-Err-clause-quiet : goal.returns-in-Err-clause-quiet
returns-in-Err-clause-quiet g c = at_most (omega arith) c.settle.ensures.quiet

pub returns-in-Ok-read_plan-clause-asked : goal.returns-in-Ok-read_plan-clause-asked
returns-in-Ok-read_plan-clause-asked g c = c.in-Ok-read_plan.ensures.reads.asked ∙ c.in-Ok.ensures.call.asked

pub returns-in-Err-read_plan-clause-asked : goal.returns-in-Err-read_plan-clause-asked
returns-in-Err-read_plan-clause-asked g c = c.in-Err-read_plan.ensures.reads.asked ∙ ap (λ (l : List Asked). ended_by c.in-Err-read_plan.cause l) c.in-Ok.ensures.call.asked
