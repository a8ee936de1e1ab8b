use Rattle.std.proofs.Common.{sym, subst}
use Rattle.hpb_recover.specs.Plans.{IsPlan}
use Rattle.hpb_program.proofs.Doubting.{durable_still}
use Rattle.hpb_program.proofs.opening.look.Goals as goal

pub opened_still-requires-clause-durable : goal.opened_still-requires-clause-durable
opened_still-requires-clause-durable g c =
    durable_still _ (g.D.Disk.device c.args.opened.disk) (g.D.Disk.device c.find_doubts.new.disk) c.args.opened.durable c.find_doubts.ensures.reads.quiet

pub opened_still-requires-clause-read : goal.opened_still-requires-clause-read
opened_still-requires-clause-read g c = subst (IsPlan c.args.opened.plan) (sym c.find_doubts.ensures.reads.quiet.same) c.args.opened.read
