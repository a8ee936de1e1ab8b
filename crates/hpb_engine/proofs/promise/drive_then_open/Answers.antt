use Rattle.std.proofs.Common.{subst}
use Rattle.hpb_rules.specs.ValueLaws.{IsBestChoice}
use Rattle.hpb_engine.proofs.Finding.{found_at}
use Rattle.hpb_engine.proofs.promise.drive_then_open.Goals as goal

pub returns-in-Ok-open-clause-kept : goal.returns-in-Ok-open-clause-kept
returns-in-Ok-open-clause-kept g c first stands =
    let run = c.in-Ok.ensures.survives first stands in (
      run,
      λ before point later left.
          let found = found_at run.survives before point later left in
          record {
            history = found.history;
            shows = c.in-Ok-open.ensures.shows found.history found.stands;
            begins = found.begins;
            batches = found.batches;
            true_of = found.true_of;
          },
    )

pub returns-in-Err-open-clause-kept : goal.returns-in-Err-open-clause-kept
returns-in-Err-open-clause-kept g c first stands =
    let run = c.in-Ok.ensures.survives first stands in
    (run, λ before point later left. let found = found_at run.survives before point later left in c.in-Err-open.ensures.stands found.history found.stands)

pub returns-in-Ok-open-clause-best : goal.returns-in-Ok-open-clause-best
returns-in-Ok-open-clause-best g c = subst IsBestChoice c.auction.ensures c.revenue.ensures.best
