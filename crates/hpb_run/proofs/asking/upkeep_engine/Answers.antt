use Rattle.std.proofs.Common.{inl}
use Rattle.hpb_run.proofs.Standings.{covered_by, keeps_rest, rested}
use Rattle.hpb_run.proofs.asking.upkeep_engine.Goals as goal

pub returns-then-engine-clause-whole : goal.returns-then-engine-clause-whole
returns-then-engine-clause-whole g c state stands between = inl c.if-engine.true

pub returns-clause-whole : goal.returns-clause-whole
returns-clause-whole g c state stands between =
    let old = c.args.engine.now in
    let on = c.if-engine.false in
    let made = (c.make_checkpoint.ensures.made state.history (keeps_rest old state stands on)).1 in
    covered_by old c.make_checkpoint.new.engine c.make_checkpoint.result (made.whole between on) made.fails

pub returns-clause-stands : goal.returns-clause-stands
returns-clause-stands g c state stands =
    let old = c.args.engine.now in
    let on = c.if-engine.false in
    let came = c.make_checkpoint.ensures.made state.history (keeps_rest old state stands on) in
    rested old state stands on c.make_checkpoint.new.engine c.make_checkpoint.result came.0 came.1 c.make_checkpoint.ensures.cause
