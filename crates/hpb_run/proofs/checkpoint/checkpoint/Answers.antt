use Rattle.std.proofs.Common.{◌∙◌, inl, inr, refl}
use Rattle.hpb_disk.proofs.Runs.{leaves_at_first, leaves_join}
use Rattle.hpb_run.proofs.Checkpoints.{ended, goes_on, goes_self}
use Rattle.hpb_run.proofs.checkpoint.checkpoint.Goals as goal

pub loop-fault-preserved : goal.loop-fault-preserved
loop-fault-preserved g c =
    let told = c.in-Ok-Went.ensures in
    let so_far = c.loop-fault.invariant in
    let leads = rw (so_far.0, c.in-Ok-Went.field-0-is) at told.leads in (
      told.device.works,
      told.device.counted ∙ so_far.1,
      goes_on c.args.engine.now c.loop-fault.engine c.checkpoint_step.new.self so_far.0 so_far.2 c.loop-fault.engine.safe told.same told.device.calls c.in-Ok-Went.field-0-0 leads.0,
      λ machine keeps. let kept = so_far.3 machine keeps in (told.keeps machine kept.0, leaves_join kept.1 (told.since machine kept.0)),
    )

pub returns-in-Ok-Idle-clause-makes : goal.returns-in-Ok-Idle-clause-makes
returns-in-Ok-Idle-clause-makes g c =
    let told = c.in-Ok-Idle.ensures in
    let so_far = c.loop-fault.invariant in
    ended c.args.engine.now c.loop-fault.engine c.checkpoint_step.new.self so_far.0 so_far.2 c.loop-fault.engine.safe told.same told.device.calls (inl c.in-Ok-Idle.field-0-is) told.device.works told.leads

pub returns-in-Ok-Whole-clause-makes : goal.returns-in-Ok-Whole-clause-makes
returns-in-Ok-Whole-clause-makes g c =
    let told = c.in-Ok-Whole.ensures in
    let so_far = c.loop-fault.invariant in
    ended c.args.engine.now c.loop-fault.engine c.checkpoint_step.new.self so_far.0 so_far.2 c.loop-fault.engine.safe told.same told.device.calls (inr c.in-Ok-Whole.field-0-is) told.device.works told.leads

pub loop-fault-init : goal.loop-fault-init
loop-fault-init g c = (c.requires.works, refl, goes_self _ _, λ machine keeps. (keeps, leaves_at_first _ _ keeps.images))

pub returns-in-Ok-Idle-clause-since : goal.returns-in-Ok-Idle-clause-since
returns-in-Ok-Idle-clause-since g c machine keeps = let kept = c.loop-fault.invariant.3 machine keeps in leaves_join kept.1 (c.in-Ok-Idle.ensures.since machine kept.0)

pub returns-in-Ok-Whole-clause-since : goal.returns-in-Ok-Whole-clause-since
returns-in-Ok-Whole-clause-since g c machine keeps = let kept = c.loop-fault.invariant.3 machine keeps in leaves_join kept.1 (c.in-Ok-Whole.ensures.since machine kept.0)

pub returns-in-Err-clause-since : goal.returns-in-Err-clause-since
returns-in-Err-clause-since g c machine keeps = let kept = c.loop-fault.invariant.3 machine keeps in leaves_join kept.1 (c.in-Err.ensures.since machine kept.0)

pub returns-in-Ok-Idle-clause-keeps : goal.returns-in-Ok-Idle-clause-keeps
returns-in-Ok-Idle-clause-keeps g c machine keeps = c.in-Ok-Idle.ensures.keeps machine (c.loop-fault.invariant.3 machine keeps).0

pub returns-in-Ok-Whole-clause-keeps : goal.returns-in-Ok-Whole-clause-keeps
returns-in-Ok-Whole-clause-keeps g c machine keeps = c.in-Ok-Whole.ensures.keeps machine (c.loop-fault.invariant.3 machine keeps).0

pub returns-in-Err-clause-keeps : goal.returns-in-Err-clause-keeps
returns-in-Err-clause-keeps g c machine keeps = c.in-Err.ensures.keeps machine (c.loop-fault.invariant.3 machine keeps).0
