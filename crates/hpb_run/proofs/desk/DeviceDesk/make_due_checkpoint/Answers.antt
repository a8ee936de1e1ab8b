use Rattle.hpb_run.proofs.desk.DeviceDesk.make_due_checkpoint.Goals as goal

pub returns-then-is_checkpoint_due-clause-kept : goal.returns-then-is_checkpoint_due-clause-kept
returns-then-is_checkpoint_due-clause-kept g c state at = (c.upkeep_engine.ensures.stands state at.0, at.1)

pub returns-then-is_checkpoint_due-clause-whole : goal.returns-then-is_checkpoint_due-clause-whole
returns-then-is_checkpoint_due-clause-whole g c state at between due = c.upkeep_engine.ensures.whole state at.0 between
