use Rattle.hpb_program.proofs.stack.+touch_stack.Given as goal

-- the steps that are left
abbrev pub decreases-touch_stack : goal.decreases-touch_stack
decreases-touch_stack l = l.steps
