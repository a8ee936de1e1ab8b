use Rattle.std.proofs.Common.{◌≡◌, ◌≤◌, length, map, take}
use Rattle.hpb_rules.specs.declared.limits.TheConstants.{MOST_LETTERS}
use Rattle.hpb_run.specs.Standing.{reply_of}
use Rattle.hpb_run.proofs.replies.replies_of.Given as goal

abbrev pub invariant-loop-answered : goal.invariant-loop-answered
invariant-loop-answered l = length l.fn.answers ≤ MOST_LETTERS → l.replies ≡ map reply_of (take l.answered-index l.fn.answers)
