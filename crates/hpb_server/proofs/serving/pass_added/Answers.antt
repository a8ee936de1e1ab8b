use Rattle.std.proofs.Common.{false, [], ◌∷◌, arith}
use Rattle.hpb_server.proofs.Passing.{line_cut, sent_passes}
use Rattle.hpb_server.proofs.serving.pass_added.Goals as goal

pub returns-then-is_nearly_full : goal.returns-then-is_nearly_full
returns-then-is_nearly_full g c = λ waiting answer adds. sent_passes 1 false _ _ c.send.result (rw c.in-Ok.is at adds) c.send.ensures.bytes c.send.ensures.empty

pub returns-in-Err : goal.returns-in-Err
returns-in-Err g c = λ waiting answer adds.
    line_cut _ _ answer _ c.break_off.result (rw c.in-Err.is at adds) (c.break_off.ensures.passed 1 false (answer ∷ []) (omega arith) (λ none. absurd (cc)))
