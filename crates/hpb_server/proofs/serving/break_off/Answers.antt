use Rattle.std.proofs.Common.{refl}
use Rattle.std.specs.Prelude.{Err}
use Rattle.hpb_server.specs.Fault.{lines_of}
use Rattle.hpb_server.proofs.Passing.{front_passes, lines_refused}
use Rattle.hpb_server.proofs.serving.break_off.Goals as goal

pub returns-in_err-send-clause-passed : goal.returns-in_err-send-clause-passed
returns-in_err-send-clause-passed g c = λ most takes_memory answers few some.
    front_passes most takes_memory _ _ (lines_of answers) c.send.new.self c.in_err-send.field-0.0 c.from_residual.result c.from_residual.ensures.1 refl c.in_err-send.ensures.bytes

pub returns-clause-passed : goal.returns-clause-passed
returns-clause-passed g c = λ most takes_memory answers few some.
    lines_refused most takes_memory _ _ answers c.send.new.self (Err c.into.result) c.into.ensures few some refl c.in_ok-send.ensures.bytes
