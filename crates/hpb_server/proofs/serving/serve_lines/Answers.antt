use Rattle.std.proofs.Common.{[]}
use Rattle.hpb_rules.specs.declared.limits.TheConstants.{MOST_READ_BYTES}
use Rattle.hpb_server.specs.Reading.{Pending}
use Rattle.hpb_server.proofs.Chunks.{never_served}
use Rattle.hpb_server.proofs.serving.serve_lines.Goals as goal

-- a session that has read nothing
nothing : Pending
nothing = record { unread = []; budget = MOST_READ_BYTES }

pub returns-in_err-input-clause-served : goal.returns-in_err-input-clause-served
unfolding nothing
returns-in_err-input-clause-served g c = λ state at.
    (state, never_served g.D.Desk.ways nothing _ _ c.from_residual.result c.from_residual.ensures.1, at)

pub returns-in_err-output-clause-served : goal.returns-in_err-output-clause-served
unfolding nothing
returns-in_err-output-clause-served g c = λ state at.
    (state, never_served g.D.Desk.ways nothing _ _ c.from_residual-in_err-output.result c.from_residual-in_err-output.ensures.1, at)
