use Rattle.std.proofs.Common.{◌≡◌}
use Rattle.hpb_server.specs.Desk.{Moves}
use Rattle.hpb_server.specs.Streams.{streams}
use Rattle.hpb_server.specs.Telling.{ExplainsAt}
use Rattle.hpb_server.proofs.Chunks.{Comes}
use Rattle.hpb_server.proofs.serving.answer_lines.Given as goal

-- the definition stays, the session has come this far, and people got reasons for refused commands alone
abbrev pub invariant-chunks : goal.invariant-chunks
invariant-chunks g l =
    (g.D.Desk.rules l.desk ≡ g.D.Desk.rules l.initial.desk)
    × Moves g.D.Desk.is_at l.initial.desk l.desk (λ state now. Comes g.D.Desk.ways l.initial.input (streams (g.R.Read.remaining l.initial.reader) (g.W.Write.contents l.initial.writer)) state
    (streams (g.R.Read.remaining l.reader) (g.W.Write.contents l.writer)) now l.input l.line l.output)
    × ExplainsAt l.is_terminal (g.E.Write.contents l.initial.errors) (g.E.Write.contents l.errors)

abbrev pub decreases-chunks : goal.decreases-chunks
decreases-chunks g l = l.input.budget
