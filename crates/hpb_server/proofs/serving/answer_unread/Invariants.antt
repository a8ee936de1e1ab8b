use Rattle.std.proofs.Common.{◌≡◌, ◌<◌, ℕ, true, List, [], ◌++◌, take, length}
use Rattle.hpb_server.specs.declared.line.TheConstants.{KEPT_BYTES}
use Rattle.hpb_server.specs.Desk.{Moves}
use Rattle.hpb_server.specs.Reading.{HasNoEnd}
use Rattle.hpb_server.specs.Telling.{ExplainsAt}
use Rattle.hpb_server.proofs.Queues.{Queues}
use Rattle.hpb_server.proofs.serving.answer_unread.Given as goal

-- the definition stays, nothing is read, and the queue has room; no command waits once the session is over or at a
-- terminal; the session goes on. People got reasons for refused commands alone.
abbrev pub invariant-lines : goal.invariant-lines
invariant-lines g l =
    (g.D.Desk.rules l.desk ≡ g.D.Desk.rules l.initial.desk) × (l.input.budget ≡ l.initial.input.budget)
    × (length l.queue < g.D.Desk.ways.most) × (g.D.Desk.over l.desk ≡ true → l.queue ≡ []) × (l.is_terminal ≡ true → l.queue ≡ [])
    × Moves g.D.Desk.is_at l.initial.desk l.desk (λ state now. (partial : List ℕ) → HasNoEnd partial → l.initial.line ≡ take KEPT_BYTES partial
    → Queues g.D.Desk.ways (partial ++ l.initial.input.unread) state now
    (g.W.Write.contents l.initial.writer) (g.W.Write.contents l.writer) l.initial.output
    l.line l.queue l.input.unread l.output)
    × ExplainsAt l.is_terminal (g.E.Write.contents l.initial.errors) (g.E.Write.contents l.errors)

abbrev pub decreases-lines : goal.decreases-lines
decreases-lines g l = length l.input.unread
