use Rattle.std.proofs.Common.{◌≡◌, ℕ, List, ◌++◌, take}
use Rattle.std.specs.Io.KnownBytes.{Appends}
use Rattle.hpb_server.specs.Session.{replies_text}
use Rattle.hpb_server.proofs.serving.pass_replies.Given as goal

-- a front of the answers so far is written, and the rest is in the output
abbrev pub invariant-loop-reply : goal.invariant-loop-reply
invariant-loop-reply g l =
    (sent : List ℕ) × Appends (g.W.Write.contents l.fn.writer) (g.W.Write.contents l.writer) sent
    × (l.fn.output ++ replies_text (take l.reply-index l.replies) ≡ sent ++ l.output)
