-- A client's knowledge of how many commands are accepted. Source: this project's own.
use Rattle.std.specs.Prelude.{ℕ, max}
use Rattle.hpb_rules.specs.declared.letter.Answer.{Answer}
use Rattle.hpb_rules.specs.declared.reply.Reply.{Reply}
use Rattle.hpb_rules.specs.declared.reply.Reply.TheVariants as replies

-- **Mark.** The greatest number of accepted commands that a client knows of. An answer that is taken raises it to the
-- number of commands accepted before the answer and, if it accepts, to its own number.
--
-- The greatest of a mark and the number under which a reply accepts.
abbrev pub with_reply : ℕ → Reply → ℕ
with_reply mark (replies.Ok number) = max mark number
with_reply mark (replies.Refused refusal) = mark

-- The greatest of a mark, the count at which an answer was given and, if it accepts, its number.
abbrev pub greatest : ℕ → Answer → ℕ
greatest mark answered = with_reply (max mark answered.at) answered.reply
