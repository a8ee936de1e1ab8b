-- The answers and changes of a value are those of the history that it shows.
use Rattle.std.proofs.Common.{◌≡◌, ℕ, suc, ◌+◌, ◌≤◌, true, false, List, reverse, refl, sym, ap, ◌∙◌, arith, subst}
use Rattle.std.specs.Prelude.{if◌then◌else◌}
use Rattle.std.proofs.lemmas.Bool.{eq-eqb, ne_eqb}
use Rattle.hpb_rules.specs.declared.command.Command.{Command}
use Rattle.hpb_rules.specs.declared.reply.Reply.{Reply}
use Rattle.hpb_rules.specs.declared.reply.Reply.TheVariants as replies
use Rattle.hpb_rules.specs.Answer.{answer, history_after, is_reply_new}
use Rattle.hpb_rules.specs.AuctionValue.{AuctionValue, Shows, ShowsPast}
use Rattle.hpb_rules.specs.Values.{reply_in, changed, next_value}
use Rattle.hpb_rules.proofs.RunLaws.{reply_is_answer}
use Rattle.hpb_rules.proofs.RunLaws.{next_is_shown}
use Rattle.hpb_rules.proofs.RunLaws.{reverse_history_after}
use Rattle.hpb_auction.specs.declared.verdict.Verdict.{Verdict}
use Rattle.hpb_auction.specs.declared.verdict.Verdict.TheVariants.{New, Repeat, Refused}
use Rattle.hpb_auction.specs.Verdicts.{reply_of, IfRepeat}

pub answered : (q : AuctionValue) (history : List Command) (command : Command) → Shows q history → reply_in q command ≡ answer q.rules history command
answered q history command shows = reply_is_answer q (reverse history) command shows

pub shown_after : (q : AuctionValue) (history : List Command) (command : Command) → Shows q history → Shows (next_value q command) (history_after q.rules history command)
shown_after q history command shows = subst (λ past. ShowsPast (next_value q command) past) (sym (reverse_history_after q.rules history command)) (next_is_shown q (reverse history) command shows)

pub shown_at : (q next : AuctionValue) (command : Command) → next ≡ next_value q command → (history : List Command) → Shows q history → Shows next (history_after q.rules history command)
shown_at q next command e history shows = subst (λ (v : AuctionValue). Shows v (history_after q.rules history command)) (sym e) (shown_after q history command shows)

-- a new command is answered as new, and any other isn't
pub new_told : (q : AuctionValue) (command : Command) (number : ℕ) → replies.Ok number ≡ reply_in q command → number ≡ q.count + 1 → is_reply_new q.count (reply_in q command) ≡ true
new_told q command number reply e = sym (ap (λ (r : Reply). is_reply_new q.count r) reply) ∙ eq-eqb number (suc q.count) (e ∙ omega arith)

pub old_told : (q : AuctionValue) (command : Command) (verdict : Verdict) → reply_of verdict ≡ reply_in q command → ((number : ℕ) → verdict ≡ New number → ⊥) → IfRepeat verdict (λ number. number ≤ q.count)
    → is_reply_new q.count (reply_in q command) ≡ false
old_told q command verdict reply not_new older = sym (ap (λ (r : Reply). is_reply_new q.count r) reply) ∙ by verdict not_new older
  where
    by : (verdict : Verdict) → ((number : ℕ) → verdict ≡ New number → ⊥) → IfRepeat verdict (λ number. number ≤ q.count) → is_reply_new q.count (reply_of verdict) ≡ false
    by (New number) other h = absurd (other number refl)
    by (Repeat number) other h = ne_eqb number (suc q.count) (λ e. omega (arith, e, h))
    by (Refused refusal) other h = refl

-- a new command changes the value
pub next_new : (q : AuctionValue) (command : Command) (number : ℕ) → replies.Ok number ≡ reply_in q command → number ≡ q.count + 1 → changed q command ≡ next_value q command
next_new q command number reply e = sym (ap (λ b. if b then changed q command else q) (new_told q command number reply e))

-- any other leaves the value as it is
pub next_old : (q : AuctionValue) (command : Command) (verdict : Verdict) → reply_of verdict ≡ reply_in q command → ((number : ℕ) → verdict ≡ New number → ⊥) → IfRepeat verdict (λ number. number ≤ q.count) → q ≡ next_value q command
next_old q command verdict reply not_new older = sym (ap (λ b. if b then changed q command else q) (old_told q command verdict reply not_new older))
