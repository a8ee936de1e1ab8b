-- The replies to commands that are committed together.
use Rattle.std.proofs.Common.{◌≡◌, inl, inr, ℕ, suc, ◌<◌, ◌≤◌, List, [], ◌∷◌, ◌++◌, length, map, reverse, refl, sym, ◌∙◌, ap, arith}
use Rattle.std.proofs.lemmas.List.{reverse-reverse}
use Rattle.hpb_rules.specs.declared.command.Command.{Command}
use Rattle.hpb_rules.specs.declared.letter.Letter.{Letter}
use Rattle.hpb_rules.specs.declared.limits.TheConstants.{MOST_LETTERS}
use Rattle.hpb_rules.specs.declared.refusal.Refusal.{Refusal}
use Rattle.hpb_rules.specs.declared.refusal.Refusal.TheVariants as refusals
use Rattle.hpb_rules.specs.declared.reply.Reply.TheVariants as replies
use Rattle.hpb_rules.specs.Answer.{after, answer_after, history_after, past_from, replies_from}
use Rattle.hpb_rules.specs.LetterLaws.{JudgedIsAnswered}
use Rattle.hpb_rules.specs.Letters.{judged, new_commands}
use Rattle.hpb_rules.specs.Tree.{Rules}
use Rattle.hpb_server.specs.Desk.{AsksAll}
use Rattle.hpb_run.specs.Device.{RepliesAt, State, device_ways, failed, failing, left_of, works}
use Rattle.hpb_run.specs.Standing.{letter_of, refused, reply_of}

-- The letters of commands have these commands, and are as many.
commands_of_letters : (commands : List Command) → map (λ (letter : Letter). letter.command) (map letter_of commands) ≡ commands
commands_of_letters [] = refl
commands_of_letters (command ∷ commands) = ap (λ (l : List Command). command ∷ l) (commands_of_letters commands)

letters_counted : (commands : List Command) → length (map letter_of commands) ≡ length commands
letters_counted [] = refl
letters_counted (command ∷ commands) = ap suc (letters_counted commands)

answers_counted : (rules : Rules) (history : List Command) (letters : List Letter) → length (judged rules history letters) ≡ length letters
answers_counted rules history [] = refl
answers_counted rules history (letter ∷ letters) = ap suc (answers_counted rules (history_after rules history letter.command) letters)

-- Letters of commands, judged.
module _ (law : JudgedIsAnswered) (rules : Rules) (history : List Command) (commands : List Command) (letters : List Letter) (are : letters ≡ map letter_of commands) where
  asked : map (λ (letter : Letter). letter.command) letters ≡ commands
  asked = ap (λ (l : List Letter). map (λ (letter : Letter). letter.command) l) are ∙ commands_of_letters commands

  pub judged_counted : length (judged rules history letters) ≡ length commands
  judged_counted = answers_counted rules history letters ∙ ap length are ∙ letters_counted commands

  pub judged_replies : map reply_of (judged rules history letters) ≡ replies_from rules (reverse history) commands
  judged_replies = (law rules history letters).0 ∙ ap (replies_from rules (reverse history)) asked

  pub judged_history : history ++ new_commands (judged rules history letters) ≡ reverse (past_from rules (reverse history) commands)
  judged_history =
      sym (reverse-reverse (history ++ new_commands (judged rules history letters)))
      ∙ ap reverse ((law rules history letters).1 ∙ ap (past_from rules (reverse history)) asked)

-- The state after commands that were all answered by the rules.
abbrev pub answered_state : State → (past : List Command) → List Command → State
answered_state state past commands = record state { history = reverse (past_from state.rules past commands) }

-- All are answered by the rules.
pub all_by_rules : (state : State) (past commands : List Command) → state.phase ≡ works → reverse state.history ≡ past
    → AsksAll device_ways state commands (replies_from state.rules past commands) (answered_state state past commands)
all_by_rules state past [] at_work is =
    (ap (λ (history : List Command). record state { history = history }) (ap reverse (sym is) ∙ reverse-reverse state.history), refl)
all_by_rules state past (command ∷ commands) at_work is =
    let next : State = record state { history = history_after state.rules state.history command } in
    let later : List Command = after state.rules past command in
    let next_past : reverse next.history ≡ later = reverse-reverse (after state.rules (reverse state.history) command) ∙ ap (λ (p : List Command). after state.rules p command) is in
    inr (
      refl,
      answer_after state.rules past command,
      replies_from state.rules later commands,
      next,
      inl (at_work, ap (λ (p : List Command). answer_after state.rules p command) (sym is), refl),
      all_by_rules next later commands at_work next_past,
      refl,
    )

-- One is refused, and then all behind it.
refused_more : (state next last : State) (command : Command) (commands : List Command) (refusal : Refusal) → RepliesAt state command (replies.Refused refusal) next
    → AsksAll device_ways next commands (refused (length commands) refusal) last → AsksAll device_ways state (command ∷ commands) (refused (suc (length commands)) refusal) last
refused_more state next last command commands refusal one rest = inr (refl, replies.Refused refusal, refused (length commands) refusal, next, one, rest, refl)

-- All are refused by 93, from the first 93 on.
all_failed : (state : State) (commands : List Command)
    → AsksAll device_ways (record state { phase = failed }) commands (refused (length commands) refusals.Failed) (record state { phase = failed })
all_failed state [] = (refl, refl)
all_failed state (command ∷ commands) =
    let next : State = record state { phase = failed } in refused_more next next next command commands refusals.Failed (inr (inr (refl, refl, refl))) (all_failed state commands)

pub some_failed : (state : State) (commands : List Command) → 0 < length commands → left_of state.phase ≡ 0
    → AsksAll device_ways state commands (refused (length commands) refusals.Failed) (record state { phase = failed })
some_failed state [] some none = absurd (omega (arith, some))
some_failed state (command ∷ commands) some none =
    let next : State = record state { phase = failed } in refused_more state next next command commands refusals.Failed (inr (inr (none, refl, refl))) (all_failed state commands)

-- All are refused by 91, from the first 91 on, as many as are left.
abbrev failing_at : State → ℕ → State
failing_at state left = record state { phase = failing left }

all_failing : (state : State) (commands : List Command)
    → AsksAll device_ways (failing_at state (length commands)) commands (refused (length commands) refusals.Device) (failing_at state 0)
all_failing state [] = (refl, refl)
all_failing state (command ∷ commands) =
    let left : ℕ = length commands in
    refused_more (failing_at state (suc left)) (failing_at state left) (failing_at state 0) command commands refusals.Device (inr (inl (left, inr refl, refl, refl))) (all_failing state commands)

pub some_failing : (state : State) (commands : List Command) → state.phase ≡ works → 0 < length commands → length commands ≤ MOST_LETTERS
    → AsksAll device_ways state commands (refused (length commands) refusals.Device) (record state { phase = failing 0 })
some_failing state [] at_work some most = absurd (omega (arith, some))
some_failing state (command ∷ commands) at_work some most =
    let left : ℕ = length commands in
    refused_more state (failing_at state left) (failing_at state 0) command commands refusals.Device (inr (inl (left, inl (at_work, omega (arith, most)), refl, refl))) (all_failing state commands)
