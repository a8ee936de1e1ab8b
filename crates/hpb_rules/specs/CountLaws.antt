-- The laws of rounds and stages as counts.
use Rattle.std.specs.Prelude.{◌≡◌, ℕ, suc, ◌+◌, ◌≤◌, Bool, false, cond, List, [], ◌∷◌, ◌++◌, reverse, Some, None, length, slice_get, All}
use Rattle.std.specs.List.{list_any, count_by}
use Rattle.hpb_rules.specs.declared.command.Command.{Command}
use Rattle.hpb_rules.specs.declared.command.Command.TheVariants.{Close}
use Rattle.hpb_rules.specs.Tree.{Rules}
use Rattle.hpb_rules.specs.Drafts.{draft_refusal}
use Rattle.hpb_rules.specs.History
use Rattle.hpb_rules.specs.Answer.{IsPast, IsHistory}

-- **Rounds one by one.** A past is its open round, followed by each closed round with the close that ended it in front.
--
-- A closed round: the commands accepted in it, the newest first, and the ticket of the close that ended it.
pub record ClosedRound : Type 0 where
  pub commands : List Command
  pub close : ℕ

-- Closed rounds as they stand in a past: in front of the commands of each stands the close that ended it, which is
-- newer.
abbrev pub written : List ClosedRound → List Command
written [] = []
written (one ∷ closed) = Close one.close ∷ one.commands ++ written closed

-- None of some commands closes a round.
abbrev pub HasNoClose : List Command → Type 0
HasNoClose commands = All (λ command. History.is_close command ≡ false) commands

-- A past has these rounds: it is the open round and then each closed round with its close, and no round contains a
-- close.
pub record HasRounds (past open_part : List Command) (closed : List ClosedRound) : Type 0 where
  pub goes_on : HasNoClose open_part
  pub ended : All (λ (one : ClosedRound). HasNoClose one.commands) closed
  pub whole : past ≡ open_part ++ written closed

-- Whether somebody bid or waived in a closed round.
abbrev pub was_held_open : ClosedRound → Bool
was_held_open one = list_any History.holds_open one.commands

-- Each past has rounds, and its round is one more than the number of closed rounds in which somebody bid or waived.
abbrev pub RoundIsCount : Type 0
RoundIsCount = (past : List Command)
    → ((open_part : List Command) × (closed : List ClosedRound) × HasRounds past open_part closed)
    × ((open_part : List Command) (closed : List ClosedRound) → HasRounds past open_part closed → History.round past ≡ suc (count_by was_held_open closed))

-- Each accepted close opens a round, except the one that ends the auction. So the round is one more than the number of
-- closes, less that one.
abbrev pub ClosesAreCounted : Type 0
ClosesAreCounted = (rules : Rules) (past : List Command) → IsPast rules past
    → History.round past + cond (History.is_over past) 1 0 ≡ suc (count_by History.is_close past)

-- After a history the stage is one more than the number of its stage commands. It is one of the definition's stages, and its percentage is in force.
pub record IsStageCount (rules : Rules) (history : List Command) : Type 0 where
  pub stage : History.stage (reverse history) ≡ suc (count_by History.is_stage history)
  pub most : History.stage (reverse history) ≤ length rules.stages
  pub percentage : slice_get rules.stages (count_by History.is_stage history) ≡ Some (History.percentage rules (reverse history))

-- The stage counts the stage commands, in each history of a definition that isn't refused.
abbrev pub StageIsCount : Type 0
StageIsCount = (rules : Rules) (history : List Command) → draft_refusal rules ≡ None → IsHistory rules history → IsStageCount rules history
