-- The round counts the rounds that were held open, and the stage counts the stage commands.
use Rattle.std.proofs.Common.{◌≡◌, ℕ, suc, ◌+◌, ◌-◌, ◌≤◌, Bool, true, false, cond, not, ◌||◌, List, [], ◌∷◌, ◌++◌, reverse, Some, length, get_or, refl, sym, ap, ◌∙◌, arith}
use Rattle.std.specs.Prelude.{All}
use Rattle.std.specs.List.{list_any, count_by}
use Rattle.std.proofs.lemmas.Bool.{both_ways}
use Rattle.std.proofs.lemmas.List.Sums.{sum_by-cons}
use Rattle.std.proofs.lemmas.List.Sorted.{IsPermutation-reverse, sum_by-IsPermutation}
use Rattle.std.proofs.lemmas.Option.{slice_get-get_or}
use Rattle.hpb_rules.specs.declared.command.Command.{Command}
use Rattle.hpb_rules.specs.declared.command.Command.TheVariants.{Bid, Close, Stage, Waive}
use Rattle.hpb_rules.specs.History
use Rattle.hpb_rules.specs.CountLaws.{ClosedRound, written, HasNoClose, HasRounds, was_held_open, RoundIsCount, ClosesAreCounted, StageIsCount}
use Rattle.hpb_rules.proofs.Lists.{all_cons}
use Rattle.hpb_rules.proofs.NewCommands.{accepted_new}
use Rattle.hpb_rules.proofs.Percentages.{stage_is, has_stage}

-- ---- the first of a list and the others
all_first : {A : Type 0} (P : A → Type 0) (x : A) (xs : List A) → All P (x ∷ xs) → P x
all_first P x xs all = all 0 x (omega arith)

all_others : {A : Type 0} (P : A → Type 0) (x : A) (xs : List A) → All P (x ∷ xs) → All P xs
all_others P x xs all k d h = all (suc k) d (omega arith)

abbrev GoesOn : Command → Type 0
GoesOn command = History.is_close command ≡ false

abbrev IsEnded : ClosedRound → Type 0
IsEnded one = HasNoClose one.commands

-- ---- the rounds of a past
-- the commands in front of closed rounds are the open round
open_is : (open_part : List Command) (closed : List ClosedRound) → HasNoClose open_part → History.open_round (open_part ++ written closed) ≡ open_part
open_is [] [] none = refl
open_is [] (one ∷ closed) none = refl
open_is (Bid from ticket node amount ∷ rest) closed none = ap (λ commands. Bid from ticket node amount ∷ commands) (open_is rest closed (all_others GoesOn _ rest none))
open_is (Close ticket ∷ rest) closed none = absurd (both_ways _ (all_first GoesOn _ rest none) refl)
open_is (Stage ticket ∷ rest) closed none = ap (λ commands. Stage ticket ∷ commands) (open_is rest closed (all_others GoesOn _ rest none))
open_is (Waive from ticket ∷ rest) closed none = ap (λ commands. Waive from ticket ∷ commands) (open_is rest closed (all_others GoesOn _ rest none))

-- commands accepted in a round don't change its number
round_stays : (open_part : List Command) (older : List Command) → HasNoClose open_part → History.round (open_part ++ older) ≡ History.round older
round_stays [] older none = refl
round_stays (Bid from ticket node amount ∷ rest) older none = round_stays rest older (all_others GoesOn _ rest none)
round_stays (Close ticket ∷ rest) older none = absurd (both_ways _ (all_first GoesOn _ rest none) refl)
round_stays (Stage ticket ∷ rest) older none = round_stays rest older (all_others GoesOn _ rest none)
round_stays (Waive from ticket ∷ rest) older none = round_stays rest older (all_others GoesOn _ rest none)

round_counts : (closed : List ClosedRound) → All IsEnded closed → History.round (written closed) ≡ suc (count_by was_held_open closed)
round_counts [] ended = refl
round_counts (one ∷ closed) ended =
    let none : HasNoClose one.commands = all_first IsEnded one closed ended in
    let opens : List Command → ℕ = λ commands. cond (list_any History.holds_open commands) 1 0 in
    let held : opens (History.open_round (one.commands ++ written closed)) ≡ opens one.commands = ap opens (open_is one.commands closed none) in
    omega (
      arith,
      held,
      round_stays one.commands (written closed) none,
      round_counts closed (all_others IsEnded one closed ended),
      sum_by-cons (λ round. cond (was_held_open round) 1 0) one closed,
    )

abbrev SomeRounds : List Command → Type 0
SomeRounds past = (open_part : List Command) × (closed : List ClosedRound) × HasRounds past open_part closed

newer_rounds : (command : Command) (past : List Command) → History.is_close command ≡ false → SomeRounds past → SomeRounds (command ∷ past)
newer_rounds command past goes_on rounds = (
  command ∷ rounds.0,
  rounds.1,
  record {
    goes_on = all_cons GoesOn command rounds.0 goes_on rounds.2.goes_on;
    ended = rounds.2.ended;
    whole = ap (λ commands. command ∷ commands) rounds.2.whole;
  },
)

closed_rounds : (ticket : ℕ) (past : List Command) → SomeRounds past → SomeRounds (Close ticket ∷ past)
closed_rounds ticket past rounds =
    let one : ClosedRound = record { commands = rounds.0; close = ticket } in (
      [],
      one ∷ rounds.1,
      record {
        goes_on = λ k d h. absurd (omega arith);
        ended = all_cons IsEnded one rounds.1 rounds.2.goes_on rounds.2.ended;
        whole = ap (λ commands. Close ticket ∷ commands) rounds.2.whole;
      },
    )

some_rounds : (past : List Command) → SomeRounds past
some_rounds [] = ([], [], record { goes_on = λ k d h. absurd (omega arith); ended = λ k d h. absurd (omega arith); whole = refl })
some_rounds (Bid from ticket node amount ∷ past) = newer_rounds (Bid from ticket node amount) past refl (some_rounds past)
some_rounds (Close ticket ∷ past) = closed_rounds ticket past (some_rounds past)
some_rounds (Stage ticket ∷ past) = newer_rounds (Stage ticket) past refl (some_rounds past)
some_rounds (Waive from ticket ∷ past) = newer_rounds (Waive from ticket) past refl (some_rounds past)

pub round_is_count : RoundIsCount
round_is_count past = (
  some_rounds past,
  λ open_part closed rounds. ap History.round rounds.whole ∙ round_stays open_part (written closed) rounds.goes_on ∙ round_counts closed rounds.ended,
)

-- ---- closes
close_more : (newest : Command) (past : List Command) → count_by History.is_close (newest ∷ past) ≡ cond (History.is_close newest) 1 0 + count_by History.is_close past
close_more newest past = sum_by-cons (λ command. cond (History.is_close command) 1 0) newest past

-- a close while the auction goes on opens a round, or ends the auction
opens_or_ends : (held over : Bool) (round count : ℕ) → over ≡ false → round + cond over 1 0 ≡ suc count
    → (cond held 1 0 + round) + cond (not held || over) 1 0 ≡ suc (suc count)
opens_or_ends true true round count e f = absurd (both_ways _ e refl)
opens_or_ends true false round count e f = omega (arith, f)
opens_or_ends false true round count e f = absurd (both_ways _ e refl)
opens_or_ends false false round count e f = omega (arith, f)

pub closes_are_counted : ClosesAreCounted
closes_are_counted rules [] is = refl
closes_are_counted rules (Bid from ticket node amount ∷ past) is = omega (arith, closes_are_counted rules past is.1, close_more (Bid from ticket node amount) past)
closes_are_counted rules (Close ticket ∷ past) is =
    omega (
      arith,
      opens_or_ends
          (list_any History.holds_open (History.open_round past)) (History.is_over past) (History.round past) (count_by History.is_close past)
          (accepted_new rules past (Close ticket) is.0).goes_on (closes_are_counted rules past is.1),
      close_more (Close ticket) past,
    )
closes_are_counted rules (Stage ticket ∷ past) is = omega (arith, closes_are_counted rules past is.1, close_more (Stage ticket) past)
closes_are_counted rules (Waive from ticket ∷ past) is = omega (arith, closes_are_counted rules past is.1, close_more (Waive from ticket) past)

-- ---- stages
pub stage_is_count : StageIsCount
stage_is_count rules history accepted is =
    let turned : count_by History.is_stage (reverse history) ≡ count_by History.is_stage history
    = sum_by-IsPermutation (λ command. cond (History.is_stage command) 1 0) history (reverse history) (IsPermutation-reverse history) in
    let most : History.stage (reverse history) ≤ length rules.stages = stage_is rules (has_stage rules accepted) (reverse history) is in
    let place : History.stage (reverse history) - 1 ≡ count_by History.is_stage history = omega (arith, turned) in
    record {
      stage = ap suc turned;
      most = most;
      percentage =
          slice_get-get_or rules.stages (count_by History.is_stage history) 0 (omega (arith, turned, most))
          ∙ ap (λ at. Some (get_or rules.stages at 0)) (sym place);
    }
