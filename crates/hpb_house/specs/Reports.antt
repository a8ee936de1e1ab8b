-- The facts that the reports of all clients show together.
-- Source: this project's own.
use Rattle.std.specs.Prelude.{◌≡◌, ℕ, ◌+◌, ◌-◌, ◌^◌, ◌<◌, ◌≢◌, Bool, List, [], ◌∷◌, ◌++◌, All, IsPermutation, flat_map, map, min, take, length, AllPairs, slice_index_or}
use mathlib.Core.List.{IsPrefix}
use Rattle.logbook.specs.Pages.{Book}
use Rattle.rtrb.specs.Ring.{sent}
use Rattle.hpb_rules.specs.declared.command.Command.{Command}
use Rattle.hpb_rules.specs.declared.letter.Letter.{Letter}
use Rattle.hpb_rules.specs.AuctionValue.{AuctionValue, Shows}
use Rattle.hpb_rules.specs.Letters.{new_commands}
use Rattle.hpb_board.specs.Publication.{answers_of, auction_of}
use Rattle.hpb_rings.specs.declared.slip.Slip.{Slip}
use Rattle.hpb_rings.specs.declared.report.Report.{Report}
use Rattle.hpb_house.specs.Histories.{history_in, history_of}
use Rattle.hpb_house.specs.declared.comparing.Counts.{Counts}

-- **What a report says.** A client that has finished leaves a report. A last view may make its list longer. It changes
-- neither the letters sent, nor how many answers were taken and how many of them newly accepted a command.
--
-- The parts of a report that a last view doesn't change. They are its seat, the letters sent, how many answers were
-- taken, how many of them newly accepted a command, and whether a halt came.
pub record Said : Type 0 where
  pub seat : ℕ
  pub sent : List Slip
  pub taken : ℕ
  pub accepted : ℕ
  pub is_halted : Bool

-- These parts of a report.
abbrev pub said : Report → Said
said r = record { seat = r.seat; sent = sent r.letters; taken = r.taken; accepted = r.accepted; is_halted = r.is_halted }

-- How many of the answers taken newly accepted a command, by all reports.
abbrev pub total : List Report → ℕ
total [] = 0
total (r ∷ rs) = r.accepted + total rs

-- The book of the trail that a report's viewer follows.
abbrev pub book_of : Report → Book
book_of r = r.viewer.book

-- The auction that was opened, by a report.
abbrev pub opened_of : Report → AuctionValue
opened_of r = r.viewer.opened

-- The commands that the answers taken by a client newly accepted, in order.
abbrev pub accepted_by : Report → List Command
accepted_by r = new_commands (take r.taken (answers_of r.seat r.viewer))

-- No two reports are of one seat.
abbrev pub AreApart : List Report → Type 0
AreApart reports = AllPairs (λ r s. r.seat ≢ s.seat) reports

-- Each report's list of batches begins with its earlier one.
abbrev pub OnlyGrew : List Report → List Report → Type 0
OnlyGrew before after = (place : ℕ) (d : Report) → place < length before → IsPrefix (slice_index_or before place d).viewer.list (slice_index_or after place d).viewer.list

-- The changes that a last view of each report makes.
pub record Viewed (before after : List Report) : Type 0 where
  -- The parts that a last view doesn't change are the same.
  pub said : map said after ≡ map said before
  -- Each is of the same publisher,
  pub book : map book_of after ≡ map book_of before
  -- from the same auction on.
  pub opened : map opened_of after ≡ map opened_of before
  -- Each list that was seen begins the list that is seen now.
  pub later : OnlyGrew before after

-- The answers newly accepted are the commands of a history, each once.
pub record TakenOnce (reports : List Report) : Type 0 where
  -- Each client took all such answers of its seat.
  pub taken : All (λ r. accepted_by r ≡ new_commands (answers_of r.seat r.viewer)) reports
  -- Their commands are those of the history.
  pub once : All (λ r. IsPermutation (flat_map accepted_by reports) (history_of r.viewer)) reports

-- The reports agree with a committed auction, to which this list leads from the opened one.
pub record Agree (opened committed : AuctionValue) (list : List (List Letter)) (reports : List Report) : Type 0 where
  -- All show the committed auction.
  pub shown : All (λ r. auction_of r.viewer ≡ committed) reports
  -- All have one history,
  pub history : All (λ r. All (λ s. history_of r.viewer ≡ history_of s.viewer) reports) reports
  -- which is that of the list,
  pub whole : All (λ r. history_of r.viewer ≡ history_in opened list) reports
  -- and goes on from the opened auction.
  pub continued : (front : List Command) → Shows opened front → All (λ r. Shows committed (front ++ history_of r.viewer)) reports
  -- There are as many answers newly accepted as the history has commands,
  pub counted : All (λ r. total reports ≡ length (history_of r.viewer)) reports
  -- as the list has,
  pub summed : total reports ≡ length (history_in opened list)
  -- and as were committed since the opening.
  pub numbers : total reports ≡ committed.count - opened.count
  -- If no two are of one seat, these answers are its commands, each once.
  pub once : AreApart reports → TakenOnce reports

-- The two numbers about reports that an error names.
pub record AreCounts (opened auction : AuctionValue) (list : List (List Letter)) (reports : List Report) (counts : Counts) : Type 0 where
  -- How many of the answers taken newly accepted a command, up to a greatest number.
  pub accepted : counts.accepted ≡ min (total reports) (2 ^ 64 - 1)
  -- How many commands were committed since the opening,
  pub committed : counts.committed ≡ auction.count - opened.count
  -- which are those of the list.
  pub since : counts.committed ≡ length (history_in opened list)
