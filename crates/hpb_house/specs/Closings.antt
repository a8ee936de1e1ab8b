-- The remains of a closed house.
-- Source: this project's own.
use Rattle.std.specs.Prelude.{◌≡◌, ◌≢◌, ◌⊎◌, ℕ, false, List, [], ◌∷◌, ◌++◌, All, Option, Some, None}
use mathlib.Core.List.{IsPrefix}
use Rattle.hpb_rules.specs.declared.command.Command.{Command}
use Rattle.hpb_rules.specs.declared.letter.Answer.{Answer}
use Rattle.hpb_rules.specs.declared.letter.Letter.{Letter}
use Rattle.hpb_rules.specs.AuctionValue.{AuctionValue, Shows}
use Rattle.hpb_rules.specs.Letters.{new_commands}
use Rattle.hpb_disk.specs.Device.{Device}
use Rattle.hpb_recover.specs.Standing.{Stands}
use Rattle.hpb_rules.specs.Judging.{judged_in, value_by, letters_of}
use Rattle.hpb_rules.specs.Fronts.{joined}
use Rattle.hpb_rings.specs.declared.report.Report.{Report}
use Rattle.hpb_board.specs.Publication.{auction_of}
use Rattle.hpb_house.specs.Histories.{history_in}
use Rattle.hpb_house.specs.Keepers.{IsTold}
use Rattle.hpb_house.specs.Reports.{Agree, AreCounts, TakenOnce}
use Rattle.hpb_house.specs.declared.closing.CloseFault.{CloseFault}
use Rattle.hpb_house.specs.declared.closing.Closing.{Closing}

-- **What a closed house leaves.** Take any history for which the device stood when it was opened. The closed device
-- keeps that history and then some commands, which the committed auction shows. The bytes that a read gives now, and
-- those that a crash may leave, stand for these, perhaps with those in flight after them.
--
-- The commands are those of the published list, which is handed back, and so is the batch in flight. A second list
-- begins with the published one and then that batch, and has all batches that each report has entered. So no other
-- commands can take their place.
--
-- If a house closes without a fault, the commands are the history of each report too. They are as many as the answers
-- taken that newly accepted a command. Nothing was in flight if no call of the device has failed.
--
-- The image stands for this history, or for it and then these commands.
abbrev pub StandsWith : (history more : List Command) → List ℕ → Type 0
StandsWith history more image = Stands history image ⊎ Stands (history ++ more) image

-- A device that was opened with these bytes, now closed, keeps each history for which they stood, and then these
-- commands (`since`). The auction shows both, one after the other. The bytes that a read gives now, and those that a
-- crash may leave, stand for the same, perhaps with the commands in flight after them.
pub record Leaves (image : List ℕ) (closed : Device) (auction : AuctionValue) (since more : List Command) : Type 0 where
  pub shows : (history : List Command) → Stands history image → Shows auction (history ++ since)
  pub reads : (history : List Command) → Stands history image → StandsWith (history ++ since) more closed.seen
  pub images : (history : List Command) → Stands history image → (left : List ℕ) → closed.may_leave left → StandsWith (history ++ since) more left

-- A batch in flight is one more batch on the list; it has the letters of these answers.
abbrev pub batch_of : Option (List Answer) → List (List Letter)
batch_of None = []
batch_of (Some answers) = letters_of answers ∷ []

-- The commands that are newly accepted by a batch in flight.
abbrev pub commands_of : Option (List Answer) → List Command
commands_of None = []
commands_of (Some answers) = new_commands answers

-- The lists that a house hands back, beside an auction. The published list leads to that auction. The batch in flight
-- was judged by the auction, and is the next on the list. One list begins with the published one and then that batch,
-- and has all batches that each report has entered.
pub record IsListed {D : Type 0} (opened : AuctionValue) (left : Closing D) (reports : List Report) : Type 0 where
  pub leads : left.auction ≡ value_by opened (joined left.published.log)
  pub judged : (answers : List Answer) → left.in_flight ≡ Some answers → answers ≡ judged_in left.auction (letters_of answers)
  pub book : left.published.book ≡ left.whole.book
  pub begins : IsPrefix (left.published.log ++ batch_of left.in_flight) left.whole.log
  pub followed : All (λ r. r.viewer.book ≡ left.whole.book) reports
  pub entered : All (λ r. IsPrefix r.viewer.list left.whole.log) reports

-- The values that a house hands back, however it is closed. Its device was opened as this one, with this auction.
pub record GivesBack {D : Type 0} (device : D → Device) (opened : Device) (before : AuctionValue) (left : Closing D) (reports : List Report) : Type 0 where
  -- The device keeps each history for which it stood when it was opened, and then the commands of the published list.
  -- It may keep those of the batch in flight besides, and nothing else.
  pub leaves : Leaves opened.seen (device left.disk) left.auction (history_in before left.published.log) (commands_of left.in_flight)
  -- That list, the batch in flight, and all batches that each report has entered are on one list.
  pub listed : IsListed before left reports
  -- `has_failed` says whether a call of the device has failed since the device was opened.
  pub told : IsTold left.has_failed opened (device left.disk)

-- The facts if a house closes without a fault. With no report, the device keeps the history of its opening.
pub record Closed {D : Type 0} (device : D → Device) (opened : Device) (before : AuctionValue) (closing : Closing D) (reports : List Report) : Type 0 where
  -- All reports show the committed auction, and have one history, that of the published list.
  pub agree : Agree before closing.auction closing.published.log reports
  -- The answers newly accepted are its commands, each once.
  pub once : TakenOnce reports
  -- Nothing is in flight, unless a call of the device has failed.
  pub rest : closing.has_failed ≡ false → closing.in_flight ≡ None
  -- The device keeps the history that the reports show, and perhaps the batch in flight.
  pub back : GivesBack device opened before closing reports

-- The facts if a close is refused with 96.
pub record Unsettled {D : Type 0} (device : D → Device) (opened : Device) (before : AuctionValue) (fault : CloseFault D) (reports : List Report) : Type 0 where
  -- The two numbers in the error are those of the reports and of the published list.
  pub counts : AreCounts before fault.left.auction fault.left.published.log reports fault.counts
  -- With nothing in flight, and each report of the committed auction, they differ.
  pub only : (fault.left.has_failed ≡ false → fault.left.in_flight ≡ None) → All (λ r. auction_of r.viewer ≡ fault.left.auction) reports → fault.counts.accepted ≢ fault.counts.committed
  -- The device keeps the committed commands, and perhaps the batch in flight.
  pub back : GivesBack device opened before fault.left reports
