-- The laws of what an image stands for.
use Rattle.std.specs.Prelude.{◌≡◌, ◌↔◌, ℕ, List, ◌++◌}
use Rattle.hpb_rules.specs.declared.command.Command.{Command}
use Rattle.hpb_rules.specs.AuctionValue.{AuctionValue, Shows}
use Rattle.hpb_rules.specs.Fronts.{joined}
use Rattle.hpb_recover.specs.declared.flaw.Flaw.{Flaw}
use Rattle.hpb_recover.specs.Standing.{Stands}
use Rattle.hpb_recover.specs.Readings.{Found, Reads, checkpoint, last_value}
use Rattle.hpb_recover.specs.Flaws.{HasFlaw}

-- An image has at most one complete reading.
abbrev pub ReadingIsOne : Type 0
ReadingIsOne = (found other : Found) (image : List ℕ) → Reads found image → Reads other image → found ≡ other

-- The list is a front that the checkpoint shows, followed by the commands of the batches behind it.
pub record IsTold (history : List Command) (found : Found) : Type 0 where
  pub before : List Command
  pub shows : Shows (checkpoint found) before
  pub cuts : history ≡ before ++ joined found.batches

-- An image stands for a list of commands exactly under these conditions. It can be read. Its checkpoint shows a front
-- of the list, and its batches are the rest.
abbrev pub StandsIsRead : Type 0
StandsIsRead = (history : List Command) (image : List ℕ) → Stands history image ↔ ((found : Found) × Reads found image × IsTold history found)

-- The value that is read in an image shows each list of commands that the image stands for.
abbrev pub ReadIsShown : Type 0
ReadIsShown = (history : List Command) (found : Found) (image : List ℕ) → Stands history image → Reads found image → Shows (last_value found) history

-- An image stands for at most one value: any two lists of commands that it stands for show the same value.
abbrev pub StandsForOne : Type 0
StandsForOne = (one other : List Command) (image : List ℕ) → Stands one image → Stands other image → (value : AuctionValue) × Shows value one × Shows value other

-- An image has at most one flaw.
abbrev pub FlawIsOne : Type 0
FlawIsOne = (flaw other : Flaw) (image : List ℕ) → HasFlaw flaw image → HasFlaw other image → flaw ≡ other

-- An image that can be read has no flaw. So an image that stands for a list of commands has none.
abbrev pub ReadIsFlawless : Type 0
ReadIsFlawless = (found : Found) (flaw : Flaw) (image : List ℕ) → Reads found image → HasFlaw flaw image → ⊥
