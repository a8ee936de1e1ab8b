-- The laws of saving: an auction's value is proper, its saved form may be restored and gives it back, and conversely.
use Rattle.std.specs.Prelude.{◌≡◌, List, None}
use Rattle.hpb_rules.specs.declared.command.Command.{Command}
use Rattle.hpb_rules.specs.declared.saved.Saved.{Saved}
use Rattle.hpb_rules.specs.Tree.{Rules}
use Rattle.hpb_rules.specs.Drafts.{draft_refusal}
use Rattle.hpb_rules.specs.AuctionValue.{AuctionValue, Shows}
use Rattle.hpb_rules.specs.Values.{next_value}
use Rattle.hpb_rules.specs.ProperValues.{IsProper}
use Rattle.hpb_rules.specs.Saved.{saved_of, restored, IsSaved}

-- Under a definition that isn't refused, a value that shows a history is proper.
abbrev pub ShownIsProper : Type 0
ShownIsProper = (value : AuctionValue) (history : List Command) → draft_refusal value.rules ≡ None → Shows value history → IsProper value

-- Under a definition that isn't refused, a proper value stays so after a command, whether it shows a history or not.
abbrev pub NextIsProper : Type 0
NextIsProper = (value : AuctionValue) (command : Command) → draft_refusal value.rules ≡ None → IsProper value → IsProper (next_value value command)

-- Under a definition that isn't refused, the saved form of a proper value may be restored, and gives the value back. So
-- an auction that shows a history shows it again.
abbrev pub SavedIsRestored : Type 0
SavedIsRestored = (value : AuctionValue) → draft_refusal value.rules ≡ None → IsProper value
    → IsSaved value.rules (saved_of value) × (restored value.rules (saved_of value) ≡ value)

-- Under a definition that isn't refused, tables that may be restored give a proper value, and are its saved form. So
-- there are exactly as many such tables as there are proper values.
abbrev pub RestoredIsSaved : Type 0
RestoredIsSaved = (rules : Rules) (saved : Saved) → draft_refusal rules ≡ None → IsSaved rules saved
    → IsProper (restored rules saved) × (saved_of (restored rules saved) ≡ saved)
