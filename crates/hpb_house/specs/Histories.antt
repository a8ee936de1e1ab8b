-- The history that a viewer shows.
-- Source: this project's own.
use Rattle.std.specs.Prelude.{List}
use Rattle.hpb_rules.specs.declared.command.Command.{Command}
use Rattle.hpb_rules.specs.Letters.{new_commands}
use Rattle.hpb_rules.specs.Judging.{judged_in}
use Rattle.hpb_rules.specs.declared.letter.Letter.{Letter}
use Rattle.hpb_rules.specs.AuctionValue.{AuctionValue}
use Rattle.hpb_board.specs.Publication.{Viewing}
use Rattle.hpb_rules.specs.Fronts.{joined}

-- **The history that a viewer shows.** It is the commands that are newly accepted in the viewer's list, so those after
-- the opened auction.
--
-- The commands that the letters of these batches newly accept after the opened auction.
abbrev pub history_in : AuctionValue → List (List Letter) → List Command
history_in opened list = new_commands (judged_in opened (joined list))

-- The commands that the letters entered by a viewer newly accept after the opened auction.
abbrev pub history_of : Viewing → List Command
history_of viewing = history_in viewing.opened viewing.list
