-- Letters that came and must get to the list.
-- Source: this project's own.
use Rattle.std.specs.Prelude.{◌≡◌, ℕ, List, ◌++◌}
use Rattle.hpb_rules.specs.declared.command.Command.{Command}
use Rattle.hpb_rules.specs.declared.letter.Letter.{Letter}
use Rattle.hpb_rules.specs.Fronts.{joined}
use Rattle.hpb_rings.specs.Gathering.{at_seat, of_seat}

-- **Letters that came.** All letters that came of each seat are on the list, in order and once, and then come those
-- that are held.
abbrev pub IsOwed : (came : List (List Command)) (list : List (List Letter)) (held : List Letter) → Type 0
IsOwed came list held = (seat : ℕ) → at_seat came seat ≡ of_seat seat (joined list) ++ of_seat seat held
