-- The contents of a letter ring. Source: this project's own.
use Rattle.std.specs.Prelude.{Bool, true, false, List, [], ◌∷◌}
use Rattle.hpb_rules.specs.declared.command.Command.{Command}
use Rattle.hpb_rings.specs.declared.slip.Slip.{Slip}
use Rattle.hpb_rings.specs.declared.slip.Slip.TheVariants.{Letter as Post, End}

-- **Contents of a ring.** A ring carries letters, and behind the last one an end mark. `received` is what came out of a
-- ring so far, at the end that takes out. `sent` is what went in, at the other end.
--
-- The commands of the letters that came, in order.
abbrev pub commands : List Slip → List Command
commands [] = []
commands (Post letter ∷ slips) = letter.command ∷ commands slips
commands (End ∷ slips) = commands slips

-- Whether the end mark came.
abbrev pub ends : List Slip → Bool
ends [] = false
ends (Post letter ∷ slips) = ends slips
ends (End ∷ slips) = true
