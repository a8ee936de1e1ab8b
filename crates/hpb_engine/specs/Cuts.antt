-- How the acknowledged commands lie on a device: a checkpoint shows the first of them, and batches hold the rest.
use Rattle.std.specs.Prelude.{ℕ, List, [], ◌∷◌, ◌++◌, take, drop}
use Rattle.hpb_rules.specs.declared.command.Command.{Command}
use Rattle.hpb_rules.specs.Tree.{Rules}
use Rattle.hpb_rules.specs.Fronts.{joined}

-- The definition, the commands that the newest slot shows, and the batches after them.
pub record Cut : Type 0 where
  pub rules : Rules
  pub before : List Command
  pub batches : List (List Command)

-- All of the commands.
abbrev pub all : Cut → List Command
all cut = cut.before ++ joined cut.batches

-- The commands up to the end of this many batches.
abbrev pub upto : Cut → ℕ → List Command
upto cut count = cut.before ++ joined (take count cut.batches)

-- The same with one more batch.
abbrev pub landed : Cut → List Command → Cut
landed cut commands = record cut { batches = cut.batches ++ commands ∷ [] }

-- The same with a checkpoint after this many batches.
abbrev pub shortened : Cut → ℕ → Cut
shortened cut count = record cut { before = upto cut count; batches = drop count cut.batches }
