-- The state of a device's desk, and the results of its small steps.
use Rattle.std.specs.Prelude.{◌≡◌, ◌⊎◌, ℕ, suc, ◌≤◌, ◌==◌, nat_lt, nat_le, Bool, true, not, ◌&&◌, List, length, map, replicate, if◌then◌else◌}
use Rattle.hpb_rules.specs.declared.command.Command.{Command}
use Rattle.hpb_rules.specs.declared.letter.Answer.{Answer}
use Rattle.hpb_rules.specs.declared.letter.Letter.{Letter}
use Rattle.hpb_rules.specs.declared.refusal.Refusal.{Refusal}
use Rattle.hpb_rules.specs.declared.refusal.Refusal.TheVariants as refusals
use Rattle.hpb_rules.specs.declared.reply.Reply.{Reply}
use Rattle.hpb_rules.specs.declared.reply.Reply.TheVariants as replies
use Rattle.hpb_rules.specs.Letters.{judged}
use Rattle.hpb_rules.specs.Machine.{at_rest, in_flight}
use Rattle.hpb_disk.specs.declared.disk.Disk.{Ghosts}
use Rattle.hpb_engine.specs.declared.engine.Engine.{Engine}
use Rattle.hpb_engine.specs.Engines.{Keeps, running_of}
use Rattle.hpb_server.specs.Desk.{AsksAll}
use Rattle.hpb_run.specs.declared.desk.DeviceDesk.{DeviceDesk}
use Rattle.hpb_run.specs.Batches.{CheckpointTakes, moment_of}
use Rattle.hpb_run.specs.Device.{IsAt, State, device_ways, works}

-- A command as a letter of the one seat that a session has.
abbrev pub letter_of : Command → Letter
letter_of command = record { seat = 0; command = command }

abbrev pub reply_of : Answer → Reply
reply_of answered = answered.reply

-- The same refusal for each of this many commands.
abbrev pub refused : ℕ → Refusal → List Reply
refused count refusal = replicate count (replies.Refused refusal)

-- Whether a checkpoint is due after this many commits. With `every` 0 none is ever due.
abbrev pub is_due : (every commits : ℕ) → Bool
is_due every commits = not (every == 0) && nat_le every commits

-- The greatest number of commits that is counted.
abbrev pub most_counted : ℕ
most_counted = 4294967295

-- A commit counts if more commands are accepted after it than before.
abbrev pub commits_after : (commits before after : ℕ) → ℕ
commits_after commits before after = if nat_lt before after && nat_lt commits most_counted then suc commits else commits

module _ {D : Type 0} {disk : Ghosts D} where
  -- Commands that were committed together at a state get one refusal: 91 if a call of the device failed in their
  -- commit, and 93 if one had failed before. After 91 these commands are in flight, and no others. If the device had
  -- worked, 93 says that it keeps none of them, whatever a crash leaves.
  abbrev pub AreAlike : Engine D disk → State → List Command → List Reply → Type 0
  AreAlike engine state commands told =
      ((told ≡ refused (length commands) refusals.Device) × (turns : ℕ) × Keeps engine (in_flight state.history (judged state.rules state.history (map letter_of commands)) turns))
      ⊎ ((told ≡ refused (length commands) refusals.Failed) × (state.phase ≡ works → Keeps engine (at_rest state.history)))

  -- A whole checkpoint was made, or the device has failed.
  abbrev pub IsCovered : (old new : Engine D disk) → Type 0
  IsCovered old new = (new.failed ≡ true) ⊎ CheckpointTakes old.progress new.progress (moment_of old) (moment_of new)

  -- An engine is at a state, and its device counts all failures since the start.
  abbrev pub StandsAt : Engine D disk → State → Type 0
  StandsAt engine state = IsAt (running_of engine) state × (state.failures ≤ (disk.device engine.disk).failures)

  -- Commands that were committed together have their replies. The engine is at the state to which they lead, with the
  -- same definition.
  abbrev pub HasAsked : Engine D disk → State → List Command → List Reply → Type 0
  HasAsked engine state commands told =
      (next : State) × AsksAll device_ways state commands told next × StandsAt engine next × (next.rules ≡ state.rules)

  -- A desk is at a state if its engine is, and if it has the definition of that state.
  abbrev pub DeskStands : DeviceDesk D disk → State → Type 0
  DeskStands desk state = StandsAt desk.engine state × (desk.definition ≡ state.rules)
