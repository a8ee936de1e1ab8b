-- The result of a session on a device: the bytes that it wrote, and what the engine that is handed back keeps.
use Rattle.std.specs.Prelude.{◌≡◌, ℕ, List, [], Option, Result, ⊤}
use Rattle.hpb_rules.specs.declared.command.Command.{Command}
use Rattle.hpb_rules.specs.declared.limits.TheConstants.{MOST_READ_BYTES}
use Rattle.hpb_rules.specs.Machine.{at_rest}
use Rattle.hpb_disk.specs.declared.disk.Disk.{Ghosts}
use Rattle.hpb_engine.specs.declared.engine.Engine.{Engine}
use Rattle.hpb_engine.specs.Engines.{Keeps, running_of}
use Rattle.hpb_engine.specs.Keeping.{Running}
use Rattle.hpb_server.specs.declared.fault.SessionFault.{SessionFault}
use Rattle.hpb_server.specs.Serving.{Serves}
use Rattle.hpb_server.specs.Streams.{Streams, streams}
use Rattle.hpb_run.specs.declared.session.Session.{Session}
use Rattle.hpb_run.specs.Device.{IsAt, State, device_ways, start_of}
use Rattle.hpb_run.specs.DeviceLaws.{ServesDevice, Stays}

module _ {R W E : Type 0} where
  -- The bytes of a session's reader and writer, as far as they are known.
  abbrev pub streams_of : (remaining : R → Option (List ℕ)) (contents : W → Option (List ℕ)) → Session R W E → Streams
  streams_of remaining contents session = streams (remaining session.reader.now) (contents session.writer.now)

  -- It has the same streams as before.
  abbrev pub AreLent : (old new : Session R W E) → Type 0
  AreLent old new = (new.reader.ghost_name ≡ old.reader.ghost_name) × (new.writer.ghost_name ≡ old.writer.ghost_name) × (new.errors.ghost_name ≡ old.errors.ghost_name)

-- **A run.** After a session there is a state, at which the engine is. The bytes written lead to it from the state at
-- the start.
--
-- The bytes read are answered by the text of lines up to the first fault, and from there on as by a device that has
-- failed. The engine keeps the commands that were acknowledged.
pub record RanDevice {D : Type 0} {disk : Ghosts D} (before after : Streams) (start : State) (engine : Engine D disk) (end : Result ⊤ SessionFault) : Type 0 where
  pub state : State
  pub writes : ServesDevice MOST_READ_BYTES before after start state end
  pub stays : Stays start state
  pub stands : IsAt (running_of engine) state

-- Lines were answered from one state to another, each as by a device that works, up to the first call that fails.
abbrev pub ServesLines : (before after : Streams) (old new : State) → Result ⊤ SessionFault → Type 0
ServesLines before after old new end = Serves device_ways [] MOST_READ_BYTES before after old new end

-- Lines were answered so, and what runs is at the state to which these answers lead.
abbrev pub ServesFrom : (before after : Streams) → State → Running → Result ⊤ SessionFault → Type 0
ServesFrom before after start run end = (state : State) × ServesLines before after start state end × IsAt run state

-- Lines were answered so from an engine with nothing in flight, whatever it kept.
abbrev pub RunsFrom : {D : Type 0} {disk : Ghosts D} (before after : Streams) (old new : Engine D disk) → Result ⊤ SessionFault → Type 0
RunsFrom before after old new end =
    (history : List Command) → Keeps old (at_rest history) → ServesFrom before after (start_of old history) (running_of new) end
