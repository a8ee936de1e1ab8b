-- The terms of an engine's clauses, over the whole engine.
use Rattle.std.specs.Prelude.{List, Option, Result, ⊤}
use Rattle.hpb_rules.specs.declared.command.Command.{Command}
use Rattle.hpb_rules.specs.declared.letter.Answer.{Answer}
use Rattle.hpb_rules.specs.Machine.{Machine, Effect}
use Rattle.hpb_disk.specs.Asked.{Asked}
use Rattle.hpb_disk.specs.declared.disk.Disk.{Ghosts}
use Rattle.hpb_recover.specs.declared.opened.Opened.{Opened}
use Rattle.hpb_engine.specs.declared.driving.Driven.{Driven}
use Rattle.hpb_engine.specs.declared.engine.Engine.{Engine}
use Rattle.hpb_engine.specs.declared.event.Event.{Event}
use Rattle.hpb_engine.specs.declared.step.Fault.{Fault}
use Rattle.hpb_engine.specs.Keeping as keeping
use Rattle.hpb_engine.specs.Keeping.{Running}
use Rattle.hpb_engine.specs.Points.{AreOfRun, Survives, start_at}
use Rattle.hpb_engine.specs.Runs as runs
use Rattle.hpb_engine.specs.Runs.{Pause}
use Rattle.hpb_engine.specs.Steps as steps

module _ {D : Type 0} {disk : Ghosts D} where
  -- Its device, its progress, and whether a call of the device has failed.
  abbrev pub running_of : Engine D disk → Running
  running_of engine = record { device = disk.device engine.disk; progress = engine.progress; failed = engine.failed }

  -- It keeps this machine.
  abbrev pub Keeps : Engine D disk → Machine → Type 0
  Keeps engine machine = keeping.Keeps (running_of engine) machine

  -- A call has this effect on each machine that it keeps.
  abbrev pub HasEffect : (old new : Engine D disk) → (effect : Machine → Effect) → (leaving : List Answer) → Type 0
  HasEffect old new effect leaving = steps.HasEffect (running_of old) (running_of new) effect leaving

  -- A step as the device sees it.
  abbrev pub OnDevice : {T : Type 0} → (old new : Engine D disk) → Result T Fault → (call : List Asked) → Type 0
  OnDevice old new result call = steps.OnDevice (running_of old) (running_of new) result call

  -- The same, and: the facts about the device hold after it.
  abbrev pub Called : (old new : Engine D disk) → Result ⊤ Fault → (later : List Command → List Command) → (call : List Asked) → Type 0
  Called old new outcome later call = steps.Called (running_of old) (running_of new) outcome later call

  -- Its pause, if it keeps this machine.
  abbrev pub pause_of : Engine D disk → Machine → Pause
  pause_of engine machine = runs.pause_of (running_of engine) machine

  -- The facts after a run from a pause.
  abbrev pub Ran : Pause → List Event → Engine D disk → (answers : List Answer) → Option Fault → Type 0
  Ran start events engine answers fault = runs.Ran start events (running_of engine) answers fault

  -- One event.
  abbrev pub Took : Event → (old new : Engine D disk) → Machine → (leaving : List Answer) → Option Fault → Type 0
  Took event old new machine leaving fault = runs.Took event (running_of old) (running_of new) machine leaving fault

  -- A run over an opened device that stood for the first commands: it survives every stop, and its points are those of
  -- an engine that was started with that device.
  pub record IsRunOf (first : List Command) (opened : Opened D disk) (events : List Event) (driven : Driven D disk) : Type 0 where
    pub survives : Survives opened.plan.auction.rules first (disk.device opened.disk) (disk.device driven.engine.disk) events driven.answers.items driven.fault
    pub of_engine : AreOfRun opened.plan (start_at (disk.device opened.disk)) first survives.points events (running_of driven.engine) driven.answers.items driven.fault
