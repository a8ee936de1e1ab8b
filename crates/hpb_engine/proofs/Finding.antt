-- An image that a stop of a run left is found.
use Rattle.std.proofs.Common.{ℕ, List, ◌∷◌, Option}
use Rattle.hpb_rules.specs.declared.letter.Answer.{Answer}
use Rattle.hpb_rules.specs.declared.command.Command.{Command}
use Rattle.hpb_rules.specs.Tree.{Rules}
use Rattle.hpb_disk.specs.Device.{Device}
use Rattle.hpb_engine.specs.declared.event.Event.{Event}
use Rattle.hpb_engine.specs.declared.step.Fault.{Fault}
use Rattle.hpb_engine.specs.Points.{start_at, Finds, IsLeft, Point, Survives}

-- an image that was left since a point of a run that survives is found as at that point
pub found_at : {rules : Rules} {first : List Command} {old new : Device} {events : List Event} {answers : List Answer} {fault : Option Fault} {image : List ℕ}
    → (run : Survives rules first old new events answers fault) (before : List Point) (point : Point) (later : List Point)
    → IsLeft (start_at old ∷ run.points) before point later new image → Finds rules first point later image
found_at run before point later left = (run.kept before point later left.cut).finds _ left.left
