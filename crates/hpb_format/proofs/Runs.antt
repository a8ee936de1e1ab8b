-- Runs of calls of a device that keep a set of images.
use Rattle.std.proofs.Common.{ℕ, List}
use Rattle.hpb_disk.proofs.Runs.{leaves_join, leaves_within}
use Rattle.hpb_disk.specs.Device.{Device, LeavesOnly}
use Rattle.hpb_format.specs.Stages.{Keeps}

-- A run followed by a run.
pub keeps_join : {old middle new : Device} {images : List ℕ → Type 0} → Keeps images old middle → Keeps images middle new → Keeps images old new
keeps_join one two within = let left = one within in leaves_join left (two left.after)

-- A call that reads, or syncs.
pub quiet_keeps : {old new : Device} {images : List ℕ → Type 0} → LeavesOnly old new old.may_leave → Keeps images old new
quiet_keeps leaves within = leaves_within within leaves
