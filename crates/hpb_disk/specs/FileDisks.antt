-- The value of a device in a file.
use Rattle.std.specs.Prelude.{pos, ◌≤ℤ◌, Bool, List}
use Rattle.std.specs.Fd.{file_raw_fd}
use Rattle.std.specs.declared.fs.File.{File}
use Rattle.hpb_disk.specs.declared.file.FileDisk.{FileDisk}
use Rattle.hpb_disk.specs.Calls.{Call, calls_of}
use Rattle.hpb_disk.specs.Device.{Device}
use Rattle.hpb_disk.specs.Traces.{traced}

-- Its member `device`.
abbrev pub file_device : FileDisk → Device
file_device disk = traced disk.trace.first disk.trace.events disk.bytes.items disk.shown

-- Its calls, the newest first.
abbrev pub file_calls : FileDisk → List Call
file_calls disk = calls_of disk.trace.events

-- Whether a write or a sync of it has failed.
abbrev pub file_is_broken : FileDisk → Bool
file_is_broken disk = disk.broken

-- The descriptor of a file is none of the standard streams'.
abbrev pub IsApart : File → Type 0
IsApart file = pos 3 ≤ℤ file_raw_fd file

-- The descriptor of a device's file is none of the standard streams'.
abbrev pub file_is_apart : FileDisk → Type 0
file_is_apart disk = IsApart disk.file
