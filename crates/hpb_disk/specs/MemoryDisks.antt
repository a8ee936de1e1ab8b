-- The value of a device in memory.
use Rattle.std.specs.Prelude.{ℕ, List}
use Rattle.hpb_disk.specs.declared.memory.MemoryDisk.{MemoryDisk}
use Rattle.hpb_disk.specs.Calls.{Call, calls_of, base_of, pending_of}
use Rattle.hpb_disk.specs.Device.{Device}
use Rattle.hpb_disk.specs.Traces.{traced}

-- Its member `device`.
abbrev pub memory_device : MemoryDisk → Device
memory_device disk = traced disk.trace.first disk.trace.events disk.bytes.items disk.shown

-- Its calls, the newest first.
abbrev pub memory_calls : MemoryDisk → List Call
memory_calls disk = calls_of disk.trace.events

-- The image at its newest sync, or the one that it was made with.
abbrev pub memory_base : MemoryDisk → List ℕ
memory_base disk = base_of disk.trace.first (memory_calls disk)

-- The writes that no sync covers, the oldest first.
abbrev pub memory_pending : MemoryDisk → List (ℕ × List ℕ)
memory_pending disk = pending_of (memory_calls disk)
