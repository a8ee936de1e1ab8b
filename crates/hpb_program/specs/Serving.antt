-- The bytes written while the auction in a file is served.
use Rattle.std.specs.Prelude.{◌≡◌, ◌⊎◌, ℕ, Bool, List, [], ◌++◌, Option, Result, Ok, Err, codes, decimal, string_bytes}
use Rattle.hpb_disk.specs.declared.file.FileDisk.{FileDisk}
use Rattle.hpb_disk.specs.Device.{Device}
use Rattle.hpb_disk.specs.FileDisks.{file_device}
use Rattle.std.specs.Io.KnownBytes.{Appends, Keeps}
use Rattle.hpb_recover.specs.Flaws.{HasFlaw}
use Rattle.hpb_recover.specs.Readings.{last_value, Found, Reads}
use Rattle.hpb_recover.specs.declared.cause.Cause.TheVariants as opening
use Rattle.hpb_rules.specs.AuctionValue.{AuctionValue}
use Rattle.hpb_house.specs.declared.closing.Closing.{Closing}
use Rattle.hpb_serve.specs.declared.serving.Served.{Served}
use Rattle.hpb_serve.specs.Ended.{EndsAll}
use Rattle.hpb_serve.specs.Announcing.{listening_line}
use Rattle.hpb_server.specs.Writing.{Sends}
use Rattle.hpb_messages.specs.declared.job_fault.JobFault.{JobFault}
use Rattle.hpb_messages.specs.declared.job_fault.JobFault.TheVariants as faults
use Rattle.hpb_program.specs.declared.serving.FileEnd.{FileEnd}
use Rattle.hpb_program.specs.declared.serving.Seats.{Seats}
use Rattle.hpb_program.specs.declared.serving.ServeEnd.{ServeEnd}
use Rattle.hpb_program.specs.declared.serving.Unsaid.{Unsaid}
use Rattle.hpb_program.specs.Jobs.{StopsWriting}

-- The line after all sessions have ended, with the number of all accepted commands.
abbrev pub closed_line : ℕ → List ℕ
closed_line count = codes "CLOSED " ++ decimal count ++ codes "\n"

-- The sessions have ended, which were served with the auction that is read on a device, opened so. The listening line
-- alone was written.
pub record Ends {D : Type 0} (device : D → Device) (opened : Device) (seats : Seats) (old new : Option (List ℕ)) (served : Served D) : Type 0 where
  pub found : Found
  pub reads : Reads found opened.seen
  pub ended : EndsAll device opened (last_value found) seats.sessions served
  pub listens : Appends old new (listening_line seats.port)

-- The same, and then the closing line was written, or a front of it. It has the number of commands accepted in the
-- auction that the device then keeps.
pub record Closes {D : Type 0} (device : D → Device) (opened : Device) (seats : Seats) (old new : Option (List ℕ)) (end : ServeEnd D) : Type 0 where
  pub listening : Option (List ℕ)
  pub ends : Ends device opened seats old listening end.served
  pub closes : Sends listening new (closed_line end.served.closing.auction.count) end.said

-- An auction can be read in an image.
abbrev pub IsReadable : List ℕ → Type 0
IsReadable image = (found : Found) × Reads found image

-- Memory may be refused before the listening line, or behind it.
abbrev pub StopsAnywhere : (port : ℕ) (old new : Option (List ℕ)) → Type 0
StopsAnywhere port old new = Keeps old new ⊎ Appends old new (listening_line port)

-- The fault is the first that was found in serving a device: of the device, of its port, or of its sessions. The
-- listening line is written only if there is an auction and a port.
abbrev pub IsUnserved : (image : List ℕ) (port : ℕ) (old new : Option (List ℕ)) → JobFault → Type 0
IsUnserved image port old new faults.Memory = StopsAnywhere port old new
IsUnserved image port old new (faults.Open (opening.Flawed flaw)) = Keeps old new × HasFlaw flaw image
IsUnserved image port old new (faults.Open cause) = Keeps old new × (cause ≡ opening.Device)
IsUnserved image port old new (faults.Port at error) = IsReadable image × Keeps old new × (at ≡ port)
IsUnserved image port old new faults.Place = IsReadable image × Keeps old new
IsUnserved image port old new faults.Writer = IsReadable image × StopsWriting old new (listening_line port)
IsUnserved image port old new faults.Order = IsReadable image × Appends old new (listening_line port)
IsUnserved image port old new faults.Counts = IsReadable image × Appends old new (listening_line port)
IsUnserved image port old new fault = ⊥

-- The auction of a device was served to the sessions of these seats; or it was not, or not to the end.
abbrev pub ServesKept : {D : Type 0} (device : D → Device) (opened : Device) → Seats → (old new : Option (List ℕ)) → Result (ServeEnd D) JobFault → Type 0
ServesKept device opened seats old new (Ok end) = Closes device opened seats old new end
ServesKept device opened seats old new (Err fault) = IsUnserved opened.seen seats.port old new fault

-- The auction of a device was served up to the closing line, for which there is room; or it was not, or not to the end.
abbrev pub ServesUnsaid : {D : Type 0} (device : D → Device) (opened : Device) → Seats → (old new : Option (List ℕ)) → Result (Unsaid D) JobFault → Type 0
ServesUnsaid device opened seats old new (Ok unsaid) = Ends device opened seats old new unsaid.served × (string_bytes unsaid.room ≡ [])
ServesUnsaid device opened seats old new (Err fault) = IsUnserved opened.seen seats.port old new fault

-- A fault of the check for files and connections.
abbrev pub IsOfDescriptors : JobFault → Type 0
IsOfDescriptors faults.Memory = Unit {0}
IsOfDescriptors (faults.Descriptors sessions wanted error) = Unit {0}
IsOfDescriptors fault = ⊥

-- The remains of a house, with the auction and the fault that are reported.
abbrev pub with_told : Closing FileDisk → AuctionValue → Bool → Closing FileDisk
with_told left auction failed = record { disk = left.disk; auction = auction; has_failed = failed; in_flight = left.in_flight; published = left.published; whole = left.whole }

-- The end of serving a file, with its disk as the house left it.
abbrev pub end_of : FileEnd → ServeEnd FileDisk
end_of end = record { served = record { closing = with_told end.left.value end.auction end.has_failed; reports = end.reports }; said = end.said }

-- The same for a file. The auction on its disk at the opening was served, and the disk that was closed keeps the
-- commands that the sessions reported. Or the file was not opened, or the process may have too few files and
-- connections at a time, and nothing was written.
abbrev pub ServesFile : Seats → (old new : Option (List ℕ)) → Result FileEnd JobFault → Type 0
ServesFile seats old new (Ok end) = Closes file_device (file_device end.opened.value) seats old new (end_of end)
ServesFile seats old new (Err (faults.File fault)) = Keeps old new
ServesFile seats old new (Err (faults.Descriptors held wanted error)) = Keeps old new
ServesFile seats old new (Err faults.Memory) = StopsAnywhere seats.port old new
ServesFile seats old new (Err fault) = (image : List ℕ) × IsUnserved image seats.port old new fault
