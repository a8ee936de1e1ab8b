-- The streams that jobs on files read and write.
use Rattle.std.specs.Prelude.{◌≡◌, ◌⊎◌, ℕ, Bool, true, false, zero, suc, ◌+◌, ◌<◌, ◌≤◌, List, [], ◌++◌, length, codes, decimal, Option, Result, Ok, Err, ⊤}
use Rattle.std.specs.Io.KnownBytes.{Appends, Consumes, IsAtEnd, Keeps}
use Rattle.hpb_rules.specs.declared.command.Command.{Command}
use Rattle.hpb_rules.specs.declared.limits.TheConstants.{MOST_DEFINITION_BYTES}
use Rattle.hpb_rules.specs.AuctionValue.{AuctionValue, Shows}
use Rattle.hpb_rules.specs.Fronts.{IsFront}
use Rattle.hpb_rules.specs.Text.{line_of}
use Rattle.hpb_rules.specs.Tree.{Rules}
use Rattle.hpb_rules.specs.ValueText.{shown_in, node_shown_in}
use Rattle.hpb_define.specs.declared.fault.DefineFault.{DefineFault}
use Rattle.hpb_define.specs.Text.{Answers}
use Rattle.hpb_disk.specs.FileDisks.{file_device}
use Rattle.hpb_disk.specs.Images.{Within}
use Rattle.hpb_disk.specs.declared.file.FileDisk.{FileDisk}
use Rattle.hpb_format.specs.Outcomes.{IsNew}
use Rattle.hpb_recover.specs.Flaws.{HasFlaw}
use Rattle.hpb_recover.specs.Standing.{Stands}
use Rattle.hpb_house.specs.declared.starting.StartCause.TheVariants as starting
use Rattle.hpb_codec.specs.Layouts.{IsShape}
use Rattle.hpb_codec.specs.declared.layout.JournalShape.{JournalShape}
use Rattle.hpb_recover.specs.declared.cause.Cause.TheVariants as opening
use Rattle.hpb_program.specs.declared.formatting.TheConstants.{KEPT_BYTES}
use Rattle.hpb_messages.specs.Faults.{made_of_definition}
use Rattle.hpb_messages.specs.Pages.{pages_of}
use Rattle.hpb_messages.specs.declared.job_fault.JobFault.{JobFault}
use Rattle.hpb_messages.specs.declared.job_fault.JobFault.TheVariants as faults
use Rattle.hpb_program.specs.ConsoleValue.{ConsoleValue}
use Rattle.hpb_program.specs.Doubts.{TellsIll, TellsImage}
use Rattle.hpb_serve.specs.declared.fault.ServeFault.{ServeFault}
use Rattle.hpb_serve.specs.declared.fault.ServeFault.TheVariants as serving
use Rattle.hpb_server.specs.Streams.{Streams}

-- The fault of a job whose file was not served, or not to its end.
abbrev pub made_of_serving : {D : Type 0} → ServeFault D → JobFault
made_of_serving serving.Memory = faults.Memory
made_of_serving serving.Writer = faults.Writer
made_of_serving (serving.Start starting.Memory) = faults.Memory
made_of_serving (serving.Start starting.Place) = faults.Place
made_of_serving (serving.Order client) = faults.Order
made_of_serving (serving.Counts differing) = faults.Counts

-- A fault of a job's file, or of memory.
abbrev pub IsOfFile : JobFault → Type 0
IsOfFile faults.Memory = Unit {0}
IsOfFile (faults.File fault) = Unit {0}
IsOfFile (faults.Format cause) = Unit {0}
IsOfFile fault = ⊥

-- The lines of the first nodes of an auction, this many of them.
abbrev pub nodes_text : AuctionValue → ℕ → List ℕ
nodes_text value zero = []
nodes_text value (suc place) = nodes_text value place ++ line_of (node_shown_in value place)

-- The lines of an auction: its state, and that of each node.
abbrev pub check_text : AuctionValue → List ℕ
check_text value = line_of (shown_in value) ++ nodes_text value (length value.rules.nodes)

-- The line of a formatted file with this many pages.
abbrev pub formatted_line : ℕ → List ℕ
formatted_line pages = codes "FORMATTED " ++ decimal pages ++ codes "\n"

-- A front of a text was written, since the writer failed.
abbrev pub StopsWriting : (old new : Option (List ℕ)) → List ℕ → Type 0
StopsWriting old new text = (sent : List ℕ) × Appends old new sent × IsFront sent text

-- The auction shows the history for which an image stands, if the image stands for one.
abbrev pub IsKept : List ℕ → AuctionValue → Type 0
IsKept image value = (history : List Command) → Stands history image → Shows value history

-- The auction of a device was shown. Or the device has the reported flaw, or the machine failed, and nothing was
-- written. Or the writer failed.
abbrev pub ShowsKept : List ℕ → (old new : Option (List ℕ)) → Result ⊤ JobFault → Type 0
ShowsKept image old new (Ok done) = (value : AuctionValue) × IsKept image value × Appends old new (check_text value)
ShowsKept image old new (Err faults.Writer) = (value : AuctionValue) × IsKept image value × StopsWriting old new (check_text value)
ShowsKept image old new (Err (faults.Open (opening.Flawed flaw))) = Keeps old new × HasFlaw flaw image
ShowsKept image old new (Err fault) = Keeps old new × ((fault ≡ faults.Memory) ⊎ (fault ≡ faults.Open opening.Device))

-- The same for a file. Its bytes are known only as those about which doubts were reported. Or nothing of it was shown.
abbrev pub Checks : (before after : ConsoleValue) → Result ⊤ JobFault → Type 0
Checks before after (Ok done) = (image : List ℕ) × ShowsKept image before.streams.contents after.streams.contents (Ok done) × TellsImage image before.errors after.errors
Checks before after (Err faults.Writer) = (image : List ℕ) × ShowsKept image before.streams.contents after.streams.contents (Err faults.Writer) × TellsImage image before.errors after.errors
Checks before after (Err fault) = Keeps before.streams.contents after.streams.contents × TellsIll before.errors after.errors fault

-- Some bytes were read, at most one more than a definition may have.
abbrev pub ReadsSome : (old new : Option (List ℕ)) → Type 0
ReadsSome old new = (bytes : List ℕ) × Consumes old new bytes × (length bytes ≤ KEPT_BYTES)

-- Reading stopped before the end.
abbrev pub StopsReading : (old new : Option (List ℕ)) → JobFault → Type 0
StopsReading old new fault = ReadsSome old new × ((fault ≡ faults.Memory) ⊎ (fault ≡ faults.Reader))

-- Some bytes were read and added to a text, which doesn't grow too long; or the input has ended.
abbrev pub ReadsPart : (old new : Option (List ℕ)) → List ℕ → List ℕ → Bool → Type 0
ReadsPart old new text longer true = (bytes : List ℕ) × Consumes old new bytes × (longer ≡ text ++ bytes) × (0 < length bytes) × (length longer ≤ KEPT_BYTES)
ReadsPart old new text longer false = Consumes old new [] × (longer ≡ text) × IsAtEnd new

-- Some bytes were read, with which the text isn't too long.
abbrev pub StopsPart : (old new : Option (List ℕ)) → List ℕ → JobFault → Type 0
StopsPart old new text fault = ((bytes : List ℕ) × Consumes old new bytes × (length text + length bytes ≤ KEPT_BYTES)) × ((fault ≡ faults.Memory) ⊎ (fault ≡ faults.Reader))

-- All was read, or more than a definition may have.
pub record GivesText (old new : Option (List ℕ)) (text : List ℕ) : Type 0 where
  pub read : Consumes old new text
  pub within : length text ≤ KEPT_BYTES
  pub ended : IsAtEnd new ⊎ (MOST_DEFINITION_BYTES < length text)

-- All of the input is a definition.
pub record IsDefined (old new : Option (List ℕ)) : Type 0 where
  pub text : List ℕ
  pub rules : Rules
  pub read : Consumes old new text
  pub ended : IsAtEnd new
  pub defines : Answers text (Ok rules)

-- The input, as far as it was read, is refused as a definition.
pub record IsRefused (old new : Option (List ℕ)) (fault : DefineFault) : Type 0 where
  pub text : List ℕ
  pub gives : GivesText old new text
  pub answers : Answers text (Err fault.cause)
  pub told : made_of_definition fault ≡ faults.Definition fault

-- The line of a formatted file with a journal of this shape.
abbrev pub line_of_journal : JournalShape → List ℕ
line_of_journal journal = formatted_line (pages_of journal)

module _ (journal : JournalShape) (before after : Streams) where
  -- A file is opened, made or formatted only with a definition, and with an allowed journal.
  abbrev pub MayFormat : Type 0
  MayFormat = IsDefined before.remaining after.remaining × IsShape journal

  -- A file was formatted: all bytes that a crash may leave of its device stand for the definition, with such a journal
  -- and no command yet.
  pub record IsFormatted : Type 0 where
    pub may : MayFormat
    pub disk : FileDisk
    pub new : Within (file_device disk).may_leave (IsNew may.0.rules journal)

  -- A file was formatted and its line was written. Or the writer failed. Or nothing was written, and the fault is the
  -- first that was found.
  abbrev pub Formats : Result ⊤ JobFault → Type 0
  Formats (Ok done) = IsFormatted × Appends before.contents after.contents (line_of_journal journal)
  Formats (Err faults.Writer) = IsFormatted × StopsWriting before.contents after.contents (line_of_journal journal)
  Formats (Err (faults.Definition fault)) = IsRefused before.remaining after.remaining fault × Keeps before.contents after.contents
  Formats (Err faults.Journal) = IsDefined before.remaining after.remaining × (IsShape journal → ⊥) × Keeps before.contents after.contents
  Formats (Err (faults.File fault)) = MayFormat × Keeps before.contents after.contents
  Formats (Err (faults.Format cause)) = MayFormat × Keeps before.contents after.contents
  Formats (Err fault) = ReadsSome before.remaining after.remaining × Keeps before.contents after.contents
