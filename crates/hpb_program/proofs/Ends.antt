-- How jobs on files end.
use Rattle.std.proofs.Common.{◌≡◌, ◌∙◌, ℕ, Bool, true, suc, ◌<◌, List, ◌++◌, length, Option, Ok, Err, sym, ap, subst, refl, arith, ⊎_elim, append_assoc}
use Rattle.std.specs.Io.KnownBytes.{Appends, IsAtEnd, Keeps}
use Rattle.hpb_codec.specs.Layouts.{IsShape}
use Rattle.hpb_codec.specs.declared.layout.JournalShape.{JournalShape}
use Rattle.hpb_rules.specs.declared.limits.TheConstants.{MOST_DEFINITION_BYTES}
use Rattle.hpb_rules.specs.AuctionValue.{AuctionValue}
use Rattle.hpb_rules.specs.Fronts.{IsFront}
use Rattle.hpb_rules.specs.Text.{line_of}
use Rattle.hpb_rules.specs.Tree.{Rules}
use Rattle.hpb_rules.specs.ValueText.{shown_in, node_shown_in}
use Rattle.hpb_define.specs.declared.fault.DefineCause.{DefineCause}
use Rattle.hpb_define.specs.declared.fault.DefineCause.TheVariants as defining
use Rattle.hpb_define.specs.declared.fault.DefineFault.{DefineFault}
use Rattle.hpb_define.specs.Text.{Answers}
use Rattle.hpb_disk.specs.FileDisks.{file_device}
use Rattle.hpb_disk.specs.Images.{Within}
use Rattle.hpb_disk.specs.declared.file.FileDisk.{FileDisk}
use Rattle.hpb_disk.specs.declared.fault.FileFault.{FileFault}
use Rattle.hpb_format.specs.Outcomes.{IsNew}
use Rattle.hpb_format.specs.declared.fault.FormatCause.{FormatCause}
use Rattle.hpb_format.specs.declared.fault.FormatCause.TheVariants as formatting
use Rattle.hpb_server.specs.Streams.{Streams}
use Rattle.hpb_server.specs.Writing.{Puts}
use Rattle.hpb_messages.specs.declared.job_fault.JobFault.{JobFault}
use Rattle.hpb_messages.specs.declared.job_fault.JobFault.TheVariants as faults
use Rattle.hpb_program.specs.ConsoleValue.{ConsoleValue}
use Rattle.hpb_program.specs.Jobs.{check_text, line_of_journal, nodes_text, Formats, GivesText, IsDefined, IsFormatted, IsKept, IsOfFile, IsRefused, MayFormat, ShowsKept}
use Rattle.hpb_messages.specs.Faults.{made_by, made_of_definition, made_of_file, made_of_formatting}
use Rattle.hpb_program.specs.Program.{TellsEnd, TellsFault}
use Rattle.hpb_messages.specs.Telling.{IsCutBy}
use Rattle.hpb_server.proofs.Fronts.{put_front}
use Rattle.hpb_program.proofs.Files.{of_each_file, of_each_made}

-- one more node's line
pub added_line : (value : AuctionValue) (text new line : List ℕ) (place at following : ℕ) → text ≡ line_of (shown_in value) ++ nodes_text value place → new ≡ text ++ line_of line
    → line ≡ node_shown_in value at → at ≡ place → following ≡ suc place → new ≡ line_of (shown_in value) ++ nodes_text value following
added_line value text new line place at following h added is same more =
    let step : new ≡ line_of (shown_in value) ++ (nodes_text value place ++ line_of (node_shown_in value place)) =
    added ∙ ap (λ (t : List ℕ). t ++ line_of line) h ∙ append_assoc (line_of (shown_in value)) (nodes_text value place) (line_of line)
    ∙ ap (λ (l : List ℕ). line_of (shown_in value) ++ (nodes_text value place ++ line_of l)) (is ∙ ap (node_shown_in value) same) in
    subst (λ (n : ℕ). new ≡ line_of (shown_in value) ++ nodes_text value n) (sym more) step

-- the auction of a device is shown
pub shown_well : (image : List ℕ) (value : AuctionValue) (a b : Option (List ℕ)) (text : List ℕ) → IsKept image value → text ≡ check_text value → Appends a b text → ShowsKept image a b (Ok tt)
shown_well image value a b text kept is written = (value, kept, subst (Appends a b) is written)

-- or a front of it
pub shown_short : {E : Type 0} (image : List ℕ) (value : AuctionValue) (a b : Option (List ℕ)) (text : List ℕ) (e : E) → IsKept image value → text ≡ check_text value → Puts a b text (Err e)
    → ShowsKept image a b (Err faults.Writer)
shown_short image value a b text e kept is put =
    let front = put_front a b text (Err e) put in
    (value, kept, (front.0, front.1, subst (IsFront front.0) is front.2))

-- the fault of a job is reported, and an output that failed gets nothing more
module _ (before after : ConsoleValue) (status : ℕ) (kept : before.is_cut ≡ true → (after.is_cut ≡ true) × Keeps before.streams.contents after.streams.contents) where
  pub told_end : (fault : JobFault) → IsCutBy before.is_cut (Err fault) → TellsFault before after fault status → TellsEnd before after (Err fault) status
  told_end faults.Writer by told = let keeps = kept by in (keeps.0, (told.0, keeps.1), told.2, told.3)
  told_end faults.Memory by told = told
  told_end faults.Reader by told = told
  told_end (faults.Definition f) by told = told
  told_end faults.Journal by told = told
  told_end (faults.File f) by told = told
  told_end (faults.Format f) by told = told
  told_end (faults.Open f) by told = told
  told_end (faults.Port at error) by told = told
  told_end (faults.Descriptors sessions wanted error) by told = told
  told_end faults.Place by told = told
  told_end faults.Order by told = told
  told_end faults.Counts by told = told

-- the whole input is a definition
pub defined : (a b : Option (List ℕ)) (text : List ℕ) (rules : Rules) → GivesText a b text → Answers text (Ok rules) → IsDefined a b
defined a b text rules gives answers = record {
  text = text;
  rules = rules;
  read = gives.read;
  ended = ⊎_elim (λ (e : IsAtEnd b). e) (λ (long : MOST_DEFINITION_BYTES < length text). absurd (omega (arith, long, answers.0.1.0))) gives.ended;
  defines = answers;
}

module _ (journal : JournalShape) (before after : Streams) (text : List ℕ) (gives : GivesText before.remaining after.remaining text) (kept : Keeps before.contents after.contents) where
  pub refused_definition : (fault : DefineFault) (made : JobFault) → made ≡ made_of_definition fault → Answers text (Err fault.cause) → Formats journal before after (Err made)
  refused_definition fault made is answers = subst (λ (m : JobFault). Formats journal before after (Err m)) (sym is) (go fault.cause refl)
    where
      told : (cause : DefineCause) → fault.cause ≡ cause → made_by cause fault ≡ faults.Definition fault → IsRefused before.remaining after.remaining fault
      told cause same by = record { text = text; gives = gives; answers = answers; told = ap (λ (c : DefineCause). made_by c fault) same ∙ by }

      go : (cause : DefineCause) → fault.cause ≡ cause → Formats journal before after (Err (made_by cause fault))
      go defining.Memory same = ((text, gives.read, gives.within), kept)
      go defining.Json same = (told defining.Json same refl, kept)
      go defining.Field same = (told defining.Field same refl, kept)
      go defining.Number same = (told defining.Number same refl, kept)
      go (defining.Refused f) same = (told (defining.Refused f) same refl, kept)

  pub out_of_range : (rules : Rules) → Answers text (Ok rules) → (IsShape journal → ⊥) → Formats journal before after (Err faults.Journal)
  out_of_range rules answers out = (defined before.remaining after.remaining text rules gives answers, out, kept)

  pub failed_file : (rules : Rules) (fault : JobFault) → Answers text (Ok rules) → IsShape journal → IsOfFile fault → Formats journal before after (Err fault)
  failed_file rules fault answers journal_is =
      of_each_made (λ fault. Formats journal before after (Err fault)) ((text, gives.read, gives.within), kept) (λ fault. (may, kept)) (λ cause. (may, kept)) fault
    where
      may : MayFormat journal before after
      may = (defined before.remaining after.remaining text rules gives answers, journal_is)

module _ (journal : JournalShape) (before after : Streams) (text line : List ℕ) (rules : Rules) (gives : GivesText before.remaining after.remaining text) (answers : Answers text (Ok rules)) (shape : IsShape journal)
    (disk : FileDisk) (new : Within (file_device disk).may_leave (IsNew rules journal)) (is : line ≡ line_of_journal journal) where
  formatted : IsFormatted journal before after
  unfolding defined
  formatted = record { may = (defined before.remaining after.remaining text rules gives answers, shape); disk = disk; new = new }

  -- the line of a formatted file is written
  pub told_whole : Appends before.contents after.contents line → Formats journal before after (Ok tt)
  told_whole written = (formatted, subst (Appends before.contents after.contents) is written)

  -- or a part of it
  pub told_short : {E : Type 0} (e : E) → Puts before.contents after.contents line (Err e) → Formats journal before after (Err faults.Writer)
  told_short e put =
      let front = put_front before.contents after.contents line (Err e) put in
      (formatted, (front.0, front.1, subst (IsFront front.0) is front.2))

-- faults of a file
pub of_file : (fault : FileFault) (made : JobFault) → made ≡ made_of_file fault → IsOfFile made
of_file = of_each_file IsOfFile tt (λ fault. tt)

pub of_formatting : (cause : FormatCause) (made : JobFault) → made ≡ made_of_formatting cause → IsOfFile made
of_formatting cause made is = subst IsOfFile (sym is) (go cause)
  where
    go : (cause : FormatCause) → IsOfFile (made_of_formatting cause)
    go formatting.Length = tt
    go formatting.Formatted = tt
    go formatting.Device = tt
    go formatting.Memory = tt
