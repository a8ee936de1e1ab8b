-- The bytes taken from a reader.
use Rattle.std.specs.Prelude.{◌≡◌, ◌≢◌, ℕ, ◌+◌, ◌<◌, ◌≤◌, Bool, true, false, List, [], ◌∷◌, ◌++◌, length, take, slice_index, Option, Some, None, Result, Ok, Err, ◌⊎◌}
use Rattle.std.specs.List.{All}
use Rattle.std.specs.Io.KnownBytes.{Consumes, IsAtEnd}
use Rattle.hpb_rules.specs.declared.limits.TheConstants.{MOST_DEFINITION_BYTES}
use Rattle.hpb_rules.specs.Lines.{is_line_feed}
use Rattle.hpb_wire.specs.declared.line.FrontRequest.{FrontRequest}
use Rattle.hpb_server.specs.declared.fault.SessionFault.{SessionFault}
use Rattle.hpb_server.specs.declared.fault.SessionFault.TheVariants.{Reader, Writer}
use Rattle.hpb_server.specs.declared.input.TheConstants.{LINE_FEED, KEPT_DEFINITION_BYTES}
use Rattle.hpb_server.specs.declared.input.DefinitionText.{DefinitionText}

-- The bytes that were read and not yet taken, and how many more may be read.
pub record Pending : Type 0 where
  pub unread : List ℕ
  pub budget : ℕ

-- No line ends in these bytes.
abbrev pub HasNoEnd : List ℕ → Type 0
HasNoEnd bytes = All (λ b. is_line_feed b ≡ false) bytes

-- The place of the first line feed.
abbrev pub FindsEnd : List ℕ → Option ℕ → Type 0
FindsEnd bytes None = HasNoEnd bytes
FindsEnd bytes (Some n) = (n < length bytes) × (slice_index bytes n ≡ LINE_FEED) × HasNoEnd (take n bytes)

-- How many bytes the next line has, if there is one.
abbrev pub size_of : Option FrontRequest → Option ℕ
size_of None = None
size_of (Some next) = Some next.size

-- A line of this length and its end were taken, and nothing more was read.
pub record SkipsLine (count : ℕ) (before after : Pending) : Type 0 where
  pub parts : before.unread ≡ take count before.unread ++ LINE_FEED ∷ after.unread
  pub nothing_read : after.budget ≡ before.budget

-- How many bytes are taken from a reader at most, by how many may be read. One byte more shows that there is more.
abbrev pub most_taken : ℕ → ℕ
most_taken budget = budget + 1

-- Some bytes were read, as many as may be taken or fewer.
abbrev pub ReadsWithin : (old new : Option (List ℕ)) (budget : ℕ) → Type 0
ReadsWithin old new budget = (bytes : List ℕ) × Consumes old new bytes × (length bytes ≤ most_taken budget)

-- No byte was read, or one byte if none may be read any more.
abbrev pub ReadsInVain : (old new : Option (List ℕ)) (budget : ℕ) → Type 0
ReadsInVain old new budget = (bytes : List ℕ) × Consumes old new bytes × ((bytes ≡ []) ⊎ ((budget ≡ 0) × (length bytes ≡ 1)))

-- More was read, or the reader has ended, or the fault is that the reader failed.
abbrev pub Fills : (old new : Option (List ℕ)) (before after : Pending) → Result Bool SessionFault → Type 0
Fills old new before after (Ok true) = Consumes old new after.unread × (0 < length after.unread) × (after.budget + length after.unread ≡ before.budget)
Fills old new before after (Ok false) = Consumes old new [] × IsAtEnd new × (after ≡ before)
Fills old new before after (Err fault) = (fault ≡ Reader) × ReadsInVain old new before.budget

-- The unread bytes were added up to the end of a line. Of all bytes added, the first `most` are kept.
pub record TakesToEnd (most : ℕ) (before after : Pending) (old new : List ℕ) : Type 0 where
  pub bytes : List ℕ
  pub no_end : HasNoEnd bytes
  pub parts : before.unread ≡ bytes ++ LINE_FEED ∷ after.unread
  pub kept : new ≡ take most (old ++ bytes)
  pub nothing_read : after.budget ≡ before.budget

-- All unread bytes were added, and no line ends in them.
pub record TakesAll (most : ℕ) (before after : Pending) (old new : List ℕ) : Type 0 where
  pub no_end : HasNoEnd before.unread
  pub taken : after.unread ≡ []
  pub kept : new ≡ take most (old ++ before.unread)
  pub nothing_read : after.budget ≡ before.budget

-- The unread bytes were added, up to the end of a line or all of them.
abbrev pub TakesPart : (most : ℕ) (before after : Pending) (old new : List ℕ) → Bool → Type 0
TakesPart most before after old new true = TakesToEnd most before after old new
TakesPart most before after old new false = TakesAll most before after old new

-- These bytes were taken, and that many fewer may be read.
abbrev pub TakesWithin : (old new : Option (List ℕ)) (before after : ℕ) → List ℕ → Type 0
TakesWithin old new before after bytes = Consumes old new bytes × (length bytes + after ≡ before)

-- Behind the bytes of a definition stands its end; or nothing more is used.
abbrev pub EndsDefinition : (old new : Option (List ℕ)) (budget : ℕ) (after : Pending) (bytes : List ℕ) → Bool → Type 0
EndsDefinition old new budget after bytes true = TakesWithin old new budget after.budget (bytes ++ LINE_FEED ∷ after.unread)
EndsDefinition old new budget after bytes false = TakesWithin old new budget after.budget bytes × ((MOST_DEFINITION_BYTES < length bytes) ⊎ IsAtEnd new)

-- Some bytes were read, and the fault isn't the writer's.
abbrev pub StopsReading : (old new : Option (List ℕ)) (budget : ℕ) → SessionFault → Type 0
StopsReading old new budget fault = (fault ≢ Writer) × ReadsWithin old new budget

-- The first line was read, and its bytes are kept as far as they may be a definition.
pub record GivesDefinition (old new : Option (List ℕ)) (budget : ℕ) (after : Pending) (text : DefinitionText) : Type 0 where
  pub bytes : List ℕ
  pub no_end : HasNoEnd bytes
  pub kept : text.bytes.items ≡ take KEPT_DEFINITION_BYTES bytes
  pub ends : EndsDefinition old new budget after bytes text.has_end
