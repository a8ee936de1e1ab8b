-- The results of formatting a device, and the causes of a refusal.
use Rattle.std.specs.Prelude.{◌≡◌, ◌⊎◌, ◌↔◌, ℕ, ◌<◌, List, [], length, Result, Ok, Err, OnOk}
use Rattle.hpb_disk.specs.Device.{Device, IsSettled, LeavesOnly}
use Rattle.hpb_disk.specs.Images.{part, Within}
use Rattle.hpb_rules.specs.declared.refusal.Refusal.{Refusal}
use Rattle.hpb_rules.specs.declared.refusal.Refusal.TheVariants as refusals
use Rattle.hpb_rules.specs.Tree.{Rules}
use Rattle.hpb_codec.specs.Layouts.{layout_byte, IsShape}
use Rattle.hpb_codec.specs.declared.layout.JournalLayout.TheVariants.{Pages}
use Rattle.hpb_codec.specs.declared.layout.JournalShape.{JournalShape}
use Rattle.hpb_journal.specs.Shapes.{shaped}
use Rattle.hpb_codec.specs.Heads.{SpellsHeadIn}
use Rattle.hpb_codec.specs.declared.head.TheConstants.{HEAD_SIZE}
use Rattle.hpb_codec.specs.declared.state_format.StateFormat.TheVariants.{Two}
use Rattle.hpb_recover.specs.Heads.{IsFormatted, IsLaidOut}
use Rattle.hpb_recover.specs.declared.limits.TheConstants.{HEAD_AT}
use Rattle.hpb_recover.specs.Standing.{Stands}
use Rattle.hpb_format.specs.Asking.{AsksToFormat}
use Rattle.hpb_format.specs.declared.fault.FormatCause.{FormatCause}
use Rattle.hpb_format.specs.declared.fault.FormatCause.TheVariants as causes
use Rattle.hpb_format.specs.declared.fault.FormatFault.{FormatFault}

-- The refusal that reports a cause.
abbrev pub refusal_of : FormatCause → Refusal
refusal_of causes.Length = refusals.Length
refusal_of causes.Formatted = refusals.Formatted
refusal_of causes.Device = refusals.Device
refusal_of causes.Memory = refusals.Memory

-- The shape of a journal with this many frames of a page each.
abbrev pub paged : ℕ → JournalShape
paged frames = record { layout = Pages; frames = frames }

-- These numbers name a shape: the byte of its layout, and how many frames it has.
pub record Names (layout frames : ℕ) (journal : JournalShape) : Type 0 where
  pub layout_is : layout ≡ layout_byte journal.layout
  pub frames_are : frames ≡ journal.frames

-- A journal may have this shape, and the image has the length for it.
pub record HasLength (journal : JournalShape) (image : List ℕ) : Type 0 where
  pub allowed : IsShape journal
  pub size : length image ≡ (shaped journal).size

-- The image stands for no command, under this definition and with a journal of this shape, and its head names the second format of states.
pub record IsNew (rules : Rules) (journal : JournalShape) (image : List ℕ) : Type 0 where
  pub laid : IsLaidOut (record { definition = rules; journal = journal }) image
  pub format : SpellsHeadIn Two (part HEAD_AT HEAD_SIZE image) (record { definition = rules; journal = journal })
  pub stands : Stands [] image

-- The image isn't that of a formatted device, or it is new.
abbrev pub IsBlank : Rules → JournalShape → List ℕ → Type 0
IsBlank rules journal image = (IsFormatted image → ⊥) ⊎ IsNew rules journal image

-- A call failed for this cause.
abbrev pub FailsBy : {T : Type 0} → Result T FormatCause → FormatCause → Type 0
FailsBy (Ok _) cause = ⊥
FailsBy (Err found) cause = found ≡ cause

-- It failed for this cause, unless memory was refused or the device failed.
abbrev pub FailsAtMostBy : {T : Type 0} → Result T FormatCause → FormatCause → Type 0
FailsAtMostBy (Ok _) cause = ⊥
FailsAtMostBy (Err found) cause = (found ≡ cause) ⊎ (found ≡ causes.Memory) ⊎ (found ≡ causes.Device)

-- The device that is given back, formatted or not.
abbrev pub given : {D : Type 0} → Result D (FormatFault D) → D
given (Ok disk) = disk
given (Err fault) = fault.disk

-- The answer without the device.
abbrev pub answer_of : {D : Type 0} → Result D (FormatFault D) → Result (Unit {0}) FormatCause
answer_of (Ok disk) = Ok tt
answer_of (Err fault) = Err fault.cause

-- The number of failures rises if the call fails because of the device, and otherwise stays the same.
abbrev pub CountsCause : {T : Type 0} → Result T FormatCause → (old new : Device) → Type 0
CountsCause (Ok _) old new = new.failures ≡ old.failures
CountsCause (Err causes.Device) old new = old.failures < new.failures
CountsCause (Err _) old new = new.failures ≡ old.failures

-- The effect of a call to format a device for a journal of this shape, on the device and on its result.
pub record FormatsAs {D : Type 0} (device : D → Device) (rules : Rules) (journal : JournalShape) (old new : D) (answer : Result (Unit {0}) FormatCause) : Type 0 where
  -- After `Ok` each crash leaves an image that stands for no command, under this definition and with such a journal.
  pub stands : OnOk answer (Within (device new).may_leave (IsNew rules journal))
  -- 43 is reported exactly if no journal may have this shape, or the device doesn't have the length for it.
  pub length : FailsBy answer causes.Length ↔ (HasLength journal (device old).seen → ⊥)
  -- 41 is reported only if the device is formatted. For such a device nothing else is reported, unless memory is
  -- refused or the device fails.
  pub formatted : FailsBy answer causes.Formatted → IsFormatted (device old).seen
  pub refused : HasLength journal (device old).seen → IsFormatted (device old).seen → FailsAtMostBy answer causes.Formatted
  -- Before 43 and 90 no call of the device is made.
  pub untouched : FailsBy answer causes.Length ⊎ FailsBy answer causes.Memory → new ≡ old
  -- A formatted device stays as it was, at any moment.
  pub same : IsFormatted (device old).seen → (device new).seen ≡ (device old).seen
  pub kept : IsFormatted (device old).seen → LeavesOnly (device old) (device new) (device old).may_leave
  -- On any other device a crash at any moment leaves an image from before, or one that isn't formatted or is new,
  pub any_moment : LeavesOnly (device old) (device new) (λ image. (device old).may_leave image ⊎ IsBlank rules journal image)
  -- and if no write was pending, only one that isn't formatted or is new.
  pub blank : IsSettled (device old) → (IsFormatted (device old).seen → ⊥) → LeavesOnly (device old) (device new) (IsBlank rules journal)
  -- 91 is reported exactly if a call of the device failed.
  pub cause : CountsCause answer (device old) (device new)
  -- The device was asked for this, in this order, and nothing else.
  pub asks : AsksToFormat rules journal answer (device old) (device new)
