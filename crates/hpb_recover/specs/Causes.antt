-- Why a call ended early.
use Rattle.std.specs.Prelude.{◌≡◌, ℕ, ◌*◌, ◌%◌, ◌<◌, ◌≤◌, List, ◌∷◌, length, Result, MatchResult, OnOk}
use Rattle.hpb_disk.specs.Asked.{Asked}
use Rattle.hpb_disk.specs.Asked.Asked.{fails}
use Rattle.hpb_disk.specs.Device.{Device}
use Rattle.hpb_disk.specs.Gates.{HasOpenGate}
use Rattle.hpb_codec.specs.declared.layout.TheConstants.{PAGE_BYTES}
use Rattle.hpb_recover.specs.declared.limits.TheConstants.{LEAST_PAGES}
use Rattle.hpb_recover.specs.declared.flaw.Flaw.{Flaw}
use Rattle.hpb_recover.specs.Flaws.{HasFlaw}
use Rattle.hpb_recover.specs.Flaws as flaws
use Rattle.hpb_recover.specs.Quiet.{IsQuiet}
use Rattle.hpb_rules.specs.declared.refusal.Refusal.{Refusal}
use Rattle.hpb_rules.specs.declared.refusal.Refusal.TheVariants as refusals
use Rattle.hpb_recover.specs.declared.cause.Cause.{Cause}
use Rattle.hpb_recover.specs.declared.cause.Cause.TheVariants as causes

-- The refusal that reports a cause.
abbrev pub refusal_of : Cause → Refusal
refusal_of (causes.Flawed flaw) = flaws.refusal_of flaw
refusal_of causes.Memory = refusals.Memory
refusal_of causes.Device = refusals.Device

-- An image looks like that of a formatted device, before any memory is asked for: it has whole pages, at least 17, and
-- an open gate.
pub record LooksFormatted (image : List ℕ) : Type 0 where
  pub whole : length image % PAGE_BYTES ≡ 0
  pub least : PAGE_BYTES * LEAST_PAGES ≤ length image
  pub gate : HasOpenGate 0 image

-- If memory was refused, the image looks formatted: no memory is asked for before that is known.
abbrev pub AsksMemory : List ℕ → Cause → Type 0
AsksMemory image cause = cause ≡ causes.Memory → LooksFormatted image

-- The machine failed: the device, which counts it, or memory.
abbrev pub HasCause : (old new : Device) → Cause → Type 0
HasCause old new (causes.Flawed flaw) = ⊥
HasCause old new causes.Memory = Unit {0}
HasCause old new causes.Device = old.failures < new.failures

-- The cause is right about the device: if it is a flaw, the bytes that a read gave have it; if it is the machine, the
-- machine failed.
abbrev pub IsCauseAt : (old new : Device) → Cause → Type 0
IsCauseAt old new (causes.Flawed flaw) = HasFlaw flaw old.seen
IsCauseAt old new causes.Memory = Unit {0}
IsCauseAt old new causes.Device = old.failures < new.failures

-- The cause is right about an image, without a call of the device: if it is a flaw, the image has it. Otherwise memory
-- was refused.
abbrev pub IsTrueOf : (image : List ℕ) → Cause → Type 0
IsTrueOf image (causes.Flawed flaw) = HasFlaw flaw image
IsTrueOf image causes.Memory = Unit {0}
IsTrueOf image causes.Device = ⊥

-- The cause is the machine: the device or memory.
abbrev pub IsMachine : Cause → Type 0
IsMachine (causes.Flawed flaw) = ⊥
IsMachine causes.Memory = Unit {0}
IsMachine causes.Device = Unit {0}

-- The cause is this flaw, unless the machine failed.
abbrev pub IsUnlessMachine : Flaw → Cause → Type 0
IsUnlessMachine flaw (causes.Flawed other) = other ≡ flaw
IsUnlessMachine flaw causes.Memory = Unit {0}
IsUnlessMachine flaw causes.Device = Unit {0}

-- All calls of a device if a call ended for this cause: a note of a failure is added if the cause was the device.
abbrev pub ended_by : Cause → List Asked → List Asked
ended_by (causes.Flawed flaw) asked = asked
ended_by causes.Memory asked = asked
ended_by causes.Device asked = fails ∷ asked

-- A device was asked for reads alone, at most `most`, which are quiet. If the cause is the device, one of them failed,
-- and otherwise none.
pub record OnlyReads {T : Type 0} (result : Result T Cause) (most : ℕ) (old new : Device) : Type 0 where
  pub quiet : IsQuiet most old new
  pub works : OnOk result (new.failures ≡ old.failures)
  pub asked : MatchResult result (λ _. new.asked ≡ old.asked) (λ cause. new.asked ≡ ended_by cause old.asked)
