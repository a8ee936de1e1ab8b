-- Why a device isn't opened.
use Rattle.std.proofs.Common.{◌≡◌, ◌<◌, sym, subst}
use Rattle.std.specs.Prelude.{Result, Ok, Err, IfErr}
use Rattle.std.specs.Result.{IsErrAnd}
use Rattle.hpb_rules.specs.Tree.{Rules}
use Rattle.hpb_disk.specs.Device.{Device}
use Rattle.hpb_recover.specs.Laws.{ReadIsFlawless}
use Rattle.hpb_recover.specs.Readings.{Found, Reads}
use Rattle.hpb_recover.specs.Causes.{IsCauseAt, IsMachine}
use Rattle.hpb_recover.specs.Checkpoints.{IsUnlessWithout}
use Rattle.hpb_recover.specs.declared.cause.Cause.{Cause}
use Rattle.hpb_recover.specs.declared.cause.Cause.TheVariants as causes

pub machine_only : ReadIsFlawless → (found : Found) (old new : Device) → Reads found old.seen → (cause : Cause) → IsCauseAt old new cause → IsMachine cause
machine_only flawless found old new reads (causes.Flawed flaw) is = flawless found flaw old.seen reads is
machine_only flawless found old new reads causes.Memory is = tt
machine_only flawless found old new reads causes.Device is = tt

-- if the device failed and counted it, the cause is the device
pub device_failed : {T : Type 0} (result : Result T Cause) (rules : Rules) (old new : Device) → IsErrAnd result (λ cause. cause ≡ causes.Device) → old.failures < new.failures → IfErr result (IsUnlessWithout rules old new)
device_failed (Ok done) rules old new bad counted = absurd bad
device_failed (Err cause) rules old new is counted = subst (IsUnlessWithout rules old new) (sym is) counted
