-- How a call to format a device ends.
use Rattle.std.proofs.Common.{◌≡◌, ◌⊎◌, ◌<◌, inl, inr, ⊎_elim, refl, subst}
use Rattle.std.specs.Prelude.{Err}
use Rattle.hpb_rules.specs.Tree.{Rules}
use Rattle.hpb_codec.specs.declared.layout.JournalShape.{JournalShape}
use Rattle.hpb_disk.proofs.Runs.{leaves_within}
use Rattle.hpb_disk.specs.Device.{Device, IsSettled, LeavesOnly}
use Rattle.hpb_recover.specs.Heads.{IsFormatted}
use Rattle.hpb_format.specs.Asking.{AsksToFormat}
use Rattle.hpb_format.specs.Outcomes.{FormatsAs, HasLength, IsBlank}
use Rattle.hpb_format.specs.declared.fault.FormatCause.TheVariants as causes

module _ {D : Type 0} (device : D → Device) (rules : Rules) (journal : JournalShape) where
  -- A crash leaves an image from before, or a blank one.
  abbrev pub LeavesBlank : (old new : D) → Type 0
  LeavesBlank old new = LeavesOnly (device old) (device new) (λ image. (device old).may_leave image ⊎ IsBlank rules journal image)

  -- If nothing was pending and the device wasn't formatted, an image from before is blank.
  pub blank_if_settled : (old new : D) → LeavesBlank old new → IsSettled (device old) → (IsFormatted (device old).seen → ⊥) → LeavesOnly (device old) (device new) (IsBlank rules journal)
  blank_if_settled old new leaves settled not =
      leaves_within (λ image is. ⊎_elim (λ was. inl (λ formatted. not (subst IsFormatted (settled image was) formatted))) (λ blank. blank) is) leaves

  -- A call of the device failed, and a formatted one stays as it was.
  pub device_failed : (old new : D) → HasLength journal (device old).seen → (IsFormatted (device old).seen → ((device new).seen ≡ (device old).seen) × LeavesOnly (device old) (device new) (device old).may_leave)
      → LeavesBlank old new → (device old).failures < (device new).failures → AsksToFormat {T = Unit {0}} rules journal (Err causes.Device) (device old) (device new) → FormatsAs device rules journal old new (Err causes.Device)
  device_failed old new has kept leaves counted asks = record {
    stands = tt;
    length = (λ is. absurd (cc), λ none. absurd (none has));
    formatted = λ is. absurd (cc);
    refused = λ sized formatted. inr (inr refl);
    untouched = λ is. absurd (⊎_elim (λ no. cc) (λ no. cc) is);
    same = λ formatted. (kept formatted).0;
    kept = λ formatted. (kept formatted).1;
    any_moment = leaves;
    blank = blank_if_settled old new leaves;
    cause = counted;
    asks = asks;
  }
