-- The head of an image, from its bytes.
use Rattle.std.proofs.Common.{◌≡◌, ℕ, ◌%◌, ◌++◌, List, take, drop, length, sym, ◌∙◌, ap, subst, arith}
use Rattle.std.proofs.lemmas.List.{take-take, take_at}
use Rattle.std.specs.Prelude.{Result, Ok, Err, IfErr}
use Rattle.hpb_disk.specs.Device.{Device}
use Rattle.hpb_disk.specs.Images.{part}
use Rattle.hpb_codec.specs.Heads.{SpellsHead, magic}
use Rattle.hpb_codec.specs.Numbers.{before}
use Rattle.hpb_codec.specs.declared.head.Head.{Head}
use Rattle.hpb_recover.specs.Heads.{IsFormatted, IsLaidOut, layout_of}
use Rattle.hpb_recover.specs.Beginnings.{Begins}
use Rattle.hpb_recover.specs.Causes.{IsCauseAt, IsTrueOf, LooksFormatted}
use Rattle.hpb_recover.specs.declared.cause.Cause.{Cause}
use Rattle.hpb_recover.specs.declared.cause.Cause.TheVariants as causes

front : (bytes image : List ℕ) → bytes ≡ take 12272 (drop 16 image) → before 8 bytes ≡ take 8 (drop 16 image)
unfolding before
front bytes image e = ap (λ (l : List ℕ). take 8 l) e ∙ take-take 8 12272 (drop 16 image) (omega arith)

module _ (bytes : List ℕ) (len : ℕ) (image : List ℕ) (begins : Begins bytes len image) where
  pub is_formatted : before 8 bytes ≡ magic → IsFormatted image
  is_formatted known = record {
    whole = subst (λ (n : ℕ). n % 4096 ≡ 0) (sym begins.size) begins.whole;
    least = omega (arith, begins.least, begins.size);
    headed = record { gate = begins.gate; known = sym (front bytes image begins.head) ∙ known };
  }

  pub looks_formatted : LooksFormatted image
  looks_formatted = record { whole = subst (λ (n : ℕ). n % 4096 ≡ 0) (sym begins.size) begins.whole; least = omega (arith, begins.least, begins.size); gate = begins.gate }

  pub not_formatted : (before 8 bytes ≡ magic → ⊥) → IsFormatted image → ⊥
  not_formatted other formatted = other (front bytes image begins.head ∙ formatted.headed.known)

  pub is_laid_out : (head : Head) → SpellsHead bytes head → len ≡ (layout_of head).size → IsLaidOut head image
  is_laid_out head spells size = record { spelled = subst (λ (l : List ℕ). SpellsHead l head) begins.head spells; size = begins.size ∙ size }

  pub spelled_here : (head : Head) → IsLaidOut head image → SpellsHead bytes head
  spelled_here head laid = subst (λ (l : List ℕ). SpellsHead l head) (sym begins.head) laid.spelled

-- If no call can fail, the device isn't the cause.
pub cause_at : {T : Type 0} (old new : Device) (result : Result T Cause) → IfErr result (IsTrueOf old.seen) → IfErr result (IsCauseAt old new)
cause_at old new (Ok value) is = tt
cause_at old new (Err (causes.Flawed flaw)) is = is
cause_at old new (Err causes.Memory) is = tt
cause_at old new (Err causes.Device) is = absurd is

-- A read into all of a buffer leaves the bytes that were read.
pub buffer_read : (out items image : List ℕ) (len n : ℕ) → length out ≡ len → n ≡ 12272 → out ≡ part 16 n image → take len (out ++ drop (length out) items) ≡ part 16 12272 image
buffer_read out items image len n size all read = take_at out (drop (length out) items) len size ∙ read ∙ ap (λ (k : ℕ). part 16 k image) all
