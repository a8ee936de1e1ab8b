-- Calls that only read or sync, one after another.
use Rattle.std.proofs.Common.{◌≡◌, ◌∙◌, ⊎_elim, ℕ, ◌+◌, ◌-◌, ◌*◌, ◌/◌, ◌≤◌, List, length, take, drop, refl, sym, ap, arith}
use Rattle.std.specs.Prelude.{◌==◌, if◌then◌else◌}
use Rattle.std.proofs.Math.Nat.{mul-div_cancel_left}
use Rattle.std.proofs.lemmas.List.{drop-take, drop-drop, take-take}
use Rattle.hpb_disk.specs.Device.{Device, IsUnchanged, LeavesOnly}
use Rattle.hpb_disk.specs.Images.{part}
use Rattle.hpb_codec.specs.Heads.{magic, SpellsHead}
use Rattle.hpb_codec.specs.Laws.{LayoutIsNamed}
use Rattle.hpb_codec.specs.Layouts.{layout_byte}
use Rattle.hpb_codec.specs.Numbers.{leading, rest, value}
use Rattle.hpb_codec.specs.declared.head.Head.{Head}
use Rattle.hpb_codec.specs.declared.layout.JournalLayout.{JournalLayout}
use Rattle.hpb_codec.specs.declared.layout.JournalLayout.TheVariants as layouts
use Rattle.hpb_codec.specs.declared.layout.JournalShape.{JournalShape}
use Rattle.hpb_journal.specs.Shapes.{frame_bytes, shaped}
use Rattle.hpb_recover.specs.Quiet.{IsQuiet, LeavesNothingNew, frame_bytes_in, frames_in, layout_byte_in, reads_in}

-- A head names its layout by the byte behind the magic.
byte_there : (image : List ℕ) → leading 1 (rest (length magic) (part 16 12272 image)) ≡ layout_byte_in image
unfolding leading rest
byte_there image =
    ap (λ (l : List ℕ). value (take 1 l)) (drop-take 8 12264 (drop 16 image) ∙ ap (λ (l : List ℕ). take 12264 l) (drop-drop 8 16 image))
    ∙ ap value (take-take 1 12264 (drop 24 image) (omega arith))

pub named_here : LayoutIsNamed → (head : Head) (image : List ℕ) → SpellsHead (part 16 12272 image) head → layout_byte_in image ≡ layout_byte head.journal.layout
named_here law head image spelled = sym (byte_there image) ∙ law (part 16 12272 image) head spelled

-- If an image has the length for the journal of its head, it has room for all of the journal's frames and no more.
room_for : (layout : JournalLayout) (frames : ℕ) → (53248 + frame_bytes layout * frames - 53248) / (if layout_byte layout == 2 then 1536 else 4096) ≡ frames
room_for layouts.Pages frames = ap (λ (k : ℕ). k / 4096) (omega arith) ∙ mul-div_cancel_left frames (omega arith)
room_for layouts.Cells frames = ap (λ (k : ℕ). k / 1536) (omega arith) ∙ mul-div_cancel_left frames (omega arith)

pub frames_here : (image : List ℕ) (shape : JournalShape) → layout_byte_in image ≡ layout_byte shape.layout → length image ≡ (shaped shape).size → frames_in image ≡ shape.frames
unfolding frames_in
frames_here image shape named size =
    ap (λ (k : ℕ). (k - 53248) / frame_bytes_in image) size
    ∙ ap (λ (byte : ℕ). (53248 + frame_bytes shape.layout * shape.frames - 53248) / (if byte == 2 then 1536 else 4096)) named
    ∙ room_for shape.layout shape.frames

-- No call.
pub no_calls : {here : Device} (calls : ℕ) → IsQuiet calls here here
no_calls calls = record {
  same = refl;
  crash = λ image may. may;
  since = record { later = omega arith; nothing_else = λ at le image was. was; keeps = λ at le image was. was };
  few = omega arith;
}

-- More calls.
pub more_calls : {first more calls : ℕ} {old middle new : Device} → first + more ≤ calls → IsQuiet first old middle → IsQuiet more middle new → IsQuiet calls old new
more_calls fits one two = record {
  same = two.same ∙ one.same;
  crash = λ image may. one.crash image (two.crash image may);
  since = record {
    later = omega (arith, one.since.later, two.since.later);
    nothing_else = λ at le image is. one.since.nothing_else at le image (two.since.nothing_else at (omega (arith, le, one.since.later)) image is);
    keeps = λ at le image was. two.since.keeps at (omega (arith, le, one.since.later)) image (one.since.keeps at le image was);
  };
  few = omega (arith, fits, one.few, two.few);
}

-- A bound on the calls may be raised.
pub at_most : {few calls : ℕ} {old new : Device} → few ≤ calls → IsQuiet few old new → IsQuiet calls old new
at_most le quiet = record { same = quiet.same; crash = quiet.crash; since = quiet.since; few = omega (arith, le, quiet.few) }

-- A sync, and then all reads.
pub opened_calls : {old synced new : Device} → IsQuiet 1 old synced → IsQuiet (reads_in synced.seen) synced new → IsQuiet (1 + reads_in old.seen) old new
opened_calls sync reads = more_calls (omega (arith, ap reads_in sync.same)) sync reads

-- Calls after which a crash leaves only images that it could leave before.
pub leaves_nothing_new : {old new : Device} → LeavesOnly old new old.may_leave → LeavesNothingNew old new
leaves_nothing_new {old = old} leaves = record {
  later = leaves.later;
  nothing_else = λ at le image is. ⊎_elim (λ was. was) (λ now. old.counts_now at image le now) (leaves.nothing_else at image le is);
  keeps = λ at le image was. leaves.keeps at image le was;
}

pub of_calls : {calls : ℕ} {old new : Device} → IsUnchanged old new → new.moment ≤ old.moment + calls → IsQuiet calls old new
of_calls is few = record { same = is.seen; crash = is.leaves.after; since = leaves_nothing_new is.leaves; few = few }

-- One call.
pub one_call : {old new : Device} → IsUnchanged old new → new.moment ≡ old.moment + 1 → IsQuiet 1 old new
one_call is next = of_calls is (omega (arith, next))
