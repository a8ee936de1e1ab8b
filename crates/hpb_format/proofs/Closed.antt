-- The images after gates were closed.
use Rattle.std.proofs.Common.{◌≡◌, ◌≢◌, ◌⊎◌, inl, inr, ⊎_elim, ℕ, ◌+◌, ◌%◌, ◌<◌, ◌≤◌, List, sym, ◌∙◌, subst, arith}
use Rattle.std.proofs.lemmas.Bool.{cases_eq, cases_lt}
use Rattle.std.proofs.Math.Nat.{mod-lt, mod-eq_of_lt}
use Rattle.hpb_disk.proofs.Runs.{leaves_within}
use Rattle.hpb_disk.specs.Device.{Device, LeavesOnly}
use Rattle.hpb_disk.specs.Gates.{HasOpenGate, HasClosedGate}
use Rattle.hpb_disk.specs.Images.{SameBefore, Torn, TornFrom}
use Rattle.hpb_disk.specs.Laws.{ElsewhereStays}
use Rattle.hpb_journal.specs.declared.limits.TheConstants.{JOURNAL_AT}
use Rattle.hpb_journal.specs.Changes.{ChangesGate, TornGate}
use Rattle.hpb_journal.specs.Frames.{IsClosed}
use Rattle.hpb_journal.specs.Layouts.{Layout, IsLayout}
use Rattle.hpb_slots.specs.declared.slot.Slot.{Slot}
use Rattle.hpb_slots.specs.declared.slot.Slot.TheVariants.{First, Second}
use Rattle.hpb_slots.specs.Slots as slots
use Rattle.hpb_format.specs.Stages.{AreClosed, HasHeadOf, OnlyCloses}
use Rattle.hpb_recover.specs.declared.limits.TheConstants.{HEAD_AT, MAGIC_BYTES}
use Rattle.hpb_format.specs.declared.place.TheConstants.{HEAD_GATE, FIRST_GATE, SECOND_GATE}
use Rattle.hpb_format.proofs.Runs.{keeps_join, quiet_keeps}

-- An image that is torn behind the magic has the same head.
pub head_stays : ElsewhereStays → (first : List ℕ) (at count : ℕ) (old new : List ℕ) → HEAD_AT + MAGIC_BYTES ≤ at → Torn at count old new → HasHeadOf first old → HasHeadOf first new
head_stays stays first at count old new behind torn was = record {
  magic = stays HEAD_AT MAGIC_BYTES at count old new torn (inl (omega (arith, behind))) ∙ was.magic;
  gate = λ closed is_open. was.gate closed (sym (stays HEAD_GATE 1 at count old new torn (inl (omega (arith, behind)))) ∙ is_open);
}

-- So has an image whose frame's gate changed too.
pub head_stays_at_frame : (layout : Layout) (first : List ℕ) (b : ℕ) (old new : List ℕ) → ChangesGate layout b old new → HasHeadOf first old → HasHeadOf first new
head_stays_at_frame layout first b old new changes was = record {
  magic = changes.before HEAD_AT MAGIC_BYTES (omega arith) ∙ was.magic;
  gate = λ closed is_open. was.gate closed (sym (changes.before HEAD_GATE 1 (omega arith)) ∙ is_open);
}

-- So has an image whose head's gate is torn, if that gate was open in an image with the same head as the first.
pub head_is_torn : ElsewhereStays → (first seen old new : List ℕ) → HasHeadOf first seen → HasOpenGate HEAD_GATE seen → Torn HEAD_GATE 1 old new → HasHeadOf first old → HasHeadOf first new
head_is_torn stays first seen old new shown is_open torn was = record {
  magic = stays HEAD_AT MAGIC_BYTES HEAD_GATE 1 old new torn (inr (omega arith)) ∙ was.magic;
  gate = λ closed. absurd (shown.gate closed is_open);
}

-- Gates apart from the torn bytes stay closed.
pub closed_elsewhere : ElsewhereStays → (gate at count : ℕ) (old new : List ℕ) → Torn at count old new → (gate + 1 ≤ at) ⊎ (at + count ≤ gate) → HasClosedGate gate old → HasClosedGate gate new
closed_elsewhere stays gate at count old new torn apart closed is_open = closed (sym (stays gate 1 at count old new torn apart) ∙ is_open)

by_order : (gate at : ℕ) → gate ≢ at → (gate + 1 ≤ at) ⊎ (at + 1 ≤ gate)
by_order gate at other = elim (cases_lt gate at) [ inl below ↦ inl (omega (arith, below)) | inr above ↦ inr (omega (arith, above, other)) ]

-- The frames that are closed stay so when one more is closed.
pub frames_stay : (layout : Layout) → IsLayout layout → (b : ℕ) (old new : List ℕ) → ChangesGate layout b old new → IsClosed layout b new
    → (other : ℕ) → IsClosed layout other old → IsClosed layout other new
frames_stay layout laws b old new changes now other closed is_open = elim (cases_eq (b % layout.count) (other % layout.count)) [
  | inl same ↦ now ((laws.shared b other new same).0 ∙ is_open)
  | inr apart ↦ closed (sym (changes.gates other apart) ∙ is_open)
]

-- Closing one more frame makes one more closed.
pub one_more : (layout : Layout) → IsLayout layout → (b : ℕ) (old new : List ℕ) → ChangesGate layout b old new → IsClosed layout b new
    → ((other : ℕ) → other < b → IsClosed layout other old) → (other : ℕ) → other < b + 1 → IsClosed layout other new
one_more layout laws b old new changes now before other below = elim (cases_lt other b) [
  | inl less ↦ frames_stay layout laws b old new changes now other (before other less)
  | inr last ↦ let same : b ≡ other = omega (arith, below, last) in subst (λ (n : ℕ). IsClosed layout n new) same now
]

-- Two steps that change nothing before the journal together change nothing there.
pub same_before : (end : ℕ) (old middle new : List ℕ) → SameBefore end old middle → SameBefore end middle new → SameBefore end old new
same_before end old middle new first second at many inside = second at many inside ∙ first at many inside

-- If the frames of the first batches are closed, as many as there are frames, all are: later batches have the same
-- frames again.
pub all_frames : (layout : Layout) → IsLayout layout → (image : List ℕ) → ((b : ℕ) → b < layout.count → IsClosed layout b image) → (b : ℕ) → IsClosed layout b image
all_frames layout laws image closed b is_open =
    let some : 0 < layout.count = omega (arith, laws.least) in
    let inside : b % layout.count < layout.count = mod-lt b some in
    closed (b % layout.count) inside ((laws.shared (b % layout.count) b image (mod-eq_of_lt inside)).0 ∙ is_open)

-- Once the first gate and then the second was closed, both slots are closed.
pub both_slots : ElsewhereStays → (middle new : List ℕ) → HasClosedGate FIRST_GATE middle → Torn SECOND_GATE 1 middle new → HasClosedGate SECOND_GATE new → (slot : Slot) → slots.IsClosed slot new
both_slots stays middle new first torn second First = closed_elsewhere stays FIRST_GATE SECOND_GATE 1 middle new torn (inl (omega arith)) first
both_slots stays middle new first torn second Second = second

-- Once the gates before the journal and all frames are closed, all gates are.
pub all_closed : (layout : Layout) (old new : List ℕ) → HasClosedGate HEAD_GATE old → ((slot : Slot) → slots.IsClosed slot old) → SameBefore JOURNAL_AT old new → ((b : ℕ) → IsClosed layout b new)
    → AreClosed layout new
all_closed layout old new head closed same frames = record {
  head = λ is_open. head (sym (same HEAD_GATE 1 (omega arith)) ∙ is_open);
  slots = slot_stays;
  frames = frames;
}
  where
    slot_stays : (slot : Slot) → slots.IsClosed slot new
    slot_stays First = λ is_open. closed First (sym (same FIRST_GATE 1 (omega arith)) ∙ is_open)
    slot_stays Second = λ is_open. closed Second (sym (same SECOND_GATE 1 (omega arith)) ∙ is_open)

-- The calls that close gates.
pub closes_on : {old middle new : Device} → OnlyCloses old middle → OnlyCloses middle new → OnlyCloses old new
closes_on one two first = keeps_join (one first) (two first)

pub quiet_closes : {old new : Device} → LeavesOnly old new old.may_leave → OnlyCloses old new
quiet_closes leaves first = quiet_keeps leaves

pub gate_closes : {old new : Device} → ElsewhereStays → (at : ℕ) → (at ≡ HEAD_GATE) ⊎ (HEAD_AT + MAGIC_BYTES ≤ at) → HasOpenGate at old.seen → LeavesOnly old new (TornFrom at 1 old.may_leave) → OnlyCloses old new
gate_closes {old = old} stays at which is_open leaves first within = leaves_within (λ image torn. ⊎_elim
    (λ head. head_is_torn stays first old.seen torn.0 image (within old.seen old.seen_may_stay) (subst (λ (n : ℕ). HasOpenGate n old.seen) head is_open) (subst (λ (n : ℕ). Torn n 1 torn.0 image) head torn.2) (within torn.0 torn.1))
    (λ behind. head_stays stays first at 1 torn.0 image behind torn.2 (within torn.0 torn.1))
    which) leaves

pub frame_closes : {old new : Device} (layout : Layout) (b : ℕ) → LeavesOnly old new (TornGate layout b old.may_leave) → OnlyCloses old new
frame_closes layout b leaves first within = leaves_within (λ image torn. head_stays_at_frame layout first b torn.0 image torn.2 (within torn.0 torn.1)) leaves
