-- How a device comes to stand for the beginning of an auction.
use Rattle.std.proofs.Common.{◌≡◌, inl, inr, ℕ, ◌+◌, ◌<◌, ◌≤◌, List, length, refl, sym, ◌∙◌, subst, arith}
use Rattle.std.proofs.lemmas.Bool.{cases_eq}
use Rattle.hpb_codec.specs.Laws.{chunk_of}
use Rattle.hpb_codec.specs.declared.state.TheConstants.{CHUNKS, STATE_SIZE}
use Rattle.hpb_disk.proofs.Runs.{leaves_within}
use Rattle.hpb_disk.specs.Device.{Device, IsSettled, LeavesOnly}
use Rattle.hpb_disk.specs.Gates.{open_byte, HasOpenGate}
use Rattle.hpb_disk.specs.Images.{part, put, Torn, TornFrom}
use Rattle.hpb_disk.specs.Laws.{ElsewhereStays, PutIsTorn, OpenOrClosed}
use Rattle.hpb_journal.specs.Layouts.{Layout, IsLayout}
use Rattle.hpb_slots.specs.Changes.{ChangesGate, ChangesChunk, TornGate, TornChunk}
use Rattle.hpb_slots.specs.Laws.{ChunksAreWhole}
use Rattle.hpb_slots.specs.declared.slot.Slot.{Slot}
use Rattle.hpb_slots.specs.declared.slot.Slot.TheVariants.{First, Second}
use Rattle.hpb_slots.specs.Slots as slots
use Rattle.hpb_format.specs.Stages.{AreClosed, ChangesBody, IsClosedOrMade, IsMade, IsOpenAndMade, IsWritten, StaysClosed}
use Rattle.hpb_codec.specs.declared.head.TheConstants.{HEAD_SIZE}
use Rattle.hpb_recover.specs.declared.limits.TheConstants.{HEAD_AT}
use Rattle.hpb_format.specs.declared.place.TheConstants.{HEAD_GATE}

-- The bytes that a read gives after the head was written.
module _ (layout : Layout) (laws : IsLayout layout) (stays : ElsewhereStays) (head : List ℕ) (old new : List ℕ) (torn : Torn HEAD_AT HEAD_SIZE old new) where
  pub closed_behind_head : AreClosed layout old → AreClosed layout new
  closed_behind_head was = record {
    head = λ is_open. was.head (sym (stays HEAD_GATE 1 HEAD_AT HEAD_SIZE old new torn (inl (omega arith))) ∙ is_open);
    slots = slot_stays;
    frames = λ b is_open. was.frames b (sym (laws.behind b old new (λ at many behind. stays at many HEAD_AT HEAD_SIZE old new torn (inr (omega (arith, behind))))).gate ∙ is_open);
  }
    where
      slot_stays : (slot : Slot) → slots.IsClosed slot new
      slot_stays First is_open = was.slots First (sym (stays (slots.gate_at First) 1 HEAD_AT HEAD_SIZE old new torn (inr (omega arith))) ∙ is_open)
      slot_stays Second is_open = was.slots Second (sym (stays (slots.gate_at Second) 1 HEAD_AT HEAD_SIZE old new torn (inr (omega arith))) ∙ is_open)

-- The bytes after one more chunk was written.
pub body_same : (image : List ℕ) → ChangesBody image image
body_same image = record { before = λ at many inside. refl; behind = λ at many behind. refl; size = refl; gates = λ slot. refl }

pub body_more : (i : ℕ) (old middle new : List ℕ) → ChangesBody old middle → ChangesChunk First i middle new → ChangesBody old new
body_more i old middle new was changes = record {
  before = λ at many inside. changes.before at many inside ∙ was.before at many inside;
  behind = λ at many behind. changes.behind at many behind ∙ was.behind at many behind;
  size = changes.size ∙ was.size;
  gates = λ slot. changes.gates slot ∙ was.gates slot;
}

pub chunk_more : (i : ℕ) (state old new : List ℕ) → i < CHUNKS → ChangesChunk First i old new → slots.piece_of First i new ≡ chunk_of i state
    → slots.HasChunks First i state old → slots.HasChunks First (i + 1) state new
chunk_more i state old new some changes written was j below = elim (cases_eq j i) [
  | inl same ↦ subst (λ (n : ℕ). slots.piece_of First n new ≡ chunk_of n state) (sym same) written
  | inr other ↦ changes.pieces j (omega (arith, below, some)) other ∙ was j (omega (arith, below, other))
]

-- Head and body are written.
pub written : (layout : Layout) → IsLayout layout → ElsewhereStays → ChunksAreWhole → (head state old middle new : List ℕ) → length old ≡ layout.size → length state ≡ STATE_SIZE → AreClosed layout old
    → Torn HEAD_AT HEAD_SIZE old middle → part HEAD_AT HEAD_SIZE middle ≡ head → ChangesBody middle new → slots.HasChunks First CHUNKS state new → IsWritten layout head state new
written layout laws stays whole head state old middle new size state_size closed torn head_is changes chunks =
    let was = closed_behind_head layout laws stays head old middle torn closed in
    record {
      size = changes.size ∙ torn.size ∙ size;
      head = changes.before HEAD_AT HEAD_SIZE (omega arith) ∙ head_is;
      state = whole First state new state_size chunks;
      closed = record {
        head = λ is_open. was.head (sym (changes.before HEAD_GATE 1 (omega arith)) ∙ is_open);
        slots = λ slot is_open. was.slots slot (sym (changes.gates slot) ∙ is_open);
        frames = λ b is_open. was.frames b (sym (laws.behind b middle new changes.behind).gate ∙ is_open);
      };
    }

-- The first slot is opened.
pub first_opened : (layout : Layout) → IsLayout layout → (head state old new : List ℕ) → IsWritten layout head state old → ChangesGate First old new → slots.IsOpen First new → IsMade layout head state new
first_opened layout laws head state old new was changes is_open = record {
  size = changes.size ∙ was.size;
  head = changes.before HEAD_AT HEAD_SIZE (omega arith) ∙ was.head;
  state = changes.bodies First ∙ was.state;
  first = is_open;
  second = λ second. was.closed.slots Second (sym (changes.gates Second (λ same. absurd (cc))) ∙ second);
  frames = λ b frame. was.closed.frames b (sym (laws.behind b old new changes.behind).gate ∙ frame);
}

-- Tearing only the head's gate keeps all the rest.
pub made_stays : (layout : Layout) → IsLayout layout → ElsewhereStays → (head state old new : List ℕ) → IsMade layout head state old → Torn HEAD_GATE 1 old new → IsMade layout head state new
made_stays layout laws stays head state old new was torn =
    let same : (at many : ℕ) → 1 ≤ at → part at many new ≡ part at many old = λ at many behind. stays at many HEAD_GATE 1 old new torn (inr (omega (arith, behind))) in
    record {
      size = torn.size ∙ was.size;
      head = same HEAD_AT HEAD_SIZE (omega arith) ∙ was.head;
      state = same (slots.gate_at First + 4096) STATE_SIZE (omega arith) ∙ was.state;
      first = same (slots.gate_at First) 1 (omega arith) ∙ was.first;
      second = λ second. was.second (sym (same (slots.gate_at Second) 1 (omega arith)) ∙ second);
      frames = λ b frame. was.frames b (sym (laws.behind b old new (λ at many behind. same at many (omega (arith, behind)))).gate ∙ frame);
    }

pub closed_or_made : (layout : Layout) → IsLayout layout → ElsewhereStays → OpenOrClosed → (head state old new : List ℕ) → IsMade layout head state old → Torn HEAD_GATE 1 old new → IsClosedOrMade layout head state new
closed_or_made layout laws stays either head state old new was torn = elim (either HEAD_GATE new) [
  | inl is_open ↦ inr (record { gate = is_open; made = made_stays layout laws stays head state old new was torn })
  | inr closed ↦ inl closed
]

-- The calls behind the closed gate of the head.
behind_gate : {old new : Device} {during : List ℕ → Type 0} → ((image : List ℕ) → during image → (was : List ℕ) × old.may_leave was × (part HEAD_GATE 1 image ≡ part HEAD_GATE 1 was))
    → LeavesOnly old new during → StaysClosed old new
behind_gate same leaves within = leaves_within (λ image torn is_open. let from = same image torn in within from.0 from.1 (sym from.2 ∙ is_open)) leaves

pub write_stays : {old new : Device} → ElsewhereStays → (at count : ℕ) → 1 ≤ at → LeavesOnly old new (TornFrom at count old.may_leave) → StaysClosed old new
write_stays stays at count behind = behind_gate (λ image torn. (torn.0, torn.1, stays HEAD_GATE 1 at count torn.0 image torn.2 (inl (omega (arith, behind)))))

pub chunk_stays : {old new : Device} (slot : Slot) (i : ℕ) → LeavesOnly old new (TornChunk slot i old.may_leave) → StaysClosed old new
chunk_stays slot i = behind_gate (λ image torn. (torn.0, torn.1, torn.2.before HEAD_GATE 1 (omega arith)))

pub slot_stays : {old new : Device} (slot : Slot) → LeavesOnly old new (TornGate slot old.may_leave) → StaysClosed old new
slot_stays slot = behind_gate (λ image torn. (torn.0, torn.1, torn.2.before HEAD_GATE 1 (omega arith)))

-- The head's gate is opened: nothing else was pending.
pub head_opens : {old new : Device} (layout : Layout) → IsLayout layout → ElsewhereStays → OpenOrClosed → (head state : List ℕ) → IsSettled old → IsMade layout head state old.seen
    → LeavesOnly old new (TornFrom HEAD_GATE 1 old.may_leave) → LeavesOnly old new (IsClosedOrMade layout head state)
head_opens {old = old} layout laws stays either head state settled was = leaves_within
    (λ image torn. closed_or_made layout laws stays either head state old.seen image was (subst (λ (from : List ℕ). Torn HEAD_GATE 1 from image) (settled torn.0 torn.1) torn.2))

pub head_opened : (layout : Layout) → IsLayout layout → ElsewhereStays → PutIsTorn → (head state old new : List ℕ) → IsMade layout head state old → 1 ≤ length old → new ≡ put HEAD_GATE open_byte old → HasOpenGate HEAD_GATE new
    → IsOpenAndMade layout head state new
head_opened layout laws stays tears head state old new was some is is_open = record {
  gate = is_open;
  made = made_stays layout laws stays head state old new was (subst (Torn HEAD_GATE 1 old) (sym is) (tears HEAD_GATE open_byte old (omega (arith, some))));
}
