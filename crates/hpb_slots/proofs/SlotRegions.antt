-- The bytes that a write in a slot leaves as they were.
use Rattle.std.proofs.Common.{◌≡◌, ◌≢◌, ◌⊎◌, inl, inr, ℕ, ◌+◌, ◌<◌, ◌≤◌, List, [], ◌∷◌, length, refl, sym, ◌∙◌, ap, subst, arith}
use Rattle.std.proofs.lemmas.Bool.{cases_lt}
use Rattle.hpb_disk.specs.Device.{Device, LeavesOnly}
use Rattle.hpb_disk.specs.Images.{part, put, Torn, TornFrom, Within}
use Rattle.hpb_disk.specs.Laws.{ElsewhereStays, PutIsRead, PutIsTorn}
use Rattle.hpb_slots.specs.declared.slot.Slot.{Slot}
use Rattle.hpb_slots.specs.declared.slot.Slot.TheVariants.{First, Second}
use Rattle.hpb_slots.specs.Slots.{place_of, gate_at, chunk_at, piece_of}
use Rattle.hpb_slots.specs.Changes.{ChangesGate, ChangesChunk, TornGate, TornChunk}
use Rattle.hpb_disk.proofs.Runs.{leaves_within}

-- There are two slots.
pub two : (slot : Slot) → place_of slot ≤ 1
two First = omega arith
two Second = omega arith

places_differ : (slot other : Slot) → other ≢ slot → place_of other ≢ place_of slot
places_differ First First apart same = apart refl
places_differ First Second apart same = absurd (omega (arith, same))
places_differ Second First apart same = absurd (omega (arith, same))
places_differ Second Second apart same = apart refl

module _ (elsewhere : ElsewhereStays) (slot : Slot) where
  -- Different slots have different places.
  module _ (other : Slot) (apart : other ≢ slot) where
    differ : place_of other ≢ place_of slot
    differ = places_differ slot other apart

  gate_changes : (old new : List ℕ) → Torn (gate_at slot) 1 old new → ChangesGate slot old new
  gate_changes old new torn =
      let stays : (from many : ℕ) → (from + many ≤ gate_at slot) ⊎ (gate_at slot + 1 ≤ from) → part from many new ≡ part from many old =
      λ from many apart. elsewhere from many (gate_at slot) 1 old new torn apart in
      record {
        before = λ at many below. stays at many (inl (omega (arith, below)));
        behind = λ at many above. stays at many (inr (omega (arith, above, two slot)));
        size = torn.size;
        gates = λ other apart. stays (gate_at other) 1 (elim (cases_lt (place_of slot) (place_of other)) [ inl less ↦ inr (omega (arith, less)) | inr ge ↦ inl (omega (arith, ge, differ other apart)) ]);
        bodies = λ other. stays (gate_at other + 4096) 16384 (elim (cases_lt (place_of other) (place_of slot)) [ inl less ↦ inl (omega (arith, less)) | inr ge ↦ inr (omega (arith, ge)) ]);
      }

  module _ (i : ℕ) (some : i < 4) where
    chunk_changes : (old new : List ℕ) → Torn (chunk_at slot i) 4096 old new → ChangesChunk slot i old new
    chunk_changes old new torn =
        let stays : (from many : ℕ) → (from + many ≤ chunk_at slot i) ⊎ (chunk_at slot i + 4096 ≤ from) → part from many new ≡ part from many old =
        λ from many apart. elsewhere from many (chunk_at slot i) 4096 old new torn apart in
        record {
          before = λ at many below. stays at many (inl (omega (arith, below)));
          behind = λ at many above. stays at many (inr (omega (arith, above, two slot, some)));
          size = torn.size;
          gates = λ other. stays (gate_at other) 1 (elim (cases_lt (place_of slot) (place_of other)) [ inl less ↦ inr (omega (arith, less, some)) | inr ge ↦ inl (omega (arith, ge)) ]);
          bodies = λ other apart. stays (gate_at other + 4096) 16384 (elim (cases_lt (place_of slot) (place_of other)) [ inl less ↦ inr (omega (arith, less, some)) | inr ge ↦ inl (omega (arith, ge, differ other apart)) ]);
          pieces = λ j few apart. stays (chunk_at slot j) 4096 (elim (cases_lt i j) [ inl less ↦ inr (omega (arith, less)) | inr ge ↦ inl (omega (arith, ge, apart)) ]);
        }

-- A write at this offset, as a call reports it.
module _ (elsewhere : ElsewhereStays) (tears : PutIsTorn) (slot : Slot) (at : ℕ) where
  module _ (here : at ≡ gate_at slot) where
    gate_within : (images : List ℕ → Type 0) → Within (TornFrom at 1 images) (TornGate slot images)
    gate_within images new torn = (torn.0, torn.1, gate_changes elsewhere slot torn.0 new (subst (λ (from : ℕ). Torn from 1 torn.0 new) here torn.2))

    pub gate_rest : (byte : ℕ) (old new : List ℕ) → at < length old → new ≡ put at (byte ∷ []) old → ChangesGate slot old new
    gate_rest byte old new inside written =
        gate_changes elsewhere slot old new (subst (λ (from : ℕ). Torn from 1 old new) here (subst (Torn at 1 old) (sym written) (tears at (byte ∷ []) old (omega (arith, inside)))))

    pub gate_crash : {old new : Device} → LeavesOnly old new (TornFrom at 1 old.may_leave) → LeavesOnly old new (TornGate slot old.may_leave)
    gate_crash {old = old} crash = leaves_within (gate_within old.may_leave) crash

  module _ (i : ℕ) (some : i < 4) (bytes : List ℕ) (here : at ≡ chunk_at slot i) (size : length bytes ≡ 4096) where
    torn_here : (old new : List ℕ) → Torn at (length bytes) old new → Torn (chunk_at slot i) 4096 old new
    torn_here old new torn = subst (λ (from : ℕ). Torn from 4096 old new) here (subst (λ (many : ℕ). Torn at many old new) size torn)

    chunk_within : (images : List ℕ → Type 0) → Within (TornFrom at (length bytes) images) (TornChunk slot i images)
    chunk_within images new torn = (torn.0, torn.1, chunk_changes elsewhere slot i some torn.0 new (torn_here torn.0 new torn.2))

    pub chunk_rest : (old new : List ℕ) → at + length bytes ≤ length old → new ≡ put at bytes old → ChangesChunk slot i old new
    chunk_rest old new inside written = chunk_changes elsewhere slot i some old new (torn_here old new (subst (Torn at (length bytes) old) (sym written) (tears at bytes old inside)))

    pub chunk_crash : {old new : Device} → LeavesOnly old new (TornFrom at (length bytes) old.may_leave) → LeavesOnly old new (TornChunk slot i old.may_leave)
    chunk_crash {old = old} crash = leaves_within (chunk_within old.may_leave) crash

    pub chunk_is : (reads : PutIsRead) (old new : List ℕ) → at + length bytes ≤ length old → new ≡ put at bytes old → piece_of slot i new ≡ bytes
    chunk_is reads old new inside written =
        sym (ap (λ (from : ℕ). part from 4096 new) here) ∙ sym (ap (λ (many : ℕ). part at many new) size) ∙ ap (part at (length bytes)) written ∙ reads at bytes old inside
