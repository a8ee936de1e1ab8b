-- One call more in the trace of a device.
use Rattle.std.proofs.Common.{◌≡◌, ◌⊎◌, inl, inr, ℕ, ◌≤◌, List, [], ◌∷◌, length, sym, subst, arith}
use Rattle.hpb_disk.specs.Calls.{Call, calls_of, call_of, left_of, seen_of, since_of}
use Rattle.hpb_disk.specs.Device.{LeavesOnly}
use Rattle.hpb_disk.specs.Traces.{shown_may_stay, traced}
use Rattle.hpb_disk.specs.Events.{Event, event_of}
use Rattle.hpb_disk.specs.Images.{Within}

-- A property of the trace with one entry more is one of the trace after a note of it.
pub noted : (first later_first : List ℕ) (events later : List Event) (event : Event) (P : List ℕ → List Call → Type 0)
    → (later_first ≡ first) × (later ≡ event ∷ events) → P first (call_of event ∷ calls_of events) → P later_first (calls_of later)
noted first later_first events later event P note holds =
    subst (λ (l : List ℕ). P l (calls_of later)) (sym note.0) (subst (λ (l : List Event). P first (calls_of l)) (sym note.1) holds)

-- One call, during and after which a crash leaves only such images.
module _ (first later_first : List ℕ) (events later : List Event) (shown later_shown : List ℕ) (event : Event) (during : List ℕ → Type 0)
    (is : shown ≡ seen_of first (calls_of events)) (later_is : later_shown ≡ seen_of later_first (calls_of later)) where
  goes_on : Within (left_of first (call_of event ∷ calls_of events)) during → (moment : ℕ) (image : List ℕ) → moment ≤ length (calls_of events)
      → since_of first (call_of event ∷ calls_of events) moment image → since_of first (calls_of events) moment image ⊎ during image
  goes_on within moment image le (inl now) = inr (within image now)
  goes_on within moment image le (inr earlier) = inl earlier.1

  pub leaves : (later_first ≡ first) × (later ≡ event ∷ events) → Within (left_of first (call_of event ∷ calls_of events)) during
      → LeavesOnly (traced first events shown is) (traced later_first later later_shown later_is) during
  leaves note within = record {
    later = noted first later_first events later event (λ (l : List ℕ) (calls : List Call). length (calls_of events) ≤ length calls) note (omega arith);
    nothing_else = noted first later_first events later event
        (λ (l : List ℕ) (calls : List Call). (moment : ℕ) (image : List ℕ) → moment ≤ length (calls_of events) → since_of l calls moment image
        → since_of first (calls_of events) moment image ⊎ during image)
        note (goes_on within);
    keeps = noted first later_first events later event
        (λ (l : List ℕ) (calls : List Call). (moment : ℕ) (image : List ℕ) → moment ≤ length (calls_of events) → since_of first (calls_of events) moment image
        → since_of l calls moment image)
        note (λ moment image le left. inr (le, left));
    after = noted first later_first events later event (λ (l : List ℕ) (calls : List Call). Within (left_of l calls) during) note within;
  }

-- A sync, after which a crash leaves the bytes that a read gives.
module _ (first later_first : List ℕ) (events later : List Event) (shown later_shown : List ℕ) (note : (later_first ≡ first) × (later ≡ event_of (2 ∷ 0 ∷ []) [] ∷ events))
    (is : shown ≡ seen_of first (calls_of events)) (later_is : later_shown ≡ seen_of later_first (calls_of later)) where
  pub synced_leaves : LeavesOnly (traced first events shown is) (traced later_first later later_shown later_is) (left_of first (calls_of events))
  synced_leaves = leaves first later_first events later shown later_shown (event_of (2 ∷ 0 ∷ []) []) (left_of first (calls_of events)) is later_is note (shown_may_stay first (calls_of events))
