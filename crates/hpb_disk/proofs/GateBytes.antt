-- The values that a gate can have.
use Rattle.std.proofs.Common.{◌≡◌, ◌≢◌, ◌⊎◌, inl, inr, ⊎_elim, ℕ, ◌+◌, ◌<◌, ◌≤◌, List, [], ◌∷◌, ◌++◌, length, get_or, take, drop, sym, ◌∙◌, ap, arith, append_assoc, take-append-drop}
use Rattle.std.proofs.lemmas.Bool.{cases_eq}
use Rattle.std.proofs.lemmas.List.{drop_more}
use Rattle.hpb_disk.specs.Gates.{open_byte, HasOpenGate, HasClosedGate}
use Rattle.hpb_disk.specs.Images.{part, put, Torn, TornFrom, Within}
use Rattle.hpb_disk.proofs.Regions.{stays_elsewhere}

pub is_open_byte : (bytes : List ℕ) → (bytes ≡ open_byte) ⊎ (bytes ≢ open_byte)
is_open_byte [] = inr (λ is. absurd (cc))
is_open_byte (byte ∷ []) = ⊎_elim (λ is. inl (ap (λ (n : ℕ). n ∷ []) is)) (λ other. inr (λ is. other (cc))) (cases_eq byte 165)
is_open_byte (byte ∷ next ∷ bytes) = inr (λ is. absurd (cc))

-- A gate is open or closed.
pub open_or_closed : (at : ℕ) (image : List ℕ) → HasOpenGate at image ⊎ HasClosedGate at image
open_or_closed at image = is_open_byte (part at 1 image)

-- A torn gate has some byte, and all other bytes stay.
pub torn_gate : (at : ℕ) (old new : List ℕ) → at < length old → Torn at 1 old new → (byte : ℕ) × (new ≡ put at (byte ∷ []) old)
torn_gate at old new inside torn =
    let byte = get_or new at 0 in
    let behind : drop at new ≡ byte ∷ drop (at + 1) old = drop_more new at 0 (omega (arith, torn.size)) ∙ ap (λ (l : List ℕ). byte ∷ l) torn.after in (
      byte,
      sym (take-append-drop at new)
          ∙ ap (λ (l : List ℕ). l ++ drop at new) torn.before
          ∙ ap (λ (l : List ℕ). take at old ++ l) behind
          ∙ sym (append_assoc (take at old) (byte ∷ []) (drop (at + 1) old)),
    )

-- If a gate is closed in every image that a crash may leave, a write elsewhere keeps it so.
pub closed_stays : (gate at count : ℕ) (before after : List ℕ → Type 0) → (gate + 1 ≤ at) ⊎ (at + count ≤ gate)
    → Within after (TornFrom at count before) → Within before (HasClosedGate gate) → Within after (HasClosedGate gate)
closed_stays gate at count before after apart = stays_elsewhere (λ bytes. bytes ≢ open_byte) gate 1 at count before after apart

-- If a gate is open in every image that a crash may leave, a write elsewhere keeps it so.
pub open_stays : (gate at count : ℕ) (before after : List ℕ → Type 0) → (gate + 1 ≤ at) ⊎ (at + count ≤ gate)
    → Within after (TornFrom at count before) → Within before (HasOpenGate gate) → Within after (HasOpenGate gate)
open_stays gate at count before after apart = stays_elsewhere (λ bytes. bytes ≡ open_byte) gate 1 at count before after apart
