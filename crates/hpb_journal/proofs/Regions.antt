-- Frames of one size stand one after another. A write in one leaves the others as they were.
use Rattle.std.proofs.Common.{◌≡◌, ◌⊎◌, inl, inr, ℕ, ◌+◌, ◌*◌, ◌%◌, ◌<◌, ◌≤◌, List, [], ◌∷◌, length, sym, ◌∙◌, ap, subst, arith}
use Rattle.std.proofs.Math.Nat.{mul-le-mul_left}
use Rattle.std.proofs.lemmas.Bool.{cases_lt}
use Rattle.hpb_rules.specs.Tree.{Rules}
use Rattle.hpb_disk.proofs.Runs.{leaves_within}
use Rattle.hpb_codec.specs.declared.batch.Batch.{Batch}
use Rattle.hpb_disk.specs.Device.{Device, LeavesOnly}
use Rattle.hpb_disk.specs.Images.{part, put, Torn, TornFrom, Within}
use Rattle.hpb_disk.specs.Laws.{ElsewhereStays, PutIsRead, PutIsTorn}
use Rattle.hpb_journal.specs.Changes.{ChangesBody, ChangesGate, TornBody, TornGate}
use Rattle.hpb_journal.specs.Layouts.{Layout}
use Rattle.hpb_journal.specs.Strides.{frame_at, strided}

-- A frame before another ends at or before the other's start.
ends_before : (stride m n : ℕ) → m < n → stride * m + stride ≤ stride * n
ends_before stride m n less = let le : stride * (m + 1) ≤ stride * n = mul-le-mul_left stride (omega (arith, less)) in omega arith

module _ (stride body : ℕ) (fits : body + 16 ≤ stride) (spells : Rules → List ℕ → Batch → Type 0) (elsewhere : ElsewhereStays) (count b : ℕ) where
  abbrev here : ℕ
  here = frame_at stride count b

  abbrev layout : Layout
  layout = strided stride body spells count (frame_at stride count)

  body_changes : (many : ℕ) → many ≤ body → (old new : List ℕ) → Torn (here + 16) many old new → ChangesBody layout b old new
  body_changes many short old new torn =
      let stays : (from n : ℕ) → (from + n ≤ here + 16) ⊎ (here + 16 + many ≤ from) → part from n new ≡ part from n old =
      λ from n apart. elsewhere from n (here + 16) many old new torn apart in
      record {
        before = λ at n below. stays at n (inl (omega (arith, below)));
        size = torn.size;
        gates = λ other. stays (frame_at stride count other) 1 (elim (cases_lt (b % count) (other % count)) [
          | inl less ↦ inr (omega (arith, fits, short, ends_before stride (b % count) (other % count) less))
          | inr ge ↦ inl (let le : stride * (other % count) ≤ stride * (b % count) = mul-le-mul_left stride ge in omega arith)
        ]);
        bodies = λ other apart. stays (frame_at stride count other + 16) body (elim (cases_lt (b % count) (other % count)) [
          | inl less ↦ inr (omega (arith, fits, short, ends_before stride (b % count) (other % count) less))
          | inr ge ↦ inl (omega (arith, fits, ends_before stride (other % count) (b % count) (omega (arith, ge, apart))))
        ]);
      }

  gate_changes : (old new : List ℕ) → Torn here 1 old new → ChangesGate layout b old new
  gate_changes old new torn =
      let stays : (from n : ℕ) → (from + n ≤ here) ⊎ (here + 1 ≤ from) → part from n new ≡ part from n old =
      λ from n apart. elsewhere from n here 1 old new torn apart in
      record {
        before = λ at n below. stays at n (inl (omega (arith, below)));
        size = torn.size;
        gates = λ other apart. stays (frame_at stride count other) 1 (elim (cases_lt (b % count) (other % count)) [
          | inl less ↦ inr (omega (arith, fits, ends_before stride (b % count) (other % count) less))
          | inr ge ↦ inl (omega (arith, fits, ends_before stride (other % count) (b % count) (omega (arith, ge, apart))))
        ]);
        bodies = λ other. stays (frame_at stride count other + 16) body (elim (cases_lt (other % count) (b % count)) [
          | inl less ↦ inl (omega (arith, fits, ends_before stride (other % count) (b % count) less))
          | inr ge ↦ inr (let le : stride * (b % count) ≤ stride * (other % count) = mul-le-mul_left stride ge in omega arith)
        ]);
      }

  torn_body : (many : ℕ) → many ≤ body → (images : List ℕ → Type 0) → Within (TornFrom (here + 16) many images) (TornBody layout b images)
  torn_body many short images new torn = (torn.0, torn.1, body_changes many short torn.0 new torn.2)

  torn_gate : (images : List ℕ → Type 0) → Within (TornFrom here 1 images) (TornGate layout b images)
  torn_gate images new torn = (torn.0, torn.1, gate_changes torn.0 new torn.2)

  -- A write at this offset, as a call reports it.
  module _ (tears : PutIsTorn) (at : ℕ) where
    module _ (there : at ≡ here) where
      gate_within : (images : List ℕ → Type 0) → Within (TornFrom at 1 images) (TornGate layout b images)
      gate_within images = subst (λ (from : ℕ). Within (TornFrom from 1 images) (TornGate layout b images)) (sym there) (torn_gate images)

      pub gate_rest : (byte : ℕ) (old new : List ℕ) → at < length old → new ≡ put at (byte ∷ []) old → ChangesGate layout b old new
      gate_rest byte old new inside written =
          gate_changes old new (subst (λ (from : ℕ). Torn from 1 old new) there (subst (Torn at 1 old) (sym written) (tears at (byte ∷ []) old (omega (arith, inside)))))

      pub gate_crash : {old new : Device} → LeavesOnly old new (TornFrom at 1 old.may_leave) → LeavesOnly old new (TornGate layout b old.may_leave)
      gate_crash {old = old} crash = leaves_within (gate_within old.may_leave) crash

    module _ (bytes : List ℕ) (there : at ≡ here + 16) (short : length bytes ≤ body) where
      body_within : (images : List ℕ → Type 0) → Within (TornFrom at (length bytes) images) (TornBody layout b images)
      body_within images = subst (λ (from : ℕ). Within (TornFrom from (length bytes) images) (TornBody layout b images)) (sym there) (torn_body (length bytes) short images)

      pub body_rest : (old new : List ℕ) → at + length bytes ≤ length old → new ≡ put at bytes old → ChangesBody layout b old new
      body_rest old new inside written =
          body_changes (length bytes) short old new (subst (λ (from : ℕ). Torn from (length bytes) old new) there
          (subst (Torn at (length bytes) old) (sym written) (tears at bytes old inside)))

      pub body_crash : {old new : Device} → LeavesOnly old new (TornFrom at (length bytes) old.may_leave) → LeavesOnly old new (TornBody layout b old.may_leave)
      body_crash {old = old} crash = leaves_within (body_within old.may_leave) crash

      pub body_says : (reads : PutIsRead) (old new : List ℕ) → at + length bytes ≤ length old → new ≡ put at bytes old → part (here + 16) (length bytes) new ≡ bytes
      body_says reads old new inside written = sym (ap (λ (from : ℕ). part from (length bytes) new) there) ∙ ap (part at (length bytes)) written ∙ reads at bytes old inside
