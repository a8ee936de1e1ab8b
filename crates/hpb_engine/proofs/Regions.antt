-- The parts of an image that stay while a step writes other parts.
use Rattle.std.proofs.Common.{◌≡◌, ℕ, ◌*◌, ◌%◌, ◌≤◌, List, length, sym, ◌∙◌, subst, arith}
use Rattle.hpb_codec.specs.declared.head.Head.{Head}
use Rattle.hpb_codec.specs.declared.head.TheConstants.{HEAD_SIZE}
use Rattle.hpb_codec.specs.Heads.{SpellsHead}
use Rattle.hpb_codec.specs.States.{SpellsState}
use Rattle.hpb_codec.specs.declared.state.TheConstants.{CHUNK_SIZE}
use Rattle.hpb_disk.specs.Images.{SameBefore}
use Rattle.hpb_codec.specs.declared.layout.TheConstants.{PAGE_BYTES}
use Rattle.hpb_recover.specs.declared.limits.TheConstants.{HEAD_AT, MAGIC_BYTES, LEAST_PAGES}
use Rattle.hpb_journal.specs.declared.limits.TheConstants.{JOURNAL_AT}
use Rattle.hpb_rules.specs.declared.command.Command.{Command}
use Rattle.hpb_rules.specs.Tree.{Rules}
use Rattle.hpb_slots.specs.declared.limits.TheConstants.{SLOTS_AT}
use Rattle.hpb_slots.specs.declared.slot.Slot.{Slot}
use Rattle.hpb_slots.specs.Slots.{body_of, chunk_at, gate_of, other_of}
use Rattle.hpb_slots.proofs.SlotRegions.{two}
use Rattle.hpb_engine.specs.declared.progress.Checkpoint.{Checkpoint}
use Rattle.hpb_engine.specs.Facts.{InHead, InSlots, ReadsCheckpoint}
use Rattle.hpb_engine.specs.Laws.{Laws}

-- The head lies before the slots.
pub head_stays : (head : Head) (old new : List ℕ) → SameBefore SLOTS_AT old new → length new ≡ length old → InHead head old → InHead head new
head_stays head old new same size was = record {
  formatted = record {
    whole = subst (λ (n : ℕ). n % PAGE_BYTES ≡ 0) (sym size) was.formatted.whole;
    least = subst (λ (n : ℕ). PAGE_BYTES * LEAST_PAGES ≤ n) (sym size) was.formatted.least;
    headed = record { gate = same 0 1 (omega arith) ∙ was.formatted.headed.gate; known = same HEAD_AT MAGIC_BYTES (omega arith) ∙ was.formatted.headed.known };
  };
  laid = record {
    spelled = subst (λ (bytes : List ℕ). SpellsHead bytes head) (sym (same HEAD_AT HEAD_SIZE (omega arith))) was.laid.spelled;
    size = size ∙ was.laid.size;
  };
}

pub before_slots : (old new : List ℕ) → SameBefore JOURNAL_AT old new → SameBefore SLOTS_AT old new
before_slots old new same at count below = same at count (omega (arith, below))

-- A step that writes the journal alone leaves all bytes before the journal as they are.
module _ (laws : Laws) (old new : List ℕ) (same : SameBefore JOURNAL_AT old new) where
  slot_same : (slot : Slot) → (gate_of slot new ≡ gate_of slot old) × (body_of slot new ≡ body_of slot old)
  slot_same slot = laws.slots_stay slot old new (λ at count from below. same at count (omega (arith, below)))

  pub slots_stay : (rules : Rules) (covered : ℕ) (checkpoint : Checkpoint) (before : List Command) → InSlots rules covered checkpoint before old → InSlots rules covered checkpoint before new
  slots_stay rules covered checkpoint before was =
      let newest = slot_same checkpoint.newest in
      let other = slot_same (other_of checkpoint.newest) in
      record {
        saved = was.saved;
        holds = (newest.0 ∙ was.holds.0, subst (λ (bytes : List ℕ). SpellsState rules bytes was.saved covered) (sym newest.1) was.holds.1);
        shows = was.shows;
        behind = λ may i older spelled. was.behind may i older (subst (λ (bytes : List ℕ). SpellsState rules bytes older i) other.1 spelled);
        shut = λ early closed is_open. was.shut early closed (sym other.0 ∙ is_open);
        whole = λ late. other.1 ∙ was.whole late;
      }

  pub checkpoint_stays : (checkpoint : Checkpoint) → ReadsCheckpoint checkpoint old → ReadsCheckpoint checkpoint new
  checkpoint_stays checkpoint was =
      let slot = other_of checkpoint.newest in
      let gate = (slot_same slot).0 in
      record {
        closed = λ some early is_open. was.closed some early (sym gate ∙ is_open);
        copied = λ some few i less. same (chunk_at slot i) CHUNK_SIZE (omega (arith, less, few, two slot)) ∙ was.copied some few i less;
        shown = λ late. gate ∙ was.shown late;
      }
