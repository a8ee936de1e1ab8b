-- The facts that hold while frames become clean again.
use Rattle.std.proofs.Common.{◌≡◌, ◌≢◌, inl, inr, ℕ, suc, ◌+◌, ◌<◌, ◌≤◌, true, false, List, length, refl, sym, ◌∙◌, ap, subst, arith}
use Rattle.std.proofs.lemmas.Bool.{cases_lt, cases_eq, true_from_ne_false}
use Rattle.hpb_journal.specs.Changes.{ChangesGate}
use Rattle.hpb_journal.specs.Frames.{IsClosed, Says}
use Rattle.hpb_journal.specs.Journals.{IsJournal}
use Rattle.hpb_journal.specs.Layouts.{AreApart, SameFrame}
use Rattle.hpb_journal.specs.Shapes.{shape_of}
use Rattle.hpb_journal.proofs.OfShape.{shape_is_allowed}
use Rattle.hpb_engine.specs.declared.progress.Progress.{Progress}
use Rattle.hpb_engine.specs.Cuts.{Cut}
use Rattle.hpb_engine.specs.Numbers.{end_of, layout_of, may_be_open}
use Rattle.hpb_engine.specs.Facts.{Fits, Facts, Reads, head_of}
use Rattle.hpb_engine.specs.Laws.{Laws}
use Rattle.hpb_engine.specs.Moves.{cleaned, retired}
use Rattle.hpb_engine.proofs.Fitting.{refitted}
use Rattle.hpb_engine.proofs.Regions.{before_slots, checkpoint_stays, head_stays, slots_stay}

module _ (laws : Laws) (s : Progress) (k : Cut) (fits : Fits s k) where
  journal : IsJournal (layout_of s.window)
  journal = laws.shapes (shape_of s.window.frames) (shape_is_allowed s.window.frames)

  in_use : s.window.covered ≤ s.window.clean_end
  in_use = omega (arith, fits.safe.window.covered, fits.safe.window.clean)

  -- One more frame is closed: neither one in use nor a clean one.
  module _ (left : s.retirement.upto < end_of s.window) where
    apart : (b : ℕ) → s.window.covered ≤ b → b < end_of s.window → b ≢ s.retirement.upto → AreApart (layout_of s.window) s.retirement.upto b
    apart b from below not = elim (cases_lt b s.retirement.upto) [
      | inl before ↦ (journal.near b s.retirement.upto before (omega (arith, from, left))).1
      | inr behind ↦ (journal.near s.retirement.upto b (omega (arith, behind, not))
          (omega (arith, below, fits.safe.retirement.from, in_use))).0
    ]

    -- A frame before the end of the clean ones is another.
    apart_before : (b : ℕ) → s.window.covered ≤ b → b < s.window.clean_end → AreApart (layout_of s.window) s.retirement.upto b
    apart_before b from below = apart b from (omega (arith, below, fits.safe.window.end)) (omega (arith, below, fits.safe.retirement.from))

    -- The frame of a batch whose gate is written is one of them.
    flight_before : 3 ≤ s.commit.turns → s.window.next < s.window.clean_end
    flight_before late = fits.safe.commit.room (true_from_ne_false s.commit.busy (λ off. omega (arith, late, fits.safe.commit.idle off)))

    module _ (old new : List ℕ) (facts : Facts s k old) (changes : ChangesGate (layout_of s.window) s.retirement.upto old new) where
      closed_stays : (b : ℕ) → AreApart (layout_of s.window) s.retirement.upto b → IsClosed (layout_of s.window) b old → IsClosed (layout_of s.window) b new
      closed_stays b away closed is_open = closed (sym (changes.gates b away) ∙ is_open)

      says_stays : Says (layout_of s.window) k.rules s.commit.batch old → Says (layout_of s.window) k.rules s.commit.batch new
      says_stays = subst (λ (bytes : List ℕ). (layout_of s.window).spells k.rules bytes s.commit.batch) (sym (changes.bodies s.commit.batch.index))

      kept_same : (b : ℕ) → s.window.covered ≤ b → b < s.window.covered + length k.batches → SameFrame (layout_of s.window) b old new
      kept_same b from below = record { gate = changes.gates b (apart_before b from (omega (arith, below, fits.next, fits.safe.window.clean))); body = changes.bodies b }

      -- Its gate may be open, and is closed.
      pub retired_torn : may_be_open s.window s.retirement.upto ≡ true → Facts (retired s) k new
      retired_torn may = let was = facts.journal in record {
        head = head_stays (head_of s.window k.rules) old new (before_slots old new changes.before) changes.size facts.head;
        slots = slots_stay laws old new changes.before k.rules s.window.covered s.checkpoint k.before facts.slots;
        journal = record {
          kept = journal.stays k.rules s.window.covered (suc (length k.before)) k.batches old new kept_same was.kept;
          clean = λ b from below early. closed_stays b (apart_before b (omega (arith, from, fits.safe.window.covered)) below) (was.clean b from below early);
          stale = λ b from below maybe has. was.stale b from below maybe (sym (ap (layout_of s.window).index (changes.bodies b)) ∙ has);
          shut = λ b from below not.
              let other : b ≢ s.retirement.upto = λ is. absurd (let same : may_be_open s.window b ≡ true = ap (may_be_open s.window) is ∙ may in cc) in
              closed_stays b (apart b (omega (arith, from, in_use)) below other) (was.shut b from below not);
          staged = λ late. says_stays (was.staged late);
        };
      }

      pub retired_reads : Reads s k old → IsClosed (layout_of s.window) s.retirement.upto new → Reads (retired s) k new
      retired_reads reads closed = record {
        commit = record {
          written = λ late. says_stays (reads.commit.written late);
          opened = λ late. changes.gates s.window.next (apart_before s.window.next fits.safe.window.covered (flight_before late)) ∙ reads.commit.opened late;
        };
        checkpoint = checkpoint_stays laws old new changes.before s.checkpoint reads.checkpoint;
        retirement = record {
          retired = λ b from below. elim (cases_eq b s.retirement.upto) [
            | inl is ↦ subst (λ (n : ℕ). IsClosed (layout_of s.window) n new) (sym is) closed
            | inr not ↦ closed_stays b (apart b (omega (arith, from, in_use)) (omega (arith, below, left)) not) (reads.retirement.retired b from (omega (arith, below, not)))
          ];
        };
      }

  -- One more frame is to be closed.
  pub retired_fits : s.checkpoint.steps ≡ 0 → s.retirement.upto < end_of s.window → Fits (retired s) k
  retired_fits steps left = refitted s k fits s.window.clean_end s.commit s.checkpoint (retired s).retirement
      (record {
        window = fits.safe.window;
        commit = fits.safe.commit;
        checkpoint = fits.safe.checkpoint;
        retirement = record {
          alone = λ _. steps;
          idle = λ off. absurd (cc);
          some = λ _. omega (arith, fits.safe.retirement.from, left);
          from = omega (arith, fits.safe.retirement.from);
          to = omega (arith, left);
        };
        few = fits.safe.few;
      })
      fits.flight fits.snapshot

  -- The gate is closed already.
  module _ (left : s.retirement.upto < end_of s.window) (not : may_be_open s.window s.retirement.upto ≡ false) (image : List ℕ) (facts : Facts s k image) where
    pub retired_none : Facts (retired s) k image
    retired_none = record { head = facts.head; slots = facts.slots; journal = facts.journal }

    pub retired_none_reads : Reads s k image → Reads (retired s) k image
    retired_none_reads reads = record {
      commit = reads.commit;
      checkpoint = reads.checkpoint;
      retirement = record {
        retired = λ b from below. elim (cases_eq b s.retirement.upto) [
          | inl is ↦ subst (λ (n : ℕ). IsClosed (layout_of s.window) n image) (sym is) (facts.journal.shut s.retirement.upto fits.safe.retirement.from left not)
          | inr other ↦ reads.retirement.retired b from (omega (arith, below, other))
        ];
      };
    }

  -- All of them are closed on the device.
  module _ (all : s.retirement.upto ≡ end_of s.window) where
    pub cleaned_fits : Fits (cleaned s) k
    cleaned_fits =
        let window = fits.safe.window in
        let commit = fits.safe.commit in
        refitted s k fits (end_of s.window) s.commit s.checkpoint (cleaned s).retirement
        (record {
          window = record {
            least = window.least;
            most = window.most;
            gates = window.gates;
            opened = window.opened;
            covered = window.covered;
            clean = omega (arith, window.clean, window.end);
            end = omega arith;
          };
          commit = record { turns = commit.turns; idle = commit.idle; rest = commit.rest; rules = commit.rules; room = λ busy. omega (arith, commit.room busy, window.end); more = commit.more };
          checkpoint = record { steps = fits.safe.checkpoint.steps; size = fits.safe.checkpoint.size; new = fits.safe.checkpoint.new; old = fits.safe.checkpoint.old; closed = fits.safe.checkpoint.closed };
          retirement = record {
            alone = λ on. absurd (cc);
            idle = λ _. refl;
            some = λ on. absurd (cc);
            from = omega arith;
            to = omega arith;
          };
          few = fits.safe.few;
        })
        fits.flight fits.snapshot

    module _ (image : List ℕ) (facts : Facts s k image) (reads : Reads s k image) where
      pub cleaned_synced : Facts (cleaned s) k image
      cleaned_synced = record {
        head = facts.head;
        slots = facts.slots;
        journal = record {
          kept = facts.journal.kept;
          clean = λ b from below early. elim (cases_lt b s.window.clean_end) [
            | inl before ↦ facts.journal.clean b from before early
            | inr behind ↦ reads.retirement.retired b behind (omega (arith, below, all))
          ];
          stale = λ b from below. absurd (omega (arith, from, below));
          shut = λ b from below. absurd (omega (arith, from, below));
          staged = facts.journal.staged;
        };
      }

      pub cleaned_reads : Reads (cleaned s) k image
      cleaned_reads = record {
        commit = record { written = reads.commit.written; opened = reads.commit.opened };
        checkpoint = reads.checkpoint;
        retirement = record { retired = λ b from below. absurd (omega (arith, from, below)) };
      }
