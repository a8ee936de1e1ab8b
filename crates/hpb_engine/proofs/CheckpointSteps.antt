-- The facts that hold through the steps of a checkpoint.
use Rattle.std.proofs.Common.{◌≡◌, ◌≢◌, inl, inr, ℕ, suc, ◌+◌, ◌-◌, ◌%◌, ◌<◌, ◌≤◌, nat_le, Bool, true, false, ◌||◌, List, length, take, drop, refl, sym, ◌∙◌, ap, subst, arith, length-append, length-drop}
use Rattle.std.proofs.lemmas.Bool.{cases_lt, cases_eq, false_from_ne_true}
use Rattle.std.proofs.lemmas.Bool.Decides.{nat_tests}
use Rattle.std.proofs.lemmas.List.{length-take-le}
use Rattle.std.proofs.Math.Nat.{add-mod_right}
use Rattle.hpb_rules.specs.declared.command.Command.{Command}
use Rattle.hpb_rules.specs.declared.saved.Saved.{Saved}
use Rattle.hpb_rules.specs.AuctionValue.{Shows}
use Rattle.hpb_rules.specs.Tree.{Rules}
use Rattle.hpb_codec.specs.declared.state.TheConstants.{STATE_SIZE}
use Rattle.hpb_codec.specs.Laws.{chunk_of}
use Rattle.hpb_codec.specs.States.{SpellsState}
use Rattle.hpb_codec.specs.declared.state_format.StateFormat.TheVariants.{Two}
use Rattle.hpb_disk.specs.Images.{SameFrom}
use Rattle.hpb_journal.specs.declared.limits.TheConstants.{JOURNAL_AT}
use Rattle.hpb_journal.specs.Frames.{IsClosed as IsClosedFrame, HasIndex, Kept, Says}
use Rattle.hpb_rules.specs.Fronts.{joined}
use Rattle.hpb_journal.specs.Journals.{IsJournal}
use Rattle.hpb_journal.specs.Layouts.{SameFrame}
use Rattle.hpb_slots.specs.declared.slot.Slot.{Slot}
use Rattle.hpb_slots.specs.declared.slot.Slot.TheVariants.{First, Second}
use Rattle.hpb_slots.specs.Changes.{ChangesGate, ChangesChunk}
use Rattle.hpb_slots.specs.Slots.{Holds, IsClosed, IsOpen, body_of, other_of, piece_of}
use Rattle.hpb_journal.specs.Shapes.{shape_of}
use Rattle.hpb_journal.proofs.OfShape.{shape_is_allowed}
use Rattle.hpb_engine.specs.declared.progress.Checkpoint.{Checkpoint}
use Rattle.hpb_engine.specs.declared.progress.Progress.{Progress}
use Rattle.hpb_engine.specs.Cuts.{Cut, all, upto, shortened}
use Rattle.hpb_engine.specs.Numbers.{CheckpointFits, IsSafe, count_of, end_of, layout_of, may_be_open}
use Rattle.hpb_engine.specs.Facts.{Fits, IsFlight, IsSnapshot, InHead, InSlots, InJournal, Facts, ReadsCommit, ReadsRetirement, Reads, head_of}
use Rattle.hpb_engine.specs.Laws.{Laws}
use Rattle.hpb_engine.specs.Moves.{emptied, renewed, snapped, stepped}
use Rattle.hpb_engine.proofs.Fitting.{refitted}
use Rattle.hpb_engine.proofs.Cutting.{all_shortened, take_drop, upto_all, upto_shortened}
use Rattle.hpb_engine.proofs.Regions.{head_stays}

other_back : (slot : Slot) → other_of (other_of slot) ≡ slot
other_back First = refl
other_back Second = refl

-- A comparison of numbers that comes out false.
not_less : (a b : ℕ) → nat_le b a ≡ false → a < b
not_less a b off = grind (arith, nat_tests)

other_differs : (slot : Slot) → slot ≢ other_of slot
other_differs First is = absurd (cc)
other_differs Second is = absurd (cc)

-- The snapshot of a committed auction is one of all acknowledged commands.
pub snapshot_fits : (s : Progress) (k : Cut) → Fits s k → (body : List ℕ)
    → ((history : List Command) → Shows s.committed history → s.window.next ≤ length history → IsSnapshot s.committed.rules body s.window.next history)
    → IsSnapshot k.rules body s.window.next (all k)
snapshot_fits s k fits body taken =
    let enough : s.window.next ≤ length (all k) =
    subst (λ (commands : List Command). s.window.next ≤ length commands) (upto_all k (length k.batches) refl) (omega (arith, fits.enough (length k.batches) (omega arith), fits.next)) in
    subst (λ (rules : Rules). IsSnapshot rules body s.window.next (all k)) fits.rules (taken (all k) fits.shows enough)

module _ (laws : Laws) (s : Progress) (k : Cut) (fits : Fits s k) where
  journal : IsJournal (layout_of s.window)
  journal = laws.shapes (shape_of s.window.frames) (shape_is_allowed s.window.frames)

  not_going : 1 ≤ s.checkpoint.steps → s.retirement.going ≡ false
  not_going begun = false_from_ne_true s.retirement.going (λ on. omega (arith, begun, fits.safe.retirement.alone on))

  -- The slots are written: frames and head stay.
  module _ (old new : List ℕ) where
    module _ (same : SameFrom JOURNAL_AT old new) where
      frame : (b : ℕ) → SameFrame (layout_of s.window) b old new
      frame b = journal.is.behind b old new same

      closed_stays : (b : ℕ) → IsClosedFrame (layout_of s.window) b old → IsClosedFrame (layout_of s.window) b new
      closed_stays b closed is_open = closed (sym (frame b).gate ∙ is_open)

      says_stays : Says (layout_of s.window) k.rules s.commit.batch old → Says (layout_of s.window) k.rules s.commit.batch new
      says_stays = subst (λ (bytes : List ℕ). (layout_of s.window).spells k.rules bytes s.commit.batch) (sym (frame s.commit.batch.index).body)

      frames_stay : InJournal k.rules s.window s.commit k old → InJournal k.rules s.window s.commit k new
      frames_stay was = record {
        kept = journal.stays k.rules s.window.covered (suc (length k.before)) k.batches old new (λ b from below. frame b) was.kept;
        clean = λ b from below early. closed_stays b (was.clean b from below early);
        stale = λ b from below may has. was.stale b from below may (sym (ap (layout_of s.window).index (frame b).body) ∙ has);
        shut = λ b from below not. closed_stays b (was.shut b from below not);
        staged = λ late. says_stays (was.staged late);
      }

      commit_stays : ReadsCommit k.rules s.window s.commit old → ReadsCommit k.rules s.window s.commit new
      commit_stays was = record { written = λ late. says_stays (was.written late); opened = λ late. (frame s.window.next).gate ∙ was.opened late }

      retirement_stays : ReadsRetirement s.window s.retirement old → ReadsRetirement s.window s.retirement new
      retirement_stays was = record { retired = λ b from below. closed_stays b (was.retired b from below) }

    -- The gate of the other slot.
    module _ (facts : Facts s k old) (changes : ChangesGate (other_of s.checkpoint.newest) old new) where
      gate_head : InHead (head_of s.window k.rules) new
      gate_head = head_stays (head_of s.window k.rules) old new changes.before changes.size facts.head

      gate_holds : Holds k.rules s.checkpoint.newest s.window.covered facts.slots.saved new
      gate_holds = (
        changes.gates s.checkpoint.newest (other_differs s.checkpoint.newest) ∙ facts.slots.holds.0,
        subst (λ (bytes : List ℕ). SpellsState k.rules bytes facts.slots.saved s.window.covered) (sym (changes.bodies s.checkpoint.newest)) facts.slots.holds.1,
      )

      gate_spells : (i : ℕ) (older : Saved) → SpellsState k.rules (body_of (other_of s.checkpoint.newest) new) older i → SpellsState k.rules (body_of (other_of s.checkpoint.newest) old) older i
      gate_spells i older = subst (λ (bytes : List ℕ). SpellsState k.rules bytes older i) (changes.bodies (other_of s.checkpoint.newest))

    -- A chunk of its body.
    module _ (i : ℕ) (facts : Facts s k old) (changes : ChangesChunk (other_of s.checkpoint.newest) i old new) where
      chunk_holds : Holds k.rules s.checkpoint.newest s.window.covered facts.slots.saved new
      chunk_holds = (
        changes.gates s.checkpoint.newest ∙ facts.slots.holds.0,
        subst (λ (bytes : List ℕ). SpellsState k.rules bytes facts.slots.saved s.window.covered)
            (sym (changes.bodies s.checkpoint.newest (other_differs s.checkpoint.newest))) facts.slots.holds.1,
      )

      chunk_closed : IsClosed (other_of s.checkpoint.newest) old → IsClosed (other_of s.checkpoint.newest) new
      chunk_closed closed is_open = closed (sym (changes.gates (other_of s.checkpoint.newest)) ∙ is_open)

  -- A checkpoint goes on: nothing else changes.
  goes_on : (next : Checkpoint) → CheckpointFits s.window next → (s.retirement.going ≡ true → next.steps ≡ 0)
      → (1 ≤ next.steps → IsSnapshot k.rules next.body.items next.covers (upto k (next.covers - s.window.covered))) → Fits (record s { checkpoint = next }) k
  goes_on next numbers alone = let retirement = fits.safe.retirement in refitted s k fits s.window.clean_end s.commit next s.retirement
      (record {
        window = fits.safe.window;
        commit = fits.safe.commit;
        checkpoint = numbers;
        retirement = record { alone = alone; idle = retirement.idle; some = retirement.some; from = retirement.from; to = retirement.to };
        few = fits.safe.few;
      })
      fits.flight

  -- A checkpoint is begun.
  pub snapped_fits : s.checkpoint.steps ≡ 0 → s.retirement.going ≡ false → s.window.covered < s.window.next
      → (other : Progress) → length other.checkpoint.body.items ≡ STATE_SIZE → IsSnapshot k.rules other.checkpoint.body.items s.window.next (all k) → Fits (snapped s other) k
  snapped_fits steps idle some other size snapshot = goes_on (snapped s other).checkpoint (record {
    steps = omega arith;
    size = size;
    new = λ _. some;
    old = λ _. omega arith;
    closed = λ late. absurd (omega (arith, late));
  }) (λ on. absurd (cc)) (λ _. subst (IsSnapshot k.rules other.checkpoint.body.items s.window.next) (sym (upto_all k (s.window.next - s.window.covered) (omega (arith, fits.next)))) snapshot)

  module _ (steps : s.checkpoint.steps ≡ 0) where
    -- The gate of the other slot may be open, and is closed.
    module _ (was : s.checkpoint.other_open ≡ true) (other : Progress) (old new : List ℕ) (facts : Facts s k old) where
      pub snapped_torn : ChangesGate (other_of s.checkpoint.newest) old new → Facts (snapped s other) k new
      snapped_torn changes = record {
        head = gate_head old new facts changes;
        slots = record {
          saved = facts.slots.saved;
          holds = gate_holds old new facts changes;
          shows = facts.slots.shows;
          behind = λ up i older spells. facts.slots.behind up i older (gate_spells old new facts changes i older spells);
          shut = λ early off. absurd (cc);
          whole = λ late. absurd (omega (arith, late));
        };
        journal = frames_stay old new changes.behind facts.journal;
      }

      pub snapped_reads : Reads s k old → ChangesGate (other_of s.checkpoint.newest) old new → IsClosed (other_of s.checkpoint.newest) new → Reads (snapped s other) k new
      snapped_reads reads changes closed = record {
        commit = commit_stays old new changes.behind reads.commit;
        checkpoint = record {
          closed = λ from below. closed;
          copied = λ late. absurd (omega (arith, late));
          shown = λ late. absurd (omega (arith, late));
        };
        retirement = retirement_stays old new changes.behind reads.retirement;
      }

    -- The gate is closed already.
    module _ (off : s.checkpoint.other_open ≡ false) (other : Progress) (image : List ℕ) (facts : Facts s k image) where
      pub snapped_none : Facts (snapped s other) k image
      snapped_none = record {
        head = facts.head;
        slots = record {
          saved = facts.slots.saved;
          holds = facts.slots.holds;
          shows = facts.slots.shows;
          behind = facts.slots.behind;
          shut = λ early not. facts.slots.shut (omega (arith, steps)) off;
          whole = λ late. absurd (omega (arith, late));
        };
        journal = facts.journal;
      }

      pub snapped_none_reads : Reads s k image → Reads (snapped s other) k image
      snapped_none_reads reads = record {
        commit = reads.commit;
        checkpoint = record {
          closed = λ from below. facts.slots.shut (omega (arith, steps)) off;
          copied = λ late. absurd (omega (arith, late));
          shown = λ late. absurd (omega (arith, late));
        };
        retirement = reads.retirement;
      }

  -- The closed gate is on the device.
  module _ (steps : s.checkpoint.steps ≡ 1) where
    pub emptied_fits : Fits (emptied s) k
    emptied_fits = goes_on (emptied s).checkpoint (record {
      steps = omega arith;
      size = fits.safe.checkpoint.size;
      new = λ _. fits.safe.checkpoint.new (omega (arith, steps));
      old = λ _. fits.safe.checkpoint.old (omega (arith, steps));
      closed = λ _. refl;
    }) (λ on. absurd (omega (arith, steps, fits.safe.retirement.alone on))) (λ _. fits.snapshot (omega (arith, steps)))

    module _ (image : List ℕ) (facts : Facts s k image) (reads : Reads s k image) where
      pub emptied_synced : Facts (emptied s) k image
      emptied_synced = record {
        head = facts.head;
        slots = record {
          saved = facts.slots.saved;
          holds = facts.slots.holds;
          shows = facts.slots.shows;
          behind = λ up. absurd (cc);
          shut = λ early off. reads.checkpoint.closed (omega (arith, steps)) (omega (arith, steps));
          whole = λ late. absurd (omega (arith, late));
        };
        journal = facts.journal;
      }

      pub emptied_reads : Reads (emptied s) k image
      emptied_reads = record {
        commit = reads.commit;
        checkpoint = record {
          closed = λ from below. reads.checkpoint.closed (omega (arith, steps)) (omega (arith, steps));
          copied = λ from to i below. absurd (omega (arith, below));
          shown = λ late. absurd (omega (arith, late));
        };
        retirement = reads.retirement;
      }

  -- The checkpoint goes on to this many steps, after the second.
  stepped_fits : (steps : ℕ) → 2 ≤ s.checkpoint.steps → steps ≤ 8 → Fits (stepped s steps) k
  stepped_fits steps from most = goes_on (stepped s steps).checkpoint (record {
    steps = most;
    size = fits.safe.checkpoint.size;
    new = λ _. fits.safe.checkpoint.new (omega (arith, from));
    old = λ _. fits.safe.checkpoint.old (omega (arith, from));
    closed = λ _. fits.safe.checkpoint.closed from;
  }) (λ on. absurd (omega (arith, from, fits.safe.retirement.alone on))) (λ _. fits.snapshot (omega (arith, from)))

  -- A chunk is written, behind the closed gate.
  module _ (from : 2 ≤ s.checkpoint.steps) (to : s.checkpoint.steps ≤ 5) where
    pub chunk_fits : Fits (stepped s (s.checkpoint.steps + 1)) k
    chunk_fits = stepped_fits (s.checkpoint.steps + 1) from (omega (arith, to))

    module _ (old new : List ℕ) (facts : Facts s k old) where
      pub chunk_torn : ChangesChunk (other_of s.checkpoint.newest) (s.checkpoint.steps - 2) old new → Facts (stepped s (s.checkpoint.steps + 1)) k new
      chunk_torn changes = record {
        head = head_stays (head_of s.window k.rules) old new changes.before changes.size facts.head;
        slots = record {
          saved = facts.slots.saved;
          holds = chunk_holds old new (s.checkpoint.steps - 2) facts changes;
          shows = facts.slots.shows;
          behind = λ up. absurd (let off = fits.safe.checkpoint.closed from in cc);
          shut = λ early off. chunk_closed old new (s.checkpoint.steps - 2) facts changes (facts.slots.shut (omega (arith, to)) off);
          whole = λ late. absurd (omega (arith, late, to));
        };
        journal = frames_stay old new changes.behind facts.journal;
      }

      pub chunk_reads : Reads s k old → ChangesChunk (other_of s.checkpoint.newest) (s.checkpoint.steps - 2) old new
          → piece_of (other_of s.checkpoint.newest) (s.checkpoint.steps - 2) new ≡ chunk_of (s.checkpoint.steps - 2) s.checkpoint.body.items → Reads (stepped s (s.checkpoint.steps + 1)) k new
      chunk_reads reads changes written = record {
        commit = commit_stays old new changes.behind reads.commit;
        checkpoint = record {
          closed = λ _ _. chunk_closed old new (s.checkpoint.steps - 2) facts changes (reads.checkpoint.closed (omega (arith, from)) (omega (arith, to)));
          copied = λ _ _ i below. elim (cases_eq i (s.checkpoint.steps - 2)) [
            | inl is ↦ subst (λ (j : ℕ). piece_of (other_of s.checkpoint.newest) j new ≡ chunk_of j s.checkpoint.body.items) (sym is) written
            | inr not ↦ changes.pieces i (omega (arith, below, to)) not ∙ reads.checkpoint.copied from (omega (arith, to)) i (omega (arith, below, from, not))
          ];
          shown = λ late. absurd (omega (arith, late, to));
        };
        retirement = retirement_stays old new changes.behind reads.retirement;
      }

  -- All chunks are on the device.
  module _ (steps : s.checkpoint.steps ≡ 6) where
    pub copied_fits : Fits (stepped s 7) k
    copied_fits = stepped_fits 7 (omega (arith, steps)) (omega arith)

    module _ (image : List ℕ) (facts : Facts s k image) (reads : Reads s k image) where
      pub copied_synced : Facts (stepped s 7) k image
      copied_synced = record {
        head = facts.head;
        slots = record {
          saved = facts.slots.saved;
          holds = facts.slots.holds;
          shows = facts.slots.shows;
          behind = facts.slots.behind;
          shut = λ early off. facts.slots.shut (omega (arith, steps)) off;
          whole = λ late. laws.chunks (other_of s.checkpoint.newest) s.checkpoint.body.items image fits.safe.checkpoint.size
              (λ i below. reads.checkpoint.copied (omega (arith, steps)) (omega (arith, steps)) i (omega (arith, below, steps)));
        };
        journal = facts.journal;
      }

      pub copied_reads : Reads (stepped s 7) k image
      copied_reads = record {
        commit = reads.commit;
        checkpoint = record {
          closed = λ from below. reads.checkpoint.closed (omega (arith, steps)) (omega (arith, steps));
          copied = λ from to. absurd (omega (arith, to));
          shown = λ late. absurd (omega (arith, late));
        };
        retirement = reads.retirement;
      }

  -- The gate of the other slot is opened.
  module _ (steps : s.checkpoint.steps ≡ 7) where
    pub shown_fits : Fits (stepped s 8) k
    shown_fits = stepped_fits 8 (omega (arith, steps)) (omega arith)

    module _ (old new : List ℕ) (facts : Facts s k old) where
      pub shown_torn : ChangesGate (other_of s.checkpoint.newest) old new → Facts (stepped s 8) k new
      shown_torn changes = record {
        head = gate_head old new facts changes;
        slots = record {
          saved = facts.slots.saved;
          holds = gate_holds old new facts changes;
          shows = facts.slots.shows;
          behind = λ up i older spells. facts.slots.behind up i older (gate_spells old new facts changes i older spells);
          shut = λ early. absurd (omega (arith, early));
          whole = λ late. changes.bodies (other_of s.checkpoint.newest) ∙ facts.slots.whole (omega (arith, steps));
        };
        journal = frames_stay old new changes.behind facts.journal;
      }

      pub shown_reads : Reads s k old → ChangesGate (other_of s.checkpoint.newest) old new → IsOpen (other_of s.checkpoint.newest) new → Reads (stepped s 8) k new
      shown_reads reads changes is_open = record {
        commit = commit_stays old new changes.behind reads.commit;
        checkpoint = record {
          closed = λ from below. absurd (omega (arith, below));
          copied = λ from to. absurd (omega (arith, to));
          shown = λ late. is_open;
        };
        retirement = retirement_stays old new changes.behind reads.retirement;
      }

  -- The last step to the newest state: the gate of the other slot is open.
  module _ (steps : s.checkpoint.steps ≡ 8) where
    -- How many more batches are covered.
    abbrev more : ℕ
    more = s.checkpoint.covers - s.window.covered

    new : s.window.covered < s.checkpoint.covers
    new = fits.safe.checkpoint.new (omega (arith, steps))

    old : s.checkpoint.covers ≤ s.window.next
    old = fits.safe.checkpoint.old (omega (arith, steps))

    within : more ≤ length k.batches
    within = omega (arith, new, old, fits.next)

    renewed_safe : IsSafe (renewed s)
    renewed_safe =
        let window = fits.safe.window in
        let commit = fits.safe.commit in
        let still = fits.safe.retirement.idle (not_going (omega (arith, steps))) in
        record {
          window = record {
            least = window.least;
            most = window.most;
            gates = window.gates;
            opened = omega (arith, window.opened, new);
            covered = old;
            clean = window.clean;
            end = omega (arith, window.end, new);
          };
          commit = record { turns = commit.turns; idle = commit.idle; rest = commit.rest; rules = commit.rules; room = commit.room; more = commit.more };
          checkpoint = record {
            steps = omega arith;
            size = fits.safe.checkpoint.size;
            new = λ late. absurd (omega (arith, late));
            old = λ late. absurd (omega (arith, late));
            closed = λ late. absurd (omega (arith, late));
          };
          retirement = record {
            alone = λ _. refl;
            idle = λ off. absurd (cc);
            some = λ _. omega (arith, window.end, new);
            from = omega (arith, still);
            to = omega (arith, still, window.end, new);
          };
          few = fits.safe.few;
        }

    pub renewed_fits : Fits (renewed s) (shortened k more)
    renewed_fits =
        let count = length-drop more k.batches in
        record {
          safe = renewed_safe;
          rules = fits.rules;
          next = omega (arith, fits.next, new, old, count);
          shows = subst (Shows s.committed) (sym (all_shortened k more)) fits.shows;
          enough = λ n le. subst (λ (l : List Command). s.checkpoint.covers + n ≤ length l) (sym (upto_shortened k more n))
              (omega (arith, fits.enough (more + n) (omega (arith, le, count, new, old, fits.next)), new));
          flight = λ busy. subst (λ (l : List Command). IsFlight k.rules s.window.next s.committed l s.commit) (sym (all_shortened k more)) (fits.flight busy);
          snapshot = λ late. absurd (omega (arith, late));
        }

    module _ (image : List ℕ) (facts : Facts s k image) where
      kept_rest : Kept (layout_of s.window) k.rules s.checkpoint.covers (suc (length (upto k more))) (drop more k.batches) image
      kept_rest =
          let parts = subst (λ (l : List (List Command)). Kept (layout_of s.window) k.rules s.window.covered (suc (length k.before)) l image)
          (sym (take_drop more k.batches)) facts.journal.kept in
          let rest = (journal.cut k.rules s.window.covered (suc (length k.before)) (take more k.batches) (drop more k.batches) image parts).1 in
          let index : s.window.covered + length (take more k.batches) ≡ s.checkpoint.covers = omega (arith, length-take-le more k.batches within, new) in
          let first : suc (length k.before) + length (joined (take more k.batches)) ≡ suc (length (upto k more)) = omega (arith, length-append k.before (joined (take more k.batches))) in
          subst (λ (n : ℕ). Kept (layout_of s.window) k.rules n (suc (length (upto k more))) (drop more k.batches) image) index
          (subst (λ (n : ℕ). Kept (layout_of s.window) k.rules (s.window.covered + length (take more k.batches)) n (drop more k.batches) image) first rest)

      -- The frame of a batch that is covered now has that batch's index.
      in_use : (b : ℕ) → end_of s.window ≤ b → b < s.checkpoint.covers + (count_of s.window) → HasIndex (layout_of s.window) b image → ⊥
      in_use b far below has =
          let count = (count_of s.window) in
          let own = (journal.own k.rules s.window.covered (suc (length k.before)) k.batches image facts.journal.kept).0 (b - count) (omega (arith, far)) (omega (arith, far, below, old, fits.next)) in
          let sum : b - count + count ≡ b = omega (arith, far) in
          let same : b % count ≡ (b - count) % count = ap (λ (n : ℕ). n % count) (sym sum) ∙ add-mod_right (b - count) count in
          let body = (journal.is.shared b (b - count) image same).1 in
          let one : b ≡ b - count = sym has ∙ ap (layout_of s.window).index body ∙ own.1 in
          omega (arith, one, far, fits.safe.window.least)

      -- The frame of such a later batch held another batch since the device was opened, so its gate may be open.
      may_be : (b : ℕ) → end_of s.window ≤ b → may_be_open s.window b ≡ false → ⊥
      may_be b far off = omega (arith, far, fits.safe.window.opened, not_less b (s.window.opened_at + (count_of s.window)) (left _ _ off))
        where
          left : (a c : Bool) → (a || c) ≡ false → a ≡ false
          left false c off = refl
          left true c off = off

      renewed_slots : IsOpen (other_of s.checkpoint.newest) image → InSlots k.rules s.checkpoint.covers (renewed s).checkpoint (upto k more) image
      renewed_slots is_open =
          let snapshot = fits.snapshot (omega (arith, steps)) in
          record {
            saved = snapshot.saved;
            holds = (is_open, subst (λ (bytes : List ℕ). SpellsState k.rules bytes snapshot.saved s.checkpoint.covers) (sym (facts.slots.whole (omega (arith, steps)))) (Two, snapshot.spelled));
            shows = snapshot.shows;
            behind = λ _ i older spells.
                let here : SpellsState k.rules (body_of s.checkpoint.newest image) older i = subst (λ (slot : Slot). SpellsState k.rules (body_of slot image) older i) (other_back s.checkpoint.newest) spells in
                let one = (laws.holds_one k.rules s.checkpoint.newest s.window.covered i facts.slots.saved older image facts.slots.holds (facts.slots.holds.0, here)).0 in
                inl (omega (arith, one, new));
            shut = λ early off. absurd (cc);
            whole = λ late. absurd (omega (arith, late));
          }

      pub renewed_opened : IsOpen (other_of s.checkpoint.newest) image → Facts (renewed s) (shortened k more) image
      renewed_opened is_open = record {
        head = facts.head;
        slots = renewed_slots is_open;
        journal = record {
          kept = kept_rest;
          clean = facts.journal.clean;
          stale = λ b from below may has. elim (cases_lt b (end_of s.window)) [
            | inl near ↦ facts.journal.stale b from near may has
            | inr far ↦ in_use b far below has
          ];
          shut = λ b from below not. elim (cases_lt b (end_of s.window)) [
            | inl near ↦ facts.journal.shut b from near not
            | inr far ↦ absurd (may_be b far not)
          ];
          staged = facts.journal.staged;
        };
      }

      pub renewed_synced : Reads s k image → Facts (renewed s) (shortened k more) image
      renewed_synced reads = renewed_opened (reads.checkpoint.shown (omega (arith, steps)))

      pub renewed_reads : Reads s k image → Reads (renewed s) (shortened k more) image
      renewed_reads reads =
          let still = fits.safe.retirement.idle (not_going (omega (arith, steps))) in
          record {
            commit = record { written = reads.commit.written; opened = reads.commit.opened };
            checkpoint = record {
              closed = λ late. absurd (omega (arith, late));
              copied = λ late. absurd (omega (arith, late));
              shown = λ late. absurd (omega (arith, late));
            };
            retirement = record { retired = λ b from below. absurd (omega (arith, from, below, still)) };
          }
