-- The facts about a progress and about the images, through the turns of a commit.
use Rattle.std.proofs.Common.{◌≡◌, ◌≢◌, inl, inr, ℕ, suc, ◌+◌, ◌-◌, ◌<◌, ◌≤◌, List, [], ◌∷◌, ◌++◌, length, true, false, refl, sym, ◌∙◌, ap, subst, arith, length-append}
use Rattle.std.proofs.lemmas.Bool.{cases_lt, cases_eq}
use Rattle.hpb_rules.specs.declared.command.Command.{Command}
use Rattle.hpb_rules.specs.declared.letter.Answer.{Answer}
use Rattle.hpb_rules.specs.AuctionValue.{AuctionValue, Shows}
use Rattle.hpb_rules.specs.Tree.{Rules}
use Rattle.hpb_codec.specs.declared.batch.Batch.{Batch}
use Rattle.hpb_journal.specs.Changes.{ChangesBody, ChangesGate}
use Rattle.hpb_journal.specs.Journals.{IsJournal}
use Rattle.hpb_journal.specs.Layouts.{Layout, AreApart, SameFrame}
use Rattle.hpb_journal.specs.Frames.{IsClosed, IsFrame, IsOpen, Says, batch_at}
use Rattle.hpb_rules.specs.Fronts.{joined}
use Rattle.hpb_journal.specs.Shapes.{shape_of}
use Rattle.hpb_journal.proofs.OfShape.{shape_is_allowed}
use Rattle.hpb_engine.specs.declared.progress.Progress.{Progress}
use Rattle.hpb_engine.specs.Cuts.{Cut, all, landed, upto}
use Rattle.hpb_engine.specs.Facts.{Facts, Fits, InJournal, IsFlight, IsSnapshot, Reads, head_of}
use Rattle.hpb_engine.specs.Laws.{Laws}
use Rattle.hpb_engine.specs.Numbers.{end_of, layout_of}
use Rattle.hpb_engine.specs.Moves.{acknowledged, begun, turned}
use Rattle.hpb_engine.proofs.Fitting.{refitted}
use Rattle.hpb_engine.proofs.Cutting.{all_landed, upto_all, upto_landed}
use Rattle.hpb_engine.proofs.Regions.{before_slots, checkpoint_stays, head_stays, slots_stay}

-- An open frame that says a batch is the frame of its commands.
frame_of : (layout : Layout) (rules : Rules) (batch : Batch) (b first : ℕ) (image : List ℕ) → batch.index ≡ b → batch.first ≡ first → IsOpen layout b image → Says layout rules batch image
    → IsFrame layout rules b first batch.commands image
frame_of layout rules batch b first image index number is_open says = (
  is_open,
  subst (λ (n : ℕ). layout.spells rules (layout.body b image) (batch_at b n batch.commands)) number
      (subst (λ (i : ℕ). layout.spells rules (layout.body i image) (batch_at i batch.first batch.commands)) index says),
)

module _ (laws : Laws) (s : Progress) (k : Cut) (fits : Fits s k) where
  -- The pages are a journal.
  journal : IsJournal (layout_of s.window)
  journal = laws.shapes (shape_of s.window.frames) (shape_is_allowed s.window.frames)

  -- The numbers of a turn.
  pub turned_fits : (turns : ℕ) → turns ≤ 3 → s.commit.busy ≡ true → Fits (turned s turns) k
  turned_fits turns most busy = let safe = fits.safe in refitted s k fits s.window.clean_end (turned s turns).commit s.checkpoint s.retirement
      (record {
        window = safe.window;
        commit = record { turns = most; idle = λ free. absurd (cc); rest = safe.commit.rest; rules = safe.commit.rules; room = safe.commit.room; more = safe.commit.more };
        checkpoint = safe.checkpoint;
        retirement = safe.retirement;
        few = safe.few;
      })
      (λ is. let flight = fits.flight is in record { kept = flight.kept; index = flight.index; first = flight.first; accepted = flight.accepted; after = flight.after; new = flight.new })
      fits.snapshot

  -- Another frame than that of the batch in flight has its own place.
  apart_from : s.commit.busy ≡ true → (b : ℕ) → s.window.covered ≤ b → b < end_of s.window → b ≢ s.window.next → AreApart (layout_of s.window) s.window.next b
  apart_from busy b from below other =
      let safe = fits.safe in
      elim (cases_lt b s.window.next) [
        | inl before ↦ (journal.near b s.window.next before (omega (arith, safe.commit.room busy, safe.window.end, from))).1
        | inr after ↦ (journal.near s.window.next b (omega (arith, after, other)) (omega (arith, below, safe.window.covered))).0
      ]

  -- If the other frames stay, the facts about them stay, too.
  module _ (busy : s.commit.busy ≡ true) (old new : List ℕ) (same : (b : ℕ) → s.window.covered ≤ b → b < end_of s.window → b ≢ s.window.next → SameFrame (layout_of s.window) b old new) where
    journal_stays : (turns : ℕ) → InJournal k.rules s.window s.commit k old → (turns < 3 → IsClosed (layout_of s.window) s.window.next new)
        → (2 ≤ turns → Says (layout_of s.window) k.rules s.commit.batch new) → InJournal k.rules s.window (turned s turns).commit k new
    journal_stays turns was shut says =
        let safe = fits.safe in
        let room = safe.commit.room busy in
        let same_behind : (b : ℕ) → s.window.clean_end ≤ b → b < end_of s.window → SameFrame (layout_of s.window) b old new =
        λ b from below. same b (omega (arith, from, room, safe.window.covered)) below (omega (arith, from, room)) in
        record {
          kept = journal.stays k.rules s.window.covered (suc (length k.before)) k.batches old new
              (λ b from below. same b from (omega (arith, below, fits.next, room, safe.window.end)) (omega (arith, below, fits.next))) was.kept;
          clean = λ b from below early. elim (cases_eq b s.window.next) [
            | inl is ↦ subst (λ (i : ℕ). IsClosed (layout_of s.window) i new) (sym is) (shut (early is))
            | inr other ↦ λ is_open. was.clean b from below (λ is. absurd (other is))
                (sym (same b (omega (arith, from, safe.window.covered)) (omega (arith, below, safe.window.end)) other).gate ∙ is_open)
          ];
          stale = λ b from below may index. was.stale b from below may (sym (ap (layout_of s.window).index (same_behind b from below).body) ∙ index);
          shut = λ b from below may is_open. was.shut b from below may (sym (same_behind b from below).gate ∙ is_open);
          staged = says;
        }

  -- The body is written: behind the closed gate it may be anything.
  pub body_torn : s.commit.busy ≡ true → s.commit.turns ≡ 0 → (old new : List ℕ) → Facts s k old → ChangesBody (layout_of s.window) s.commit.batch.index old new → Facts (turned s 1) k new
  body_torn busy turns old new facts changes =
      let here = subst (λ (b : ℕ). ChangesBody (layout_of s.window) b old new) (fits.flight busy).index changes in
      let same : (b : ℕ) → s.window.covered ≤ b → b < end_of s.window → b ≢ s.window.next → SameFrame (layout_of s.window) b old new =
      λ b from below other. record { gate = here.gates b; body = here.bodies b (apart_from busy b from below other) } in
      let shut : IsClosed (layout_of s.window) s.window.next new =
      λ is_open. facts.journal.clean s.window.next (omega arith) (fits.safe.commit.room busy) (λ is. omega (arith, turns)) (sym (here.gates s.window.next) ∙ is_open) in
      record {
        head = head_stays (head_of s.window k.rules) old new (before_slots old new here.before) here.size facts.head;
        slots = slots_stay laws old new here.before k.rules s.window.covered s.checkpoint k.before facts.slots;
        journal = journal_stays busy old new same 1 facts.journal (λ early. shut) (λ late. absurd (omega (arith, late)));
      }

  pub body_reads : s.commit.busy ≡ true → s.commit.turns ≡ 0 → (old new : List ℕ) → Facts s k old → Reads s k old → ChangesBody (layout_of s.window) s.commit.batch.index old new
      → Says (layout_of s.window) k.rules s.commit.batch new → Reads (turned s 1) k new
  body_reads busy turns old new facts reads changes says = record {
    commit = record { written = λ some. says; opened = λ late. absurd (omega (arith, late)) };
    checkpoint = checkpoint_stays laws old new changes.before s.checkpoint reads.checkpoint;
    retirement = record { retired = λ b from below is_open. reads.retirement.retired b from below (sym (changes.gates b) ∙ is_open) };
  }

  -- A body whose write failed is not there yet.
  pub body_back : s.commit.turns ≡ 0 → (image : List ℕ) → Facts (turned s 1) k image → Facts s k image
  body_back turns image facts = record {
    head = facts.head;
    slots = facts.slots;
    journal = record {
      kept = facts.journal.kept;
      clean = λ b from below early. facts.journal.clean b from below (λ is. omega arith);
      stale = facts.journal.stale;
      shut = facts.journal.shut;
      staged = λ late. absurd (omega (arith, late, turns));
    };
  }

  -- The body is on the device.
  pub body_synced : s.commit.turns ≡ 1 → (image : List ℕ) → Facts s k image → Reads s k image → Facts (turned s 2) k image
  body_synced turns image facts reads = record {
    head = facts.head;
    slots = facts.slots;
    journal = record {
      kept = facts.journal.kept;
      clean = λ b from below early. facts.journal.clean b from below (λ is. omega (arith, turns));
      stale = facts.journal.stale;
      shut = facts.journal.shut;
      staged = λ late. reads.commit.written (omega (arith, turns));
    };
  }

  pub body_synced_reads : s.commit.turns ≡ 1 → (image : List ℕ) → Facts s k image → Reads s k image → Reads (turned s 2) k image
  body_synced_reads turns image facts reads = record {
    commit = record { written = λ some. reads.commit.written (omega (arith, turns)); opened = λ late. absurd (omega (arith, late)) };
    checkpoint = reads.checkpoint;
    retirement = reads.retirement;
  }

  says_still : (old new : List ℕ) → ChangesGate (layout_of s.window) s.window.next old new → Says (layout_of s.window) k.rules s.commit.batch old → Says (layout_of s.window) k.rules s.commit.batch new
  says_still old new changes says = subst (λ (bytes : List ℕ). (layout_of s.window).spells k.rules bytes s.commit.batch) (sym (changes.bodies s.commit.batch.index)) says

  -- The gate is written: the batch is whole, so it doesn't matter whether the gate is open or closed.
  pub gate_torn : s.commit.busy ≡ true → s.commit.turns ≡ 2 → (old new : List ℕ) → Facts s k old → ChangesGate (layout_of s.window) s.window.next old new → Facts (turned s 3) k new
  gate_torn busy turns old new facts changes =
      let same : (b : ℕ) → s.window.covered ≤ b → b < end_of s.window → b ≢ s.window.next → SameFrame (layout_of s.window) b old new =
      λ b from below other. record { gate = changes.gates b (apart_from busy b from below other); body = changes.bodies b } in
      record {
        head = head_stays (head_of s.window k.rules) old new (before_slots old new changes.before) changes.size facts.head;
        slots = slots_stay laws old new changes.before k.rules s.window.covered s.checkpoint k.before facts.slots;
        journal = journal_stays busy old new same 3 facts.journal (λ early. absurd (omega (arith, early))) (λ late. says_still old new changes (facts.journal.staged (omega (arith, turns))));
      }

  pub gate_reads : s.commit.busy ≡ true → s.commit.turns ≡ 2 → (old new : List ℕ) → Facts s k old → Reads s k old → ChangesGate (layout_of s.window) s.window.next old new
      → IsOpen (layout_of s.window) s.window.next new → Reads (turned s 3) k new
  gate_reads busy turns old new facts reads changes is_open =
      let safe = fits.safe in
      let room = safe.commit.room busy in
      record {
        commit = record { written = λ some. says_still old new changes (facts.journal.staged (omega (arith, turns))); opened = λ late. is_open };
        checkpoint = checkpoint_stays laws old new changes.before s.checkpoint reads.checkpoint;
        retirement = record {
          retired = λ b from below up. reads.retirement.retired b from below
              (sym (changes.gates b (apart_from busy b (omega (arith, from, room, safe.window.covered)) (omega (arith, below, safe.retirement.to)) (omega (arith, from, room)))) ∙ up);
        };
      }

  -- After the new batch there still are at least as many commands as batches.
  still_enough : s.commit.busy ≡ true → (count : ℕ) → count ≤ length (landed k s.commit.batch.commands).batches
      → s.window.covered + count ≤ length (upto (landed k s.commit.batch.commands) count)
  still_enough busy count le =
      let commands = s.commit.batch.commands in
      let size : length (k.batches ++ commands ∷ []) ≡ length k.batches + 1 = omega (arith, length-append k.batches (commands ∷ [])) in
      elim (cases_lt (length k.batches) count) [
        | inr old ↦ subst (λ (l : List Command). s.window.covered + count ≤ length l) (sym (upto_landed k commands count old)) (fits.enough count old)
        | inl new ↦
            let is : upto (landed k commands) count ≡ all k ++ commands = upto_all (landed k commands) count (omega (arith, new, le, size)) ∙ all_landed k commands in
            let was : s.window.covered + length k.batches ≤ length (all k) =
            subst (λ (l : List Command). s.window.covered + length k.batches ≤ length l) (upto_all k (length k.batches) refl) (fits.enough (length k.batches) (omega arith)) in
            subst (λ (l : List Command). s.window.covered + count ≤ length l) (sym is)
            (omega (arith, was, (fits.flight busy).kept.some, length-append (all k) commands, le, size))
      ]

  pub acknowledged_fits : s.commit.busy ≡ true → s.commit.turns ≡ 3 → Fits (acknowledged s) (landed k s.commit.batch.commands)
  acknowledged_fits busy turns =
      let commands = s.commit.batch.commands in
      let flight = fits.flight busy in
      let safe = fits.safe in
      let size : length (k.batches ++ commands ∷ []) ≡ length k.batches + 1 = omega (arith, length-append k.batches (commands ∷ [])) in
      let shown : Shows s.commit.working (all k ++ commands) =
      subst (λ (v : AuctionValue). Shows v (all k ++ commands)) (sym flight.after) (laws.rest_is_shown s.committed (all k) commands fits.shows flight.accepted) in
      record {
        safe = record {
          window = record {
            least = safe.window.least;
            most = safe.window.most;
            gates = safe.window.gates;
            opened = safe.window.opened;
            covered = omega (arith, safe.window.covered);
            clean = omega (arith, safe.commit.room busy);
            end = safe.window.end;
          };
          commit = record {
            turns = omega arith;
            idle = λ free. refl;
            rest = λ free. refl;
            rules = refl;
            room = λ no. absurd (cc);
            more = λ no. absurd (cc);
          };
          checkpoint = record {
            steps = safe.checkpoint.steps;
            size = safe.checkpoint.size;
            new = safe.checkpoint.new;
            old = λ late. omega (arith, safe.checkpoint.old late);
            closed = safe.checkpoint.closed;
          };
          retirement = record { alone = safe.retirement.alone; idle = safe.retirement.idle; some = safe.retirement.some; from = safe.retirement.from; to = safe.retirement.to };
          few = omega (arith, safe.few, safe.commit.more busy);
        };
        rules = fits.safe.commit.rules ∙ fits.rules;
        next = omega (arith, fits.next, size);
        shows = subst (Shows s.commit.working) (sym (all_landed k commands)) shown;
        enough = still_enough busy;
        flight = λ no. absurd (cc);
        snapshot = λ late.
            let covered : s.checkpoint.covers - s.window.covered ≤ length k.batches = omega (arith, fits.safe.checkpoint.old late, fits.next) in
            subst (IsSnapshot k.rules s.checkpoint.body.items s.checkpoint.covers) (sym (upto_landed k commands (s.checkpoint.covers - s.window.covered) covered)) (fits.snapshot late);
      }

  -- If the gate is open, the batch counts.
  pub gate_opened : s.commit.busy ≡ true → s.commit.turns ≡ 3 → (image : List ℕ) → Facts s k image → IsOpen (layout_of s.window) s.window.next image
      → Facts (acknowledged s) (landed k s.commit.batch.commands) image
  gate_opened busy turns image facts is_open =
      let commands = s.commit.batch.commands in
      let flight = fits.flight busy in
      let first : s.commit.batch.first ≡ suc (length k.before) + length (joined k.batches) = omega (arith, flight.first, length-append k.before (joined k.batches)) in
      let here : IsOpen (layout_of s.window) (s.window.covered + length k.batches) image = subst (λ (b : ℕ). IsOpen (layout_of s.window) b image) fits.next is_open in
      let frame = frame_of (layout_of s.window) k.rules s.commit.batch (s.window.covered + length k.batches) (suc (length k.before) + length (joined k.batches)) image
      (flight.index ∙ fits.next) first here (facts.journal.staged (omega (arith, turns))) in
      record {
        head = facts.head;
        slots = facts.slots;
        journal = record {
          kept = journal.goes_on k.rules s.window.covered (suc (length k.before)) k.batches commands image facts.journal.kept frame;
          clean = λ b from below early. facts.journal.clean b (omega (arith, from)) below (λ same. absurd (omega (arith, from, same)));
          stale = facts.journal.stale;
          shut = facts.journal.shut;
          staged = λ late. absurd (omega (arith, late));
        };
      }

  pub gate_synced : s.commit.busy ≡ true → s.commit.turns ≡ 3 → (image : List ℕ) → Facts s k image → Reads s k image → Facts (acknowledged s) (landed k s.commit.batch.commands) image
  gate_synced busy turns image facts reads = gate_opened busy turns image facts (reads.commit.opened (omega (arith, turns)))

  pub gate_synced_reads : s.commit.busy ≡ true → s.commit.turns ≡ 3 → (image : List ℕ) → Facts s k image → Reads s k image → Reads (acknowledged s) (landed k s.commit.batch.commands) image
  gate_synced_reads busy turns image facts reads = record {
    commit = record { written = λ late. absurd (omega (arith, late)); opened = λ late. absurd (omega (arith, late)) };
    checkpoint = reads.checkpoint;
    retirement = record { retired = reads.retirement.retired };
  }

  -- A batch is put in flight.
  module _ (free : s.commit.busy ≡ false) where
    module _ (room : s.window.next < s.window.clean_end) (batch : Batch) (answers : List Answer) (working : AuctionValue) (rules : working.rules ≡ s.committed.rules)
        (flight : IsFlight k.rules s.window.next s.committed (all k) (begun s batch answers working).commit) where
      pub begun_fits : Fits (begun s batch answers working) k
      begun_fits = let safe = fits.safe in refitted s k fits s.window.clean_end (begun s batch answers working).commit s.checkpoint s.retirement
          (record {
            window = safe.window;
            commit = record {
              turns = omega arith;
              idle = λ no. refl;
              rest = λ no. absurd (cc);
              rules = rules;
              room = λ is. room;
              more = λ is. omega (arith, ap (λ (v : AuctionValue). v.count) flight.after, (laws.counted s.committed batch.commands flight.accepted).0, flight.kept.some);
            };
            checkpoint = safe.checkpoint;
            retirement = safe.retirement;
            few = safe.few;
          })
          (λ is. flight) fits.snapshot

    module _ (batch : Batch) (answers : List Answer) (working : AuctionValue) (image : List ℕ) (facts : Facts s k image) where
      pub begun_facts : Facts (begun s batch answers working) k image
      begun_facts = record {
        head = facts.head;
        slots = facts.slots;
        journal = record {
          kept = facts.journal.kept;
          clean = λ b from below early. facts.journal.clean b from below (λ is. omega (arith, fits.safe.commit.idle free));
          stale = facts.journal.stale;
          shut = facts.journal.shut;
          staged = λ late. absurd (omega (arith, late));
        };
      }

      pub begun_reads : Reads s k image → Reads (begun s batch answers working) k image
      begun_reads reads = record {
        commit = record { written = λ late. absurd (omega (arith, late)); opened = λ late. absurd (omega (arith, late)) };
        checkpoint = reads.checkpoint;
        retirement = reads.retirement;
      }
