-- From an image that stands for a history, and the bytes read in it, to an engine that keeps the history.
use Rattle.std.proofs.Common.{◌≡◌, ◌⊎◌, ◌↔◌, ℕ, zero, suc, ◌+◌, ◌-◌, ◌<◌, ◌≤◌, nat_le, List, [], ◌∷◌, ◌++◌, length, take, slice_index_or, Bool, true, false, ◌||◌, sym, ◌∙◌, ap, subst, arith, length-append}
use Rattle.std.proofs.lemmas.Bool.Decides.{nat_tests}
use Rattle.hpb_rules.specs.declared.command.Command.{Command}
use Rattle.hpb_rules.specs.Answer.{IsHistory}
use Rattle.hpb_rules.specs.AuctionValue.{AuctionValue, Shows}
use Rattle.hpb_rules.specs.AcceptedRuns.{AllAccepted}
use Rattle.hpb_rules.specs.Tree.{Rules}
use Rattle.hpb_rules.specs.Machine.{Machine, at_rest}
use Rattle.hpb_disk.specs.Device.{IsSettled}
use Rattle.hpb_recover.specs.Heads.{IsLaidOut, layout_of as layout_by}
use Rattle.hpb_recover.specs.Readings.{Found, Reads as ReadsAll, checkpoint}
use Rattle.hpb_recover.specs.Standing.{Stands}
use Rattle.hpb_journal.specs.Frames.{IsOpen, IsOwn, Kept, batch_at}
use Rattle.hpb_rules.specs.Fronts.{joined}
use Rattle.hpb_rules.proofs.Judged.{shown_count}
use Rattle.hpb_journal.specs.Journals.{IsJournal}
use Rattle.hpb_journal.specs.Layouts.{Layout}
use Rattle.hpb_codec.specs.declared.layout.JournalShape.{JournalShape}
use Rattle.hpb_journal.specs.Shapes.{shape_of, shaped}
use Rattle.hpb_journal.proofs.OfShape.{four_at_least, shape_is_allowed}
use Rattle.hpb_slots.specs.declared.slot.Slot.{Slot}
use Rattle.hpb_slots.specs.Slots.{Holds, IsOpen as IsOpenSlot, other_of, place_of}
use Rattle.hpb_recover.specs.declared.plan.Plan.{Plan}
use Rattle.hpb_recover.specs.Plans.{IsPlan, IsPlanOf}
use Rattle.hpb_engine.specs.declared.progress.Progress.{Progress}
use Rattle.hpb_engine.specs.Cuts.{Cut}
use Rattle.hpb_engine.specs.Facts.{Facts, Fits, InJournal, InSlots, Reads}
use Rattle.hpb_engine.specs.Keeping.{Inside, Keeps, Running}
use Rattle.hpb_engine.specs.Laws.{Laws}
use Rattle.hpb_engine.specs.Numbers.{IsSafe, count_of, end_of, layout_of, may_be_open}
use Rattle.hpb_engine.specs.Starting.{IsFresh, cut_of}
use Rattle.hpb_engine.proofs.Machines.{machine_by}
use Rattle.hpb_engine.proofs.Standing.{kept_inside}

no_flight : (s : Progress) (plan : Plan) → IsFresh s plan → s.commit.busy ≡ true → ⊥
no_flight s plan fresh busy = let free = fresh.commit.busy in cc

same_count : (s : Progress) (plan : Plan) → IsFresh s plan → count_of s.window ≡ (shape_of plan.frames).frames
same_count s plan fresh = ap (λ (j : JournalShape). j.frames) fresh.window.frames

module _ (s : Progress) (plan : Plan) (image : List ℕ) (fresh : IsFresh s plan) (is : IsPlan plan image) where
  -- The numbers agree whether the image stands for a history or not.
  pub fresh_safe : IsSafe s
  fresh_safe = record {
    window = record {
      least = omega (arith, (shape_is_allowed s.window.frames).least, four_at_least (shape_of s.window.frames).layout);
      most = (shape_is_allowed s.window.frames).most;
      gates = ap (λ (l : List Bool). length l) fresh.window.gates ∙ is.all ∙ sym (same_count s plan fresh);
      opened = omega (arith, fresh.window.opened_at, fresh.window.covered);
      covered = omega (arith, fresh.window.covered, fresh.window.next, is.follows);
      clean = omega (arith, fresh.window.next, fresh.window.clean_end, is.clean.from);
      end = omega (arith, fresh.window.covered, same_count s plan fresh, fresh.window.clean_end, is.clean.to);
    };
    commit = record {
      turns = omega (arith, fresh.commit.turns);
      idle = λ _. fresh.commit.turns;
      rest = λ _. fresh.commit.working ∙ sym fresh.committed;
      rules = ap (λ (value : AuctionValue). value.rules) (fresh.commit.working ∙ sym fresh.committed);
      room = λ busy. absurd (no_flight s plan fresh busy);
      more = λ busy. absurd (no_flight s plan fresh busy);
    };
    checkpoint = record {
      steps = omega (arith, fresh.checkpoint.steps);
      size = fresh.checkpoint.size;
      new = λ late. absurd (omega (arith, late, fresh.checkpoint.steps));
      old = λ late. absurd (omega (arith, late, fresh.checkpoint.steps));
      closed = λ late. absurd (omega (arith, late, fresh.checkpoint.steps));
    };
    retirement = record {
      alone = λ _. fresh.checkpoint.steps;
      idle = λ _. fresh.retirement.upto ∙ sym fresh.window.clean_end;
      some = λ on. absurd (cc fresh.retirement.going);
      from = omega (arith, fresh.retirement.upto, fresh.window.clean_end);
      to = omega (arith, fresh.window.covered, same_count s plan fresh, fresh.retirement.upto, is.clean.to);
    };
    few = omega (arith, fresh.window.next, is.clean.from, is.clean.to, is.few, (shape_is_allowed plan.frames).most);
  }

module _ (s : Progress) (plan : Plan) (fresh : IsFresh s plan) where
  -- Nothing is on its way.
  pub fresh_reads : (k : Cut) (seen : List ℕ) → Reads s k seen
  fresh_reads k seen = record {
    commit = record {
      written = λ late. absurd (omega (arith, late, fresh.commit.turns));
      opened = λ late. absurd (omega (arith, late, fresh.commit.turns));
    };
    checkpoint = record {
      closed = λ late. absurd (omega (arith, late, fresh.checkpoint.steps));
      copied = λ late. absurd (omega (arith, late, fresh.checkpoint.steps));
      shown = λ late. absurd (omega (arith, late, fresh.checkpoint.steps));
    };
    retirement = record { retired = λ b from below. absurd (omega (arith, from, below, fresh.retirement.upto, fresh.window.clean_end)) };
  }

-- Each batch that is kept has a command.
module _ (layout : Layout) (journal : IsJournal layout) (rules : Rules) (image : List ℕ) where
  counted : (b first : ℕ) (batches : List (List Command)) → Kept layout rules b first batches image → (count : ℕ) → count ≤ length batches → count ≤ length (joined (take count batches))
  counted b first batches kept zero le = omega arith
  counted b first [] kept (suc count) le = absurd (omega (arith, le))
  counted b first (commands ∷ batches) kept (suc count) le =
      let some : 0 < length commands = (journal.is.is_batch rules (layout.body b image) (batch_at b first commands) kept.0.1).some in
      omega (arith, some, counted (suc b) (first + length commands) batches kept.1 count (omega (arith, le)), length-append commands (joined (take count batches)))

module _ (laws : Laws) (s : Progress) (plan : Plan) (history : List Command) (image : List ℕ) (fresh : IsFresh s plan) (is : IsPlan plan image) (stands : Stands history image) where
  -- The findings of a read of the image.
  abbrev found : Found
  found = record { head = stands.head; slot = stands.slot; covered = stands.covered; saved = stands.saved; batches = stands.batches }

  accepted : AllAccepted (checkpoint found) (joined stands.batches)
  accepted = (laws.rest_is_accepted (checkpoint found) stands.before (joined stands.batches) stands.shows).1 (subst (IsHistory stands.head.definition) stands.cuts stands.allowed)

  found_reads : ReadsAll found image
  found_reads = record {
    reaches = record {
      formatted = stands.formatted;
      laid = stands.laid;
      newest = stands.newest;
      kept = subst (λ (n : ℕ). Kept (layout_by stands.head) stands.head.definition stands.covered (suc n) stands.batches image)
          (sym (shown_count (checkpoint found) stands.before stands.shows)) stands.kept;
      accepted = accepted;
    };
    ends = λ later. stands.ends later.0 later.1 later.2 later.3;
  }

  of : IsPlanOf plan found
  of = is.reads found found_reads

  frames_are : shape_of s.window.frames ≡ stands.head.journal
  frames_are = fresh.window.frames ∙ of.frames

  newest_is : s.checkpoint.newest ≡ stands.slot
  newest_is = fresh.checkpoint.newest ∙ of.slot

  covered_is : s.window.covered ≡ stands.covered
  covered_is = fresh.window.covered ∙ of.covered

  next_is : s.window.next ≡ s.window.covered + length stands.batches
  next_is = omega (arith, fresh.window.next, of.next, covered_is)

  safe : IsSafe s
  safe = fresh_safe s plan image fresh is

  journal : IsJournal (layout_of s.window)
  journal = laws.shapes (shape_of s.window.frames) (shape_is_allowed s.window.frames)

  kept_here : Kept (layout_of s.window) stands.head.definition s.window.covered (suc (length stands.before)) stands.batches image
  kept_here =
      subst (λ (j : JournalShape). Kept (shaped j) stands.head.definition s.window.covered (suc (length stands.before)) stands.batches image) (sym frames_are)
      (subst (λ (b : ℕ). Kept (layout_by stands.head) stands.head.definition b (suc (length stands.before)) stands.batches image) (sym covered_is) stands.kept)

  within : s.window.covered ≤ length stands.before
  within = omega (arith, covered_is, stands.newest.holds.1.1.covered, shown_count (checkpoint found) stands.before stands.shows)

  pub fresh_fits : Fits s (cut_of history image stands)
  fresh_fits = record {
    safe = safe;
    rules = ap (λ (value : AuctionValue). value.rules) fresh.committed ∙ of.definition;
    next = next_is;
    shows = subst (λ (value : AuctionValue). Shows value (stands.before ++ joined stands.batches)) (sym (fresh.committed ∙ of.auction))
        (laws.rest_is_shown (checkpoint found) stands.before (joined stands.batches) stands.shows accepted);
    enough = λ count le.
        omega (
          arith,
          within,
          counted (layout_of s.window) journal stands.head.definition image s.window.covered (suc (length stands.before)) stands.batches kept_here count le,
          length-append stands.before (joined (take count stands.batches)),
        );
    flight = λ busy. absurd (no_flight s plan fresh busy);
    snapshot = λ late. absurd (omega (arith, late, fresh.checkpoint.steps));
  }

  -- The gate of the other slot is as it was read.
  other_is_open : s.checkpoint.other_open ≡ true → IsOpenSlot (other_of s.checkpoint.newest) image
  other_is_open up = subst (λ (slot : Slot). IsOpenSlot (other_of slot) image) (sym fresh.checkpoint.newest) (is.other.0 (sym fresh.checkpoint.other_open ∙ up))

  other_is_closed : s.checkpoint.other_open ≡ false → IsOpenSlot (other_of s.checkpoint.newest) image → ⊥
  other_is_closed off up =
      let on : plan.other_open ≡ true = is.other.1 (subst (λ (slot : Slot). IsOpenSlot (other_of slot) image) fresh.checkpoint.newest up) in
      absurd (let same = fresh.checkpoint.other_open in cc)

  fresh_slots : InSlots stands.head.definition s.window.covered s.checkpoint stands.before image
  fresh_slots = record {
    saved = stands.saved;
    holds = subst (λ (slot : Slot). Holds stands.head.definition slot s.window.covered stands.saved image) (sym newest_is)
        (subst (λ (b : ℕ). Holds stands.head.definition stands.slot b stands.saved image) (sym covered_is) stands.newest.holds);
    shows = stands.shows;
    behind = λ up i older spells.
        subst (λ (n : ℕ). (i < n) ⊎ ((i ≡ n) × (place_of s.checkpoint.newest ≤ place_of (other_of s.checkpoint.newest)))) (sym covered_is)
        (subst (λ (slot : Slot). (i < stands.covered) ⊎ ((i ≡ stands.covered) × (place_of slot ≤ place_of (other_of s.checkpoint.newest)))) (sym newest_is)
        (stands.newest.greatest (other_of s.checkpoint.newest) i older (other_is_open up, spells)));
    shut = λ early off. other_is_closed off;
    whole = λ late. absurd (omega (arith, late, fresh.checkpoint.steps));
  }

  -- A frame that isn't clean may be open if and only if it is.
  known : (b : ℕ) → s.window.clean_end ≤ b → b < end_of s.window → may_be_open s.window b ≡ slice_index_or plan.gates.items (b - plan.covered) false
  known b late below = left (nat_le (s.window.opened_at + count_of s.window) b) (slice_index_or s.window.gates.items (b - s.window.opened_at) false)
      (slice_index_or plan.gates.items (b - plan.covered) false) far same
    where
      left : (a c d : Bool) → a ≡ false → c ≡ d → (a || c) ≡ d
      left false c d off is = is
      left true c d off is = absurd (cc)

      far : nat_le (s.window.opened_at + count_of s.window) b ≡ false
      far = grind (arith, nat_tests, below, fresh.window.opened_at, fresh.window.covered)

      same : slice_index_or s.window.gates.items (b - s.window.opened_at) false ≡ slice_index_or plan.gates.items (b - plan.covered) false
      same = ap (λ (l : List Bool). slice_index_or l (b - s.window.opened_at) false) fresh.window.gates ∙ ap (λ (n : ℕ). slice_index_or plan.gates.items (b - n) false) fresh.window.opened_at

  -- Its gate is as it was read.
  gate_is : (b : ℕ) → s.window.clean_end ≤ b → b < end_of s.window → (may_be_open s.window b ≡ true) ↔ IsOpen (layout_of s.window) b image
  gate_is b late below =
      let from : plan.covered ≤ b = omega (arith, late, fresh.window.clean_end, is.clean.from, is.follows) in
      let sum : plan.covered + (b - plan.covered) ≡ b = omega (arith, from) in
      let inside : b - plan.covered < length plan.gates.items = omega (arith, from, below, is.all, fresh.window.covered, same_count s plan fresh) in
      let read = is.gates (b - plan.covered) inside in (
        λ may. subst (λ (j : JournalShape). IsOpen (shaped j) b image) (sym fresh.window.frames)
            (subst (λ (n : ℕ). IsOpen (shaped (shape_of plan.frames)) n image) sum (read.0 (sym (known b late below) ∙ may))),
        λ up. known b late below ∙ read.1 (subst (λ (n : ℕ). IsOpen (shaped (shape_of plan.frames)) n image) (sym sum) (subst (λ (j : JournalShape). IsOpen (shaped j) b image) fresh.window.frames up)),
      )

  fresh_journal : InJournal stands.head.definition s.window s.commit (cut_of history image stands) image
  fresh_journal = record {
    kept = kept_here;
    clean = λ b from below early up.
        is.clean.shut b (omega (arith, from, fresh.window.next)) (omega (arith, below, fresh.window.clean_end)) (subst (λ (j : JournalShape). IsOpen (shaped j) b image) fresh.window.frames up);
    stale = λ b late below may has.
        stands.ends b (omega (arith, late, safe.window.clean, next_is, covered_is)) (omega (arith, below, covered_is, ap (λ (j : JournalShape). j.frames) frames_are))
        (subst (λ (j : JournalShape). IsOwn (shaped j) b image) frames_are ((gate_is b late below).0 may, has));
    shut = λ b late below not up. absurd (let may = (gate_is b late below).1 up in cc);
    staged = λ late. absurd (omega (arith, late, fresh.commit.turns));
  }

  pub fresh_facts : Facts s (cut_of history image stands) image
  fresh_facts = record {
    head = record {
      formatted = stands.formatted;
      laid = subst (λ (j : JournalShape). IsLaidOut (record { definition = stands.head.definition; journal = j }) image) (sym frames_are) stands.laid;
    };
    slots = fresh_slots;
    journal = fresh_journal;
  }

-- A device on which nothing is pending.
module _ (laws : Laws) (run : Running) (plan : Plan) (history : List Command)
    (durable : IsSettled run.device) (fresh : IsFresh run.progress plan) (is : IsPlan plan run.device.seen) (stands : Stands history run.device.seen) where
  pub fresh_inside : Inside run history
  fresh_inside = record {
    cut = cut_of history run.device.seen stands;
    whole = stands.cuts;
    fits = fresh_fits laws run.progress plan history run.device.seen fresh is stands;
    images = λ image left. subst (Facts run.progress (cut_of history run.device.seen stands)) (sym (durable image left)) (fresh_facts laws run.progress plan history run.device.seen fresh is stands);
    reads = λ _. fresh_reads run.progress plan fresh (cut_of history run.device.seen stands) run.device.seen;
  }

  pub fresh_keeps : Keeps run (at_rest history)
  fresh_keeps = subst (λ (machine : Machine). Keeps run machine) (machine_by run.progress history fresh.commit.busy) (kept_inside laws run history fresh_inside)
