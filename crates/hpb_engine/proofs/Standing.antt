-- An image with these facts stands for the acknowledged commands or, once a batch has landed, for these with its
-- commands.
use Rattle.std.proofs.Common.{◌≡◌, ◌⊎◌, inl, inr, ℕ, ◌-◌, ◌<◌, ◌≤◌, List, ◌++◌, Bool, true, false, Some, None, if◌then◌else◌, refl, sym, ap, subst, arith}
use Rattle.std.proofs.lemmas.Bool.{cases_lt, cases_eq}
use Rattle.hpb_rules.specs.declared.command.Command.{Command}
use Rattle.hpb_rules.specs.declared.saved.Saved.{Saved}
use Rattle.hpb_rules.specs.Tree.{Rules}
use Rattle.hpb_rules.specs.Answer.{IsHistory}
use Rattle.hpb_rules.specs.AuctionValue.{Shows}
use Rattle.hpb_rules.specs.Machine.{Machine}
use Rattle.hpb_recover.specs.Standing.{Stands}
use Rattle.hpb_journal.specs.Frames.{IsClosed, IsOpen, IsOwn}
use Rattle.hpb_slots.specs.declared.slot.Slot.{Slot}
use Rattle.hpb_slots.specs.declared.slot.Slot.TheVariants.{First, Second}
use Rattle.hpb_slots.specs.Slots.{IsClosed as IsClosedSlot, Holds, other_of, place_of}
use Rattle.hpb_engine.specs.declared.progress.Progress.{Progress}
use Rattle.hpb_engine.specs.Cuts.{Cut, all, landed, shortened}
use Rattle.hpb_engine.specs.Facts.{Facts, Fits, head_of}
use Rattle.hpb_engine.specs.Keeping.{Inside, Keeps, Running, StandsFor, machine_of}
use Rattle.hpb_engine.specs.Laws.{Laws}
use Rattle.hpb_engine.specs.Numbers.{end_of, layout_of, may_be_open}
use Rattle.hpb_engine.specs.Moves.{acknowledged, renewed}
use Rattle.hpb_engine.proofs.CheckpointSteps.{renewed_fits, renewed_opened}
use Rattle.hpb_engine.proofs.CommitTurns.{acknowledged_fits, gate_opened}
use Rattle.hpb_engine.proofs.Cutting.{all_landed, all_shortened}
use Rattle.hpb_disk.proofs.GateBytes.{is_open_byte}

same_or_other : (one other : Slot) → (other ≡ one) ⊎ (other ≡ other_of one)
same_or_other First First = inl refl
same_or_other First Second = inr refl
same_or_other Second First = inr refl
same_or_other Second Second = inl refl

module _ (laws : Laws) (s : Progress) (k : Cut) (image : List ℕ) (fits : Fits s k) (facts : Facts s k image) where
  -- Neither a batch in flight nor a new slot shows.
  module _ (no_next : s.commit.turns ≡ 3 → IsClosed (layout_of s.window) s.window.next image) (no_other : s.checkpoint.steps ≡ 8 → IsClosedSlot (other_of s.checkpoint.newest) image) where
    older : (i : ℕ) (saved : Saved) → Holds k.rules (other_of s.checkpoint.newest) i saved image → (flag : Bool) → s.checkpoint.other_open ≡ flag
        → (i < s.window.covered) ⊎ ((i ≡ s.window.covered) × (place_of s.checkpoint.newest ≤ place_of (other_of s.checkpoint.newest)))
    older i saved has true was = facts.slots.behind was i saved has.1
    older i saved has false was = elim (cases_lt s.checkpoint.steps 8) [
      | inl early ↦ absurd (facts.slots.shut early was has.0)
      | inr late ↦ absurd (no_other (omega (arith, late, fits.safe.checkpoint.steps)) has.0)
    ]

    greatest : (other : Slot) (i : ℕ) (saved : Saved) → Holds k.rules other i saved image
        → (i < s.window.covered) ⊎ ((i ≡ s.window.covered) × (place_of s.checkpoint.newest ≤ place_of other))
    greatest other i saved has = elim (same_or_other s.checkpoint.newest other) [
      | inl same ↦
          let here : Holds k.rules s.checkpoint.newest i saved image = subst (λ (slot : Slot). Holds k.rules slot i saved image) same has in
          let one = laws.holds_one k.rules s.checkpoint.newest s.window.covered i facts.slots.saved saved image facts.slots.holds here in
          inr (sym one.0, subst (λ (slot : Slot). place_of s.checkpoint.newest ≤ place_of slot) (sym same) (omega arith))
      | inr is ↦
          subst (λ (slot : Slot). (i < s.window.covered) ⊎ ((i ≡ s.window.covered) × (place_of s.checkpoint.newest ≤ place_of slot))) (sym is)
          (older i saved (subst (λ (slot : Slot). Holds k.rules slot i saved image) is has) s.checkpoint.other_open refl)
    ]

    ended_clean : (b : ℕ) → s.window.next ≤ b → b < s.window.clean_end → IsOwn (layout_of s.window) b image → ⊥
    ended_clean b from early own = elim (cases_eq b s.window.next) [
      | inr ne ↦ facts.journal.clean b from early (λ same. absurd (ne same)) own.0
      | inl same ↦ elim (cases_lt s.commit.turns 3) [
        | inl before ↦ facts.journal.clean b from early (λ _. before) own.0
        | inr after ↦ no_next (omega (arith, after, fits.safe.commit.turns)) (subst (λ (n : ℕ). IsOpen (layout_of s.window) n image) same own.0)
      ]
    ]

    ended_stale : (b : ℕ) → s.window.clean_end ≤ b → b < end_of s.window → IsOwn (layout_of s.window) b image → (flag : Bool) → may_be_open s.window b ≡ flag → ⊥
    ended_stale b late below own true may = facts.journal.stale b late below may own.1
    ended_stale b late below own false may = facts.journal.shut b late below may own.0

    ended : (b : ℕ) → s.window.next ≤ b → b < end_of s.window → IsOwn (layout_of s.window) b image → (b < s.window.clean_end) ⊎ (s.window.clean_end ≤ b) → ⊥
    ended b from below own (inl early) = ended_clean b from early own
    ended b from below own (inr late) = ended_stale b late below own (may_be_open s.window b) refl

    at_rest : Stands (all k) image
    at_rest = record {
      formatted = facts.head.formatted;
      head = head_of s.window k.rules;
      laid = facts.head.laid;
      allowed = subst (λ (rules : Rules). IsHistory rules (all k)) fits.rules fits.shows.0;
      slot = s.checkpoint.newest;
      covered = s.window.covered;
      saved = facts.slots.saved;
      newest = record { holds = facts.slots.holds; greatest = greatest };
      before = k.before;
      shows = facts.slots.shows;
      batches = k.batches;
      cuts = refl;
      kept = facts.journal.kept;
      ends = λ b from below own. ended b (omega (arith, from, fits.next)) below own (cases_lt b s.window.clean_end);
    }

-- No batch in flight shows; a checkpoint doesn't change that.
settled : (laws : Laws) (s : Progress) (k : Cut) (image : List ℕ) → Fits s k → Facts s k image → (s.commit.turns ≡ 3 → IsClosed (layout_of s.window) s.window.next image)
    → Stands (all k) image
settled laws s k image fits facts no_next = elim (cases_eq s.checkpoint.steps 8) [
  | inr early ↦ at_rest laws s k image fits facts no_next (λ late. absurd (early late))
  | inl late ↦ elim (laws.open_or_closed (other_of s.checkpoint.newest) image) [
    | inr closed ↦ at_rest laws s k image fits facts no_next (λ _. closed)
    | inl shown ↦
        let count : ℕ = s.checkpoint.covers - s.window.covered in
        subst (λ (history : List Command). Stands history image) (all_shortened k count)
        (at_rest laws (renewed s) (shortened k count) image (renewed_fits laws s k fits late) (renewed_opened laws s k fits late image facts shown) no_next
        (λ is. absurd (omega (arith, is))))
  ]
]

-- A batch whose gate is written has landed, or not.
pub stands_either : (laws : Laws) (s : Progress) (k : Cut) (image : List ℕ) → Fits s k → Facts s k image → s.commit.busy ≡ true
    → Stands (all k) image ⊎ ((s.commit.turns ≡ 3) × Stands (all k ++ s.commit.batch.commands) image)
stands_either laws s k image fits facts busy = elim (cases_eq s.commit.turns 3) [
  | inr early ↦ inl (settled laws s k image fits facts (λ late. absurd (early late)))
  | inl late ↦ elim (is_open_byte ((layout_of s.window).gate s.window.next image)) [
    | inr closed ↦ inl (settled laws s k image fits facts (λ _. closed))
    | inl opened ↦ inr (
      late,
      subst (λ (history : List Command). Stands history image) (all_landed k s.commit.batch.commands)
          (settled laws (acknowledged s) (landed k s.commit.batch.commands) image (acknowledged_fits laws s k fits busy late) (gate_opened laws s k fits busy late image facts opened)
          (λ is. absurd (omega (arith, is)))),
    )
  ]
]

-- The machine, by whether a batch is in flight.
abbrev in_flight : (s : Progress) (history : List Command) → Bool → Machine
in_flight s history busy = record { acknowledged = history; flight = if busy then Some (record { answers = s.commit.answers; turns = s.commit.turns }) else None }

-- At each step.
pub may_stand : (laws : Laws) (s : Progress) (k : Cut) (image : List ℕ) → Fits s k → Facts s k image → StandsFor (machine_of s (all k)) image
may_stand laws s k image fits facts = by_busy s.commit.busy refl
  where
    by_busy : (busy : Bool) → s.commit.busy ≡ busy → StandsFor (in_flight s (all k) busy) image
    by_busy false free = (all k, refl, settled laws s k image fits facts (λ late. absurd (omega (arith, fits.safe.commit.idle free, late))))
    by_busy true busy = elim (stands_either laws s k image fits facts busy) [
      | inl without ↦ (all k, inl refl, without)
      | inr it ↦ (all k ++ s.commit.batch.commands, inr (it.0, ap (λ (commands : List Command). all k ++ commands) (fits.flight busy).new), it.1)
    ]

-- The facts inside give the sentence for callers.
pub kept_inside : (laws : Laws) (run : Running) (history : List Command) → Inside run history → Keeps run (machine_of run.progress history)
kept_inside laws run history inside = record {
  shows = subst (λ (commands : List Command). Shows run.progress.committed commands) (sym inside.whole) inside.fits.shows;
  flight = refl;
  images = λ image left. subst (λ (commands : List Command). StandsFor (machine_of run.progress commands) image) (sym inside.whole)
      (may_stand laws run.progress inside.cut image inside.fits (inside.images image left));
  inside = inside;
}
