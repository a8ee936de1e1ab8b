-- Two readings of one image agree as far as both went.
use Rattle.std.proofs.Common.{◌≡◌, inl, inr, ℕ, suc, ◌≤◌, List, ◌++◌, length, sym, ◌∙◌, ap, subst, arith}
use Rattle.std.proofs.lemmas.Bool.{cases_lt}
use Rattle.hpb_rules.specs.declared.command.Command.{Command}
use Rattle.hpb_rules.specs.declared.saved.Saved.{Saved}
use Rattle.hpb_rules.specs.AuctionValue.{AuctionValue}
use Rattle.hpb_rules.specs.AcceptedRuns.{AllAccepted}
use Rattle.hpb_rules.specs.Saved.{restored}
use Rattle.hpb_disk.specs.Images.{part}
use Rattle.hpb_journal.specs.Frames.{Kept}
use Rattle.hpb_rules.specs.Fronts.{joined}
use Rattle.hpb_journal.specs.Journals.{IsJournal, ShapesAreJournal}
use Rattle.hpb_slots.specs.Newest.{IsNewest}
use Rattle.hpb_slots.specs.Laws.{NewestIsOne}
use Rattle.hpb_codec.specs.declared.head.Head.{Head}
use Rattle.hpb_codec.specs.Laws.{HeadsAreOne}
use Rattle.hpb_recover.specs.Heads.{layout_of}
use Rattle.hpb_recover.specs.Readings.{Found, Reaches, HasLater, layout_in, checkpoint, next_index}

-- Two readings agree on everything except how far they went.
module _ (heads : HeadsAreOne) (newest : NewestIsOne) (shapes : ShapesAreJournal) (f g : Found) (image : List ℕ) (one : Reaches f image) (other : Reaches g image) where
  pub heads_agree : f.head ≡ g.head
  heads_agree = heads.1 (part 16 12272 image) f.head g.head one.laid.spelled other.laid.spelled

  newest_here : IsNewest f.head.definition g.slot g.covered g.saved image
  newest_here = subst (λ (head : Head). IsNewest head.definition g.slot g.covered g.saved image) (sym heads_agree) other.newest

  newest_agrees : (f.slot ≡ g.slot) × (f.covered ≡ g.covered) × (f.saved ≡ g.saved)
  newest_agrees = newest f.head.definition f.slot g.slot f.covered g.covered f.saved g.saved image one.newest newest_here

  pub covered_agrees : f.covered ≡ g.covered
  covered_agrees = newest_agrees.1

  pub slot_agrees : f.slot ≡ g.slot
  slot_agrees = newest_agrees.0

  pub saved_agrees : f.saved ≡ g.saved
  saved_agrees = newest_agrees.2

  pub checkpoints_agree : checkpoint f ≡ checkpoint g
  checkpoints_agree = ap (λ (head : Head). restored head.definition f.saved) heads_agree ∙ ap (restored g.head.definition) saved_agrees

  pub counts_agree : (layout_in f).count ≡ (layout_in g).count
  counts_agree = ap (λ (head : Head). (layout_of head).count) heads_agree

  -- the batches of the other reading, in terms of this one
  pub kept_here : Kept (layout_in f) f.head.definition f.covered (suc f.saved.count) g.batches image
  kept_here =
      subst (λ (head : Head). Kept (layout_of head) head.definition f.covered (suc f.saved.count) g.batches image) (sym heads_agree)
      (subst (λ (k : ℕ). Kept (layout_in g) g.head.definition k (suc f.saved.count) g.batches image) (sym covered_agrees)
      (subst (λ (saved : Saved). Kept (layout_in g) g.head.definition g.covered (suc saved.count) g.batches image) (sym saved_agrees) other.kept))

  pub accepted_here : AllAccepted (checkpoint f) (joined g.batches)
  accepted_here = subst (λ (v : AuctionValue). AllAccepted v (joined g.batches)) (sym checkpoints_agree) other.accepted

  journal : IsJournal (layout_in f)
  journal = shapes f.head.journal one.laid.spelled.1.is.journal

  -- no reading goes further than a complete one
  module _ (ends : HasLater f image → ⊥) where
    pub no_longer : length g.batches ≤ length f.batches
    no_longer = elim (cases_lt (length f.batches) (length g.batches)) [
      | inr le ↦ le
      | inl more ↦
          let own = journal.own f.head.definition f.covered (suc f.saved.count) g.batches image kept_here in
          absurd (ends (next_index f, omega arith, omega (arith, more, own.1), own.0 (next_index f) (omega arith) (omega (arith, more))))
    ]

    pub is_front : (rest : List (List Command)) × (f.batches ≡ g.batches ++ rest)
    is_front = journal.one f.head.definition f.covered (suc f.saved.count) f.batches g.batches image one.kept kept_here no_longer
