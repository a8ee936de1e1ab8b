-- An image has at most one flaw, and none if it can be read.
use Rattle.std.proofs.Common.{◌≡◌, ℕ, suc, ◌+◌, List, [], ◌∷◌, ◌++◌, length, refl, sym, ◌∙◌, ap, subst, arith}
use Rattle.std.proofs.lemmas.List.{append-nil}
use Rattle.hpb_rules.specs.declared.command.Command.{Command}
use Rattle.hpb_rules.specs.AcceptedRuns.{AllAccepted}
use Rattle.hpb_rules.proofs.RunLaws.{accepted_join, accepted_are_counted}
use Rattle.hpb_disk.specs.Images.{part}
use Rattle.hpb_slots.specs.Laws.{NewestIsOne}
use Rattle.hpb_journal.specs.Frames.{IsOwn, IsFrame, Kept}
use Rattle.hpb_rules.specs.Fronts.{joined}
use Rattle.hpb_rules.proofs.Judged.{joined_append}
use Rattle.hpb_journal.specs.Journals.{IsJournal, ShapesAreJournal}
use Rattle.hpb_recover.specs.declared.flaw.Flaw.{Flaw}
use Rattle.hpb_recover.specs.declared.flaw.Flaw.TheVariants.{Unformatted, Layout, Checkpoint, Frame}
use Rattle.hpb_codec.specs.declared.head.Head.{Head}
use Rattle.hpb_codec.specs.Laws.{HeadsAreOne}
use Rattle.hpb_recover.specs.Heads.{IsLaidOut, layout_of}
use Rattle.hpb_slots.specs.Slots.{Holds}
use Rattle.hpb_slots.specs.Newest.{IsWithout}
use Rattle.hpb_recover.specs.Readings.{Found, Reaches, Reads, layout_in, checkpoint, next_index, last_value}
use Rattle.hpb_recover.specs.Flaws.{HasFlaw, IsDamaged}
use Rattle.hpb_recover.specs.Laws.{FlawIsOne, ReadIsFlawless}
use Rattle.hpb_recover.proofs.Agreeing.{heads_agree, covered_agrees, counts_agree, kept_here, accepted_here, is_front}

module _ (heads : HeadsAreOne) (newest : NewestIsOne) (shapes : ShapesAreJournal) (f g : Found) (image : List ℕ) (reads : Reads f image) (damaged : IsDamaged g image) where
  a : Reaches f image
  a = reads.reaches

  b : Reaches g image
  b = damaged.reaches

  journal : IsJournal (layout_in g)
  journal = shapes g.head.journal b.laid.spelled.1.is.journal

  -- the other reading went as far: then the later frame is later for both
  as_far : f.batches ≡ g.batches → ⊥
  as_far batches =
      let later = damaged.later in
      let count : length f.batches ≡ length g.batches = ap (λ (l : List (List Command)). length l) batches in
      reads.ends (
        later.0,
        omega (arith, later.1, count, covered_agrees heads newest shapes f g image a b),
        omega (arith, later.2, covered_agrees heads newest shapes f g image a b, counts_agree heads newest shapes f g image a b),
        subst (λ (head : Head). IsOwn (layout_of head) later.0 image) (sym (heads_agree heads newest shapes f g image a b)) later.3,
      )

  -- it went further: then its next batch goes on
  further : (commands : List Command) (rest : List (List Command)) → f.batches ≡ g.batches ++ commands ∷ rest → ⊥
  further commands rest is =
      let kept : Kept (layout_in g) g.head.definition g.covered (suc g.saved.count) (g.batches ++ commands ∷ rest) image =
      subst (λ (l : List (List Command)). Kept (layout_in g) g.head.definition g.covered (suc g.saved.count) l image) is (kept_here heads newest shapes g f image b a) in
      let all : AllAccepted (checkpoint g) (joined g.batches ++ (commands ++ joined rest)) =
      subst (AllAccepted (checkpoint g)) (ap joined is ∙ joined_append g.batches (commands ∷ rest)) (accepted_here heads newest shapes g f image b a) in
      let behind : AllAccepted (last_value g) (commands ++ joined rest) = ((accepted_join (checkpoint g) (joined g.batches) (commands ++ joined rest)).0.0 all).1 in
      let number : suc g.saved.count + length (joined g.batches) ≡ suc (last_value g).count = omega (arith, (accepted_are_counted (checkpoint g) (joined g.batches) b.accepted).0) in
      let frame = (journal.cut g.head.definition g.covered (suc g.saved.count) g.batches (commands ∷ rest) image kept).1.0 in
      damaged.stops commands
      (subst (λ (k : ℕ). IsFrame (layout_in g) g.head.definition (next_index g) k commands image) number frame)
      ((accepted_join (last_value g) commands (joined rest)).0.0 behind).0

  pub undamaged : ⊥
  undamaged = by (is_front heads newest shapes f g image a b reads.ends).0 (is_front heads newest shapes f g image a b reads.ends).1
    where
      by : (rest : List (List Command)) → f.batches ≡ g.batches ++ rest → ⊥
      by [] is = as_far (is ∙ append-nil g.batches)
      by (commands ∷ rest) is = further commands rest is

module _ (heads : HeadsAreOne) (f : Found) (image : List ℕ) (reaches : Reaches f image) where
  -- an image that was read has a state in a slot, under the one head that it has
  has_state : (head : Head) → IsLaidOut head image → IsWithout head.definition image → ⊥
  has_state head laid none =
      let same : f.head ≡ head = heads.1 (part 16 12272 image) f.head head reaches.laid.spelled laid.spelled in
      none f.slot f.covered f.saved (subst (λ (head : Head). Holds head.definition f.slot f.covered f.saved image) same reaches.newest.holds)

  reached : (flaw : Flaw) → HasFlaw flaw image → flaw ≡ Frame
  reached Unformatted why = absurd (why reaches.formatted)
  reached Layout why = absurd (why.1 f.head reaches.laid)
  reached Checkpoint why = absurd (has_state why.1 why.2 why.3)
  reached Frame why = refl

pub read_is_flawless : HeadsAreOne → NewestIsOne → ShapesAreJournal → ReadIsFlawless
read_is_flawless heads newest shapes f Unformatted image reads flaw = flaw reads.reaches.formatted
read_is_flawless heads newest shapes f Layout image reads flaw = flaw.1 f.head reads.reaches.laid
read_is_flawless heads newest shapes f Checkpoint image reads flaw = has_state heads f image reads.reaches flaw.1 flaw.2 flaw.3
read_is_flawless heads newest shapes f Frame image reads flaw = undamaged heads newest shapes f flaw.0 image reads flaw.1

pub flaw_is_one : HeadsAreOne → FlawIsOne
flaw_is_one heads Unformatted Unformatted image one other = refl
flaw_is_one heads Unformatted Layout image one other = absurd (one other.0)
flaw_is_one heads Unformatted Checkpoint image one other = absurd (one other.0)
flaw_is_one heads Unformatted Frame image one other = absurd (one other.1.reaches.formatted)
flaw_is_one heads Layout Unformatted image one other = absurd (other one.0)
flaw_is_one heads Layout Layout image one other = refl
flaw_is_one heads Layout Checkpoint image one other = absurd (one.1 other.1 other.2)
flaw_is_one heads Layout Frame image one other = absurd (one.1 other.0.head other.1.reaches.laid)
flaw_is_one heads Checkpoint Unformatted image one other = absurd (other one.0)
flaw_is_one heads Checkpoint Layout image one other = absurd (other.1 one.1 one.2)
flaw_is_one heads Checkpoint Checkpoint image one other = refl
flaw_is_one heads Checkpoint Frame image one other = absurd (has_state heads other.0 image other.1.reaches one.1 one.2 one.3)
flaw_is_one heads Frame other image why others = sym (reached heads why.0 image why.1.reaches other others)
