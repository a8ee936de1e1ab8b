-- An image has at most one complete reading.
use Rattle.std.proofs.Common.{◌≡◌, ℕ, ◌≤◌, List, [], ◌∷◌, ◌++◌, length, ◌∙◌, ap, arith, length-append}
use Rattle.std.proofs.lemmas.List.{append-nil}
use Rattle.hpb_rules.specs.declared.command.Command.{Command}
use Rattle.hpb_rules.specs.declared.saved.Saved.{Saved}
use Rattle.hpb_slots.specs.declared.slot.Slot.{Slot}
use Rattle.hpb_slots.specs.Laws.{NewestIsOne}
use Rattle.hpb_journal.specs.Journals.{ShapesAreJournal}
use Rattle.hpb_codec.specs.declared.head.Head.{Head}
use Rattle.hpb_codec.specs.Laws.{HeadsAreOne}
use Rattle.hpb_recover.specs.Readings.{Found}
use Rattle.hpb_recover.specs.Laws.{ReadingIsOne}
use Rattle.hpb_recover.proofs.Agreeing.{heads_agree, slot_agrees, covered_agrees, saved_agrees, is_front, no_longer}

nothing_more : (batches others rest : List (List Command)) → batches ≡ others ++ rest → length batches ≤ length others → batches ≡ others
nothing_more batches others [] is le = is ∙ append-nil others
nothing_more batches others (commands ∷ rest) is le = absurd (omega (arith, le, ap (λ (l : List (List Command)). length l) is, length-append others (commands ∷ rest)))

abbrev found_of : Head → Slot → ℕ → Saved → List (List Command) → Found
found_of head slot covered saved batches = record { head = head; slot = slot; covered = covered; saved = saved; batches = batches }

pub reading_is_one : HeadsAreOne → NewestIsOne → ShapesAreJournal → ReadingIsOne
reading_is_one heads newest shapes f g image one other =
    let a = one.reaches in
    let b = other.reaches in
    let front = is_front heads newest shapes f g image a b one.ends in
    let batches : f.batches ≡ g.batches = nothing_more f.batches g.batches front.0 front.1 (no_longer heads newest shapes g f image b a other.ends) in
    ap (λ (head : Head). found_of head f.slot f.covered f.saved f.batches) (heads_agree heads newest shapes f g image a b)
    ∙ ap (λ (slot : Slot). found_of g.head slot f.covered f.saved f.batches) (slot_agrees heads newest shapes f g image a b)
    ∙ ap (λ (k : ℕ). found_of g.head g.slot k f.saved f.batches) (covered_agrees heads newest shapes f g image a b)
    ∙ ap (λ (saved : Saved). found_of g.head g.slot g.covered saved f.batches) (saved_agrees heads newest shapes f g image a b)
    ∙ ap (found_of g.head g.slot g.covered g.saved) batches
