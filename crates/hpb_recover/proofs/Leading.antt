-- Batches one after another.
use Rattle.std.proofs.Common.{◌≡◌, ℕ, suc, ◌+◌, List, [], ◌∷◌, ◌++◌, length, refl, sym, ◌∙◌, ap, subst, arith, append_assoc, length-append}
use Rattle.std.proofs.lemmas.List.{append-nil}
use Rattle.hpb_rules.specs.declared.command.Command.{Command}
use Rattle.hpb_rules.specs.Tree.{Rules}
use Rattle.hpb_rules.specs.AuctionValue.{AuctionValue}
use Rattle.hpb_rules.specs.Values.{value_after}
use Rattle.hpb_rules.specs.AcceptedRuns.{AllAccepted}
use Rattle.hpb_rules.proofs.RunLaws.{accepted_join, accepted_are_counted}
use Rattle.hpb_codec.specs.declared.batch.Batch.{Batch}
use Rattle.hpb_journal.specs.Layouts.{Layout, IsLayout}
use Rattle.hpb_journal.specs.Laws.{KeptGoesOn}
use Rattle.hpb_journal.specs.Frames.{IsFrame, IsOwn, batch_at}
use Rattle.hpb_rules.specs.Fronts.{joined}
use Rattle.hpb_recover.specs.Replaying.{GoesOn, HasStopped, Leads}

joined_more : (batches : List (List Command)) (commands : List Command) → joined (batches ++ commands ∷ []) ≡ joined batches ++ commands
joined_more [] commands = append-nil commands
joined_more (first ∷ batches) commands = ap (λ (l : List Command). first ++ l) (joined_more batches commands) ∙ sym (append_assoc first (joined batches) commands)

-- The value that the batches lead to has the same definition, and counts their commands.
module _ (layout : Layout) (covered : ℕ) (value : AuctionValue) (image : List ℕ) (next : ℕ) (reached : AuctionValue) (leads : Leads layout covered value image next reached) where
  pub led_rules : reached.rules ≡ value.rules
  led_rules = ap (λ (v : AuctionValue). v.rules) leads.after ∙ (accepted_are_counted value (joined leads.batches) leads.accepted).1

  pub led_count : reached.count ≡ value.count + length (joined leads.batches)
  led_count = ap (λ (v : AuctionValue). v.count) leads.after ∙ (accepted_are_counted value (joined leads.batches) leads.accepted).0

module _ (layout : Layout) (covered : ℕ) (value : AuctionValue) (image : List ℕ) where
  module _ (b first : ℕ) (reached : AuctionValue) (commands : List Command) (frame : IsFrame layout reached.rules b first commands image) where
    pub leads_on : KeptGoesOn layout → (later : AuctionValue) → Leads layout covered value image b reached → GoesOn reached first commands → later ≡ value_after reached commands
        → Leads layout covered value image (b + 1) later
    leads_on goes later leads fits is =
        let number : first ≡ suc value.count + length (joined leads.batches) = omega (arith, fits.0, led_count layout covered value image b reached leads) in
        let here : IsFrame layout value.rules (covered + length leads.batches) (suc value.count + length (joined leads.batches)) commands image =
        subst (λ (rules : Rules). IsFrame layout rules (covered + length leads.batches) (suc value.count + length (joined leads.batches)) commands image) (led_rules layout covered value image b reached leads)
        (subst (λ (k : ℕ). IsFrame layout reached.rules (covered + length leads.batches) k commands image) number
        (subst (λ (k : ℕ). IsFrame layout reached.rules k first commands image) leads.count frame)) in
        let joins = joined_more leads.batches commands in
        let both = accepted_join value (joined leads.batches) commands in
        let all : AllAccepted value (joined leads.batches ++ commands) = both.0.1 (leads.accepted, subst (λ (v : AuctionValue). AllAccepted v commands) leads.after fits.1) in
        record {
          batches = leads.batches ++ commands ∷ [];
          count = omega (arith, leads.count, length-append leads.batches (commands ∷ []));
          kept = goes value.rules covered (suc value.count) leads.batches commands image leads.kept here;
          accepted = subst (AllAccepted value) (sym joins) all;
          after = is ∙ ap (λ (v : AuctionValue). value_after v commands) leads.after ∙ sym both.1 ∙ ap (value_after value) (sym joins);
        }

-- A frame that spells a batch is open with the batch's index.
pub own_of_frame : (layout : Layout) (is : IsLayout layout) (rules : Rules) (b first : ℕ) (commands : List Command) (image : List ℕ) → IsFrame layout rules b first commands image → IsOwn layout b image
own_of_frame layout is rules b first commands image frame = (frame.0, is.indexed rules (layout.body b image) (batch_at b first commands) frame.1)

-- A batch that doesn't continue stops the reading.
pub has_stopped : (layout : Layout) (is : IsLayout layout) (b first : ℕ) (reached : AuctionValue) (commands : List Command) (image : List ℕ)
    → IsFrame layout reached.rules b first commands image → (GoesOn reached first commands → ⊥) → HasStopped layout reached.rules b reached image
has_stopped layout is b first reached commands image frame unfit others there accepted =
    let same : batch_at b first commands ≡ batch_at b (suc reached.count) others = is.one reached.rules (layout.body b image) (batch_at b first commands) (batch_at b (suc reached.count) others) frame.1 there.1 in
    unfit (ap (λ (batch : Batch). batch.first) same, subst (AllAccepted reached) (sym (ap (λ (batch : Batch). batch.commands) same)) accepted)
