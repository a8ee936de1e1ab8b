use Rattle.std.proofs.Common.{inl, refl, sym, ◌∙◌, ap, subst}
use Rattle.hpb_engine.specs.Offers.{Weighs, begun_of, offer_by}
use Rattle.hpb_engine.specs.Steps.{step_of, turn_by}
use Rattle.hpb_disk.proofs.Runs.{leaves_within}
use Rattle.hpb_engine.proofs.Running.{failed_is, failed_step, fault_step, has_failed, told_of, weight_begun}
use Rattle.hpb_engine.proofs.driving.take_event.Goals as goal

pub returns-in-Offer-clause-took : goal.returns-in-Offer-clause-took
returns-in-Offer-clause-took g c machine keeps =
    let old = c.args.engine.now in
    let told = c.offer.ensures in
    let letters = c.in-Offer.letters in
    let kept = told.effect.keeps machine keeps in
    rw c.in-Offer.is (record {
      after = (offer_by (begun_of c.offer.result letters c.offer.new.leaving) old.progress.committed.rules machine letters).machine;
      keeps = kept;
      follows = (
        begun_of c.offer.result letters c.offer.new.leaving,
        record {
          weight = subst (Weighs old.failed old.progress letters) (sym (weight_begun c.offer.result letters c.offer.new.leaving)) told.weight;
          stays = told.stays;
          machine = refl;
          answers = told.effect.answers machine keeps;
          told = told_of c.offer.new.self.safe kept;
          moment = ap (λ disk. (g.D.Disk.device disk).moment) told.disk;
          failed = told.failed;
        },
        refl,
      );
      since = told.effect.since machine keeps;
    })

pub returns-in-Commit-clause-took : goal.returns-in-Commit-clause-took
returns-in-Commit-clause-took g c machine keeps =
    let old = c.args.engine.now in
    let told = c.make_turn.ensures in
    let step = step_of c.make_turn.result c.make_turn.new.leaving in
    let kept = told.effect.keeps machine keeps in
    let since = told.effect.since machine keeps in
    rw c.in-Commit.is (record {
      after = (turn_by step machine).machine;
      keeps = kept;
      follows = (
        step,
        record {
          leads = told.leads;
          machine = refl;
          answers = told.effect.answers machine keeps;
          rules = told.rules;
          told = told_of c.make_turn.new.self.safe kept;
          failed = failed_is c.make_turn.result told.device ∙ failed_step c.make_turn.result c.make_turn.new.leaving;
          later = since.later;
          call = told.device.calls;
        },
        c.failure_in.ensures ∙ fault_step c.make_turn.result c.make_turn.new.leaving,
      );
      since = since;
    })

pub returns-in-Commit-clause-cause : goal.returns-in-Commit-clause-cause
returns-in-Commit-clause-cause g c = rw c.failure_in.ensures (has_failed c.make_turn.result c.make_turn.ensures.device)

pub returns-in-Checkpoint-clause-took : goal.returns-in-Checkpoint-clause-took
returns-in-Checkpoint-clause-took g c machine keeps =
    let old = c.args.engine.now in
    let told = c.checkpoint_step.ensures in
    let kept = told.keeps machine keeps in
    let since = told.since machine keeps in
    rw c.in-Checkpoint.is (record {
      after = machine;
      keeps = kept;
      follows = (
        c.checkpoint_step.result,
        record {
          leads = told.leads;
          same = told.same;
          machine = refl;
          answers = c.requires.none;
          clean = told.clean;
          told = told_of c.checkpoint_step.new.self.safe kept;
          failed = failed_is c.checkpoint_step.result told.device;
          later = since.later;
          call = told.device.calls;
        },
        c.failure_in-in-Checkpoint.ensures,
      );
      since = leaves_within (λ image stands. inl stands) since;
    })

pub returns-in-Checkpoint-clause-cause : goal.returns-in-Checkpoint-clause-cause
returns-in-Checkpoint-clause-cause g c = rw c.failure_in-in-Checkpoint.ensures (has_failed c.checkpoint_step.result c.checkpoint_step.ensures.device)
