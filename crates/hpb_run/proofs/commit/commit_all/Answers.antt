use Rattle.std.proofs.Common.{inl, inr, refl, sym, ap}
use Rattle.hpb_rules.specs.AuctionValue.{AuctionValue}
use Rattle.hpb_rules.specs.Machine.{at_rest}
use Rattle.hpb_run.specs.Batches.{moment_of}
use Rattle.hpb_rules.specs.Letters.{judged}
use Rattle.hpb_disk.proofs.Runs.{leaves_join}
use Rattle.hpb_run.proofs.Commits.{failed_is}
use Rattle.hpb_run.proofs.Leaving.{none_left, rested}
use Rattle.hpb_run.proofs.commit.commit_all.Goals as goal

pub returns-in-None-checkpoint-clause-commits : goal.returns-in-None-checkpoint-clause-commits
returns-in-None-checkpoint-clause-commits g c history keeps =
    let rested = c.checkpoint.new.engine in
    let full = rw c.in-Some-Full.field-0-is at c.in-Some-Full.ensures.barred in
    let made = c.in-None-checkpoint.ensures.makes in
    let committed = c.commit_clear-in-None-checkpoint in (
      rw (sym (ap (λ (value : AuctionValue). value.rules) made.committed)) (committed.ensures.commits history (c.checkpoint.ensures.keeps (at_rest history) keeps)),
      record {
        found_room = λ room. absurd (room full);
        full = λ between there. inl (rested.progress, moment_of rested, made.whole between full.0 refl, committed.ensures.takes);
        earlier = λ is. absurd (committed.ensures.now (failed_is committed.result is));
      },
    )

pub returns-in-Some-clause-commits : goal.returns-in-Some-clause-commits
returns-in-Some-clause-commits g c history keeps =
    let full = rw c.in-Some-Full.field-0-is at c.in-Some-Full.ensures.barred in
    let made = c.in-Some.ensures.makes in (
      (at_rest history, c.checkpoint.ensures.keeps (at_rest history) keeps, (made.fails c.in-Some.field-0 refl, refl), ap (λ (value : AuctionValue). value.rules) made.committed),
      record {
        found_room = λ room. absurd (room full);
        full = λ between there. let calls = made.calls between full.0 in inr (refl, calls.0, calls.1, calls.2);
        earlier = λ is. inr c.in-Some.ensures.cause.1;
      },
    )

pub returns-in-None-checkpoint-clause-since : goal.returns-in-None-checkpoint-clause-since
returns-in-None-checkpoint-clause-since g c history keeps =
    let given = judged c.args.engine.now.progress.committed.rules history c.args.letters.now in
    leaves_join (rested history given (c.checkpoint.ensures.since (at_rest history) keeps))
    (rw (sym (ap (λ (value : AuctionValue). value.rules) c.in-None-checkpoint.ensures.makes.committed))
    (c.commit_clear-in-None-checkpoint.ensures.since history (c.checkpoint.ensures.keeps (at_rest history) keeps)))

pub returns-in-Some-clause-since : goal.returns-in-Some-clause-since
returns-in-Some-clause-since g c history keeps =
    rested history (judged c.args.engine.now.progress.committed.rules history c.args.letters.now) (c.checkpoint.ensures.since (at_rest history) keeps)

pub returns-in-Some-Failed-clause-since : goal.returns-in-Some-Failed-clause-since
returns-in-Some-Failed-clause-since g c history keeps = none_left history (judged c.args.engine.now.progress.committed.rules history c.args.letters.now) _ keeps.images
