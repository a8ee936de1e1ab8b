use Rattle.std.proofs.Common.{rules, ◌∙◌, refl}
use Rattle.hpb_house.proofs.Keeping.{IsDone, IsNotDone, done_kept, turned_kept}
use Rattle.hpb_house.proofs.Told.{told_by, turn_says}
use Rattle.hpb_house.proofs.keeper.Keeper.commit.Goals as goal

-- the last step publishes the prepared batch
pub invariant_of-self : goal.invariant_of-self
invariant_of-self g c =
    let step = c.commit_step-step.ensures in
    let publish = c.publish.ensures in
    let done : IsDone c.commit_step-step.result = search rules in
    let told = told_by c.commit_step-step.result c.self.invariant.0.told step.device (turn_says _ c.commit_step-step.result _ _ step.leads) in (
      done_kept g.D.Disk.device c.judged_is_shown.ensures c.judged_join.ensures c.commit_step-step.result done c.self.invariant.0 (refl, told)
          publish.same.1 publish.published publish.none step.leads step.effect.keeps,
      publish.same.2 ∙ c.self.invariant.1,
    )

-- any other publishes nothing
pub invariant_of-self-else-matches : goal.invariant_of-self-else-matches
invariant_of-self-else-matches g c =
    let step = c.commit_step-step.ensures in
    let other : IsNotDone c.commit_step-step.result = search rules in
    let told = told_by c.commit_step-step.result c.self.invariant.0.told step.device (turn_says _ c.commit_step-step.result _ _ step.leads) in
    (turned_kept g.D.Disk.device c.commit_step-step.result other c.self.invariant.0 (refl, told) refl step.leads step.effect.keeps, c.self.invariant.1)
