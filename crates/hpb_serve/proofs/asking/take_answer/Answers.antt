use Rattle.std.proofs.Common.{◌∙◌, subst, sym}
use Rattle.std.specs.Prelude.{MatchOption}
use Rattle.hpb_serve.specs.InFlight.{HasLooked, HasTaken, StillWaits}
use Rattle.hpb_serve.proofs.InFlight.{looked_aside, looked_turn}
use Rattle.hpb_serve.proofs.asking.take_answer.Given.{Over}
use Rattle.hpb_serve.proofs.asking.take_answer.Goals.{After-look_behind}
use Rattle.hpb_serve.proofs.asking.take_answer.Goals as goal

-- a turn asks whether the client is halted, yields or sleeps, and looks
turn_looked : (g : Over) (c : After-look_behind g) → HasLooked c.args.client.now c.look_behind.new.client
turn_looked g c =
    let was = c.loop.client in
    let asked = c.halted-was_halted.new.self in
    let rested = c.yield_or_sleep-left.new.client in
    let h = c.halted-was_halted.ensures in
    let r = c.yield_or_sleep-left.ensures.same in
    looked_turn c.args.client.now was asked rested c.look_behind.new.client c.loop.invariant.2
    (looked_aside was asked h.same.0 h.same.1 h.same.2 h.same.6 (λ halted. sym h.kept ∙ h.stays halted))
    (looked_aside asked rested r.0 r.1 r.2 r.5 (λ halted. r.6 ∙ halted)) c.look_behind.ensures.looked

pub loop-preserved : goal.loop-preserved
loop-preserved g c =
    let rested = c.yield_or_sleep-left.new.client in
    let new = c.look_behind.new.client in
    let h = c.halted-was_halted.ensures in
    let r = c.yield_or_sleep-left.ensures.same in
    let none = subst (λ found. MatchOption found (StillWaits rested new) (HasTaken rested new)) c.in_default-2.is c.in_ok-answer-2.ensures.taken in
    let before = c.loop.invariant.3 in
    (tt, tt, turn_looked g (goal.at.loop-preserved g c).After-look_behind, (none.0 ∙ r.4 ∙ h.same.4 ∙ before.0, none.1 ∙ r.3 ∙ h.same.3 ∙ before.1))

pub returns-in_err-answer-2-clause-looked : goal.returns-in_err-answer-2-clause-looked
returns-in_err-answer-2-clause-looked g c = turn_looked g (goal.at.returns-in_err-answer-2-clause-looked g c).After-look_behind

pub returns-in-Some-3-clause-looked : goal.returns-in-Some-3-clause-looked
returns-in-Some-3-clause-looked g c = turn_looked g (goal.at.returns-in-Some-3-clause-looked g c).After-look_behind
