use Rattle.hpb_rings.specs.Gathering.{gathered}
use Rattle.hpb_house.proofs.Owing.{took}
use Rattle.hpb_house.proofs.committing.turn.Goals as goal

pub returns-in-InFlight-clause-comes : goal.returns-in-InFlight-clause-comes
returns-in-InFlight-clause-comes g c =
    c.commit.ensures.comes c.offer.new.front.trail.log
    (took (gathered c.held_or_waiting-letters.new.intake.rings.items) c.args.work.now.front.trail.log c.offer.new.front.trail.log c.held_or_waiting-letters.result
    (c.held_or_waiting-letters.ensures.owed c.args.work.now.front.trail.log c.requires.owed) c.in-InFlight.ensures.goes)

pub returns-in-Answered-clause-comes : goal.returns-in-Answered-clause-comes
returns-in-Answered-clause-comes g c =
    c.expecting-after.ensures.comes c.offer.new.front.trail.log
    (took (gathered c.held_or_waiting-letters.new.intake.rings.items) c.args.work.now.front.trail.log c.offer.new.front.trail.log c.held_or_waiting-letters.result
    (c.held_or_waiting-letters.ensures.owed c.args.work.now.front.trail.log c.requires.owed) c.in-Answered.ensures.goes)
