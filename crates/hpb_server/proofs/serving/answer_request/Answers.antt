use Rattle.std.proofs.Common.{refl}
use Rattle.hpb_rules.specs.Rendering.{refusal_text}
use Rattle.hpb_rules.specs.declared.refusal.Refusal.TheVariants as refusals
use Rattle.hpb_server.specs.Desk.{seen}
use Rattle.hpb_server.proofs.Questions.{question_answered, question_known}
use Rattle.hpb_server.proofs.serving.answer_request.Goals as goal

pub view_of-requires-clause-known : goal.view_of-requires-clause-known
view_of-requires-clause-known g c = question_known (g.D.Desk.rules c.args.desk.now) c.in-Some.auction.now.rules c.args.request c.requires.question c.in-Some.ensures.shown c.requires.known

pub returns-in-Some-clause-answer : goal.returns-in-Some-clause-answer
returns-in-Some-clause-answer g c = λ state at.
    let looked = c.look.follows.holds-at-none.0 state at in
    (looked.0, (_, question_answered g.D.Desk.ways c.args.request c.requires.question (seen c.look.result, looked.1, rw c.in-Some.is c.view_of.ensures), c.add.ensures), looked.2)

pub returns-in-None-clause-answer : goal.returns-in-None-clause-answer
returns-in-None-clause-answer g c = λ state at.
    let looked = c.look.follows.holds-at-none.0 state at in
    (looked.0, (refusal_text refusals.Failed, question_answered g.D.Desk.ways c.args.request c.requires.question (seen c.look.result, looked.1, rw c.in-None.is refl), c.refuse.ensures), looked.2)
