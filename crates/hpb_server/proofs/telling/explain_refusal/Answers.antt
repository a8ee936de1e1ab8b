use Rattle.hpb_server.specs.Desk.{seen}
use Rattle.hpb_server.proofs.Explained.{explained_none, explained_one, look_keeps, look_shows, said_none}
use Rattle.hpb_server.proofs.telling.explain_refusal.Goals as goal

pub returns-in-Some-clause-told : goal.returns-in-Some-clause-told
returns-in-Some-clause-told g c = λ state at. (
  seen c.look.result,
  look_shows g.D.Desk.is_at g.D.Desk.ways c.requires.stays state (seen c.look.result) (c.look.follows.holds-at-none.0 state at),
  rw c.in-Some.is c.tell_refused.ensures,
)

pub returns-in-Some-clause-explained : goal.returns-in-Some-clause-explained
returns-in-Some-clause-explained g c = explained_one _ _ c.in-Some.auction.now c.args.command.now c.args.refusal c.tell_refused.ensures

pub returns-in-Some-clause-kept : goal.returns-in-Some-clause-kept
returns-in-Some-clause-kept g c = λ state at.
    look_keeps g.D.Desk.is_at g.D.Desk.ways c.requires.stays state (seen c.look.result) (c.look.follows.holds-at-none.0 state at)

pub returns-in-None-clause-told : goal.returns-in-None-clause-told
returns-in-None-clause-told g c = λ state at. (
  seen c.look.result,
  look_shows g.D.Desk.is_at g.D.Desk.ways c.requires.stays state (seen c.look.result) (c.look.follows.holds-at-none.0 state at),
  said_none _ _,
)

pub returns-in-None-clause-explained : goal.returns-in-None-clause-explained
returns-in-None-clause-explained g c = explained_none _

pub returns-in-None-clause-kept : goal.returns-in-None-clause-kept
returns-in-None-clause-kept g c = λ state at.
    look_keeps g.D.Desk.is_at g.D.Desk.ways c.requires.stays state (seen c.look.result) (c.look.follows.holds-at-none.0 state at)
