use Rattle.std.proofs.Common.{◌∙◌, refl, sym, subst}
use Rattle.hpb_board.specs.Publication.{Viewing}
use Rattle.hpb_serve.specs.Sessions.{Follows, at_start}
use Rattle.hpb_serve.specs.Ends.{EndsBy, posts_of}
use Rattle.hpb_serve.proofs.Lasting.{house_session, starts, tells_on}
use Rattle.hpb_serve.proofs.Steps.{from_ring, same_ring}
use Rattle.hpb_serve.proofs.session.run_session.Goals as goal

pub returns-clause-own : goal.returns-clause-own
returns-clause-own g c =
    let client = c.args.desk.client in
    let served = c.serve-fault.ensures.served (at_start client) (starts client client c.args.desk.stop refl c.requires) in
    let goes = house_session client _ _ served.0 c.serve-fault.result served.1 in (
      c.finish.ensures.seat ∙ sym served.2.0 ∙ goes.seat,
      subst (λ (viewer : Viewing). Follows client.viewer viewer) (served.2.1 ∙ sym c.finish.ensures.viewer) goes.viewer,
      same_ring client.letters served.0.letters (posts_of c.finish.result) goes.letters
          (from_ring served.0.letters c.serve-fault.new.desk.client.letters (posts_of c.finish.result) served.2.4 c.finish.ensures.ring),
    )

pub returns-clause-served : goal.returns-clause-served
returns-clause-served g c =
    let client = c.args.desk.client in
    let served = c.serve-fault.ensures.served (at_start client) (starts client client c.args.desk.stop refl c.requires) in (
      served.0,
      served.1,
      (served.2.0 ∙ sym c.finish.ensures.seat, served.2.1 ∙ sym c.finish.ensures.viewer, subst (λ stop. EndsBy stop c.finish.result) (sym served.2.3) c.finish.ensures.ended),
      tells_on client served.0 (house_session client _ _ served.0 c.serve-fault.result served.1),
    )
