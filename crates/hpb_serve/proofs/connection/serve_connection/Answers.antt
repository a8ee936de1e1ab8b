use Rattle.std.proofs.Common.{◌∙◌, sym, subst}
use Rattle.hpb_board.specs.Publication.{Viewing}
use Rattle.hpb_house.specs.declared.keeper.Halt.{Halt}
use Rattle.hpb_rings.specs.declared.client.Client.{Client}
use Rattle.hpb_serve.specs.Ends.{IsEndOf}
use Rattle.hpb_serve.specs.Sessions.{Follows}
use Rattle.hpb_serve.proofs.Seats.{left_by, stays}
use Rattle.hpb_serve.proofs.connection.serve_connection.Goals as goal

-- a client without a connection is finished
pub returns-in_default : goal.returns-in_default
returns-in_default g c =
    let viewer = c.args.idle.client.viewer in
    record {
      own = (c.finish_client.ensures.seat, subst (λ (v : Viewing). Follows viewer v) (sym c.finish_client.ensures.viewer) (stays viewer), c.finish_client.ensures.ring);
      left = λ client is. absurd (cc is);
    }

pub returns : goal.returns
returns g c =
    let end = c.run_session-session.result.end in
    let ended = c.run_session-session.ensures in
    record { own = subst (λ (client : Client Halt). IsEndOf client end) (c.looking-desk.ensures.client ∙ c.new.ensures.client) ended.own; left = left_by ended.served.0.stop end ended.served.2.2 }
