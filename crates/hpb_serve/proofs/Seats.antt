-- The facts about a session that ended.
use Rattle.std.proofs.Common.{◌≡◌, ◌∙◌, ℕ, List, [], Contains, Option, refl, sym, subst}
use Rattle.std.proofs.lemmas.List.{append-nil}
use Rattle.hpb_board.specs.Publication.{Viewing}
use Rattle.hpb_house.specs.Boards.{SameBoard}
use Rattle.hpb_house.specs.Clients.{IsReportOf}
use Rattle.hpb_house.specs.declared.keeper.Halt.{Halt}
use Rattle.hpb_rings.specs.declared.client.Client.{Client}
use Rattle.hpb_rings.specs.declared.report.Report.{Report}
use Rattle.hpb_serve.specs.Ends.{EndsBy, IsEndOf}
use Rattle.hpb_serve.specs.Sessions.{Follows}
use Rattle.hpb_serve.specs.declared.stop.Stop.{Stop}
use Rattle.hpb_serve.specs.declared.end.SessionEnd.{SessionEnd}
use Rattle.hpb_serve.specs.declared.end.SessionEnd.TheVariants.{Finished, Left}
use Rattle.hpb_serve.specs.Ended.{EndsWith, IsLeft, IsOutOfOrder}

-- a session leaves its client only if it is out of order
pub left_by : (stop : Option Stop) (end : SessionEnd Halt) → EndsBy stop end → (client : Client Halt) → end ≡ Left client → IsOutOfOrder client
left_by stop end ends client is = (subst (λ (e : SessionEnd Halt). EndsBy stop e) is ends).1

-- a viewer that enters nothing more follows
pub stays : (viewer : Viewing) → Follows viewer viewer
stays viewer = (refl, refl, refl, ([], append-nil viewer.list))

-- its report is that of the client that it began with
pub finished : (began : Client Halt) (end : SessionEnd Halt) (report : Report) → EndsWith began end → end ≡ Finished report → IsReportOf began report
finished began end report ends is =
    let own = subst (λ (e : SessionEnd Halt). IsEndOf began e) is ends.own in ((own.1.0, own.1.1), own.0, own.2)

-- or its client is left, for a reason
pub left : (eye : Viewing) (began : Client Halt) (end : SessionEnd Halt) (client : Client Halt) (seats : List ℕ) → SameBoard eye began.viewer → Contains seats began.seat → EndsWith began end → end ≡ Left client
    → IsLeft eye.opened seats client
left eye began end client seats of_house among ends is =
    let own = subst (λ (e : SessionEnd Halt). IsEndOf began e) is ends.own in
    record { seat = subst (Contains seats) (sym own.0) among; opened = own.1.1 ∙ of_house.1; order = ends.left client is }
