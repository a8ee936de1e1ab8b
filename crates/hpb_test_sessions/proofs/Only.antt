-- The only client of a house, and its report.
use Rattle.std.proofs.Common.{◌≡◌, ◌∙◌, ℕ, zero, List, [], ◌∷◌, All, length, arith, ap, sym, subst}
use Rattle.std.proofs.lemmas.List.{length-map}
use Rattle.std.proofs.lemmas.List.FromFn.{length-range_with_len}
use Rattle.hpb_board.specs.Publication.{Viewing}
use Rattle.hpb_house.specs.Clients.{AreReportsOf, IsReportOf}
use Rattle.hpb_house.specs.Starts.{AreBegun, IsBegun}
use Rattle.hpb_house.specs.declared.keeper.Halt.{Halt}
use Rattle.hpb_rings.specs.declared.client.Client.{Client}
use Rattle.hpb_rings.specs.declared.report.Report.{Report}
use Rattle.hpb_serve.specs.Ends.{IsEndOf}
use Rattle.hpb_serve.specs.declared.end.SessionEnd.{SessionEnd}
use Rattle.hpb_serve.specs.declared.end.SessionEnd.TheVariants.{Finished}

-- there are as many clients as seats
pub one_begun : (eye : Viewing) (clients : List (Client Halt)) (count : ℕ) → AreBegun eye clients count → length clients ≡ count
one_begun eye clients count begun = sym (length-map clients (λ (client : Client Halt). client.seat)) ∙ ap length begun.numbered ∙ length-range_with_len 0 count

pub idle_only : (eye : Viewing) (clients : List (Client Halt)) (count : ℕ) → AreBegun eye clients count → (client : Client Halt) → clients ≡ client ∷ [] → client.waiting.items ≡ []
idle_only eye clients count begun client only =
    let all : All (IsBegun eye) (client ∷ []) = subst (All (IsBegun eye)) only begun.begun in (all zero client (omega arith)).waiting

-- the report that a session ends with is its client's
pub of_end : (client : Client Halt) (end : SessionEnd Halt) (report : Report) → IsEndOf client end → end ≡ Finished report → IsReportOf client report
of_end client end report its is = let own = subst (λ (e : SessionEnd Halt). IsEndOf client e) is its in ((own.1.0, own.1.1), own.0, own.2)

pub own_only : (clients : List (Client Halt)) (client : Client Halt) (report : Report) → clients ≡ client ∷ [] → IsReportOf client report → AreReportsOf clients (report ∷ [])
own_only clients client report only its = subst (λ (cs : List (Client Halt)). AreReportsOf cs (report ∷ [])) (sym only) (its, tt)
