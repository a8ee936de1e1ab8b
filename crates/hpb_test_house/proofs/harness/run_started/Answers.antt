use Rattle.std.proofs.Common.{◌≡◌, ◌∙◌, List, ap, sym, subst}
use Rattle.hpb_house.specs.Clients.{AreReportsOf}
use Rattle.hpb_house.specs.declared.keeper.Halt.{Halt}
use Rattle.hpb_rings.specs.declared.client.Client.{Client}
use Rattle.hpb_test_house.proofs.harness.run_started.Goals as goal

-- the reports are those of the clients that were started
pub close-closed-requires : goal.close-closed-requires
close-closed-requires g c =
    let own = subst (λ (clients : List (Client Halt)). AreReportsOf clients c.in_ok-reports.reports.items) (ap (λ clients. clients.items) c.named-house.ensures.clients ∙ c.requires.clients) c.in_ok-reports.ensures in
    record { clients = subst (AreReportsOf g.J.Naming.clients) (sym c.deref_mut.ensures.value) own }
