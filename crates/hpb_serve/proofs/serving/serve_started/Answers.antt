use Rattle.std.proofs.Common.{◌≡◌, ◌∙◌, ℕ, All, List, [], arith, length, map, sym, ap, subst}
use Rattle.std.specs.List.{range_with_len}
use Rattle.std.specs.Vec.{with_items}
use Rattle.std.proofs.lemmas.List.{with_items_is}
use Rattle.std.proofs.lemmas.List.{length-map}
use Rattle.hpb_board.specs.Publication.{Viewing}
use Rattle.hpb_rings.specs.declared.report.Report.{Report}
use Rattle.hpb_house.specs.Boards.{SameBoard}
use Rattle.hpb_serve.specs.Ended.{IsLeft}
use Rattle.hpb_house.specs.Clients.{AreReportsOf}
use Rattle.hpb_house.specs.declared.keeper.Halt.{Halt}
use Rattle.hpb_house.proofs.Whose.{seated}
use Rattle.hpb_rings.specs.declared.client.Client.{Client}
use Rattle.hpb_serve.proofs.Reports.{same_seats}
use Rattle.hpb_serve.proofs.serving.serve_started.Given.{Over}
use Rattle.hpb_serve.proofs.serving.serve_started.Goals.{After-close}
use Rattle.hpb_serve.proofs.serving.serve_started.Goals as goal

-- each client begins on the house's board
pub run_threads-requires-clause-ready : goal.run_threads-requires-clause-ready
run_threads-requires-clause-ready g c = λ lives outlive.
    let base : All (λ client. SameBoard c.args.started.eye client.viewer × (client.waiting.items ≡ [])) c.args.started.clients.items =
    λ k d within. (let begun = c.requires.begun.begun k d within in ((begun.viewer.0, begun.viewer.1), begun.waiting)) in
    rw (c.named-house.ensures.house, c.named-house.ensures.clients) base

-- the reports are those of the clients that were started
pub close-requires : goal.close-requires
close-requires g c =
    let own = subst (λ (clients : List (Client Halt)). AreReportsOf clients c.in-Ok.reports.items) (ap (λ clients. clients.items) c.named-house.ensures.clients ∙ c.requires.clients) c.in-Ok.ensures.reports in
    record { clients = subst (AreReportsOf g.J.Naming.clients) (sym c.deref_mut.ensures.value) own }

-- a client that was left is that of one of the seats
pub returns-in-Err-Order-clause-ill : goal.returns-in-Err-Order-clause-ill
returns-in-Err-Order-clause-ill g c =
    let client = c.in-Err-Order.client in
    let numbered = ap (λ clients. map (λ client. client.seat) clients.items) c.named-house.ensures.clients ∙ c.requires.begun.numbered in
    let left = rw c.in-Err-Order.field-0-is at c.in-Err-Order.ensures.left in
    subst (λ (v : Viewing). IsLeft v.opened (range_with_len 0 c.args.started.eye.seats) client) c.named-house.ensures.house
    (subst (λ (seats : List ℕ). IsLeft c.named-house.result.house.opened seats client) numbered left)

-- the reports after the close, which borrows them, are of the same seats
closed_reports : (g : Over) (c : After-close g) → ((with_items c.in-Ok.reports c.close.new.reports).items ≡ c.close.new.reports)
    × (map (λ (report : Report). report.seat) (with_items c.in-Ok.reports c.close.new.reports).items ≡ range_with_len 0 c.args.started.eye.seats)
closed_reports g c =
    let new = c.close.new.reports in
    let lent = c.deref_mut.result.now in
    let numbered = seated c.args.started.eye c.args.started.clients.items c.args.started.eye.seats c.requires.begun lent
    (subst (AreReportsOf c.args.started.clients.items) (sym c.deref_mut.ensures.value) (subst (λ (clients : List (Client Halt)). AreReportsOf clients c.in-Ok.reports.items) (ap (λ clients. clients.items) c.named-house.ensures.clients) c.in-Ok.ensures.reports)) in
    let seats = same_seats new lent c.close.ensures.viewed.said in
    let long : length new ≡ length lent = sym (length-map new (λ (report : Report). report.seat)) ∙ ap length seats ∙ length-map lent (λ (report : Report). report.seat) in
    let items : (with_items c.in-Ok.reports new).items ≡ new = with_items_is c.in-Ok.reports new (omega (arith, long, ap length c.deref_mut.ensures.value)) in
    (items, ap (map (λ (report : Report). report.seat)) items ∙ seats ∙ numbered)

-- the committed auction from which the reports differ
pub returns-clause-ill : goal.returns-clause-ill
returns-clause-ill g c =
    let is = closed_reports g (goal.at.returns-clause-ill g c).After-close in
    record {
      seats = is.1;
      unsettled = rw (is.0, sym (ap (λ (v : Viewing). v.opened) c.named-house.ensures.house)) c.in-Err.ensures.unsettled;
    }

pub returns-in-Ok-close-clause-ended : goal.returns-in-Ok-close-clause-ended
returns-in-Ok-close-clause-ended g c =
    let is = closed_reports g (goal.at.returns-in-Ok-close-clause-ended g c).After-close in
    record {
      seats = is.1;
      closed = rw (is.0, sym (ap (λ (v : Viewing). v.opened) c.named-house.ensures.house)) c.in-Ok-close.ensures.closed;
    }
