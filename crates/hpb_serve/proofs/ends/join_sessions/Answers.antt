use Rattle.std.proofs.Common.{◌≡◌, ◌∙◌, ◌++◌, List, sym}
use Rattle.hpb_house.specs.Boards.{SameBoard}
use Rattle.hpb_house.specs.Clients.{AreReportsOf, IsReportOf}
use Rattle.hpb_rings.specs.declared.report.Report.{Report}
use Rattle.hpb_serve.proofs.Seats.{finished, left}
use Rattle.hpb_serve.proofs.Turns.{all_joined, among, next_of, one_joined, one_more, rest_of}
use Rattle.hpb_serve.proofs.ends.join_sessions.Goals as goal

pub loop-thread-preserved : goal.loop-thread-preserved
loop-thread-preserved g c =
    let so_far = c.loop-thread.invariant in
    let thread = c.in-Some.thread in
    let report = c.in-Finished.report in
    let rest = rest_of (λ thread'. SameBoard c.args.house.now thread'.promise.client.value.viewer) c.loop-thread.thread-iterator c.next.new.self thread so_far.0 c.in-Some.ensures.steps in
    let its = finished thread.promise.client.value c.join.result report c.join.ensures c.in-Finished.is in
    let joined = one_joined IsReportOf (λ thread'. thread'.promise.client.value) _ c.loop-thread.reports.items report c.loop-thread.thread-iterator c.next.new.self thread so_far.1 c.in-Some.ensures.steps its in
    let seats = one_more (λ report'. report'.seat) (λ thread'. thread'.promise.client.value.seat) _ c.loop-thread.reports.items report c.loop-thread.thread-iterator c.next.new.self thread so_far.2 c.in-Some.ensures.steps its.1 in
    let items = c.in_ok-push-in-Finished.ensures.items in
    (rest, rw items joined, rw items seats)

pub returns-in-Left-clause-left : goal.returns-in-Left-clause-left
returns-in-Left-clause-left g c =
    let so_far = c.loop-thread.invariant in
    let thread = c.in-Some.thread in
    let of_house = next_of (λ thread'. SameBoard c.args.house.now thread'.promise.client.value.viewer) c.loop-thread.thread-iterator c.next.new.self thread so_far.0 c.in-Some.ensures.steps in
    let is_among = among (λ report'. report'.seat) (λ thread'. thread'.promise.client.value.seat) _ c.loop-thread.reports.items c.loop-thread.thread-iterator c.next.new.self thread so_far.2 c.in-Some.ensures.steps in
    left c.args.house.now thread.promise.client.value c.join.result c.in-Left.client _ of_house is_among c.join.ensures c.in-Left.is

pub returns-clause-reports : goal.returns-clause-reports
returns-clause-reports g c =
    all_joined IsReportOf (λ thread. thread.promise.client.value) _ c.loop-thread.reports.items _ c.loop-thread.invariant.1 (sym c.loop-thread.thread-iterator.rest.ok.0 ∙ c.in-None.ensures.steps.0)
