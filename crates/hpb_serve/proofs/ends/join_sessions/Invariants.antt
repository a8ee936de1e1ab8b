use Rattle.std.proofs.Common.{◌≡◌, ◌++◌, All, List, map}
use Rattle.std.specs.Vec.Iter.{into_iter_items}
use Rattle.hpb_house.specs.Boards.{SameBoard}
use Rattle.hpb_house.specs.Clients.{AreReportsOf}
use Rattle.hpb_rings.specs.declared.report.Report.{Report}
use Rattle.hpb_serve.proofs.ends.join_sessions.Given as goal

abbrev pub invariant-loop-thread : goal.invariant-loop-thread
invariant-loop-thread g l =
    All (λ thread. SameBoard l.fn.house thread.promise.client.value.viewer) (into_iter_items l.thread-iterator)
    × ((more : List Report) → AreReportsOf (map (λ thread. thread.promise.client.value) (into_iter_items l.thread-iterator)) more → AreReportsOf (map (λ thread. thread.promise.client.value) l.fn.threads.items) (l.reports.items ++ more))
    × (map (λ report. report.seat) l.reports.items ++ map (λ thread. thread.promise.client.value.seat) (into_iter_items l.thread-iterator) ≡ map (λ thread. thread.promise.client.value.seat) l.fn.threads.items)
