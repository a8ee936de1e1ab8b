use Rattle.std.proofs.Common.{take, ap}
use Rattle.std.specs.Prelude.{slice_range}
use Rattle.hpb_server.specs.Reading.{Pending}
use Rattle.hpb_server.proofs.Cut.{cut_part}
use Rattle.hpb_server.proofs.input.Input.take_definition_part.Goals as goal

pub returns-in_ok-keep-in-Some : goal.returns-in_ok-keep-in-Some
returns-in_ok-keep-in-Some c =
    let i = c.self.inside in
    let xs = c.deref.result.now in
    let found = c.in-Some.ensures in
    let n = c.in-Some.length in
    let unread = ap (λ (p : Pending). p.unread) c.self.view_is in
    record {
      bytes = take n (slice_range xs i.start i.end);
      no_end = found.2;
      parts = cut_part i.chunk.items xs _ i.start i.end n _ c.deref.ensures.value unread found.0 found.1;
      kept = c.in_ok-keep-in-Some.ensures;
      nothing_read = ap (λ (p : Pending). p.budget) c.self.view_is;
    }
