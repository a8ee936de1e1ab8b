use Rattle.std.proofs.Common.{rules, inl, inr, refl, subst}
use Rattle.std.proofs.KnownBytes.{Keeps-refl}
use Rattle.std.proofs.lemmas.Result.{err_from_is_err_and}
use Rattle.hpb_serve.specs.Ended.{EndsAll}
use Rattle.hpb_program.specs.ConsoleValue.{ConsoleValue}
use Rattle.hpb_program.specs.Serving.{IsUnserved}
use Rattle.hpb_program.proofs.Doubting.{told_not, told_serving}
use Rattle.hpb_program.proofs.Served.{ends_for, unopened, unserved}
use Rattle.hpb_program.proofs.serving.serve_device.Goals as goal

pub returns-in_err-room-clause-serves : goal.returns-in_err-room-clause-serves
returns-in_err-room-clause-serves g c = let p = err_from_is_err_and c.from_residual-in_err-room.result c.from_residual-in_err-room.ensures.1 in rw (p.1, p.2, ← c.console.view_is) (inl (Keeps-refl _))

pub returns-in-Err-clause-serves : goal.returns-in-Err-clause-serves
returns-in-Err-clause-serves g c = rw (← c.console.view_is) ((c.in_ok-opened.ensures.read.0, c.in_ok-opened.ensures.read.1), Keeps-refl _, refl)

pub returns-in-Err-serve_opened-clause-serves : goal.returns-in-Err-serve_opened-clause-serves
returns-in-Err-serve_opened-clause-serves g c =
    let image = (g.D.Disk.device c.args.disk).seen in
    let port = c.args.watched.seats.port in
    let out = g.W.Write.contents c.serve_opened.new.output.stream in
    subst (λ (console : ConsoleValue). IsUnserved image port console.streams.contents out c.fault_of_serving.result) c.console.view_is
    (unserved g.row.D.Denot image port (g.W.Write.contents c.console.inside.output.stream) out c.in-Err-serve_opened.fault c.fault_of_serving.result (c.in_ok-opened.ensures.read.0, c.in_ok-opened.ensures.read.1) c.fault_of_serving.ensures c.in-Err-serve_opened.ensures.written)

pub returns-clause-serves : goal.returns-clause-serves
returns-clause-serves g c =
    let read = c.in_ok-opened.ensures.read in
    let ended = ends_for c.in_ok-opened.ensures.same c.in_ok-opened.ensures.works c.in-Ok-serve_opened.ensures.ended in rw (← c.console.view_is) (
      record {
        found = read.0;
        reads = read.1;
        ended = subst (λ value. EndsAll g.D.Disk.device (g.D.Disk.device c.args.disk) value c.args.watched.seats.sessions c.in-Ok-serve_opened.served) read.2.auction ended;
        listens = search rules;
      },
      search rules,
    )

pub returns-in_err-room-clause-told : goal.returns-in_err-room-clause-told
returns-in_err-room-clause-told g c = let p = err_from_is_err_and c.from_residual-in_err-room.result c.from_residual-in_err-room.ensures.1 in rw (p.1, p.2, ← c.console.view_is) (inr (c.in_ok-opened.opened.plan, c.in_ok-opened.ensures.plan, c.in_ok-opened.ensures.told))

pub returns-in-Err-clause-told : goal.returns-in-Err-clause-told
returns-in-Err-clause-told g c = rw (← c.console.view_is) (c.in_ok-opened.opened.plan, c.in_ok-opened.ensures.plan, c.in_ok-opened.ensures.told)

pub returns-in-Err-serve_opened-clause-told : goal.returns-in-Err-serve_opened-clause-told
returns-in-Err-serve_opened-clause-told g c =
    rw (← c.console.view_is) (told_serving g.row.D.Denot (g.D.Disk.device c.args.disk).seen _ _ c.in-Err-serve_opened.fault c.fault_of_serving.result c.fault_of_serving.ensures (c.in_ok-opened.opened.plan, c.in_ok-opened.ensures.plan, c.in_ok-opened.ensures.told))

pub returns-clause-told : goal.returns-clause-told
returns-clause-told g c = rw (← c.console.view_is) (c.in_ok-opened.opened.plan, c.in_ok-opened.ensures.plan, c.in_ok-opened.ensures.told)

pub returns-in_err-opened-clause-serves : goal.returns-in_err-opened-clause-serves
returns-in_err-opened-clause-serves g c =
    let p = err_from_is_err_and c.from_residual.result c.from_residual.ensures.1 in
    let image = (g.D.Disk.device c.args.disk).seen in
    let port = c.args.watched.seats.port in
    let out = g.W.Write.contents c.console.inside.output.stream in
    rw (p.1, p.2) (subst (λ (console : ConsoleValue). IsUnserved image port console.streams.contents out c.in_err-opened.field-0.0) c.console.view_is
    (unopened image port out _ c.in_err-opened.ensures.fault))

pub returns-in_err-opened-clause-told : goal.returns-in_err-opened-clause-told
returns-in_err-opened-clause-told g c = let p = err_from_is_err_and c.from_residual.result c.from_residual.ensures.1 in rw (p.1, p.2, ← c.console.view_is) (told_not _ _ _ _ c.in_err-opened.ensures.fault c.in_err-opened.ensures.untold)
