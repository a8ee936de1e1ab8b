use Rattle.std.proofs.Common.{◌≡◌, ℕ, ◌≤◌, List, [], ◌∷◌, length, take, OnOk, subst, arith}
use Rattle.std.proofs.lemmas.Result.{on_ok_weaker}
use Rattle.hpb_codec.specs.Cells.{cells_of}
use Rattle.hpb_disk.specs.Asked.Asked.{writes}
use Rattle.hpb_disk.specs.Device.{LeavesOnly, MakesCall}
use Rattle.hpb_disk.specs.Images.{put, TornFrom}
use Rattle.hpb_journal.proofs.CellBodies.{cells_are, cells_few, cells_say}
use Rattle.hpb_journal.proofs.cells.write_cells.Given.{Over}
use Rattle.hpb_journal.proofs.cells.write_cells.Goals.{After-write_at}
use Rattle.hpb_journal.proofs.cells.write_cells.Goals as goal

-- The written bytes are the cells of the batch.
are : (g : Over) (c : After-write_at g) → take c.encode_cells-size.result c.encode_cells-size.new.out ≡ cells_of c.args.batch.now
are g c = cells_are c.args.batch.now c.encode_cells-size.result c.encode_cells-size.new.out c.encode_cells-size.ensures.size c.encode_cells-size.ensures.inside c.encode_cells-size.auto.out c.encode_cells-size.ensures.written

few : (g : Over) (c : After-write_at g) → length (cells_of c.args.batch.now) ≤ 1520
few g c = cells_few c.args.batch.now c.encode_cells-size.result c.encode_cells-size.new.out c.encode_cells-size.ensures.size c.encode_cells-size.ensures.inside c.encode_cells-size.auto.out c.encode_cells-size.ensures.written

written : (g : Over) (c : After-write_at g) → OnOk c.write_at.result ((g.D.Disk.device c.write_at.new.self).seen ≡ put c.args.at (cells_of c.args.batch.now) (g.D.Disk.device c.args.disk.now).seen)
written g c = subst (λ (bytes : List ℕ). OnOk c.write_at.result ((g.D.Disk.device c.write_at.new.self).seen ≡ put c.args.at bytes (g.D.Disk.device c.args.disk.now).seen)) (are g c) c.write_at.ensures.written

pub returns-clause-written : goal.returns-clause-written
returns-clause-written g c = written g c

pub returns-clause-says : goal.returns-clause-says
returns-clause-says g c rules may =
    let d = g.D.Disk in
    on_ok_weaker c.write_at.result
    (λ put_there. cells_say c.args.batch.now c.encode_cells-size.result c.encode_cells-size.new.out c.encode_cells-size.ensures.size c.encode_cells-size.ensures.inside c.encode_cells-size.auto.out c.encode_cells-size.ensures.written
    c.put_is_read.ensures c.args.at (d.device c.args.disk.now).seen (d.device c.write_at.new.self).seen (omega (arith, few g c, c.requires.room)) put_there rules (c.encode_cells-size.ensures.spelled rules may.some may.tickets may.known)) (written g c)

pub returns-clause-few : goal.returns-clause-few
returns-clause-few g c = few g c

pub returns-clause-crash : goal.returns-clause-crash
returns-clause-crash g c =
    let old = g.D.Disk.device c.args.disk.now in let new = g.D.Disk.device c.write_at.new.self in
    subst (λ (bytes : List ℕ). LeavesOnly old new (TornFrom c.args.at (length bytes) old.may_leave)) (are g c) c.write_at.ensures.crash

pub returns-clause-call : goal.returns-clause-call
returns-clause-call g c =
    let d = g.D.Disk in
    subst (λ (bytes : List ℕ). MakesCall c.write_at.result (writes c.args.at bytes ∷ []) (d.device c.args.disk.now) (d.device c.write_at.new.self)) (are g c) c.write_at.ensures.call
