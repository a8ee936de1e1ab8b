use Rattle.hpb_serve.specs.Announcing.{listening_line}
use Rattle.hpb_serve.specs.declared.serving.Served.{Served}
use Rattle.hpb_serve.proofs.Ills.{of_writing, written_as, written_by}
use Rattle.hpb_serve.proofs.serving.serve_opened.Goals as goal

pub returns-in-Err-announce-clause-written : goal.returns-in-Err-announce-clause-written
returns-in-Err-announce-clause-written g c =
    written_as (Served g.row.D.Denot) (listening_line c.args.port.number) (g.W.Write.contents c.args.output.now) (g.W.Write.contents c.announce.new.output) c.in-Err-announce.fault c.in-Err-announce.ensures.written

pub returns-in-Err-announce-clause-ill : goal.returns-in-Err-announce-clause-ill
returns-in-Err-announce-clause-ill g c = of_writing _ _ _ _ c.in-Err-announce.fault c.in-Err-announce.ensures.fault

pub returns-clause-written : goal.returns-clause-written
returns-clause-written g c =
    written_by (Served g.row.D.Denot) (listening_line c.args.port.number) (g.W.Write.contents c.args.output.now) (g.W.Write.contents c.announce.new.output) c.serve_started.result c.serve_started.ensures.behind c.in_default.ensures.written
