use Rattle.std.proofs.Common.{◌≡◌, ℕ, length, sym, ◌∙◌, ap, subst, arith}
use Rattle.std.proofs.lemmas.Result.{on_ok_weaker}
use Rattle.hpb_disk.specs.Images.{part, Torn}
use Rattle.hpb_recover.specs.declared.limits.TheConstants.{HEAD_AT}
use Rattle.hpb_format.proofs.Calls.{call_made}
use Rattle.hpb_format.proofs.Made.{write_stays}
use Rattle.hpb_format.proofs.writing.write_head.Goals as goal

pub returns-clause-written : goal.returns-clause-written
returns-clause-written g c =
    let d = g.D.Disk in
    on_ok_weaker c.write_at.result
    (λ is. subst (λ (count : ℕ). part HEAD_AT count (d.device c.write_at.new.self).seen ≡ c.args.head.now) c.requires.head
    (ap (part HEAD_AT (length c.args.head.now)) is ∙ c.put_is_read.ensures HEAD_AT c.args.head.now (d.device c.args.disk.now).seen (omega (arith, c.requires.room, c.requires.head)))) c.write_at.ensures.written

pub returns-clause-rest : goal.returns-clause-rest
returns-clause-rest g c =
    let old = (g.D.Disk.device c.args.disk.now).seen in let torn = c.put_is_torn.ensures HEAD_AT c.args.head.now old (omega (arith, c.requires.room, c.requires.head)) in
    on_ok_weaker c.write_at.result
    (λ is. subst (λ (count : ℕ). Torn HEAD_AT count old (g.D.Disk.device c.write_at.new.self).seen) c.requires.head
    (subst (Torn HEAD_AT (length c.args.head.now) old) (sym is) torn)) c.write_at.ensures.written

pub returns-clause-calls : goal.returns-clause-calls
returns-clause-calls g c =
    let write = c.write_at.ensures in (call_made write.size write.call, write_stays c.elsewhere_stays.ensures HEAD_AT (length c.args.head.now) (omega arith) write.crash)
