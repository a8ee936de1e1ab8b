use Rattle.std.proofs.Common.{append_assoc, subst, sym}
use Rattle.std.specs.Fmt.{HasWritten}
use Rattle.hpb_wire.specs.declared.reasons.Reason.{Reason}
use Rattle.hpb_wire.specs.Reasons.{text_of}
use Rattle.hpb_wire.proofs.reasons.ReasonDisplay.fmt.Goals as goal

pub returns-in-Units-clause-writes : goal.returns-in-Units-clause-writes
returns-in-Units-clause-writes g c plain ok =
    let u = c.in-Units in
    subst (λ (reason : Reason). HasWritten {W = g.row.W.Denot} g.W.Write.write_str_gives c.args.f.now (text_of reason) c.write-in-Units.new.self) (sym u.is) (simp append_assoc (c.write-in-Units.ensures.writes plain ok))
