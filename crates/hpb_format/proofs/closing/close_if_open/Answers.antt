use Rattle.std.proofs.Common.{refl, sym, subst}
use Rattle.hpb_disk.specs.Asked.Asked.{writes}
use Rattle.hpb_disk.specs.Gates.{HasOpenGate, closed_byte}
use Rattle.hpb_format.proofs.Calls.{closes_after, one_closes, read_closes, read_fails}
use Rattle.hpb_format.proofs.Closed.{gate_closes}
use Rattle.hpb_format.proofs.closing.close_if_open.Goals as goal

pub returns-in_err-gate_is_open-clause-closes : goal.returns-in_err-gate_is_open-clause-closes
returns-in_err-gate_is_open-clause-closes g c journal is =
    let read = c.in_err-gate_is_open.ensures in read_fails journal _ c.from_residual.result 1 c.from_residual.ensures.1 read.unchanged read.call

pub returns-then-not-branch-clause-closes : goal.returns-then-not-branch-clause-closes
returns-then-not-branch-clause-closes g c journal is = let read = c.in_ok-gate_is_open.ensures in read_closes journal tt 1 read.unchanged read.call

pub returns-clause-closes : goal.returns-clause-closes
returns-clause-closes g c journal is =
    let read = c.in_ok-gate_is_open.ensures in let close = c.close_gate.ensures in
    let open_still = subst (HasOpenGate c.args.at) (sym read.unchanged.seen) (read.open.0 c.if-not-branch.false) in
    closes_after journal c.close_gate.result 1 read.unchanged read.call
    (one_closes journal (writes c.args.at closed_byte) is close.size (close.call refl) (gate_closes c.elsewhere_stays.ensures c.args.at c.requires.apart open_still (close.crash refl)))
