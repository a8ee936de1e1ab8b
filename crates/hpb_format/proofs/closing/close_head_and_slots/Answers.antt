use Rattle.std.proofs.Common.{inl, inr, refl, arith}
use Rattle.std.proofs.lemmas.Result.{on_ok_weaker}
use Rattle.hpb_format.specs.declared.place.TheConstants.{HEAD_GATE, FIRST_GATE, SECOND_GATE}
use Rattle.hpb_format.proofs.Calls.{closes_break, closes_join}
use Rattle.hpb_format.proofs.Closed.{both_slots, closed_elsewhere}
use Rattle.hpb_slots.specs.declared.slot.Slot.TheVariants.{First, Second}
use Rattle.hpb_disk.proofs.Turns.{both_ok}
use Rattle.hpb_format.proofs.closing.close_head_and_slots.Goals as goal

pub returns-clause-head : goal.returns-clause-head
returns-clause-head g c =
    let d = g.D.Disk in let stays = c.elsewhere_stays.ensures in
    let second = (d.device c.close_if_open-2.new.disk).seen in
    let closed = closed_elsewhere stays HEAD_GATE FIRST_GATE 1 (d.device c.close_if_open.new.disk).seen second c.in_ok-close_if_open-2.ensures.rest (inl (omega arith)) c.in_ok-close_if_open.ensures.closed in
    on_ok_weaker c.close_if_open-3.result
    (λ rest. closed_elsewhere stays HEAD_GATE SECOND_GATE 1 second (d.device c.close_if_open-3.new.disk).seen rest (inl (omega arith)) closed) c.close_if_open-3.ensures.rest

pub returns-clause-slots : goal.returns-clause-slots
returns-clause-slots g c =
    let d = g.D.Disk in let third = c.close_if_open-3.ensures in
    on_ok_weaker c.close_if_open-3.result
    (λ both. both_slots c.elsewhere_stays.ensures (d.device c.close_if_open-2.new.disk).seen (d.device c.close_if_open-3.new.disk).seen c.in_ok-close_if_open-2.ensures.closed both.0 both.1) (both_ok _ _ c.close_if_open-3.result third.rest third.closed)

pub returns-in_err-close_if_open-clause-closes : goal.returns-in_err-close_if_open-clause-closes
returns-in_err-close_if_open-clause-closes g c journal =
    closes_break journal _ c.from_residual.result 1 3 (omega arith) c.from_residual.ensures.1 (c.in_err-close_if_open.ensures.closes journal (inl refl))

pub returns-in_err-close_if_open-2-clause-closes : goal.returns-in_err-close_if_open-2-clause-closes
returns-in_err-close_if_open-2-clause-closes g c journal =
    closes_break journal _ c.from_residual-in_err-close_if_open-2.result 2 3 (omega arith) c.from_residual-in_err-close_if_open-2.ensures.1
    (closes_join journal _ 1 1 2 (omega arith) (c.in_ok-close_if_open.ensures.closes journal (inl refl)) (c.in_err-close_if_open-2.ensures.closes journal (inr (inl (First, refl)))))

pub returns-clause-closes : goal.returns-clause-closes
returns-clause-closes g c journal =
    closes_join journal c.close_if_open-3.result 2 1 3 (omega arith)
    (closes_join journal _ 1 1 2 (omega arith) (c.in_ok-close_if_open.ensures.closes journal (inl refl)) (c.in_ok-close_if_open-2.ensures.closes journal (inr (inl (First, refl)))))
    (c.close_if_open-3.ensures.closes journal (inr (inl (Second, refl))))
