use Rattle.std.proofs.Common.{List, [], ◌∷◌, ℕ, subst}
use Rattle.std.proofs.lemmas.Result.{on_ok_weaker}
use Rattle.hpb_disk.specs.Asked.Asked.{syncs}
use Rattle.hpb_format.specs.Asking.{Writes, writing}
use Rattle.hpb_format.specs.Stages.{IsMade}
use Rattle.hpb_slots.specs.Writes.{opens_slot}
use Rattle.hpb_slots.specs.declared.slot.Slot.TheVariants.{First}
use Rattle.hpb_format.proofs.Calls.{writes_break, writes_join}
use Rattle.hpb_format.proofs.writing.write_behind.Goals as goal

pub returns-clause-made : goal.returns-clause-made
returns-clause-made g c =
    let layout = g.F.Frames.layout c.args.frames.now in let seen = (g.D.Disk.device c.open_first.new.disk).seen in
    on_ok_weaker c.open_first.result
    (λ made. subst (λ (head : List ℕ). IsMade layout head c.args.new.now.state.items seen) c.deref.ensures.value (subst (λ (state : List ℕ). IsMade layout c.deref.result.now state seen) c.deref-2.ensures.value made))
    (c.open_first.ensures.made c.deref.result.now c.deref-2.result.now c.in_ok-write_all.ensures.written)

pub returns-in_err-write_all-clause-calls : goal.returns-in_err-write_all-clause-calls
returns-in_err-write_all-clause-calls g c =
    let old = g.D.Disk.device c.args.disk.now in let new = g.D.Disk.device c.write_all.new.disk in
    subst (λ (head : List ℕ). Writes c.from_residual.result (writing head c.args.new.now.state.items) old new) c.deref.ensures.value
    (subst (λ (state : List ℕ). Writes c.from_residual.result (writing c.deref.result.now state) old new) c.deref-2.ensures.value
    (writes_break _ c.from_residual.result (syncs ∷ opens_slot First ∷ []) c.from_residual.ensures.1 c.in_err-write_all.ensures.calls))

pub returns-clause-calls : goal.returns-clause-calls
returns-clause-calls g c =
    let old = g.D.Disk.device c.args.disk.now in let new = g.D.Disk.device c.open_first.new.disk in
    subst (λ (head : List ℕ). Writes c.open_first.result (writing head c.args.new.now.state.items) old new) c.deref.ensures.value
    (subst (λ (state : List ℕ). Writes c.open_first.result (writing c.deref.result.now state) old new) c.deref-2.ensures.value
    (writes_join c.open_first.result c.in_ok-write_all.ensures.calls c.open_first.ensures.calls))
