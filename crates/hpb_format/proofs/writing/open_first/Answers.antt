use Rattle.std.proofs.Common.{[], ◌∷◌, sym, ◌∙◌, subst}
use Rattle.std.proofs.lemmas.Result.{on_ok_weaker}
use Rattle.hpb_disk.specs.Asked.Asked.{syncs}
use Rattle.hpb_slots.specs.declared.slot.Slot.TheVariants.{First}
use Rattle.hpb_format.specs.Stages.{IsMade}
use Rattle.hpb_format.proofs.Calls.{call_made, sync_writes, writes_break, writes_join}
use Rattle.hpb_format.proofs.Made.{first_opened, slot_stays}
use Rattle.hpb_format.proofs.writing.open_first.Goals as goal

pub returns-clause-made : goal.returns-clause-made
returns-clause-made g c head state was =
    let d = g.D.Disk in let layout = g.F.Frames.layout c.args.frames.now in let slot = c.in_ok-open_slot.ensures in
    let made = first_opened layout c.laws.ensures head state (d.device c.args.disk.now).seen (d.device c.open_slot.new.disk).seen was slot.rest slot.open in
    on_ok_weaker c.sync.result (λ durable. subst (IsMade layout head state) (sym c.sync.ensures.seen) made) c.sync.ensures.durable

pub returns-clause-settled : goal.returns-clause-settled
returns-clause-settled g c = on_ok_weaker c.sync.result (λ durable image left. durable image left ∙ sym c.sync.ensures.seen) c.sync.ensures.durable

pub returns-in_err-open_slot-clause-calls : goal.returns-in_err-open_slot-clause-calls
returns-in_err-open_slot-clause-calls g c =
    let slot = c.in_err-open_slot.ensures in writes_break _ c.from_residual.result (syncs ∷ []) c.from_residual.ensures.1 (call_made slot.size slot.call, slot_stays First slot.crash)

pub returns-clause-calls : goal.returns-clause-calls
returns-clause-calls g c =
    let slot = c.in_ok-open_slot.ensures in let sync = c.sync.ensures in
    writes_join c.sync.result (call_made slot.size slot.call, slot_stays First slot.crash) (sync_writes sync.seen sync.crash sync.call)
