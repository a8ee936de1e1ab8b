use denote.Param.Send.{sendable}
use Rattle.std.proofs.Common.{[], inr, rules, sym, subst}
use Rattle.hpb_disk.specs.declared.file.FileDisk.{FileDisk}
use Rattle.hpb_disk.specs.FileDisks.{file_device}
use Rattle.hpb_program.specs.Doubts.{TellsImage}
use Rattle.hpb_house.specs.declared.closing.Closing.{Closing}
use Rattle.hpb_program.specs.Serving.{Ends, with_told}
use Rattle.hpb_disk.proofs.Crossing.{File-send}
use Rattle.hpb_program.proofs.Doubting.{told_unheld, told_unopened_file}
use Rattle.hpb_program.proofs.serving.serve_file.Goals as goal

pub serve_device-requires-send-D : goal.serve_device-requires-send-D
serve_device-requires-send-D g c κs within = search (sendable, File-send) depth 20

pub returns-in-Ok-say_closed-clause-serves : goal.returns-in-Ok-say_closed-clause-serves
returns-in-Ok-say_closed-clause-serves g c =
    let served = c.in-Ok-serve_device.unsaid.served in
    let listening = c.serve_device.new.console.streams.contents in
    let EndsWith : FileDisk → Closing FileDisk → Type 0 = λ opened left. Ends file_device (file_device opened) c.args.seats c.args.console.now.streams.contents listening
    (record { closing = with_told left served.closing.auction served.closing.has_failed; reports = served.reports }) in
    let opened = c.of-opened.result.value in
    let ends = subst (λ (disk : FileDisk). EndsWith disk served.closing) (sym c.of-opened.ensures) c.in-Ok-serve_device.ensures.serves.0 in
    record { listening = listening; ends = subst (EndsWith opened) (sym c.of-left.ensures) ends; closes = search rules }

pub returns-in-Err-clause-told : goal.returns-in-Err-clause-told
returns-in-Err-clause-told g c = ([], told_unopened_file _ c.in-Err.fault c.from.result c.from.ensures)

pub returns-in-Err-new-clause-told : goal.returns-in-Err-new-clause-told
returns-in-Err-new-clause-told g c = ([], told_unopened_file _ c.in-Err-new.fault c.from-in-Err-new.result c.from-in-Err-new.ensures)

pub returns-in-Err-look_for_descriptors-clause-told : goal.returns-in-Err-look_for_descriptors-clause-told
returns-in-Err-look_for_descriptors-clause-told g c = ([], told_unheld _ c.in-Err-look_for_descriptors.fault c.in-Err-look_for_descriptors.ensures.fault)

pub returns-in-Err-serve_device-clause-told : goal.returns-in-Err-serve_device-clause-told
returns-in-Err-serve_device-clause-told g c = ((file_device c.in-Ok.disk).seen, c.in-Err-serve_device.ensures.told)

pub returns-in-Ok-say_closed-clause-told : goal.returns-in-Ok-say_closed-clause-told
returns-in-Ok-say_closed-clause-told g c =
    let told = rw (← c.console.view_is) at c.in-Ok-serve_device.ensures.told in
    subst (λ (disk : FileDisk). TellsImage (file_device disk).seen c.args.console.now.errors (g.E.Write.contents c.console.inside.errors)) (sym c.of-opened.ensures) told

pub returns-clause-told : goal.returns-clause-told
returns-clause-told g c = ((file_device c.in-Ok.disk).seen, inr (rw (← c.console.view_is) at c.in-Ok-serve_device.ensures.told))
