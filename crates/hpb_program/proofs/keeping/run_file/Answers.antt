use Rattle.std.proofs.Common.{[], refl}
use Rattle.std.proofs.lemmas.Result.{err_from_is_err_and}
use Rattle.hpb_disk.specs.FileDisks.{file_device}
use Rattle.hpb_program.proofs.Doubting.{told_unopened_file}
use Rattle.hpb_program.proofs.Kept.{are_kept, of_not_opened, of_opening}
use Rattle.hpb_program.proofs.keeping.run_file.Goals as goal

pub returns : goal.returns
returns g c =
    let ran = c.in_ok-ran.ran in
    record { runs = (c.in_ok-disk.disk, ran.engine.disk, ran.engine.progress, c.in_ok-ran.ensures.run, c.in_ok-ran.ensures.told) }

pub returns-in_err-disk : goal.returns-in_err-disk
returns-in_err-disk g c = let p = err_from_is_err_and c.from_residual.result c.from_residual.ensures.1 in rw (p.1, p.2) record { runs = (of_opening _ _ refl, are_kept _ _, ([], told_unopened_file _ _ _ refl)) }

pub returns-in_err-ran : goal.returns-in_err-ran
returns-in_err-ran g c =
    let image = (file_device c.in_ok-disk.disk).seen in
    let met = c.in_err-ran.ensures in
    let p = err_from_is_err_and c.from_residual-in_err-ran.result c.from_residual-in_err-ran.ensures.1 in rw (p.1, p.2) record { runs = (of_not_opened image _ met.fault, met.nothing, (image, met.told)) }
