use Rattle.std.proofs.Common.{refl}
use Rattle.std.proofs.lemmas.Result.{err_from_is_err_and}
use Rattle.hpb_disk.specs.FileDisks.{file_device}
use Rattle.hpb_program.proofs.Cutting.{of_opened_file}
use Rattle.hpb_program.proofs.Doubting.{checked, checked_unopened}
use Rattle.hpb_program.proofs.checking.run_check.Goals as goal

pub returns-in_err-disk-clause-checks : goal.returns-in_err-disk-clause-checks
returns-in_err-disk-clause-checks g c = let p = err_from_is_err_and c.from_residual.result c.from_residual.ensures.1 in rw (p.1, p.2) (checked_unopened c.args.console.now _ _ refl)

pub returns-in_err-disk-clause-cut : goal.returns-in_err-disk-clause-cut
returns-in_err-disk-clause-cut g c = let p = err_from_is_err_and c.from_residual.result c.from_residual.ensures.1 in rw (p.1, p.2) (of_opened_file _ _ _ refl)

pub returns-clause-checks : goal.returns-clause-checks
returns-clause-checks g c = checked (file_device c.in_ok-disk.disk).seen c.args.console.now c.check_device.new.console c.check_device.result c.check_device.ensures.shows c.check_device.ensures.told
