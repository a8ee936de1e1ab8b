use Rattle.hpb_disk.specs.FaultyDisks.{faulty_device}
use Rattle.hpb_test_house.proofs.late.run_late.Given as goal

-- the house that was just started
abbrev pub ghosts-run_started : goal.ghosts-run_started
ghosts-run_started g a = record { eye = a.started.eye; device = faulty_device a.started.keeper.opened; clients = a.started.clients.items }
