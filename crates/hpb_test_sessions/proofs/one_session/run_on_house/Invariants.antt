use Rattle.hpb_test_sessions.proofs.one_session.run_on_house.Given as goal

-- the house that was just started
abbrev pub ghosts-run_started : goal.ghosts-run_started
ghosts-run_started g a = record { eye = a.started.eye; device = g.D.Disk.device a.started.keeper.opened; clients = a.started.clients.items }
