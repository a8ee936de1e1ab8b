use Rattle.hpb_serve.proofs.serving.serve_opened.Given as goal

-- the house that was just started
abbrev pub ghosts-serve_started : goal.ghosts-serve_started
ghosts-serve_started g a = record { eye = a.started.eye; device = g.D.Disk.device a.started.keeper.opened; clients = a.started.clients.items }
