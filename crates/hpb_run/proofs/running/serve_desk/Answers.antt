use Rattle.std.proofs.KnownBytes.{Keeps-refl}
use Rattle.hpb_run.proofs.Standings.{looks_stay}
use Rattle.hpb_run.proofs.running.serve_desk.Goals as goal

pub serve_at_terminal-requires : goal.serve_at_terminal-requires
serve_at_terminal-requires g c = record { stays = looks_stay }

pub returns-then-session-clause-served : goal.returns-then-session-clause-served
returns-then-session-clause-served g c = c.serve_at_terminal.ensures.served

pub returns-clause-served : goal.returns-clause-served
returns-clause-served g c = c.serve.ensures.served

pub returns-then-session-clause-explained : goal.returns-then-session-clause-explained
returns-then-session-clause-explained g c = rw c.if-session.true c.serve_at_terminal.ensures.explained

pub returns-clause-explained : goal.returns-clause-explained
returns-clause-explained g c = rw c.if-session.false (Keeps-refl _)
