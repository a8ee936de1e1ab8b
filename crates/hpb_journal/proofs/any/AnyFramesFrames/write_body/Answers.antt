use Rattle.hpb_journal.proofs.any.AnyFramesFrames.write_body.Goals as goal

pub returns-in-Pages-clause-written : goal.returns-in-Pages-clause-written
returns-in-Pages-clause-written g c = rw c.in-Pages.is c.write_body.ensures.written

pub returns-in-Cells-clause-written : goal.returns-in-Cells-clause-written
returns-in-Cells-clause-written g c = rw c.in-Cells.is c.write_body-in-Cells.ensures.written

pub returns-in-Pages-clause-crash : goal.returns-in-Pages-clause-crash
returns-in-Pages-clause-crash g c = rw c.in-Pages.is c.write_body.ensures.crash

pub returns-in-Cells-clause-crash : goal.returns-in-Cells-clause-crash
returns-in-Cells-clause-crash g c = rw c.in-Cells.is c.write_body-in-Cells.ensures.crash
