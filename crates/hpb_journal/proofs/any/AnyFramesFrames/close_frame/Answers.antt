use Rattle.hpb_journal.proofs.any.AnyFramesFrames.close_frame.Goals as goal

pub returns-in-Pages-clause-crash : goal.returns-in-Pages-clause-crash
returns-in-Pages-clause-crash g c = rw c.in-Pages.is c.close_frame.ensures.crash

pub returns-in-Cells-clause-crash : goal.returns-in-Cells-clause-crash
returns-in-Cells-clause-crash g c = rw c.in-Cells.is c.close_frame-in-Cells.ensures.crash
