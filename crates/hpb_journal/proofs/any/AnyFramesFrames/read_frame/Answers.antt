use Rattle.hpb_journal.proofs.any.AnyFramesFrames.read_frame.Goals as goal

pub returns-in-Pages-clause-frame : goal.returns-in-Pages-clause-frame
returns-in-Pages-clause-frame g c = rw c.in-Pages.is c.read_frame.ensures.frame

pub returns-in-Cells-clause-frame : goal.returns-in-Cells-clause-frame
returns-in-Cells-clause-frame g c = rw c.in-Cells.is c.read_frame-in-Cells.ensures.frame
