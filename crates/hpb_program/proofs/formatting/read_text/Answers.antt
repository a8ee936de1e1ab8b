use Rattle.hpb_program.proofs.Taking.{taken_in_vain}
use Rattle.hpb_program.proofs.formatting.read_text.Goals as goal

pub returns-in-Err-clause-err : goal.returns-in-Err-clause-err
returns-in-Err-clause-err g c = taken_in_vain _ _ _ c.parts.text.items c.in-Err.fault c.parts.invariant c.in-Err.ensures.err
