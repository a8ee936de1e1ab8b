use Rattle.hpb_codec.proofs.Chunks as chunks
use Rattle.hpb_codec.proofs.OneToOne as one
use Rattle.hpb_codec.proofs.laws.states_are_one.Goals as goal

pub returns-clause-bodies : goal.returns-clause-bodies
returns-clause-bodies c = one.states_are_one

pub returns-clause-chunks : goal.returns-clause-chunks
returns-clause-chunks c = chunks.chunks_are_body
