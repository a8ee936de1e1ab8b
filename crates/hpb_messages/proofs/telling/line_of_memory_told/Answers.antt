use Rattle.std.proofs.Common.{refl}
use Rattle.std.specs.Fmt.{digits}
use Rattle.hpb_messages.proofs.telling.line_of_memory_told.Goals as goal

pub returns : goal.returns
unfolding digits
returns c = refl
