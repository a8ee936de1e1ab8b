use Rattle.std.proofs.Common.{refl}
use Rattle.hpb_format.proofs.laws.limits_are.Goals as goal

pub returns : goal.returns
returns c = record {
  head_gate = refl;
  head = refl;
  magic_bytes = refl;
  head_bytes = refl;
  slots = refl;
  slots_end = refl;
  state_bytes = refl;
  chunks = refl;
  journal = refl;
}
