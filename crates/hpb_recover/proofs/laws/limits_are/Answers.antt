use Rattle.std.proofs.Common.{refl}
use Rattle.hpb_recover.proofs.laws.limits_are.Goals as goal

pub returns : goal.returns
returns c = record {
  page_bytes = refl;
  least_pages = refl;
  head = refl;
  magic_bytes = refl;
  head_bytes = refl;
  slots_end = refl;
  journal = refl;
}
