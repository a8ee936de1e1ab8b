use Rattle.std.proofs.Common.{refl}
use Rattle.std.specs.Fmt.{digits}
use Rattle.hpb_program.proofs.laws.limits_are.Goals as goal

pub returns : goal.returns
unfolding digits
returns c = record { least_pages = refl; pages = refl; most_pages = refl; least_cells = refl; cells = refl; most_cells = refl; definition_bytes = refl; closed_bytes = refl }
