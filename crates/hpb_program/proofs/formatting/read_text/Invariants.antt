use Rattle.std.proofs.Common.{◌-◌, length}
use Rattle.hpb_program.specs.declared.formatting.TheConstants.{KEPT_BYTES}
use Rattle.hpb_program.proofs.Taking.{Taken}
use Rattle.hpb_program.proofs.formatting.read_text.Given as goal

-- the bytes read so far
abbrev pub invariant-parts : goal.invariant-parts
invariant-parts g l = Taken (g.R.Read.remaining l.fn.input) (g.R.Read.remaining l.input) l.text.items

abbrev pub decreases-parts : goal.decreases-parts
decreases-parts g l = KEPT_BYTES - length l.text.items
