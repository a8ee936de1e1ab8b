use Rattle.std.proofs.Common.{ap, ◌∙◌}
use Rattle.hpb_tree.specs.Keys.{number}
use Rattle.hpb_tree.proofs.Keys.{take_least}
use Rattle.hpb_tree.proofs.key.front_number.Goals as goal

pub returns : goal.returns
returns c = c.number.ensures ∙ ap number (take_least c.args.bytes.now c.min.result c.min.ensures)
