use Rattle.hpb_prices.proofs.Chosen.{Chosen}
use Rattle.hpb_prices.proofs.certificate.is_choice.Given as goal

abbrev pub invariant-loop-place : goal.invariant-loop-place
invariant-loop-place l = Chosen l.tree.nodes l.winners l.highs l.place
