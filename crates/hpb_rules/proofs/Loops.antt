-- Steps of loops over the nodes of a tree, which other crates' proofs cite. Values go from the last node to the first,
-- winners and the dollars carried down from the first node to the last. Each has a bound.
pub use Rattle.hpb_rules.proofs.Sums.{Test, Below, below_is}
pub use Rattle.hpb_rules.proofs.Upward.{Swept, swept_start, swept_part, swept_top, sum_from, sum_is, sum_all, best_from, sum_bound}
pub use Rattle.hpb_rules.proofs.Upward.{freed, freed_set, winners_after, winners_start, winners_step, winners_end}
pub use Rattle.hpb_rules.proofs.Winners.{winners_all}
pub use Rattle.hpb_rules.proofs.Carried.{carried_child, carried_top}
pub use Rattle.hpb_rules.proofs.NodePrices.{price_bound, passed_bound}
pub use Rattle.hpb_rules.proofs.Ranks.{rank_lt}
pub use Rattle.hpb_rules.proofs.Money.{share_at}
