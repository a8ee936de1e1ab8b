-- Parents, and the nodes at or under a node: steps that other crates' proofs cite.
pub use Rattle.hpb_rules.proofs.Under.{parent_in, under_le, under_trans, not_under, disjoint_from}
pub use Rattle.hpb_rules.proofs.GoingUp.{under_sound, under_complete}
