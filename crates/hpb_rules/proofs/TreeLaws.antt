-- The laws of trees, winners and prices, proved: other crates' proofs cite them here.
pub use Rattle.hpb_rules.proofs.AcceptedDrafts.{accepted_is_definition, definition_is_accepted, fault_at, no_fault}
pub use Rattle.hpb_rules.proofs.CarriedShares.{carried_is_share}
pub use Rattle.hpb_rules.proofs.CertificateProofs.{certificates}
pub use Rattle.hpb_rules.proofs.Cover.{cover_proves}
pub use Rattle.hpb_rules.proofs.Depths.{depth_is_one_more}
pub use Rattle.hpb_rules.proofs.GoingUp.{disjoint_is_apart, test_decides}
pub use Rattle.hpb_rules.proofs.Money.{minimum_is_one, shares_are_one}
pub use Rattle.hpb_rules.proofs.NodeCertificate.{certified}
pub use Rattle.hpb_rules.proofs.NodePrices.{price_is_value, prices_prove}
pub use Rattle.hpb_rules.proofs.Winners.{best_is_one, revenue_is_greatest, winners_are_one}
pub use Rattle.hpb_rules.proofs.DraftTrees.{full_tree}
