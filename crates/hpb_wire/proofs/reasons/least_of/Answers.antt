use Rattle.std.proofs.Common.{◌≡◌, ℕ, List, Some, ap, subst, ◌∙◌}
use Rattle.hpb_rules.specs.Text.{node_name}
use Rattle.hpb_rules.specs.Tree.{Rules}
use Rattle.hpb_wire.specs.Reasons.{least_text}
use Rattle.hpb_wire.proofs.reasons.least_of.Goals as goal

same_text : (name shown : List ℕ) (least dollars : ℕ) → name ≡ shown → least ≡ dollars → Some (least_text name least) ≡ Some (least_text shown dollars)
same_text name shown least dollars named is =
    subst (λ (text : List ℕ). Some (least_text name least) ≡ Some (least_text text dollars)) named (ap (λ (n : ℕ). Some (least_text name n)) is)

pub returns-in-Bid : goal.returns-in-Bid
returns-in-Bid c =
    rw c.in-Bid.is (same_text _ _ _ _ (c.name.ensures.value ∙ ap (λ (rules : Rules). node_name rules.nodes c.in-Bid.node) c.definition.ensures) c.node_view.ensures.minimum)
