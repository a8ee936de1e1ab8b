use Rattle.std.proofs.Common.{◌≡◌, rules, refl, ◌∙◌}
use Rattle.hpb_winners.proofs.Tables.{same_outcome}
use Rattle.hpb_winners.proofs.outcome.Outcome.copy.Goals as goal

pub returns : goal.returns
returns c =
    let parents : c.in_ok-to_vec.field-0.items ≡ c.self.inside.parents.items = c.in_ok-to_vec.ensures.items_if_clones_equal (λ y h e. search rules) ∙ c.deref.ensures.value in
    same_outcome parents (c.in_ok-to_vec-2.ensures.items_if_clones_equal (λ y h e. e) ∙ c.deref-2.ensures.value) c.in_ok-copy.ensures.values c.in_ok-copy.ensures.formed refl
    ∙ c.self.view_is
