use Rattle.std.proofs.Common.{refl, sym, ◌∙◌}
use Rattle.hpb_winners.proofs.Tables.{same_outcome, same_kept}
use Rattle.hpb_winners.proofs.outcome.Outcome.copy_from.Goals as goal

pub invariant_of-self : goal.invariant_of-self
invariant_of-self c = same_kept _ c.other.inside (sym (c.copy_from_slice.ensures.items ∙ c.as_slice.ensures.value)) (sym (c.copy_from_slice-2.ensures.items ∙ c.as_slice-2.ensures.value)) (sym c.copy_from.ensures.values) refl c.other.invariant

pub returns : goal.returns
returns c =
    same_outcome (c.copy_from_slice.ensures.items ∙ c.as_slice.ensures.value) (c.copy_from_slice-2.ensures.items ∙ c.as_slice-2.ensures.value) c.copy_from.ensures.values c.copy_from.ensures.formed refl
    ∙ c.other.view_is
