use Rattle.std.proofs.Common.{sym, ◌∙◌}
use Rattle.std.proofs.lemmas.Bool.{eqb-true, eq-eqb}
use Rattle.hpb_prices.proofs.LicenceSums.{sum_all, sum_set}
use Rattle.hpb_prices.proofs.certificate.is_certificate.Goals as goal

pub returns : goal.returns
returns c = (
  λ e. record {
    choice = c.is_choice.ensures.0 c.if-not-is_choice.false;
    covers = c.are_covered.ensures.0 c.if-not-are_covered.false;
    sums = sym (sum_all c.args.tree.now.nodes c.args.prices.now c.requires.prices c.requires.nodes) ∙ sym c.sum_where.ensures ∙ eqb-true _ _ e ∙ c.sum_where-2.ensures ∙ sum_set c.args.tree.now.nodes c.args.winners c.args.highs.now c.requires.highs;
  },
  λ is. eq-eqb _ _ (c.sum_where.ensures ∙ sum_all c.args.tree.now.nodes c.args.prices.now c.requires.prices c.requires.nodes ∙ is.sums ∙ sym (c.sum_where-2.ensures ∙ sum_set c.args.tree.now.nodes c.args.winners c.args.highs.now c.requires.highs)),
)
