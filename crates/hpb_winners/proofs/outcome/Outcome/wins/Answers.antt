use Rattle.std.proofs.Common.{◌&&◌, ap, sym, ◌∙◌, arith}
use Rattle.std.proofs.lemmas.List.FromFn.{get_or-map-range_with_len}
use Rattle.std.specs.Prelude.{false}
use Rattle.hpb_rules.specs.declared.limits.TheConstants.{MOST_NODES}
use Rattle.hpb_rules.specs.Choices.{is_in}
use Rattle.hpb_winners.specs.View.{is_ahead, is_free}
use Rattle.hpb_winners.proofs.outcome.Outcome.wins.Goals as goal

pub returns-then-is_ahead : goal.returns-then-is_ahead
returns-then-is_ahead c =
    let now = c.args.self.now in
    let ahead = is_ahead now.inside now.values in
    c.is_free.ensures ∙ ap (λ t. t && is_free now.parents ahead c.args.node) (sym c.if-is_ahead.true ∙ c.is_ahead.ensures.value)
    ∙ sym (ap (λ ws. is_in ws c.args.node) c.facts.ensures.wins ∙ get_or-map-range_with_len (λ n. ahead n && is_free now.parents ahead n) 0 MOST_NODES c.args.node c.args.node false (omega (arith, c.is_ahead.ensures.within)) (omega arith))

pub returns-else-is_ahead : goal.returns-else-is_ahead
returns-else-is_ahead c =
    let now = c.args.self.now in
    let ahead = is_ahead now.inside now.values in
    c.if-is_ahead.false ∙ ap (λ t. t && is_free now.parents ahead c.args.node) (sym c.if-is_ahead.false ∙ c.is_ahead.ensures.value)
    ∙ sym (ap (λ ws. is_in ws c.args.node) c.facts.ensures.wins ∙ get_or-map-range_with_len (λ n. ahead n && is_free now.parents ahead n) 0 MOST_NODES c.args.node c.args.node false (omega (arith, c.is_ahead.ensures.within)) (omega arith))
