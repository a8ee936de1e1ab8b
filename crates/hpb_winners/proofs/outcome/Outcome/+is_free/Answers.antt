use Rattle.std.proofs.Common.{◌<◌, ◌&&◌, not, ap, sym, ◌∙◌, arith}
use Rattle.hpb_winners.specs.View.{is_ahead, is_free}
use Rattle.hpb_winners.proofs.Tables.{parent_read, free_by_parent, free_at_top}
use Rattle.hpb_winners.proofs.outcome.Outcome.+is_free.Goals as goal

pub is_free-requires : goal.is_free-requires
is_free-requires t c =
    let above : c.in-Some.parent < c.args.node = c.self.invariant.before c.args.node c.in-Some.parent
    (parent_read c.self.inside c.self.invariant c.args.self.now c.self.view_is c.place-index.result c.args.node c.place-index.ensures.value (omega (arith, c.self.invariant.parents)) c.index.result.now c.index.ensures ∙ c.in-Some.is) in
    (omega arith, tt)

pub returns-then-not-is_ahead : goal.returns-then-not-is_ahead
returns-then-not-is_ahead t c =
    let now = c.args.self.now in
    let ahead = is_ahead now.inside now.values in
    c.is_free.ensures ∙ ap (λ t. not t && is_free now.parents ahead c.in-Some.parent) (sym c.if-not-is_ahead.true ∙ c.is_ahead.ensures.value)
    ∙ sym (free_by_parent c.self.inside c.self.invariant c.args.self.now c.self.view_is c.place-index.result c.args.node c.place-index.ensures.value (omega (arith, c.self.invariant.parents)) c.index.result.now c.index.ensures ahead c.in-Some.parent c.in-Some.is)

pub returns-else-not-is_ahead : goal.returns-else-not-is_ahead
returns-else-not-is_ahead t c =
    let now = c.args.self.now in
    let ahead = is_ahead now.inside now.values in
    ap not c.if-not-is_ahead.false ∙ ap (λ t. not t && is_free now.parents ahead c.in-Some.parent) (sym c.if-not-is_ahead.false ∙ c.is_ahead.ensures.value)
    ∙ sym (free_by_parent c.self.inside c.self.invariant c.args.self.now c.self.view_is c.place-index.result c.args.node c.place-index.ensures.value (omega (arith, c.self.invariant.parents)) c.index.result.now c.index.ensures ahead c.in-Some.parent c.in-Some.is)

pub returns-in-None : goal.returns-in-None
returns-in-None t c =
    let now = c.args.self.now in
    sym (free_at_top c.self.inside c.self.invariant c.args.self.now c.self.view_is c.place-index.result c.args.node c.place-index.ensures.value (omega (arith, c.self.invariant.parents)) c.index.result.now c.index.ensures (is_ahead now.inside now.values) c.in-None.is)
