use Rattle.std.proofs.Common.{◌≡◌, None, Some, Bool, true, false, not, get_or, refl, ap, sym, ◌∙◌, arith}
use Rattle.hpb_rules.specs.Choices.{is_in}
use Rattle.hpb_winners.specs.View.{OutcomeView, or_top}
use Rattle.hpb_winners.proofs.Tables.{within_read}
use Rattle.hpb_winners.proofs.outcome.Outcome.is_under.Goals as goal

twice : (b : Bool) → b ≡ not (not b)
twice true = refl
twice false = refl

pub returns-in-Some : goal.returns-in-Some
returns-in-Some c =
    let up : get_or c.args.self.now.parents c.args.place None ≡ Some c.in-Some.parent
    = ap (λ (v : OutcomeView). get_or v.parents c.args.place None) (sym c.self.view_is) ∙ within_read c.self.inside.parents.items c.args.place c.index.result.now None (omega (arith, c.requires.place, c.self.invariant.parents)) c.index.ensures ∙ c.in-Some.is in
    ap (is_in c.args.flags.now) c.place.ensures.value ∙ twice (is_in c.args.flags.now c.in-Some.parent)
    ∙ sym (ap (λ p. not (or_top p (λ parent. not (is_in c.args.flags.now parent)))) up)

pub returns-in-None : goal.returns-in-None
returns-in-None c =
    let top : get_or c.args.self.now.parents c.args.place None ≡ None
    = ap (λ (v : OutcomeView). get_or v.parents c.args.place None) (sym c.self.view_is) ∙ within_read c.self.inside.parents.items c.args.place c.index.result.now None (omega (arith, c.requires.place, c.self.invariant.parents)) c.index.ensures ∙ c.in-None.is in
    sym (ap (λ p. not (or_top p (λ parent. not (is_in c.args.flags.now parent)))) top)
