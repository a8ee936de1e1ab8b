use Rattle.std.proofs.Common.{◌≡◌, subst, refl}
use Rattle.hpb_winners.specs.View.{OutcomeView, wins_of}
use Rattle.hpb_winners.proofs.outcome.Outcome.facts.Goals as goal

pub returns-clause-wins : goal.returns-clause-wins
returns-clause-wins c = subst (λ (v : OutcomeView). v.wins ≡ wins_of v.parents v.inside v.values) c.self.view_is refl
