-- The worked rows of stops.
use Rattle.std.proofs.Common.{◌≡◌, ℕ, List, [], ◌∷◌, inl, inr, ⊎_elim, ◌⊎◌, refl, arith}
use Rattle.hpb_rules.specs.declared.command.Command.{Command}
use Rattle.hpb_rules.specs.Machine.{landed, in_flight, MayStand}
use Rattle.hpb_rules.specs.MachineRows.{first_bid, two_answers, Stops}

-- before landing
alone : (turns : ℕ) (history : List Command) → (turns ≡ landed → ⊥) → MayStand (in_flight [] two_answers turns) history → history ≡ []
alone turns history few may = ⊎_elim (λ same. same) (λ more. absurd (few more.0)) may

-- after it
either : (history : List Command) → MayStand (in_flight [] two_answers landed) history → (history ≡ []) ⊎ (history ≡ first_bid ∷ [])
either history may = ⊎_elim (λ same. inl same) (λ more. inr more.1) may

both : (history : List Command) → (history ≡ []) ⊎ (history ≡ first_bid ∷ []) → MayStand (in_flight [] two_answers landed) history
both history one = ⊎_elim (λ same. inl same) (λ more. inr (refl, more)) one

pub stops : Stops
stops = record {
  when_offered = λ history. (alone 0 history (λ e. omega (arith, e)), λ e. inl e);
  before_landing = λ history. (alone 2 history (λ e. omega (arith, e)), λ e. inl e);
  when_landed = λ history. (either history, both history);
  when_third_fails = λ history. (either history, both history);
  when_acknowledged = λ history. (λ e. e, λ e. e);
}
