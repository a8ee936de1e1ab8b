-- The machine that is kept after a step is the machine's next state.
use Rattle.std.proofs.Common.{◌≡◌, inl, inr, ⊎_elim, ℕ, zero, suc, ◌+◌, ◌<◌, ◌≤◌, Bool, true, false, List, [], ◌++◌, Option, Some, None, Result, Ok, Err, refl, sym, ◌∙◌, ap, subst, arith}
use Rattle.hpb_rules.specs.declared.command.Command.{Command}
use Rattle.hpb_disk.specs.Device.{LeavesOnly}
use Rattle.hpb_disk.proofs.Runs.{leaves_at_first, leaves_within}
use Rattle.std.proofs.lemmas.Bool.{cases_eq}
use Rattle.std.specs.Prelude.{if◌then◌else◌}
use Rattle.hpb_rules.specs.declared.letter.Answer.{Answer}
use Rattle.hpb_rules.specs.Letters.{new_commands}
use Rattle.hpb_rules.specs.Machine.{Machine, Flight, at_rest, in_flight, turn}
use Rattle.hpb_engine.specs.declared.progress.Commit.{Commit}
use Rattle.hpb_engine.specs.declared.progress.Progress.{Progress}
use Rattle.hpb_engine.specs.Keeping.{Inside, Keeps, Running, StandsBetween, StandsEither, StandsFor, flight_of, machine_of}
use Rattle.hpb_engine.specs.Laws.{Laws}
use Rattle.hpb_engine.proofs.Standing.{kept_inside}
use Rattle.hpb_engine.specs.Moves.{turned}
use Rattle.hpb_engine.specs.declared.step.Fault.{Fault}
use Rattle.hpb_engine.specs.declared.step.Fault.TheVariants as faults
use Rattle.hpb_engine.specs.declared.step.Step.{Step}
use Rattle.hpb_engine.specs.declared.step.Step.TheVariants as steps
use Rattle.hpb_engine.specs.Checkpoints.{SameCore}
use Rattle.hpb_engine.specs.Steps.{HasEffect, TurnLeads, acknowledged_by, turn_by}

abbrev pub with_flight : List Command → Option Flight → Machine
with_flight history flight = record { acknowledged = history; flight = flight }

abbrev with_commit : List Command → Commit → Machine
with_commit history commit = record { acknowledged = history; flight = flight_of commit }

-- A call that does nothing.
pub no_effect : (run : Running) (leaving : List Answer) → leaving ≡ [] → HasEffect run run (λ machine. record { leaving = []; machine = machine }) leaving
no_effect run leaving none = record {
  keeps = λ machine keeps. keeps;
  answers = λ machine keeps. none;
  since = λ machine keeps. leaves_at_first run.device (StandsEither machine machine) (λ image left. inl (keeps.images image left));
}

-- The machine that is kept, by the progress.
machine_is : {run : Running} {machine : Machine} → Keeps run machine → machine_of run.progress machine.acknowledged ≡ machine
machine_is {machine = machine} keeps = ap (with_flight machine.acknowledged) (sym keeps.flight)

-- A step that changes neither the acknowledged commands nor the batch in flight.
module _ {old : Running} (new : Running) {machine : Machine} (keeps : Keeps old machine) (same : SameCore old.progress new.progress) where
  still : machine_of new.progress machine.acknowledged ≡ machine
  still = ap (with_commit machine.acknowledged) same.commit ∙ machine_is keeps

  pub kept_still : (laws : Laws) → Inside new machine.acknowledged → Keeps new machine
  kept_still laws inside = subst (Keeps new) still (kept_inside laws new machine.acknowledged inside)

  pub since_still : LeavesOnly old.device new.device (StandsBetween old.progress new.progress machine.acknowledged) → LeavesOnly old.device new.device (StandsFor machine)
  since_still leaves = leaves_within
      (λ image stands. ⊎_elim (λ one. subst (λ (m : Machine). StandsFor m image) (machine_is keeps) one) (λ other. subst (λ (m : Machine). StandsFor m image) still other) stands) leaves

-- The machine, by whether a batch is in flight.
pub machine_by : {busy : Bool} (s : Progress) (history : List Command) → s.commit.busy ≡ busy
    → machine_of s history ≡ with_flight history (if busy then Some (record { answers = s.commit.answers; turns = s.commit.turns }) else None)
machine_by s history is = ap (λ (busy : Bool). with_flight history (if busy then Some (record { answers = s.commit.answers; turns = s.commit.turns }) else None)) is

-- A turn of a flight that hasn't landed.
turns_on : (history : List Command) (answers : List Answer) (turns : ℕ) → turns < 3 → (turn true (in_flight history answers turns)).machine ≡ in_flight history answers (turns + 1)
turns_on history answers zero less = refl
turns_on history answers (suc zero) less = refl
turns_on history answers (suc (suc zero)) less = refl
turns_on history answers (suc (suc (suc turns))) less = absurd (omega (arith, less))

-- A turn whose call fails: the machine stays, unless the flight lands.
fails_back : (history : List Command) (answers : List Answer) (turns : ℕ) → turns ≤ 3 → (turns ≡ 2 → ⊥) → (turn false (in_flight history answers turns)).machine ≡ in_flight history answers turns
fails_back history answers zero most not = refl
fails_back history answers (suc zero) most not = refl
fails_back history answers (suc (suc zero)) most not = absurd (not refl)
fails_back history answers (suc (suc (suc zero))) most not = refl
fails_back history answers (suc (suc (suc (suc turns)))) most not = absurd (omega (arith, most))

-- A turn does to the machine what it does to the progress.
turn_machine : (failed : Bool) (result : Result Step Fault) (s t : Progress) (history : List Command) → s.commit.turns ≤ 3
    → (s.commit.busy ≡ true → s.commit.batch.commands ≡ new_commands s.commit.answers) → TurnLeads failed result s t
    → (turn_by result (machine_of s history)).machine ≡ machine_of t (acknowledged_by result s history)
turn_machine failed (Ok steps.Idle) s t history most new leads =
    ap (λ (m : Machine). (turn true m).machine) (machine_by s history leads.1) ∙ sym (machine_by s history leads.1) ∙ ap (λ (p : Progress). machine_of p history) (sym leads.2)
turn_machine failed (Ok steps.Went) s t history most new leads =
    ap (λ (m : Machine). (turn true m).machine) (machine_by s history leads.1) ∙ turns_on history s.commit.answers s.commit.turns leads.2
    ∙ sym (machine_by (turned s (s.commit.turns + 1)) history leads.1) ∙ ap (λ (p : Progress). machine_of p history) (sym leads.3)
turn_machine failed (Ok (steps.Done answers)) s t history most new leads =
    ap (λ (m : Machine). (turn true m).machine) (machine_by s history leads.1) ∙ ap (λ (n : ℕ). (turn true (in_flight history s.commit.answers n)).machine) leads.2
    ∙ ap (λ (commands : List Command). at_rest (history ++ commands)) (sym (new leads.1)) ∙ ap (λ (p : Progress). machine_of p (history ++ s.commit.batch.commands)) (sym leads.4)
turn_machine failed (Err faults.Device) s t history most new leads = elim (cases_eq s.commit.turns 2) [
  | inl second ↦
      ap (λ (m : Machine). (turn false m).machine) (machine_by s history leads.1) ∙ ap (λ (n : ℕ). (turn false (in_flight history s.commit.answers n)).machine) second
      ∙ sym (machine_by (turned s 3) history leads.1) ∙ ap (λ (p : Progress). machine_of p history) (sym (leads.2 second))
  | inr not ↦
      ap (λ (m : Machine). (turn false m).machine) (machine_by s history leads.1) ∙ fails_back history s.commit.answers s.commit.turns most not
      ∙ sym (machine_by s history leads.1) ∙ ap (λ (p : Progress). machine_of p history) (sym (leads.3 not))
]
turn_machine failed (Err faults.Failed) s t history most new leads = ap (λ (p : Progress). machine_of p history) (sym leads.1)

module _ {old : Running} (new : Running) {machine : Machine} (keeps : Keeps old machine) (result : Result Step Fault) (leads : TurnLeads old.failed result old.progress new.progress) where
  abbrev s : Progress
  s = old.progress

  abbrev t : Progress
  t = new.progress

  becomes : machine_of t (acknowledged_by result s machine.acknowledged) ≡ (turn_by result machine).machine
  becomes =
      sym (turn_machine old.failed result s t machine.acknowledged keeps.inside.fits.safe.commit.turns (λ busy. (keeps.inside.fits.flight busy).new) leads)
      ∙ ap (λ (m : Machine). (turn_by result m).machine) (machine_is keeps)

  pub kept_turn : (laws : Laws) → Inside new (acknowledged_by result s machine.acknowledged) → Keeps new (turn_by result machine).machine
  kept_turn laws inside = subst (Keeps new) becomes (kept_inside laws new (acknowledged_by result s machine.acknowledged) inside)

  -- Until it is acknowledged, a flight may be lost.
  before_done : (answers : List Answer) (image : List ℕ) → result ≡ Ok (steps.Done answers) → StandsFor (machine_of t machine.acknowledged) image → StandsFor machine image
  before_done answers image same stands =
      let done : TurnLeads old.failed (Ok (steps.Done answers)) s t = subst (λ (r : Result Step Fault). TurnLeads old.failed r s t) same leads in
      let rest : StandsFor (at_rest machine.acknowledged) image = subst (λ (p : Progress). StandsFor (machine_of p machine.acknowledged) image) done.4 stands in
      subst (λ (m : Machine). StandsFor m image) (sym (machine_by s machine.acknowledged done.1) ∙ machine_is keeps) (rest.0, inl rest.1, rest.2)

  either : (image : List ℕ) → (r : Result Step Fault) → result ≡ r → StandsFor (machine_of t machine.acknowledged) image → StandsEither machine (turn_by result machine).machine image
  either image (Ok (steps.Done answers)) is stands = inl (before_done answers image is stands)
  either image (Ok steps.Idle) is stands = inr (subst (λ (m : Machine). StandsFor m image) (ap (λ (r : Result Step Fault). machine_of t (acknowledged_by r s machine.acknowledged)) (sym is) ∙ becomes) stands)
  either image (Ok steps.Went) is stands = inr (subst (λ (m : Machine). StandsFor m image) (ap (λ (r : Result Step Fault). machine_of t (acknowledged_by r s machine.acknowledged)) (sym is) ∙ becomes) stands)
  either image (Err fault) is stands = inr (subst (λ (m : Machine). StandsFor m image) (ap (λ (r : Result Step Fault). machine_of t (acknowledged_by r s machine.acknowledged)) (sym is) ∙ becomes) stands)

  pub since_turn : LeavesOnly old.device new.device (StandsBetween s t machine.acknowledged) → LeavesOnly old.device new.device (StandsEither machine (turn_by result machine).machine)
  since_turn leaves = leaves_within
      (λ image stands. ⊎_elim (λ one. inl (subst (λ (m : Machine). StandsFor m image) (machine_is keeps) one)) (λ other. either image result refl other) stands) leaves
