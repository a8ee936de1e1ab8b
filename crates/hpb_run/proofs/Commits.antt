-- The results of letters and turns.
use Rattle.std.proofs.Common.{◌≡◌, ℕ, ◌+◌, ◌<◌, ◌==◌, Bool, true, false, None, Some, Result, Ok, Err, List, [], ◌∷◌, ◌++◌, refl, sym, ap, arith}
use Rattle.std.specs.Prelude.{if◌then◌else◌}
use Rattle.std.proofs.lemmas.Bool.Decides.{nat_tests}
use Rattle.std.proofs.lemmas.List.{append-nil}
use Rattle.hpb_rules.specs.declared.command.Command.{Command}
use Rattle.hpb_rules.specs.declared.letter.Answer.{Answer}
use Rattle.hpb_rules.specs.Machine.{at_rest, in_flight, offered, turn}
use Rattle.hpb_engine.specs.declared.progress.Commit.{Commit}
use Rattle.hpb_disk.specs.declared.disk.Disk.{Ghosts}
use Rattle.hpb_engine.specs.declared.engine.Engine.{Engine}
use Rattle.hpb_engine.specs.declared.progress.Progress.{Progress}
use Rattle.hpb_engine.specs.declared.step.Fault.{Fault}
use Rattle.hpb_engine.specs.declared.step.Fault.TheVariants as faults
use Rattle.hpb_engine.specs.Engines.{Keeps}
use Rattle.hpb_engine.specs.Keeping.{flight_of}
use Rattle.hpb_engine.specs.Steps.{TurnLeads, turn_by}
use Rattle.hpb_run.specs.Batches.{KeepsAnswered, fault_of}

module _ (history : List Command) (given : List Answer) where
  -- The answers leave at once if no letter is new; otherwise the letters are in flight.
  pub at_once : (commands : List Command) (commit : Commit) → (offered history given commands).machine.flight ≡ flight_of commit → commit.busy ≡ false
      → offered history given commands ≡ record { leaving = given; machine = at_rest (history ++ commands) }
  at_once [] commit is free = ap (λ (past : List Command). record { leaving = given; machine = at_rest past }) (sym (append-nil history))
  at_once (command ∷ commands) commit is free = absurd (let none : flight_of commit ≡ None = rw free refl in cc)

  pub put_up : (commands : List Command) (commit : Commit) → (offered history given commands).machine.flight ≡ flight_of commit → commit.busy ≡ true
      → (offered history given commands).machine ≡ in_flight history given 0
  put_up [] commit is busy = absurd (let some : flight_of commit ≡ Some (record { answers = commit.answers; turns = commit.turns }) = rw busy refl in cc)
  put_up (command ∷ commands) commit is busy = refl

  -- A turn before the last one, and one whose call fails.
  pub went : (n : ℕ) → n < 3 → (turn true (in_flight history given n)).machine ≡ in_flight history given (n + 1)
  went n less = grind (arith, nat_tests)

  stays : (n : ℕ) → (turn false (in_flight history given n)).machine ≡ in_flight history given (if n == 2 then 3 else n)
  stays n = grind (arith, nat_tests)

  pub failed_turn : {D : Type 0} {disk : Ghosts D} {failed : Bool} (engine : Engine D disk) (s : Progress) (n : ℕ) (answers : List Answer) (fault : Fault) → failed ≡ false → engine.failed ≡ true
      → TurnLeads failed (Err fault) s engine.progress → Keeps engine (turn_by (Err fault) (in_flight history given n)).machine → engine.progress.committed.rules ≡ s.committed.rules
      → KeepsAnswered s.committed.rules engine history given answers (Some fault)
  failed_turn engine s n answers faults.Device works off leads kept rules = (_, kept, (off, _, stays n), rules)
  failed_turn engine s n answers faults.Failed works off leads kept rules = absurd (let not = leads.0 in cc)

pub failed_is : {T : Type 0} (result : Result T Fault) → fault_of result ≡ Some faults.Failed → result ≡ Err faults.Failed
failed_is (Ok told) is = absurd (cc)
failed_is (Err fault) is = cc
