-- The facts about a keeper hold after each step.
use Rattle.std.proofs.Common.{◌≡◌, suc, ◌+◌, ◌<◌, ◌==◌, Bool, true, false, None, Option, Some, List, [], ◌∷◌, ◌++◌, Ok, Err, Result, refl, sym, ap, ◌∙◌, subst, arith}
use Rattle.std.specs.Prelude.{if◌then◌else◌}
use Rattle.std.proofs.lemmas.List.{append-nil}
use Rattle.std.proofs.lemmas.Bool.Decides.{nat_tests}
use Rattle.hpb_rules.specs.declared.command.Command.{Command}
use Rattle.hpb_rules.specs.declared.letter.Answer.{Answer}
use Rattle.hpb_rules.specs.declared.letter.Letter.{Letter}
use Rattle.hpb_rules.specs.AuctionValue.{AuctionValue, Shows}
use Rattle.hpb_rules.specs.LetterLaws.{JudgedJoin}
use Rattle.hpb_rules.specs.Letters.{judged, new_commands}
use Rattle.hpb_rules.specs.Machine.{Machine, Effect, Flight, at_rest, in_flight, landed, offered, take_letters, turn, turned as turn_of}
use Rattle.hpb_rules.specs.Tree.{Rules}
use Rattle.hpb_rules.specs.Values.{value_after}
use Rattle.hpb_rules.specs.Judging.{judged_in, value_by, letters_of}
use Rattle.hpb_rules.specs.LetterLaws.{JudgedIsShown}
use Rattle.hpb_disk.specs.Device.{Device}
use Rattle.hpb_recover.specs.Standing.{Stands}
use Rattle.hpb_engine.specs.declared.progress.Commit.{Commit}
use Rattle.hpb_engine.specs.declared.progress.Progress.{Progress}
use Rattle.hpb_engine.specs.Keeping.{Keeps, flight_of, machine_of}
use Rattle.hpb_engine.specs.Moves.{begun, turned, acknowledged}
use Rattle.hpb_engine.specs.declared.step.Fault.{Fault}
use Rattle.hpb_engine.specs.declared.step.Fault.TheVariants as faults
use Rattle.hpb_engine.specs.declared.step.Step.{Step}
use Rattle.hpb_engine.specs.declared.step.Step.TheVariants as steps
use Rattle.hpb_engine.specs.Offers.{AreOld}
use Rattle.hpb_engine.specs.Steps.{TurnLeads, turn_by}
use Rattle.hpb_board.specs.Publication.{Publishing, published}
use Rattle.hpb_rules.specs.Fronts.{joined}
use Rattle.hpb_house.specs.Keepers.{Keeping, IsKept, IsTold, KeepsEach, pending_of, history_by, machine_by, running_in}
use Rattle.hpb_house.proofs.Leading.{lead_one, history_one, judged_letters}
use Rattle.hpb_rules.proofs.Judged.{new_after, rules_by}

-- ---- machines
same_machine : (m : Machine) (history : List Command) (flight : Option Flight) → m.acknowledged ≡ history → m.flight ≡ flight → m ≡ record { acknowledged = history; flight = flight }
same_machine m history flight a f = ap (λ (h : List Command). record { acknowledged = h; flight = m.flight }) a ∙ ap (λ (g : Option Flight). record { acknowledged = history; flight = g }) f

-- letters acknowledge nothing by themselves
taken_acknowledged : (rules : Rules) (m : Machine) (letters : List Letter) → (take_letters rules m letters).machine.acknowledged ≡ m.acknowledged
taken_acknowledged rules m letters = by m.flight
  where
    put : (answers : List Answer) (commands : List Command) → (offered m.acknowledged answers commands).machine.acknowledged ≡ m.acknowledged
    put answers [] = refl
    put answers (command ∷ more) = refl

    by : (flight : Option Flight) → (take_letters rules (record { acknowledged = m.acknowledged; flight = flight }) letters).machine.acknowledged ≡ m.acknowledged
    by None = put (judged rules m.acknowledged letters) (new_commands (judged rules m.acknowledged letters))
    by (Some flight) = refl

-- a turn whose call fails acknowledges nothing
failed_acknowledged : (m : Machine) → (turn false m).machine.acknowledged ≡ m.acknowledged
failed_acknowledged m = by m.flight
  where
    next : (flight : Flight) (b : Bool)
        → (if◌then◌else◌ {A = Effect} b (record { leaving = []; machine = in_flight m.acknowledged flight.answers (suc flight.turns) })
        (record { leaving = []; machine = in_flight m.acknowledged flight.answers flight.turns })).machine.acknowledged ≡ m.acknowledged
    next flight true = refl
    next flight false = refl

    last : (flight : Flight) (b : Bool) → (flight.turns == landed) ≡ b → (turn_of false m.acknowledged flight).machine.acknowledged ≡ m.acknowledged
    last flight true is = rw is refl
    last flight false is = rw is (next flight (suc flight.turns == landed))

    by : (flight : Option Flight) → (turn false (record { acknowledged = m.acknowledged; flight = flight })).machine.acknowledged ≡ m.acknowledged
    by None = refl
    by (Some flight) = last flight (flight.turns == landed) refl

-- a turn before the last one acknowledges nothing
early_acknowledged : (history : List Command) (flight : Flight) → (flight.turns == landed) ≡ false → (turn_of true history flight).machine.acknowledged ≡ history
early_acknowledged history flight is = rw is refl

-- the last one acknowledges the batch in flight
last_acknowledged : (history : List Command) (flight : Flight) → (flight.turns == landed) ≡ true → (turn_of true history flight).machine.acknowledged ≡ history ++ new_commands flight.answers
last_acknowledged history flight is = rw is refl

busy_flight : (commit : Commit) → commit.busy ≡ true → flight_of commit ≡ Some (record { answers = commit.answers; turns = commit.turns })
busy_flight commit busy = rw busy refl

free_flight : (commit : Commit) → commit.busy ≡ false → flight_of commit ≡ None
free_flight commit free = rw free refl

pub busy_pending : (commit : Commit) → commit.busy ≡ true → pending_of commit ≡ letters_of commit.answers ∷ []
busy_pending commit busy = rw busy refl

pub free_pending : (commit : Commit) → commit.busy ≡ false → pending_of commit ≡ []
free_pending commit free = rw free refl

-- with nothing in flight a turn acknowledges nothing, and one before the last one doesn't either
idle_acknowledged : (s : Progress) (history : List Command) → s.commit.busy ≡ false → (turn true (machine_of s history)).machine.acknowledged ≡ history
idle_acknowledged s history free =
    ap (λ (m : Machine). (turn true m).machine.acknowledged) (same_machine (machine_of s history) history None refl (free_flight s.commit free))

went_acknowledged : (s : Progress) (history : List Command) → s.commit.busy ≡ true → s.commit.turns < 3 → (turn true (machine_of s history)).machine.acknowledged ≡ history
went_acknowledged s history busy early =
    let flight : Flight = record { answers = s.commit.answers; turns = s.commit.turns } in
    let not_last : (flight.turns == landed) ≡ false = grind (arith, nat_tests, early) in
    ap (λ (m : Machine). (turn true m).machine.acknowledged) (same_machine (machine_of s history) history (Some flight) refl (busy_flight s.commit busy))
    ∙ early_acknowledged history flight not_last

-- the committed auction is the same, and so is the batch in flight except for its turns
abbrev pub AreAlike : (s t : Progress) → Type 0
AreAlike s t = (t.committed ≡ s.committed) × (t.commit.busy ≡ s.commit.busy) × (t.commit.answers ≡ s.commit.answers) × (t.commit.working ≡ s.commit.working)

alike : (s : Progress) {t : Progress} → t ≡ s → AreAlike s t
alike s e = (ap (λ (p : Progress). p.committed) e, ap (λ (p : Progress). p.commit.busy) e, ap (λ (p : Progress). p.commit.answers) e, ap (λ (p : Progress). p.commit.working) e)

-- a turn whose call fails changes the number of turns alone
device_alike : (s t : Progress) → (s.commit.turns ≡ 2 → t ≡ turned s 3) → ((s.commit.turns ≡ 2 → ⊥) → t ≡ s) → (b : Bool) → (s.commit.turns == 2) ≡ b → AreAlike s t
device_alike s t third other true is = alike (turned s 3) (third (grind (arith, nat_tests, is)))
device_alike s t third other false is = alike s (other (λ two. absurd (grind (arith, nat_tests, is, two))))

-- a batch that isn't in flight has no facts
idle : {A : Type 0} {busy : Bool} → busy ≡ false → busy ≡ true → A
idle free now = absurd (cc (free, now))

-- the last step of a commit
abbrev pub IsDone : Result Step Fault → Type 0
IsDone (Ok steps.Idle) = ⊥
IsDone (Ok steps.Went) = ⊥
IsDone (Ok (steps.Done answers)) = Unit {0}
IsDone (Err fault) = ⊥

-- any other step
abbrev pub IsNotDone : Result Step Fault → Type 0
IsNotDone (Ok steps.Idle) = Unit {0}
IsNotDone (Ok steps.Went) = Unit {0}
IsNotDone (Ok (steps.Done answers)) = ⊥
IsNotDone (Err fault) = Unit {0}

module _ {D : Type 0} (device : D → Device) where
  kept_as : (k : Keeping D) (m : Machine) (history : List Command) → Keeps (running_in device k) m → m.acknowledged ≡ history → Keeps (running_in device k) (machine_of k.progress history)
  kept_as k m history keeps is = subst (Keeps (running_in device k)) (same_machine m history (flight_of k.progress.commit) is keeps.flight) keeps

  -- the opened device is the same, and the facts about failed calls hold
  abbrev GoesOn : (old new : Keeping D) → Type 0
  GoesOn old new = (new.opened ≡ old.opened) × IsTold new.failed (device new.opened) (device new.disk)

  stood : {a b : D} (history : List Command) → a ≡ b → Stands history (device a).seen → Stands history (device b).seen
  stood history is = subst (λ (d : D). Stands history (device d).seen) is

  begun_on : {k : Keeping D} {opened : D} {auction : AuctionValue} → IsKept device k → opened ≡ k.opened → auction ≡ k.board.opened
      → (history : List Command) → Stands history (device opened).seen → Shows auction history
  begun_on is began same = λ history stands. subst (λ (value : AuctionValue). Shows value history) (sym same) (is.begins history (stood history began stands))

  -- the acknowledged commands of the machine that is kept
  abbrev acknowledged_by : Keeping D → List Command → List Command
  acknowledged_by k history = history_by k.board.opened.rules history (joined k.board.list)

  -- the committed auction has the definition of the opened one
  ruled : (k : Keeping D) → published k.board ≡ k.progress.committed → k.progress.committed.rules ≡ k.board.opened.rules
  ruled k shown = ap (λ (value : AuctionValue). value.rules) (sym shown) ∙ rules_by k.board.opened (joined k.board.list)

  -- letters are answered by the committed auction as they are after the acknowledged commands
  answered_so : JudgedIsShown → (k : Keeping D) → published k.board ≡ k.progress.committed → (history : List Command) → Shows k.progress.committed history → (letters : List Letter)
      → judged_in k.progress.committed letters ≡ judged k.board.opened.rules history letters
  answered_so law k shown history shows letters = law k.progress.committed history letters shows ∙ ap (λ (rules : Rules). judged rules history letters) (ruled k shown)

  -- the published and the prepared batches stay, and the machine acknowledges nothing
  pub quiet_kept : {k k' : Keeping D} → IsKept device k → GoesOn k k' → k'.board ≡ k.board → AreAlike k.progress k'.progress
      → ((history : List Command) → Keeps (running_in device k) (machine_by k history) → (m : Machine) × (m.acknowledged ≡ (machine_by k history).acknowledged) × Keeps (running_in device k') m)
      → IsKept device k'
  quiet_kept {k} {k'} is began board are moves = record {
    shown = ap published board ∙ (is.shown ∙ sym are.0);
    prepared = rw (board, are.1, are.2) is.prepared;
    judged = rw (are.0, are.1, are.2) is.judged;
    working = rw (are.0, are.1, are.2, are.3) is.working;
    told = began.1;
    begins = begun_on is began.0 (ap (λ (b : Publishing). b.opened) board);
    keeps = λ history stands.
        let old = is.keeps history (stood history began.0 stands) in
        let moved = moves history old in
        kept_as k' moved.0 (acknowledged_by k' history) moved.2 (moved.1 ∙ ap (λ (b : Publishing). history_by b.opened.rules history (joined b.list)) (sym board));
  }

  -- a keeper at its start
  pub started_kept : {k : Keeping D} → k.board.opened ≡ k.progress.committed → k.board.list ≡ [] → k.board.pending ≡ [] → k.progress.commit.busy ≡ false
      → IsTold k.failed (device k.opened) (device k.disk) → KeepsEach (device k.opened) (running_in device k) at_rest → IsKept device k
  started_kept {k} opened list pending free told keeps = record {
    shown = ap (λ (l : List (List Letter)). value_by k.board.opened (joined l)) list ∙ opened;
    prepared = pending ∙ sym (free_pending k.progress.commit free);
    judged = λ busy. idle free busy;
    working = λ busy. idle free busy;
    told = told;
    begins = λ history stands. subst (λ (value : AuctionValue). Shows value history) (sym opened) (keeps history stands).shows;
    keeps = λ history stands.
        let e : history ≡ acknowledged_by k history = sym (ap (λ (l : List (List Letter)). history_by k.board.opened.rules history (joined l)) list ∙ append-nil history) in
        kept_as k (at_rest history) (acknowledged_by k history) (keeps history stands) e;
  }

  -- letters are put in flight
  pub begun_kept : {k k' : Keeping D} (letters : List Letter) → IsKept device k → GoesOn k k'
      → k'.board.opened ≡ k.board.opened → k'.board.list ≡ k.board.list → k'.board.pending ≡ letters ∷ []
      → k'.progress ≡ begun k.progress k'.progress.commit.batch k'.progress.commit.answers k'.progress.commit.working
      → k'.progress.commit.answers ≡ judged_in k.progress.committed letters
      → k'.progress.commit.working ≡ value_after k.progress.committed (new_commands (judged_in k.progress.committed letters))
      → ((machine : Machine) → Keeps (running_in device k) machine → Keeps (running_in device k') (take_letters k.progress.committed.rules machine letters).machine)
      → IsKept device k'
  begun_kept {k} {k'} letters is began opened list pending begins answers working keeps =
      let busy : k'.progress.commit.busy ≡ true = ap (λ (s : Progress). s.commit.busy) begins in
      let committed : k'.progress.committed ≡ k.progress.committed = ap (λ (s : Progress). s.committed) begins in
      let own : letters_of k'.progress.commit.answers ≡ letters = ap letters_of answers ∙ judged_letters k.progress.committed letters in
      record {
        shown = rw (opened, list, committed) is.shown;
        prepared = pending ∙ sym (busy_pending k'.progress.commit busy ∙ ap (λ (l : List Letter). l ∷ []) own);
        judged = λ now. answers ∙ (ap (λ (v : AuctionValue). judged_in v letters) (sym committed) ∙ ap (judged_in k'.progress.committed) (sym own));
        working = λ now. working ∙ (new_after k.progress.committed letters ∙ (ap (λ (v : AuctionValue). value_by v letters) (sym committed) ∙ ap (value_by k'.progress.committed) (sym own)));
        told = began.1;
        begins = begun_on is began.0 opened;
        keeps = λ history stands.
            let old = is.keeps history (stood history began.0 stands) in
            let m = machine_by k history in
            let e : (take_letters k.progress.committed.rules m letters).machine.acknowledged ≡ acknowledged_by k' history =
            rw (opened, list) (taken_acknowledged k.progress.committed.rules m letters) in
            kept_as k' (take_letters k.progress.committed.rules m letters).machine (acknowledged_by k' history) (keeps m old) e;
      }

  -- one more batch is published, and nothing is in flight
  grown_kept : JudgedJoin → {k k' : Keeping D} (letters : List Letter) → IsKept device k → GoesOn k k'
      → k'.board.opened ≡ k.board.opened → k'.board.list ≡ k.board.list ++ letters ∷ [] → k'.board.pending ≡ [] → k'.progress.commit.busy ≡ false
      → value_by k.progress.committed letters ≡ k'.progress.committed
      → ((history : List Command) → Keeps (running_in device k) (machine_by k history)
      → (m : Machine) × (m.acknowledged ≡ acknowledged_by k history ++ new_commands (judged k.board.opened.rules (acknowledged_by k history) letters))
      × Keeps (running_in device k') m)
      → IsKept device k'
  grown_kept join {k} {k'} letters is began opened list pending free leads moves = record {
    shown = rw (opened, list) (lead_one k.board.opened k.board.list letters ∙ (ap (λ (v : AuctionValue). value_by v letters) is.shown ∙ leads));
    prepared = pending ∙ sym (free_pending k'.progress.commit free);
    judged = λ busy. idle free busy;
    working = λ busy. idle free busy;
    told = began.1;
    begins = begun_on is began.0 opened;
    keeps = λ history stands.
        let moved = moves history (is.keeps history (stood history began.0 stands)) in
        let e : acknowledged_by k' history ≡ acknowledged_by k history ++ new_commands (judged k.board.opened.rules (acknowledged_by k history) letters) =
        rw (opened, list) (history_one join k.board.opened.rules history k.board.list letters) in
        kept_as k' moved.0 (acknowledged_by k' history) moved.2 (moved.1 ∙ sym e);
  }

  -- if no letter is new, they are answered at once
  pub answered_kept : JudgedIsShown → JudgedJoin → {k k' : Keeping D} (letters : List Letter) → IsKept device k → GoesOn k k'
      → k'.board.opened ≡ k.board.opened → k'.board.list ≡ k.board.list ++ letters ∷ [] → k'.board.pending ≡ []
      → k'.progress ≡ k.progress → k'.progress.commit.busy ≡ false → AreOld k.progress letters
      → ((machine : Machine) → Keeps (running_in device k) machine → Keeps (running_in device k') (take_letters k.progress.committed.rules machine letters).machine)
      → IsKept device k'
  answered_kept shown_law join {k} {k'} letters is began opened list pending same free old keeps =
      let stays : value_by k.progress.committed letters ≡ k.progress.committed = sym (new_after k.progress.committed letters) ∙ ap (value_after k.progress.committed) old in
      grown_kept join letters is began opened list pending free (stays ∙ ap (λ (s : Progress). s.committed) (sym same))
      (λ history before.
      let m = machine_by k history in
      let none : new_commands (judged k.board.opened.rules (acknowledged_by k history) letters) ≡ [] =
      ap new_commands (sym (answered_so shown_law k is.shown (acknowledged_by k history) before.shows letters)) ∙ old in (
        (take_letters k.progress.committed.rules m letters).machine,
        taken_acknowledged k.progress.committed.rules m letters
            ∙ sym (ap (λ (commands : List Command). acknowledged_by k history ++ commands) none ∙ append-nil (acknowledged_by k history)),
        keeps m before,
      ))

  -- the batch in flight is acknowledged
  acknowledged_kept : JudgedIsShown → JudgedJoin → {k k' : Keeping D} → IsKept device k → GoesOn k k'
      → k'.board.opened ≡ k.board.opened → k'.board.list ≡ k.board.list ++ k.board.pending → k'.board.pending ≡ []
      → k.progress.commit.busy ≡ true → k.progress.commit.turns ≡ 3 → k'.progress ≡ acknowledged k.progress
      → ((machine : Machine) → Keeps (running_in device k) machine → Keeps (running_in device k') (turn true machine).machine)
      → IsKept device k'
  acknowledged_kept shown_law join {k} {k'} is began opened list pending busy turns next keeps =
      let letters = letters_of k.progress.commit.answers in
      let grown : k'.board.list ≡ k.board.list ++ letters ∷ [] = list ∙ ap (λ (l : List (List Letter)). k.board.list ++ l) (is.prepared ∙ busy_pending k.progress.commit busy) in
      grown_kept join letters is began opened grown pending (ap (λ (s : Progress). s.commit.busy) next) (sym (is.working busy) ∙ sym (ap (λ (s : Progress). s.committed) next))
      (λ history before.
      let m = machine_by k history in
      let flight : Flight = record { answers = k.progress.commit.answers; turns = k.progress.commit.turns } in
      let at : m ≡ record { acknowledged = acknowledged_by k history; flight = Some flight } =
      same_machine m (acknowledged_by k history) (Some flight) refl (busy_flight k.progress.commit busy) in
      let is_last : (flight.turns == landed) ≡ true = grind (arith, nat_tests, turns) in
      let gives : (turn true m).machine.acknowledged ≡ acknowledged_by k history ++ new_commands k.progress.commit.answers =
      ap (λ (n : Machine). (turn true n).machine.acknowledged) at ∙ last_acknowledged (acknowledged_by k history) flight is_last in
      let so : k.progress.commit.answers ≡ judged k.board.opened.rules (acknowledged_by k history) letters =
      is.judged busy ∙ answered_so shown_law k is.shown (acknowledged_by k history) before.shows letters in
      ((turn true m).machine, gives ∙ ap (λ (answers : List Answer). acknowledged_by k history ++ new_commands answers) so, keeps m before))

  -- the last turn, which publishes the prepared batch
  pub done_kept : JudgedIsShown → JudgedJoin → {k k' : Keeping D} (result : Result Step Fault) → IsDone result → IsKept device k → GoesOn k k'
      → k'.board.opened ≡ k.board.opened → k'.board.list ≡ k.board.list ++ k.board.pending → k'.board.pending ≡ []
      → TurnLeads k.failed result k.progress k'.progress
      → ((machine : Machine) → Keeps (running_in device k) machine → Keeps (running_in device k') (turn_by result machine).machine)
      → IsKept device k'
  done_kept shown_law join (Ok steps.Idle) done is began opened list pending leads keeps = absurd done
  done_kept shown_law join (Ok steps.Went) done is began opened list pending leads keeps = absurd done
  done_kept shown_law join (Ok (steps.Done answers)) done is began opened list pending leads keeps =
      acknowledged_kept shown_law join is began opened list pending leads.1 leads.2 leads.4 keeps
  done_kept shown_law join (Err fault) done is began opened list pending leads keeps = absurd done

  -- a turn that isn't the last one
  pub turned_kept : {k k' : Keeping D} (result : Result Step Fault) → IsNotDone result → IsKept device k → GoesOn k k' → k'.board ≡ k.board
      → TurnLeads k.failed result k.progress k'.progress
      → ((machine : Machine) → Keeps (running_in device k) machine → Keeps (running_in device k') (turn_by result machine).machine)
      → IsKept device k'
  turned_kept {k} {k'} (Ok steps.Idle) not is began board leads keeps =
      quiet_kept is began board (alike k.progress leads.2)
      (λ history old. ((turn true (machine_by k history)).machine, idle_acknowledged k.progress (acknowledged_by k history) leads.1, keeps (machine_by k history) old))
  turned_kept {k} {k'} (Ok steps.Went) not is began board leads keeps =
      quiet_kept is began board (alike (turned k.progress (k.progress.commit.turns + 1)) leads.3)
      (λ history old. ((turn true (machine_by k history)).machine, went_acknowledged k.progress (acknowledged_by k history) leads.1 leads.2, keeps (machine_by k history) old))
  turned_kept (Ok (steps.Done answers)) not is began board leads keeps = absurd not
  turned_kept {k} {k'} (Err faults.Device) not is began board leads keeps =
      quiet_kept is began board (device_alike k.progress k'.progress leads.2 leads.3 (k.progress.commit.turns == 2) refl)
      (λ history old. ((turn false (machine_by k history)).machine, failed_acknowledged (machine_by k history), keeps (machine_by k history) old))
  turned_kept {k} {k'} (Err faults.Failed) not is began board leads keeps =
      quiet_kept is began board (alike k.progress leads.1) (λ history old. (machine_by k history, refl, keeps (machine_by k history) old))
