-- Events are moves of the machine without a disk, and the facts that the machine keeps are kept.
use Rattle.std.proofs.Common.{◌≡◌, inl, inr, ℕ, suc, ◌+◌, ◌≤◌, Bool, true, false, List, [], ◌∷◌, ◌++◌, Option, Some, None, Result, Ok, Err, length, refl, sym, ◌∙◌, ap, subst, arith, append_assoc}
use Rattle.std.proofs.lemmas.List.{append-nil}
use Rattle.std.specs.Prelude.{slice_index_or}
use Rattle.hpb_rules.specs.declared.command.Command.{Command}
use Rattle.hpb_rules.specs.declared.letter.Answer.{Answer}
use Rattle.hpb_rules.specs.declared.letter.Letter.{Letter}
use Rattle.hpb_rules.specs.Answer.{IsHistory}
use Rattle.hpb_rules.specs.Fronts.{IsFront}
use Rattle.hpb_rules.specs.Letters.{Fits}
use Rattle.hpb_rules.specs.Machine as machine
use Rattle.hpb_rules.specs.Machine.{Machine, MayStand, at_rest, run, turn, take_letters}
use Rattle.hpb_rules.specs.MachineLaws.{IsDurable, RestIsSound, RunIsMoves, RunJoins}
use Rattle.hpb_rules.specs.LetterLaws.{FitsGrow}
use Rattle.hpb_rules.specs.Tree.{Rules}
use Rattle.hpb_rules.proofs.Lists.{front_trans}
use Rattle.hpb_rules.proofs.RunLaws.{machine_keeps}
use Rattle.hpb_recover.specs.Standing.{Stands}
use Rattle.hpb_engine.specs.declared.begun.Begun.TheVariants as begun
use Rattle.hpb_engine.specs.declared.event.Event.{Event}
use Rattle.hpb_engine.specs.declared.event.Event.TheVariants as events
use Rattle.hpb_engine.specs.declared.step.Fault.{Fault}
use Rattle.hpb_engine.specs.declared.step.Fault.TheVariants as faults
use Rattle.hpb_engine.specs.declared.step.Rest.{Rest}
use Rattle.hpb_engine.specs.declared.step.Step.{Step}
use Rattle.hpb_engine.specs.declared.progress.Progress.{Progress}
use Rattle.std.proofs.lemmas.Bool.Decides.{nat_tests}
use Rattle.hpb_engine.specs.Checkpoints.{CheckpointLeads, checkpoint_calls}
use Rattle.hpb_engine.specs.Steps.{turn_calls}
use Rattle.hpb_disk.specs.Device.{Device}
use Rattle.hpb_engine.specs.Keeping.{Running}
use Rattle.hpb_engine.specs.Runs.{Drove, Follows, Holds, IsStepped, IsTurned, Pause, Ran, StandsAtOne}
use Rattle.hpb_engine.specs.Runs as runs
use Rattle.hpb_engine.specs.Points.{Point, IsMove, GoesOn, Go, start_at, last_of, machine_at, told_at, acknowledged_at, AreOfPauses, MayStandAt, IsCounted, IsKept, Survives}

-- What an event does to the machine is what moves do.
record Moved (rules : Rules) (event : Event) (before after : Pause) (leaving : List Answer) (fault : Option Fault) : Type 0 where
  moves : List machine.Event
  is : IsMove event moves
  becomes : after.machine ≡ (run rules before.machine moves).machine
  leaves : leaving ≡ (run rules before.machine moves).leaving
  ruled : after.progress.committed.rules ≡ rules
  later : before.moment ≤ after.moment
  next : after.moment ≤ before.moment + 1
  works : fault ≡ None → after.failed ≡ false

-- There is one call of the device at most.
one_turn : (failed : Bool) (s : Progress) → turn_calls failed s ≤ 1
one_turn failed s = grind (arith, nat_tests)

one_step : (failed : Bool) (s : Progress) → checkpoint_calls failed s ≤ 1
one_step failed s = grind (arith, nat_tests)

module _ (rules : Rules) (before after : Pause) (leaving : List Answer) (fault : Option Fault) where
  -- Letters that are handed back are no move.
  handed_back : (letters : List Letter) → after.machine ≡ before.machine → leaving ≡ [] → after.progress.committed.rules ≡ rules → after.moment ≡ before.moment → after.failed ≡ false
      → Moved rules (events.Offer letters) before after leaving fault
  handed_back letters becomes leaves ruled moment works = record {
    moves = [];
    is = inr refl;
    becomes = becomes;
    leaves = leaves;
    ruled = ruled;
    later = omega (arith, moment);
    next = omega (arith, moment);
    works = λ well. works;
  }

  -- Letters that are taken are one move.
  taken : (letters : List Letter) → after.machine ≡ (take_letters rules before.machine letters).machine → leaving ≡ (take_letters rules before.machine letters).leaving
      → after.progress.committed.rules ≡ rules → after.moment ≡ before.moment → after.failed ≡ false → Moved rules (events.Offer letters) before after leaving fault
  taken letters becomes leaves ruled moment works = record {
    moves = machine.offer letters ∷ [];
    is = inl refl;
    becomes = becomes;
    leaves = leaves ∙ sym (append-nil (take_letters rules before.machine letters).leaving);
    ruled = ruled;
    later = omega (arith, moment);
    next = omega (arith, moment);
    works = λ well. works;
  }

  -- A turn is one move, whatever becomes of it.
  turned : (result : Result Step Fault) → IsTurned result before after leaving → before.progress.committed.rules ≡ rules → (move : machine.Event) → IsMove events.Commit (move ∷ [])
      → after.machine ≡ (run rules before.machine (move ∷ [])).machine → leaving ≡ (run rules before.machine (move ∷ [])).leaving → (fault ≡ None → after.failed ≡ false)
      → Moved rules events.Commit before after leaving fault
  turned result told ruled move is becomes leaves works = record {
    moves = move ∷ [];
    is = is;
    becomes = becomes;
    leaves = leaves;
    ruled = told.rules ∙ ruled;
    later = told.later;
    next = omega (arith, told.call, one_turn before.failed before.progress);
    works = works;
  }

  -- A step of a checkpoint is no move.
  stepped : (result : Result Rest Fault) → IsStepped result before after leaving → before.progress.committed.rules ≡ rules → (fault ≡ None → after.failed ≡ false)
      → Moved rules events.Checkpoint before after leaving fault
  stepped result told ruled works = record {
    moves = [];
    is = refl;
    becomes = told.machine;
    leaves = told.answers;
    ruled = ap (λ (v : _). v.rules) told.same.committed ∙ ruled;
    later = told.later;
    next = omega (arith, told.call, one_step before.failed before.progress);
    works = works;
  }

moved : (rules : Rules) (event : Event) (before after : Pause) (leaving : List Answer) (fault : Option Fault)
    → before.failed ≡ false → before.progress.committed.rules ≡ rules → Follows event before after leaving fault → Moved rules event before after leaving fault
moved rules (events.Offer letters) before after leaving fault works ruled (begun.Failed back, told, none) =
    handed_back rules before after leaving fault letters told.machine told.answers (ap (λ (p : _). p.committed.rules) told.stays ∙ ruled) told.moment (told.failed ∙ works)
moved rules (events.Offer letters) before after leaving fault works ruled (begun.Busy back, told, none) =
    handed_back rules before after leaving fault letters told.machine told.answers (ap (λ (p : _). p.committed.rules) told.stays ∙ ruled) told.moment (told.failed ∙ works)
moved rules (events.Offer letters) before after leaving fault works ruled (begun.Full back, told, none) =
    handed_back rules before after leaving fault letters told.machine told.answers (ap (λ (p : _). p.committed.rules) told.stays ∙ ruled) told.moment (told.failed ∙ works)
moved rules (events.Offer letters) before after leaving fault works ruled (begun.Answered answers, told, none) =
    taken rules before after leaving fault letters (told.machine ∙ ap (λ (r : Rules). (take_letters r before.machine letters).machine) ruled)
    (told.answers ∙ ap (λ (r : Rules). (take_letters r before.machine letters).leaving) ruled) (ap (λ (p : _). p.committed.rules) told.stays ∙ ruled) told.moment (told.failed ∙ works)
moved rules (events.Offer letters) before after leaving fault works ruled (begun.InFlight, told, none) =
    taken rules before after leaving fault letters (told.machine ∙ ap (λ (r : Rules). (take_letters r before.machine letters).machine) ruled)
    (told.answers ∙ ap (λ (r : Rules). (take_letters r before.machine letters).leaving) ruled) (ap (λ (p : _). p.committed.rules) told.stays ∙ ruled) told.moment (told.failed ∙ works)
moved rules events.Commit before after leaving fault works ruled (Ok step, told, none) =
    turned rules before after leaving fault (Ok step) told ruled machine.commit (inl refl) told.machine (told.answers ∙ sym (append-nil (turn true before.machine).leaving)) (λ well. told.failed)
moved rules events.Commit before after leaving fault works ruled (Err faults.Device, told, none) =
    turned rules before after leaving fault (Err faults.Device) told ruled machine.failed_commit (inr refl) told.machine (told.answers ∙ sym (append-nil (turn false before.machine).leaving))
    (λ well. absurd (let no : Some faults.Device ≡ None = sym none ∙ well in cc))
moved rules events.Commit before after leaving fault works ruled (Err faults.Failed, told, none) = absurd (let no : true ≡ false = sym told.leads.0 ∙ works in cc)
moved rules events.Checkpoint before after leaving fault works ruled (Ok rest, told, none) = stepped rules before after leaving fault (Ok rest) told ruled (λ well. told.failed)
moved rules events.Checkpoint before after leaving fault works ruled (Err faults.Device, told, none) =
    stepped rules before after leaving fault (Err faults.Device) told ruled (λ well. absurd (let no : Some faults.Device ≡ None = sym none ∙ well in cc))
moved rules events.Checkpoint before after leaving fault works ruled (Err faults.Failed, told, none) =
    absurd ((subst (λ (f : Bool). CheckpointLeads f (Err faults.Failed) before.progress after.progress) works told.leads).1 refl)

abbrev point_of : Pause → List machine.Event → Point
point_of pause moves = record { moment = pause.moment; moves = moves }

module _ (run_joins : RunJoins) (rules : Rules) (first : List Command) where
  record Followed (events : List Event) (pause : Pause) (moves : List machine.Event) (pauses : List Pause) (answers : List Answer) (fault : Option Fault) : Type 0 where
    points : List Point
    go : Go events (point_of pause moves) points
    same : AreOfPauses rules first (pause ∷ pauses) (point_of pause moves ∷ points)
    all : fault ≡ None → length points ≡ length events
    told : told_at rules first (point_of pause moves) ++ answers ≡ told_at rules first (last_of (point_of pause moves) points)
    ends : (last_of (point_of pause moves) points).moment ≡ (runs.last_of pause pauses).moment

  -- After one more event the machine is at its next point.
  module _ (event : Event) (pause after : Pause) (moves : List machine.Event) (leaving : List Answer) (fault : Option Fault) (is : machine_at rules first (point_of pause moves) ≡ pause.machine)
      (it : Moved rules event pause after leaving fault) where
    joins : machine_at rules first (point_of after (moves ++ it.moves)) ≡ after.machine
    joins = (run_joins rules (at_rest first) moves it.moves).1 ∙ ap (λ (m : Machine). (run rules m it.moves).machine) is ∙ sym it.becomes

    tells : told_at rules first (point_of after (moves ++ it.moves)) ≡ told_at rules first (point_of pause moves) ++ leaving
    tells = (run_joins rules (at_rest first) moves it.moves).0
        ∙ ap (λ (l : List Answer). told_at rules first (point_of pause moves) ++ l) (ap (λ (m : Machine). (run rules m it.moves).leaving) is ∙ sym it.leaves)

    goes : GoesOn event (point_of pause moves) (point_of after (moves ++ it.moves))
    goes = record { added = it.moves; is = it.is; moves = refl; later = it.later; next = it.next }

  followed : (events : List Event) (pause : Pause) (moves : List machine.Event) (pauses : List Pause) (answers : List Answer) (fault : Option Fault)
      → pause.failed ≡ false → pause.progress.committed.rules ≡ rules → machine_at rules first (point_of pause moves) ≡ pause.machine → Drove events pause pauses answers fault
      → Followed events pause moves pauses answers fault
  followed [] pause moves [] answers fault works ruled is drove = record {
    points = [];
    go = tt;
    same = (refl, is, tt);
    all = λ none. refl;
    told = ap (λ (l : List Answer). told_at rules first (point_of pause moves) ++ l) drove.0 ∙ append-nil (told_at rules first (point_of pause moves));
    ends = refl;
  }
  followed [] pause moves (after ∷ pauses) answers fault works ruled is drove = absurd drove
  followed (event ∷ events) pause moves [] answers fault works ruled is drove = absurd drove
  followed (event ∷ events) pause moves (after ∷ pauses) answers fault works ruled is (inl it) =
      let step = moved rules event pause after it.0 None works ruled it.2 in
      let rest = followed events after (moves ++ step.moves) pauses it.1 fault (step.works refl) step.ruled (joins event pause after moves it.0 None is step) it.3 in
      record {
        points = point_of after (moves ++ step.moves) ∷ rest.points;
        go = (goes event pause after moves it.0 None is step, rest.go);
        same = (refl, is, rest.same);
        all = λ none. ap suc (rest.all none);
        told = ap (λ (l : List Answer). told_at rules first (point_of pause moves) ++ l) it.4 ∙ sym (append_assoc (told_at rules first (point_of pause moves)) it.0 it.1)
            ∙ ap (λ (l : List Answer). l ++ it.1) (sym (tells event pause after moves it.0 None is step)) ∙ rest.told;
        ends = rest.ends;
      }
  followed (event ∷ events) pause moves (after ∷ pauses) answers fault works ruled is (inr it) =
      let step = moved rules event pause after answers (Some it.0) works ruled it.1 in
      record {
        points = point_of after (moves ++ step.moves) ∷ [];
        go = (goes event pause after moves answers (Some it.0) is step, tt);
        same = subst (λ (ms : List Pause). AreOfPauses rules first (pause ∷ after ∷ ms) (point_of pause moves ∷ point_of after (moves ++ step.moves) ∷ [])) (sym it.2)
            (refl, is, (refl, joins event pause after moves answers (Some it.0) is step, tt));
        all = λ none. absurd (let no = sym none ∙ it.3 in cc);
        told = sym (tells event pause after moves answers (Some it.0) is step);
        ends = ap (λ (ms : List Pause). (runs.last_of after ms).moment) (sym it.2);
      }

-- ---- facts that the machine keeps
module _ (run_joins : RunJoins) (run_is_moves : RunIsMoves) (rest_is_sound : RestIsSound) (fits_grow : FitsGrow) (counts : (rules : Rules) (seen : List Command) (answered : Answer) → Fits rules seen answered → IsCounted seen answered)
    (rules : Rules) (first : List Command) (is : IsHistory rules first) where
  durable : (moves : List machine.Event) → IsDurable rules (at_rest first) (run rules (at_rest first) moves).leaving (run rules (at_rest first) moves).machine
  durable moves = machine_keeps rules (at_rest first) (run rules (at_rest first) moves).machine (run rules (at_rest first) moves).leaving (rest_is_sound rules first is) (run_is_moves rules (at_rest first) moves)

  grows_by : (before added : List machine.Event) → IsFront (run rules (at_rest first) before).machine.acknowledged (run rules (at_rest first) (before ++ added)).machine.acknowledged
  grows_by before added =
      let m : Machine = (run rules (at_rest first) before).machine in
      subst (λ (n : Machine). IsFront m.acknowledged n.acknowledged) (sym (run_joins rules (at_rest first) before added).1)
      (machine_keeps rules m (run rules m added).machine (run rules m added).leaving (durable before).sound (run_is_moves rules m added)).grows

  grows_on : (event : Event) (p q : Point) → GoesOn event p q → IsFront (acknowledged_at rules first p) (acknowledged_at rules first q)
  grows_on event p q step =
      subst (λ (ms : List machine.Event). IsFront (acknowledged_at rules first p) (run rules (at_rest first) ms).machine.acknowledged) (sym step.moves) (grows_by p.moves step.added)

  begins_at : (events : List Event) (p : Point) (later : List Point) (history : List Command) → Go events p later → MayStandAt rules first (p ∷ later) history → IsFront (acknowledged_at rules first p) history
  begins_at events p later history go (inl here) = ((durable p.moves).stands history here).1
  begins_at events p [] history go (inr none) = absurd none
  begins_at [] p (q ∷ later) history go (inr there) = absurd go
  begins_at (event ∷ events) p (q ∷ later) history go (inr there) =
      front_trans (acknowledged_at rules first p) (acknowledged_at rules first q) history (grows_on event p q go.0) (begins_at events q later history go.1 there)

  among : (pauses : List Pause) (points : List Point) (image : List ℕ) → AreOfPauses rules first pauses points → StandsAtOne pauses image
      → (history : List Command) × MayStandAt rules first points history × Stands history image
  among [] points image same stands = absurd stands
  among (pause ∷ pauses) [] image same stands = absurd same
  among (pause ∷ pauses) (p ∷ points) image same (inl here) = (here.0, inl (subst (λ (m : Machine). MayStand m here.0) (sym same.1) here.1), here.2)
  among (pause ∷ pauses) (p ∷ points) image same (inr there) =
      let found = among pauses points image same.2 there in (found.0, inr found.1, found.2)

  holds_here : (now : ℕ) (since : ℕ → List ℕ → Type 0) (pause : Pause) (pauses : List Pause) → Holds now since pause pauses → (image : List ℕ) → since pause.moment image → StandsAtOne (pause ∷ pauses) image
  holds_here now since pause [] holds image left = holds.1 image left
  holds_here now since pause (next ∷ pauses) holds image left = holds.1 image left

  kept_here : (now : ℕ) (since : ℕ → List ℕ → Type 0) (events : List Event) (pause : Pause) (pauses : List Pause) (p : Point) (points : List Point)
      → Holds now since pause pauses → Go events p points → AreOfPauses rules first (pause ∷ pauses) (p ∷ points) → IsKept rules first since p points
  kept_here now since events pause pauses p points holds go same =
      let d = durable p.moves in
      let acknowledged = acknowledged_at rules first p in
      let told = told_at rules first p in
      record {
        sound = d.sound;
        begins = d.grows;
        true_of = d.fits;
        counted = λ k answered less. counts rules acknowledged (slice_index_or told k answered) (d.fits k answered less);
        finds = λ image left.
            let found = among (pause ∷ pauses) (p ∷ points) image same (holds_here now since pause pauses holds image (subst (λ (t : ℕ). since t image) same.0 left)) in
            let begins = begins_at events p points found.0 go found.1 in
            record {
              history = found.0;
              stands = found.2;
              begins = begins;
              batches = found.1;
              true_of = λ k answered less. subst (λ (h : List Command). Fits rules h (slice_index_or told k answered)) (sym begins.1)
                  (fits_grow rules acknowledged begins.0 (slice_index_or told k answered) (d.fits k answered less));
            };
      }

  kept_all : (now : ℕ) (since : ℕ → List ℕ → Type 0) (events : List Event) (pause : Pause) (pauses : List Pause) (p : Point) (points : List Point)
      → Holds now since pause pauses → Go events p points → AreOfPauses rules first (pause ∷ pauses) (p ∷ points)
      → (before : List Point) (point : Point) (later : List Point) → p ∷ points ≡ before ++ point ∷ later → IsKept rules first since point later
  kept_all now since events pause pauses p points holds go same [] point later cut =
      let one : p ≡ point = cc in
      let rest : points ≡ later = cc in
      subst (λ (l : List Point). IsKept rules first since point l) rest (subst (λ (q : Point). IsKept rules first since q points) one (kept_here now since events pause pauses p points holds go same))
  kept_all now since events pause pauses p [] holds go same (b ∷ []) point later cut = absurd (cc)
  kept_all now since events pause pauses p [] holds go same (b ∷ d ∷ before) point later cut = absurd (cc)
  kept_all now since events pause [] p (q ∷ points) holds go same (b ∷ before) point later cut = absurd same.2
  kept_all now since [] pause (next ∷ pauses) p (q ∷ points) holds go same (b ∷ before) point later cut = absurd go
  kept_all now since (event ∷ events) pause (next ∷ pauses) p (q ∷ points) holds go same (b ∷ before) point later cut =
      let rest : q ∷ points ≡ before ++ point ∷ later = cc in
      kept_all now since events next pauses q points holds.2 go.1 same.2 before point later rest

  -- A run of an engine that keeps the first commands at rest.
  pub survived : (old : Device) (s : Progress) (events : List Event) (after : Running) (answers : List Answer) (fault : Option Fault) → s.committed.rules ≡ rules
      → (ran : Ran (record { moment = old.moment; progress = s; failed = false; machine = at_rest first }) events after answers fault)
      → (run : Survives rules first old after.device events answers fault)
      × AreOfPauses rules first (record { moment = old.moment; progress = s; failed = false; machine = at_rest first } ∷ ran.pauses) (start_at old ∷ run.points)
  survived old s events after answers fault ruled ran =
      let start : Pause = record { moment = old.moment; progress = s; failed = false; machine = at_rest first } in
      let it = followed run_joins rules first events start [] ran.pauses answers fault refl ruled refl ran.drove in (
        record {
          points = it.points;
          go = it.go;
          all = it.all;
          ends = it.ends ∙ ran.at_end;
          told = it.told;
          kept = kept_all after.device.moment after.device.left_since events start ran.pauses (point_of start []) it.points ran.holds it.go it.same;
        },
        it.same,
      )
