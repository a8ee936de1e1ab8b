-- The invariant of the machine without a disk over moves, and the joining of events.
use Rattle.std.proofs.Common.{◌≡◌, ℕ, suc, ◌≤◌, Bool, true, false, ◌||◌, eqb, List, [], ◌∷◌, ◌++◌, Option, Some, None, length, refl, sym, ap, ◌∙◌, ⊎_elim, arith, subst, append_assoc}
use Rattle.std.specs.Prelude.{if◌then◌else◌, All}
use Rattle.std.proofs.lemmas.Bool.{eqb-false}
use Rattle.std.proofs.lemmas.List.Elements.{All-append, All-nil}
use Rattle.hpb_rules.specs.declared.command.Command.{Command}
use Rattle.hpb_rules.specs.declared.letter.Answer.{Answer}
use Rattle.hpb_rules.specs.declared.letter.Letter.{Letter}
use Rattle.hpb_rules.specs.Tree.{Rules}
use Rattle.hpb_rules.specs.Answer.{IsHistory}
use Rattle.hpb_rules.specs.Fronts.{IsFront}
use Rattle.hpb_rules.specs.Letters.{Fits, judged, new_commands}
use Rattle.hpb_rules.specs.Machine.{Flight, Machine, Event, offer, commit, failed_commit, Effect, landed, at_rest, in_flight, offered, turned, turn, take_letters, effect_of, run, MayStand, Moves, event, stop, Reaches, here, further}
use Rattle.hpb_rules.specs.MachineLaws.{IsSoundFlight, IsSound, RestIsSound, MachineKeeps, RunIsMoves, RunJoins}
use Rattle.hpb_rules.proofs.Lists.{append_nil, front_self, front_trans}
use Rattle.hpb_rules.proofs.Letters.{all_fit_more, judged_history, judged_fit}

module _ (rules : Rules) where
  -- a move keeps the machine sound, and the answers that left fit the acknowledged commands
  record Kept (before : Machine) (leaving : List Answer) (after : Machine) : Type 0 where
    sound : IsSound rules after
    grows : IsFront before.acknowledged after.acknowledged
    fits : All (Fits rules after.acknowledged) leaving

  -- ---- sound machines
  resting : (history : List Command) → IsHistory rules history → IsSound rules (at_rest history)
  resting history is = record { history = is; flying = λ flight e. absurd (cc) }

  flying : (history : List Command) (flight : Flight) → IsHistory rules history → IsSoundFlight rules history flight → IsSound rules (record { acknowledged = history; flight = Some flight })
  flying history flight is sound = record { history = is; flying = λ other e. let same : flight ≡ other = cc in subst (IsSoundFlight rules history) same sound }

  -- a flight's commands continue the acknowledged ones
  flight_history : (history : List Command) (flight : Flight) → IsHistory rules history → IsSoundFlight rules history flight → IsHistory rules (history ++ new_commands flight.answers)
  flight_history history flight is sound = subst (λ answers. IsHistory rules (history ++ new_commands answers)) (sym sound.answers) (judged_history rules sound.letters history is)

  flight_fits : (history : List Command) (flight : Flight) → IsSoundFlight rules history flight → All (Fits rules (history ++ new_commands flight.answers)) flight.answers
  flight_fits history flight sound = subst (λ answers. All (Fits rules (history ++ new_commands answers)) answers) (sym sound.answers) (judged_fit rules sound.letters history)

  -- ---- one event
  same_kept : (machine : Machine) → IsSound rules machine → Kept machine [] machine
  same_kept machine is = record { sound = is; grows = front_self machine.acknowledged; fits = All-nil (Fits rules machine.acknowledged) }

  offered_kept : (history : List Command) (letters : List Letter) (new : List Command) → new_commands (judged rules history letters) ≡ new → IsHistory rules history
      → let effect = offered history (judged rules history letters) new in Kept (at_rest history) effect.leaving effect.machine
  offered_kept history letters [] e is = record {
    sound = resting history is;
    grows = front_self history;
    fits = subst (λ seen. All (Fits rules seen) (judged rules history letters)) (ap (λ l. history ++ l) e ∙ sym (append_nil history)) (judged_fit rules letters history);
  }
  offered_kept history letters (command ∷ more) e is = record {
    sound = flying history (record { answers = judged rules history letters; turns = 0 }) is (record {
      letters = letters;
      answers = refl;
      accepts = let count : length (new_commands (judged rules history letters)) ≡ suc (length more) = ap length e in omega arith;
      turns = omega arith;
    });
    grows = front_self history;
    fits = All-nil (Fits rules history);
  }

  turned_kept : (works : Bool) (history : List Command) (flight : Flight) → IsHistory rules history → IsSoundFlight rules history flight
      → let effect = turned works history flight in Kept (record { acknowledged = history; flight = Some flight }) effect.leaving effect.machine
  turned_kept works history flight is sound = by (eqb flight.turns landed) refl works (works || eqb (suc flight.turns) landed)
    where
      before : Machine
      before = record { acknowledged = history; flight = Some flight }

      flies_on : (turns : ℕ) → turns ≤ landed → Kept before [] (in_flight history flight.answers turns)
      flies_on turns few = record {
        sound = flying history (record { answers = flight.answers; turns = turns }) is (record { letters = sound.letters; answers = sound.answers; accepts = sound.accepts; turns = few });
        grows = front_self history;
        fits = All-nil (Fits rules history);
      }

      acknowledged : Kept before flight.answers (at_rest (history ++ new_commands flight.answers))
      acknowledged = record {
        sound = resting (history ++ new_commands flight.answers) (flight_history history flight is sound);
        grows = (new_commands flight.answers, refl);
        fits = flight_fits history flight sound;
      }

      by : (a : Bool) → eqb flight.turns landed ≡ a → (b c : Bool)
          → let effect : Effect =
          if a then
          (if b then record { leaving = flight.answers; machine = at_rest (history ++ new_commands flight.answers) }
          else record { leaving = []; machine = in_flight history flight.answers landed })
          else
          (if c then record { leaving = []; machine = in_flight history flight.answers (suc flight.turns) }
          else record { leaving = []; machine = in_flight history flight.answers flight.turns })
          in Kept before effect.leaving effect.machine
      by true e true c = acknowledged
      by true e false c = flies_on landed (omega arith)
      by false e b true = flies_on (suc flight.turns) (omega (arith, sound.turns, eqb-false flight.turns landed e))
      by false e b false = flies_on flight.turns sound.turns

  turn_kept : (works : Bool) (history : List Command) (flight : Option Flight) → IsSound rules (record { acknowledged = history; flight = flight })
      → let effect = turn works (record { acknowledged = history; flight = flight }) in Kept (record { acknowledged = history; flight = flight }) effect.leaving effect.machine
  turn_kept works history None is = same_kept (at_rest history) is
  turn_kept works history (Some flight) is = turned_kept works history flight is.history (is.flying flight refl)

  letters_kept : (history : List Command) (flight : Option Flight) (letters : List Letter) → IsSound rules (record { acknowledged = history; flight = flight })
      → let effect = take_letters rules (record { acknowledged = history; flight = flight }) letters in Kept (record { acknowledged = history; flight = flight }) effect.leaving effect.machine
  letters_kept history None letters is = offered_kept history letters (new_commands (judged rules history letters)) refl is.history
  letters_kept history (Some flight) letters is = same_kept (record { acknowledged = history; flight = Some flight }) is

  event_kept : (machine : Machine) (what : Event) → IsSound rules machine → Kept machine (effect_of rules machine what).leaving (effect_of rules machine what).machine
  event_kept machine (offer letters) is = letters_kept machine.acknowledged machine.flight letters is
  event_kept machine commit is = turn_kept true machine.acknowledged machine.flight is
  event_kept machine failed_commit is = turn_kept false machine.acknowledged machine.flight is

  -- ---- a stop
  stands_after : (acknowledged : List Command) (flight : Option Flight) → IsSound rules (record { acknowledged = acknowledged; flight = flight })
      → (history : List Command) → MayStand (record { acknowledged = acknowledged; flight = flight }) history → IsHistory rules history × IsFront acknowledged history
  stands_after acknowledged None is history may = (subst (IsHistory rules) (sym may) is.history, subst (IsFront acknowledged) (sym may) (front_self acknowledged))
  stands_after acknowledged (Some flight) is history may = ⊎_elim
      (λ same. (subst (IsHistory rules) (sym same) is.history, subst (IsFront acknowledged) (sym same) (front_self acknowledged)))
      (λ more. (subst (IsHistory rules) (sym more.1) (flight_history acknowledged flight is.history (is.flying flight refl)), (new_commands flight.answers, more.1)))
      may

  stop_kept : (machine : Machine) (history : List Command) → MayStand machine history → IsSound rules machine → Kept machine [] (at_rest history)
  stop_kept machine history may is =
      let stands : IsHistory rules history × IsFront machine.acknowledged history = stands_after machine.acknowledged machine.flight is history may in
      record { sound = resting history stands.0; grows = stands.1; fits = All-nil (Fits rules history) }

  -- ---- moves one after another
  move_kept : {before after : Machine} {leaving : List Answer} → Moves rules before leaving after → IsSound rules before → Kept before leaving after
  move_kept (event {before = before} what) is = event_kept before what is
  move_kept (stop {before = before} {history = history} may) is = stop_kept before history may is

  joined_kept : (before between after : Machine) (leaving more : List Answer) → Kept before leaving between → Kept between more after → Kept before (leaving ++ more) after
  joined_kept before between after leaving more first rest = record {
    sound = rest.sound;
    grows = front_trans before.acknowledged between.acknowledged after.acknowledged first.grows rest.grows;
    fits = All-append (Fits rules after.acknowledged) leaving more
        (subst (λ seen. All (Fits rules seen) leaving) (sym rest.grows.1) (all_fit_more rules between.acknowledged rest.grows.0 leaving first.fits))
        rest.fits;
  }

  moves_kept : {before after : Machine} {leaving : List Answer} → Reaches rules before leaving after → IsSound rules before → Kept before leaving after
  moves_kept (here {machine = machine}) is = same_kept machine is
  moves_kept (further {before = before} {between = between} {after = after} {leaving = leaving} {more = more} move moves) is =
      let first : Kept before leaving between = move_kept move is in
      joined_kept before between after leaving more first (moves_kept moves first.sound)

  -- ---- events one after another
  reached : (events : List Event) (before : Machine) → Reaches rules before (run rules before events).leaving (run rules before events).machine
  reached [] before = here
  reached (what ∷ events) before = further (event what) (reached events (effect_of rules before what).machine)

  joined_machine : (events more : List Event) (machine : Machine) → (run rules machine (events ++ more)).machine ≡ (run rules (run rules machine events).machine more).machine
  joined_machine [] more machine = refl
  joined_machine (what ∷ events) more machine = joined_machine events more (effect_of rules machine what).machine

  joined_leaving : (events more : List Event) (machine : Machine)
      → (run rules machine (events ++ more)).leaving ≡ (run rules machine events).leaving ++ (run rules (run rules machine events).machine more).leaving
  joined_leaving [] more machine = refl
  joined_leaving (what ∷ events) more machine =
      let first : Effect = effect_of rules machine what in
      ap (λ answers. first.leaving ++ answers) (joined_leaving events more first.machine)
      ∙ sym (append_assoc first.leaving (run rules first.machine events).leaving (run rules (run rules first.machine events).machine more).leaving)

pub rest_is_sound : RestIsSound
rest_is_sound rules history is = resting rules history is

pub machine_keeps : MachineKeeps
machine_keeps rules before after leaving is moves =
    let kept : Kept rules before leaving after = moves_kept rules moves is in
    record {
      sound = kept.sound;
      grows = kept.grows;
      stands = λ history may. stands_after rules after.acknowledged after.flight kept.sound history may;
      fits = kept.fits;
    }

pub run_is_moves : RunIsMoves
run_is_moves rules before events = reached rules events before

pub run_joins : RunJoins
run_joins rules machine events more = (joined_leaving rules events more machine, joined_machine rules events more machine)
