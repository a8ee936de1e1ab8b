-- The state of an engine after each piece of work for a desk.
use Rattle.std.proofs.Common.{◌≡◌, ◌≢◌, ◌⊎◌, inl, inr, ℕ, ◌<◌, ◌≤◌, Bool, true, false, Option, Some, None, List, [], ◌++◌, length, map, reverse, refl, sym, ◌∙◌, ap, subst, arith}
use Rattle.std.proofs.KnownBytes.{Appends-nil, Keeps-refl}
use Rattle.std.proofs.lemmas.Bool.Decides.{nat_tests}
use Rattle.std.proofs.lemmas.List.Elements.{All-nil}
use Rattle.hpb_rules.specs.declared.command.Command.{Command}
use Rattle.hpb_rules.specs.declared.letter.Answer.{Answer}
use Rattle.hpb_rules.specs.declared.letter.Letter.{Letter}
use Rattle.hpb_rules.specs.declared.limits.TheConstants.{MOST_LETTERS}
use Rattle.hpb_rules.specs.declared.refusal.Refusal.TheVariants as refusals
use Rattle.hpb_rules.specs.declared.reply.Reply.{Reply}
use Rattle.hpb_rules.specs.AuctionValue.{AuctionValue, Shows}
use Rattle.hpb_rules.specs.LetterLaws.{JudgedIsAnswered}
use Rattle.hpb_rules.specs.Letters.{judged, new_commands}
use Rattle.hpb_rules.specs.Machine.{Flight, Machine, at_rest, in_flight}
use Rattle.hpb_rules.specs.Tree.{Rules}
use Rattle.hpb_disk.specs.declared.disk.Disk.{Ghosts}
use Rattle.hpb_disk.specs.Device.{Device}
use Rattle.hpb_engine.specs.declared.engine.Engine.{Engine}
use Rattle.hpb_engine.specs.declared.step.Fault.{Fault}
use Rattle.hpb_engine.specs.Engines.{Keeps}
use Rattle.hpb_engine.specs.declared.step.Fault.TheVariants as faults
use Rattle.hpb_engine.specs.Runs.{HasFailed}
use Rattle.hpb_engine.specs.Steps.{refusal_of}
use Rattle.hpb_run.specs.Batches.{CheckpointTakes, KeepsEnded, LettersTake, MakesCheckpoint, StaysRefused, TellsFailures, moment_of}
use Rattle.hpb_server.specs.Desk.{LooksStay}
use Rattle.hpb_server.specs.Telling.{ExplainsAt, IsOfSentence}
use Rattle.hpb_run.specs.Device.{Phase, ShowsAt, State, device_ways, failed, failing, left_of, start_of, works}
use Rattle.hpb_run.specs.Standing.{AreAlike, HasAsked, IsCovered, StandsAt, commits_after, letter_of, refused, reply_of}
use Rattle.hpb_run.proofs.Asked.{all_by_rules, answered_state, judged_counted, judged_history, judged_replies, some_failed, some_failing}

-- An engine that hasn't failed is at a state in which all was answered by the rules.
works_by : (phase : Phase) (off : Bool) → (phase ≢ works → off ≡ true) → off ≡ false → phase ≡ works
works_by works off stopped on = refl
works_by (failing left) off stopped on = absurd (let yes = stopped (λ is. absurd (cc)) in cc)
works_by failed off stopped on = absurd (let yes = stopped (λ is. absurd (cc)) in cc)

-- Failures don't go back.
failures_grow : (fault : Option Fault) (old new : Device) → HasFailed fault old new → old.failures ≤ new.failures
failures_grow None old new has = omega (arith, has)
failures_grow (Some fault) old new has = omega (arith, has.1)

-- At most one commit is counted if counting began anew.
pub counted_anew : (commits now before after : ℕ) → commits ≡ 0 → now ≡ commits_after commits before after → now ≤ 1
counted_anew commits now before after zero is = grind (arith, nat_tests)

module _ {D : Type 0} {disk : Ghosts D} where
  -- A checkpoint was made, or the device has failed.
  pub covered_by : (old new : Engine D disk) (fault : Option Fault) → (fault ≡ None → CheckpointTakes old.progress new.progress (moment_of old) (moment_of new))
      → ((told : Fault) → fault ≡ Some told → new.failed ≡ true) → IsCovered old new
  covered_by old new None whole told_off = inr (whole refl)
  covered_by old new (Some fault) whole told_off = inl (told_off fault refl)

  -- An engine with nothing in flight is at a state in which all was answered by the rules.
  rest_stands : (engine : Engine D disk) (state : State) → state.phase ≡ works → Keeps engine (at_rest state.history) → engine.progress.committed.rules ≡ state.rules
      → (engine.failed ≡ true → (state.had_failed ≡ true) ⊎ (state.failures < (disk.device engine.disk).failures)) → state.failures ≤ (disk.device engine.disk).failures → StandsAt engine state
  rest_stands engine state at_work keeps rules cause counted = (
    record {
      machine = at_rest state.history;
      keeps = keeps;
      rules = rules;
      acknowledged = refl;
      rests = λ is. refl;
      stopped = λ stops. absurd (stops at_work);
      flown = λ left is. absurd (let no : works ≡ failing left = sym at_work ∙ is in cc);
      cause = cause;
      answered = ap left_of at_work;
    },
    counted,
  )

  -- An engine that has failed is at a state in which commands were refused.
  failed_stands : (engine : Engine D disk) (state : State) → state.phase ≢ works → left_of state.phase ≡ 0 → engine.failed ≡ true → (machine : Machine)
      → ((left : ℕ) → state.phase ≡ failing left → (flight : Flight) × (machine.flight ≡ Some flight)) → Keeps engine machine → engine.progress.committed.rules ≡ state.rules → machine.acknowledged ≡ state.history → (state.had_failed ≡ true) ⊎ (state.failures < (disk.device engine.disk).failures)
      → state.failures ≤ (disk.device engine.disk).failures → StandsAt engine state
  failed_stands engine state stops none is machine flown keeps rules acknowledged cause counted = (
    record {
      machine = machine;
      keeps = keeps;
      rules = rules;
      acknowledged = acknowledged;
      rests = λ at_work. absurd (stops at_work);
      stopped = λ phase. is;
      flown = flown;
      cause = λ failed. cause;
      answered = none;
    },
    counted,
  )

  -- Commands of which each was refused by 93 have their replies.
  all_failed : (engine : Engine D disk) (state : State) (commands : List Command) (told : List Reply) → 0 < length commands → left_of state.phase ≡ 0
      → told ≡ refused (length commands) refusals.Failed → StandsAt engine (record state { phase = failed }) → HasAsked engine state commands told
  all_failed engine state commands told some none are stands =
      (record state { phase = failed }, rw are (some_failed state commands some none), stands, refl)

  -- An engine with nothing in flight is at the state at the start.
  pub starts : (engine : Engine D disk) (history : List Command) → Keeps engine (at_rest history) → StandsAt engine (start_of engine history)
  starts engine history keeps = rest_stands engine (start_of engine history) refl keeps refl (λ is. inl is) (omega arith)

  module _ (old : Engine D disk) (state : State) (stands : StandsAt old state) where
    pub phase_is : old.failed ≡ false → state.phase ≡ works
    phase_is on = works_by state.phase old.failed stands.0.stopped on

    -- It keeps the acknowledged commands, with nothing in flight.
    pub keeps_rest : old.failed ≡ false → Keeps old (at_rest state.history)
    keeps_rest on = subst (Keeps old) (stands.0.rests (phase_is on)) stands.0.keeps

    -- Its committed auction is shown.
    pub shows_committed : ShowsAt state (Some old.progress.committed) state
    shows_committed =
        (old.progress.committed, refl, stands.0.rules, subst (Shows old.progress.committed) stands.0.acknowledged stands.0.keeps.shows, refl, stands.0.answered)

    -- An engine that has failed keeps the acknowledged commands alone, if all was answered by the rules.
    pub alike_failed : (commands : List Command) (told : List Reply) → told ≡ refused (length commands) refusals.Failed → AreAlike old state commands told
    alike_failed commands told are = inr (are, λ at_work. subst (Keeps old) (stands.0.rests at_work) stands.0.keeps)

    -- One that has failed refuses each command.
    pub failed_told : old.failed ≡ true → (commands : List Command) (told : List Reply) → 0 < length commands → told ≡ refused (length commands) refusals.Failed
        → HasAsked old state commands told
    failed_told is commands told some are =
        all_failed old state commands told some stands.0.answered are
        (failed_stands old (record state { phase = failed }) (λ at_work. absurd (cc)) refl is stands.0.machine (λ left no. absurd (cc)) stands.0.keeps stands.0.rules stands.0.acknowledged (stands.0.cause is) stands.1)

    module _ (on : old.failed ≡ false) (new : Engine D disk) where
      -- After a checkpoint it is at the same state.
      pub rested : (fault : Option Fault) → Keeps new (at_rest state.history) → MakesCheckpoint old new fault → HasFailed fault (disk.device old.disk) (disk.device new.disk) → StandsAt new state
      rested fault keeps made has =
          rest_stands new state (phase_is on) keeps (ap (λ (value : AuctionValue). value.rules) made.committed ∙ stands.0.rules) (λ is. inr (risen fault made.works has is))
          (omega (arith, stands.1, failures_grow fault (disk.device old.disk) (disk.device new.disk) has))
        where
          risen : (told : Option Fault) → (told ≡ None → old.failed ≡ false → new.failed ≡ false) → HasFailed told (disk.device old.disk) (disk.device new.disk) → new.failed ≡ true
              → state.failures < (disk.device new.disk).failures
          risen None working counts is = absurd (let no = working refl on in cc)
          risen (Some fault) working counts is = omega (arith, counts.1, stands.1)

      -- If memory was refused, too, it is at the same state.
      pub refused_stands : Keeps new (at_rest state.history) → StaysRefused old new → StandsAt new state
      refused_stands keeps stays =
          rest_stands new state (phase_is on) keeps (ap (λ (value : AuctionValue). value.rules) stays.0 ∙ stands.0.rules) (λ is. absurd (let no = stays.2 is in cc)) (omega (arith, stands.1, stays.1))

      module _ (law : JudgedIsAnswered) (commands : List Command) (letters : List Letter) (are : letters ≡ map letter_of commands) (some : 0 < length commands) (most : length commands ≤ MOST_LETTERS)
          (answers : List Answer) (told : List Reply) where
        abbrev Ended : Rules → Option Fault → Type 0
        Ended rules fault = KeepsEnded rules new state.history letters answers fault

        abbrev Asked : Type 0
        Asked = HasAsked new state commands told

        all_answered : Ended state.rules None → (disk.device new.disk).failures ≡ (disk.device old.disk).failures → (length answers ≤ MOST_LETTERS → told ≡ map reply_of answers) → Asked
        all_answered ended well told_are =
            let past : List Command = reverse state.history in
            let next : State = answered_state state past commands in
            let came : state.history ++ new_commands (judged state.rules state.history letters) ≡ next.history = judged_history law state.rules state.history commands letters are in
            let counted : length answers ≡ length commands = ap length ended.2.1 ∙ judged_counted law state.rules state.history commands letters are in
            let replied = told_are (omega (arith, counted, most)) ∙ ap (map reply_of) ended.2.1 ∙ judged_replies law state.rules state.history commands letters are in (
              next,
              rw replied (all_by_rules state past commands (phase_is on) refl),
              rest_stands new next (phase_is on) (subst (Keeps new) (ended.2.2 ∙ ap at_rest came) ended.1) ended.3 (λ is. absurd (let no = ended.2.0 in cc)) (omega (arith, stands.1, well)),
              refl,
            )

        module _ (rose : (disk.device old.disk).failures < (disk.device new.disk).failures) where
          none_taken : Ended state.rules (Some faults.Failed) → told ≡ refused (length commands) refusals.Failed → Asked
          none_taken ended told_are =
              all_failed new state commands told some stands.0.answered told_are
              (failed_stands new (record state { phase = failed }) (λ at_work. absurd (cc)) refl ended.2.0 ended.0 (λ left no. absurd (cc)) ended.1 ended.3 (ap (λ (machine : Machine). machine.acknowledged) ended.2.1)
              (inr (omega (arith, stands.1, rose))) (omega (arith, stands.1, rose)))

          none_acknowledged : Ended state.rules (Some faults.Device) → told ≡ refused (length commands) refusals.Device → Asked
          none_acknowledged ended told_are =
              let next : State = record state { phase = failing 0 } in (
                next,
                rw told_are (some_failing state commands (phase_is on) some most),
                failed_stands new next (λ at_work. absurd (cc)) refl ended.2.0 ended.0 (λ left is. (_, ap (λ (machine : Machine). machine.flight) ended.2.2)) ended.1 ended.3 (ap (λ (machine : Machine). machine.acknowledged) ended.2.2)
                    (inr (omega (arith, stands.1, rose))) (omega (arith, stands.1, rose)),
                refl,
              )

        -- Those that get 91 are in flight.
        flies : Ended state.rules (Some faults.Device) → (turns : ℕ) × Keeps new (in_flight state.history (judged state.rules state.history (map letter_of commands)) turns)
        flies ended = (ended.2.1, subst (Keeps new) (ended.2.2 ∙ ap (λ (l : List Letter). in_flight state.history (judged state.rules state.history l) ended.2.1) are) ended.1)

        -- Commands that were to be committed together have their replies. If the device has failed, they have one
        -- refusal.
        pub batch_told : (fault : Option Fault) → Ended old.progress.committed.rules fault → TellsFailures fault (disk.device old.disk) (disk.device new.disk) → LettersTake letters old new fault
            → (fault ≡ None → length answers ≤ MOST_LETTERS → told ≡ map reply_of answers) → ((why : Fault) → fault ≡ Some why → told ≡ refused (length commands) (refusal_of why))
            → Asked × (new.failed ≡ true → AreAlike new state commands told)
        batch_told None ended cause takes answered stopped = (all_answered (rw (sym stands.0.rules) ended) cause (answered refl), λ is. absurd (let no = ended.2.0 in cc))
        batch_told (Some faults.Device) ended cause takes answered stopped =
            (none_acknowledged cause (rw (sym stands.0.rules) ended) (stopped faults.Device refl), λ is. let flight = flies (rw (sym stands.0.rules) ended) in inl (stopped faults.Device refl, flight.0, flight.1))
        batch_told (Some faults.Failed) ended cause takes answered stopped = elim (takes.earlier refl) [
          | inl is ↦ absurd (cc)
          | inr rose ↦ (
            none_taken rose (rw (sym stands.0.rules) ended) (stopped faults.Failed refl),
            λ is. inr (stopped faults.Failed refl, λ at_work. subst (Keeps new) ended.2.1 ended.1),
          )
        ]

-- a look leaves the state as it is
pub looks_stay : LooksStay device_ways
looks_stay old new shown it = it.4

-- no line was written to standard error, at a terminal or elsewhere
pub untold : (is_terminal : Bool) (contents : Option (List ℕ)) → ExplainsAt is_terminal contents contents
untold true contents = ([], All-nil IsOfSentence, Appends-nil contents)
untold false contents = Keeps-refl contents
