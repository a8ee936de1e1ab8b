-- One more event of a run.
use Rattle.std.proofs.Common.{◌≡◌, ◌⊎◌, inl, inr, ⊎_elim, ℕ, ◌+◌, ◌<◌, Bool, true, false, Option, Some, None, Result, Ok, Err, List, [], ◌∷◌, ◌++◌, length, get_or, take, drop, refl, sym, ◌∙◌, ap, subst, arith, append_assoc}
use Rattle.std.specs.Prelude.{is_some}
use Rattle.std.proofs.lemmas.List.{append-nil, take_more, take-append-drop}
use Rattle.hpb_rules.specs.declared.letter.Answer.{Answer}
use Rattle.hpb_rules.specs.declared.letter.Letter.{Letter}
use Rattle.hpb_rules.specs.Machine.{Machine}
use Rattle.hpb_disk.specs.Asked.{Asked}
use Rattle.hpb_disk.specs.Device.{Device, LeavesOnly}
use Rattle.hpb_engine.specs.declared.progress.Progress.{Progress}
use Rattle.hpb_engine.specs.Keeping.{Keeps, Running, StandsFor}
use Rattle.hpb_engine.specs.declared.event.Event.{Event}
use Rattle.hpb_engine.specs.declared.begun.Weight.{Weight}
use Rattle.hpb_engine.specs.declared.begun.Weight.TheVariants as weights
use Rattle.hpb_engine.specs.declared.step.Fault.{Fault}
use Rattle.hpb_engine.specs.declared.step.Fault.TheVariants as faults
use Rattle.hpb_engine.specs.declared.step.Turned.{Turned}
use Rattle.hpb_engine.specs.declared.step.Turned.TheVariants as turns
use Rattle.hpb_engine.specs.Numbers.{IsSafe}
use Rattle.hpb_engine.specs.Offers.{begun_of, weight_of}
use Rattle.hpb_engine.specs.Runs.{Drove, failed_by, fault_in, Follows, HasFailed, Holds, IsTold, Pause, Ran, StandsAtOne, Took, last_of, pause_of}
use Rattle.hpb_engine.specs.Steps.{OnDevice, step_of}

-- A run without an event.
pub ran_none : (run : Running) {machine : Machine} → Keeps run machine → Ran (pause_of run machine) [] run [] None
ran_none run keeps = record {
  pauses = [];
  drove = (refl, refl);
  holds = (omega arith, λ image left. inl (keeps.images image (run.device.only_now image left)));
  at_end = refl;
  progress_is = refl;
  failed_is = refl;
  keeps = keeps;
}

-- The facts at a pause whose machine is kept.
pub told_of : {run : Running} {machine : Machine} → IsSafe run.progress → Keeps run machine → IsTold (pause_of run machine)
told_of safe keeps = record { safe = safe; shows = keeps.shows; flight = keeps.flight }

-- An image of the last pause, or of one after it, is one of a pause.
stands_later : (pause next : Pause) (pauses : List Pause) (image : List ℕ) → StandsFor (last_of pause pauses).machine image ⊎ StandsFor next.machine image → StandsAtOne (pause ∷ (pauses ++ next ∷ [])) image
stands_later pause next [] image (inl last) = inl last
stands_later pause next [] image (inr new) = inr (inl new)
stands_later pause next (m ∷ pauses) image stands = inr (stands_later m next pauses image stands)

stands_still : (next : Pause) (pauses : List Pause) (image : List ℕ) → StandsAtOne pauses image → StandsAtOne (pauses ++ next ∷ []) image
stands_still next [] image none = absurd none
stands_still next (m ∷ pauses) image (inl here) = inl here
stands_still next (m ∷ pauses) image (inr later) = inr (stands_still next pauses image later)

-- The facts since each pause hold after one more event, and since the pause after it.
module _ {old new : Device} {images : List ℕ → Type 0} (leaves : LeavesOnly old new images) (next : Pause)
    (here : next.moment ≡ new.moment) (only : (image : List ℕ) → new.left_since next.moment image → StandsFor next.machine image) where
  pub holds_on : (pause : Pause) (pauses : List Pause) → ((image : List ℕ) → images image → StandsFor (last_of pause pauses).machine image ⊎ StandsFor next.machine image)
      → Holds old.moment old.left_since pause pauses → Holds new.moment new.left_since pause (pauses ++ next ∷ [])
  holds_on pause [] each holds = (
    omega (arith, holds.0, leaves.later),
    λ image left_then. ⊎_elim (λ was. stands_still next (pause ∷ []) image (holds.1 image was)) (λ new. stands_later pause next [] image (each image new)) (leaves.nothing_else pause.moment image holds.0 left_then),
    (omega (arith, here), λ image left_then. inl (only image left_then)),
  )
  holds_on pause (m ∷ pauses) each holds = (
    omega (arith, holds.0, leaves.later),
    λ image left_then. ⊎_elim (λ was. stands_still next (pause ∷ m ∷ pauses) image (holds.1 image was)) (λ new. stands_later pause next (m ∷ pauses) image (each image new)) (leaves.nothing_else pause.moment image holds.0 left_then),
    holds_on m pauses each holds.2,
  )

last_more : (pause next : Pause) (pauses : List Pause) → last_of pause (pauses ++ next ∷ []) ≡ next
last_more pause next [] = refl
last_more pause next (m ∷ pauses) = last_more m next pauses

-- A run that meets no fault goes on with another.
drove_on : (events rest : List Event) (pause : Pause) (pauses more : List Pause) (answers leaving : List Answer) (told : Option Fault)
    → Drove events pause pauses answers None → Drove rest (last_of pause pauses) more leaving told → Drove (events ++ rest) pause (pauses ++ more) (answers ++ leaving) told
drove_on [] rest pause [] more answers leaving told drove next = subst (λ (l : List Answer). Drove rest pause more (l ++ leaving) told) (sym drove.0) next
drove_on [] rest pause (m ∷ pauses) more answers leaving told drove next = absurd drove
drove_on (e ∷ events) rest pause [] more answers leaving told drove next = absurd drove
drove_on (e ∷ events) rest pause (m ∷ pauses) more answers leaving told (inl it) next =
    inl (it.0, it.1 ++ leaving, it.2, drove_on events rest m pauses more it.1 leaving told it.3 next, ap (λ (l : List Answer). l ++ leaving) it.4 ∙ append_assoc it.0 it.1 leaving)
drove_on (e ∷ events) rest pause (m ∷ pauses) more answers leaving told (inr it) next = absurd (let no = it.3 in cc)

module _ {start : Pause} {events : List Event} {event : Event} {old new : Running} {answers leaving : List Answer} (ran : Ran start events old answers None)
    {fault : Option Fault} (took : Took event old new (last_of start ran.pauses).machine leaving fault) where
  abbrev next : Pause
  next = pause_of new took.after

  last_is : pause_of old (last_of start ran.pauses).machine ≡ last_of start ran.pauses
  last_is =
      let m = last_of start ran.pauses in
      ap (λ (i : ℕ). record { moment = i; progress = old.progress; failed = old.failed; machine = m.machine }) (sym ran.at_end)
      ∙ ap (λ (p : Progress). record { moment = m.moment; progress = p; failed = old.failed; machine = m.machine }) (sym ran.progress_is)
      ∙ ap (λ (b : Bool). record { moment = m.moment; progress = m.progress; failed = b; machine = m.machine }) (sym ran.failed_is)

  follows : Follows event (last_of start ran.pauses) next leaving fault
  follows = subst (λ (m : Pause). Follows event m next leaving fault) last_is took.follows

  holds : Holds new.device.moment new.device.left_since start (ran.pauses ++ next ∷ [])
  holds = holds_on took.since next refl (λ image left. took.keeps.images image (new.device.only_now image left)) start ran.pauses (λ image stands. stands) ran.holds

  after_last : last_of start (ran.pauses ++ next ∷ []) ≡ next
  after_last = last_more start next ran.pauses

  more : (rest : List Event) (told : Option Fault) → Drove rest (last_of start ran.pauses) (next ∷ []) leaving told → Ran start (events ++ rest) new (answers ++ leaving) told
  more rest told drove = record {
    pauses = ran.pauses ++ next ∷ [];
    drove = drove_on events rest start ran.pauses (next ∷ []) answers leaving told ran.drove drove;
    holds = holds;
    at_end = ap (λ (m : Pause). m.moment) after_last;
    progress_is = ap (λ (m : Pause). m.progress) after_last;
    failed_is = ap (λ (m : Pause). m.failed) after_last;
    keeps = subst (λ (m : Pause). Keeps new m.machine) (sym after_last) took.keeps;
  }

  -- A run goes on with an event that works.
  pub ran_on : fault ≡ None → Ran start (events ++ event ∷ []) new (answers ++ leaving) None
  ran_on none = more (event ∷ []) None (inl (leaving, [], subst (Follows event (last_of start ran.pauses) next leaving) none follows, (refl, refl), sym (append-nil leaving)))

  -- A run ends with an event at which the device fails; the others aren't taken.
  pub ran_off : (others : List Event) (why : Fault) → fault ≡ Some why → Ran start (events ++ event ∷ others) new (answers ++ leaving) (Some why)
  ran_off others why some = more (event ∷ others) (Some why) (inr (why, subst (Follows event (last_of start ran.pauses) next leaving) some follows, refl, refl))

-- Whether there is a fault.
pub none_of : (fault : Option Fault) → is_some fault ≡ false → fault ≡ None
none_of None is = refl
none_of (Some why) is = absurd (cc)

pub some_in : (fault : Option Fault) → is_some fault ≡ true → (why : Fault) × (fault ≡ Some why)
some_in None is = absurd (cc)
some_in (Some why) is = (why, refl)

-- The events so far, and one more.
module _ (events : List Event) (at : ℕ) (event : Event) (inside : at < length events) (is : event ≡ get_or events at event) where
  pub front_more : take (at + 1) events ≡ take at events ++ event ∷ []
  front_more = take_more events at event inside ∙ ap (λ (e : Event). take at events ++ e ∷ []) (sym is)

  pub front_rest : events ≡ take at events ++ event ∷ drop (at + 1) events
  front_rest =
      sym (take-append-drop (at + 1) events) ∙ ap (λ (front : List Event). front ++ drop (at + 1) events) front_more
      ∙ append_assoc (take at events) (event ∷ []) (drop (at + 1) events)

-- Whether an engine has failed, and its device, by the result of its step.
module _ {T : Type 0} {old new : Running} {call : List Asked} where
  pub failed_is : (result : Result T Fault) → OnDevice old new result call → new.failed ≡ failed_by result
  failed_is (Ok told) is = is.works
  failed_is (Err fault) is = is.fails

  pub has_failed : (result : Result T Fault) → OnDevice old new result call → HasFailed (fault_in result) old.device new.device
  has_failed (Ok told) is = is.counted
  has_failed (Err faults.Device) is = (refl, is.cause refl)
  has_failed (Err faults.Failed) is = is.stays refl

-- The fault of a run, if no call failed before it.
pub failed_since : (first old new : Device) (fault : Option Fault) → old.failures ≡ first.failures → HasFailed fault old new → HasFailed fault first new
failed_since first old new None none is = is ∙ none
failed_since first old new (Some why) none is = (is.0, omega (arith, none, is.1))

-- A turn and the step that reports it fail alike, and have the same fault.
pub failed_step : (result : Result Turned Fault) (leaving : List Answer) → failed_by result ≡ failed_by (step_of result leaving)
failed_step (Ok turns.Idle) leaving = refl
failed_step (Ok turns.Went) leaving = refl
failed_step (Ok turns.Done) leaving = refl
failed_step (Err fault) leaving = refl

pub fault_step : (result : Result Turned Fault) (leaving : List Answer) → fault_in result ≡ fault_in (step_of result leaving)
fault_step (Ok turns.Idle) leaving = refl
fault_step (Ok turns.Went) leaving = refl
fault_step (Ok turns.Done) leaving = refl
fault_step (Err faults.Device) leaving = refl
fault_step (Err faults.Failed) leaving = refl

-- A result made from a weight has that weight.
pub weight_begun : (weight : Weight) (letters : List Letter) (leaving : List Answer) → weight_of (begun_of weight letters leaving) ≡ weight
weight_begun weights.Failed letters leaving = refl
weight_begun weights.Busy letters leaving = refl
weight_begun weights.Old letters leaving = refl
weight_begun weights.Full letters leaving = refl
weight_begun weights.New letters leaving = refl
