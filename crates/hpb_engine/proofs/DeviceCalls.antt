-- One call of the device, and the facts that are kept after it.
use Rattle.std.proofs.Common.{◌≡◌, inl, inr, ℕ, List, [], ◌∷◌, ◌++◌, Bool, true, false, Result, Ok, Err, length, refl, sym, ◌∙◌, ap, subst, arith}
use Rattle.std.specs.Prelude.{IsErrAnd, IsOk, MatchResult, OnOk, ⊤, if◌then◌else◌}
use Rattle.hpb_rules.specs.declared.command.Command.{Command}
use Rattle.hpb_rules.specs.declared.letter.Answer.{Answer}
use Rattle.hpb_disk.specs.Asked.{Asked}
use Rattle.hpb_disk.specs.Asked.Asked.{fails, syncs}
use Rattle.hpb_disk.specs.Device.{Device, LeavesOnly, MakesCall}
use Rattle.hpb_engine.specs.declared.progress.Progress.{Progress}
use Rattle.hpb_engine.specs.Cuts.{Cut, all}
use Rattle.hpb_engine.specs.Facts.{Facts, Fits, Reads}
use Rattle.hpb_engine.specs.Keeping.{Inside, Running, StandsBetween, StandsFor, machine_of}
use Rattle.hpb_engine.specs.Laws.{Laws}
use Rattle.hpb_engine.specs.Steps.{Called, OnDevice, Synced, acknowledged_by, outcome_of, step_of}
use Rattle.hpb_engine.specs.declared.step.Fault.{Fault}
use Rattle.hpb_engine.specs.declared.step.Fault.TheVariants as faults
use Rattle.hpb_engine.specs.declared.step.Turned.{Turned}
use Rattle.hpb_disk.proofs.Runs.{leaves_at_first, leaves_within}
use Rattle.hpb_engine.proofs.Standing.{may_stand}

-- How the outcome of one call is reported: if the call fails, the engine has failed.
abbrev pub Tells : {T E : Type 0} → Result T E → Result ⊤ Fault → Bool → Type 0
Tells done result after = MatchResult done (λ _. IsOk result × (after ≡ false)) (λ _. (result ≡ Err faults.Device) × (after ≡ true))

done_by : {T E : Type 0} {after : Bool} (done : Result T E) (result : Result ⊤ Fault) → Tells done result after → after ≡ false → (P : Type 0) → OnOk done P → P
done_by (Ok x) result told works P is = is
done_by (Err e) result told works P is = absurd (cc told.1)

pub told_off : {T E : Type 0} {after : Bool} (fault : Fault) (done : Result T E) → Tells done (Err fault) after → after ≡ true
told_off fault (Ok x) told = absurd (cc told.0)
told_off fault (Err e) told = told.1

-- How many calls a step makes, by the list of its calls.
one_call : {failed : Bool} {call : Asked} (asks : List Asked) → asks ≡ call ∷ [] → failed ≡ false → ◌≡◌ {A = ℕ} (if failed then 0 else length asks) 1
one_call asks one on = ap (λ (b : Bool). if b then 0 else length asks) on ∙ ap length one

no_calls : {failed : Bool} (asks : List Asked) → asks ≡ [] → failed ≡ false → ◌≡◌ {A = ℕ} (if failed then 0 else length asks) 0
no_calls asks none on = ap (λ (b : Bool). if b then 0 else length asks) on ∙ ap length none

after_fault : {failed : Bool} (asks : List Asked) → failed ≡ true → ◌≡◌ {A = ℕ} (if failed then 0 else length asks) 0
after_fault asks off = ap (λ (b : Bool). if b then 0 else length asks) off

-- One call, by how its outcome is reported.
on_device : {E : Type 0} {old new : Running} {call : Asked} {asks : List Asked} (done : Result ⊤ E) (result : Result ⊤ Fault) → Tells done result new.failed
    → MakesCall done (call ∷ []) old.device new.device → asks ≡ call ∷ [] → old.failed ≡ false → OnDevice old new (outcome_of result) asks
on_device {old = old} {asks = asks} (Ok x) (Ok y) told made one on = record {
  calls = omega (arith, made.next, one_call asks one on);
  asked = λ _. made.asked ∙ ap (λ (l : List Asked). l ++ old.device.asked) (sym one);
  cause = λ no. absurd (cc);
  counted = made.cause;
  stays = λ no. absurd (cc);
  works = told.1;
  fails = tt;
}
on_device {old = old} {asks = asks} (Err e) (Err fault) told made one on = record {
  calls = omega (arith, made.next, one_call asks one on);
  asked = λ _. made.asked ∙ ap (λ (l : List Asked). fails ∷ l ++ old.device.asked) (sym one);
  cause = λ _. made.cause;
  counted = tt;
  stays = λ failed. absurd (let device = told.0 in cc);
  works = tt;
  fails = told.1;
}
on_device (Ok x) (Err fault) told made one on = absurd (cc told.0)
on_device (Err e) (Ok y) told made one on = absurd (cc told.0)

-- The same, whatever the step's value is.
pub device_of : {T : Type 0} {old new : Running} {call : List Asked} (result : Result T Fault) → OnDevice old new (outcome_of result) call → OnDevice old new result call
device_of (Ok told) is = record { calls = is.calls; asked = is.asked; cause = λ no. absurd (cc); counted = is.counted; stays = λ no. absurd (cc); works = is.works; fails = tt }
device_of (Err fault) is = record {
  calls = is.calls;
  asked = is.asked;
  cause = λ device. is.cause (ap outcome_of device);
  counted = tt;
  stays = λ failed. is.stays (ap outcome_of failed);
  works = tt;
  fails = is.fails;
}

-- A step that ends with the fault of its call.
pub ended : {T : Type 0} {old new : Running} {later : List Command → List Command} {asks : List Asked} {fault : Fault} (result : Result T Fault) → IsErrAnd result (λ told. told ≡ fault)
    → Called old new (Err fault) later asks → Called old new (outcome_of result) later asks
ended (Ok told) is called = absurd is
ended (Err told) is called = rw is called

-- A turn that ends with the fault of its call. It acknowledges nothing.
pub ended_turn : {old new : Running} {asks : List Asked} {fault : Fault} (s : Progress) (leaving : List Answer) (result : Result Turned Fault) → IsErrAnd result (λ told. told ≡ fault)
    → Called old new (Err fault) (λ history. history) asks → Called old new (outcome_of result) (acknowledged_by (step_of result leaving) s) asks
ended_turn s leaving (Ok told) is called = absurd is
ended_turn s leaving (Err told) is called = rw is called

stands : (laws : Laws) (t : Progress) (history : List Command) (k : Cut) (image : List ℕ) → history ≡ all k → Fits t k → Facts t k image → StandsFor (machine_of t history) image
stands laws t history k image whole fits facts = subst (λ (h : List Command). StandsFor (machine_of t h) image) (sym whole) (may_stand laws t k image fits facts)

-- A crash before a call.
stands_now : {old : Running} {history : List Command} (laws : Laws) (t : Progress) → Inside old history → (image : List ℕ) → old.device.may_leave image → StandsBetween old.progress t history image
stands_now laws t inside image left = inl (stands laws _ _ inside.cut image inside.whole inside.fits (inside.images image left))

-- The same commands are kept, cut as they were.
kept : {old : Running} {history : List Command} (new : Running) (inside : Inside old history) → Fits new.progress inside.cut
    → ((image : List ℕ) → new.device.may_leave image → Facts new.progress inside.cut image) → (new.failed ≡ false → Reads new.progress inside.cut new.device.seen) → Inside new history
kept new inside fits images reads = record { cut = inside.cut; whole = inside.whole; fits = fits; images = images; reads = reads }

module _ (laws : Laws) {old : Running} {asks : List Asked} where
  -- No call.
  pub unmoved : {t : Progress} → ((k : Cut) → Fits old.progress k → Fits t k) → ((k : Cut) (image : List ℕ) → Fits old.progress k → Facts old.progress k image → Facts t k image)
      → ((k : Cut) (image : List ℕ) → Fits old.progress k → Facts old.progress k image → Reads old.progress k image → Reads t k image) → old.failed ≡ false → asks ≡ []
      → Called old (record { device = old.device; progress = t; failed = old.failed }) (Ok tt) (λ history. history) asks
  unmoved {t = t} fits step reads works nothing =
      let new : Running = record { device = old.device; progress = t; failed = old.failed } in
      record {
        keeps = λ history inside. kept new inside (fits inside.cut inside.fits) (λ image left. step inside.cut image inside.fits (inside.images image left))
            (λ _. reads inside.cut old.device.seen inside.fits (inside.images old.device.seen old.device.seen_may_stay) (inside.reads works));
        since = λ history inside. leaves_at_first old.device (StandsBetween old.progress t history) (stands_now laws t inside);
        device = record {
          calls = omega (arith, no_calls asks nothing works);
          asked = λ _. ap (λ (l : List Asked). l ++ old.device.asked) (sym nothing);
          cause = λ no. absurd (cc);
          counted = refl;
          stays = λ _. refl;
          works = works;
          fails = tt;
        };
      }

  pub idle : old.failed ≡ false → asks ≡ [] → Called old old (Ok tt) (λ history. history) asks
  idle = unmoved (λ k fits. fits) (λ k image fits facts. facts) (λ k image fits facts reads. reads)

  pub refused : old.failed ≡ true → Called old old (Err faults.Failed) (λ history. history) asks
  refused was = record {
    keeps = λ history inside. inside;
    since = λ history inside. leaves_at_first old.device (StandsBetween old.progress old.progress history) (stands_now laws old.progress inside);
    device = record {
      calls = omega (arith, after_fault asks was);
      asked = λ works. absurd (cc);
      cause = λ no. absurd (cc);
      counted = tt;
      stays = λ _. refl;
      works = tt;
      fails = was;
    };
  }

  -- A write, after which the progress is t.
  module _ {next : Device} {after : Bool} {t : Progress} {call : Asked} (one : asks ≡ call ∷ []) {Change : List ℕ → List ℕ → Type 0} (fits : (k : Cut) → Fits old.progress k → Fits t k)
      (step : (k : Cut) (before image : List ℕ) → Fits old.progress k → Facts old.progress k before → Change before image → Facts t k image)
      (crash : LeavesOnly old.device next (λ image. (before : List ℕ) × old.device.may_leave before × Change before image))
      {E : Type 0} (done : Result ⊤ E) (result : Result ⊤ Fault) (told : Tells done result after) (made : MakesCall done (call ∷ []) old.device next) (works : old.failed ≡ false) where
    pub wrote : (((P : Type 0) → OnOk done P → P) → (k : Cut) → Fits old.progress k → Facts old.progress k old.device.seen → Reads old.progress k old.device.seen → Reads t k next.seen)
        → Called old (record { device = next; progress = t; failed = after }) (outcome_of result) (λ history. history) asks
    wrote reads =
        let new : Running = record { device = next; progress = t; failed = after } in
        record {
          keeps = λ history inside. kept new inside (fits inside.cut inside.fits)
              (λ image left. let torn = crash.after image left in step inside.cut torn.0 image inside.fits (inside.images torn.0 torn.1) torn.2)
              (λ on. reads (done_by done result told on) inside.cut inside.fits (inside.images old.device.seen old.device.seen_may_stay) (inside.reads works));
          since = λ history inside. leaves_within
              (λ image torn. inr (stands laws t history inside.cut image inside.whole (fits inside.cut inside.fits) (step inside.cut torn.0 image inside.fits (inside.images torn.0 torn.1) torn.2))) crash;
          device = on_device done result told made one works;
        }

    -- A write that fails may leave the progress as it was, if the facts about the images hold of that too.
    pub forgotten : after ≡ true → ((k : Cut) (image : List ℕ) → Fits old.progress k → Facts t k image → Facts old.progress k image)
        → Called old (record { device = next; progress = old.progress; failed = after }) (outcome_of result) (λ history. history) asks
    forgotten off back =
        let new : Running = record { device = next; progress = old.progress; failed = after } in
        let was = λ (k : Cut) (image before : List ℕ) (fit : Fits old.progress k) (facts : Facts old.progress k before) (change : Change before image). back k image fit (step k before image fit facts change) in
        record {
          keeps = λ history inside. kept new inside inside.fits (λ image left. let torn = crash.after image left in was inside.cut image torn.0 inside.fits (inside.images torn.0 torn.1) torn.2) (λ on. absurd (cc));
          since = λ history inside. leaves_within
              (λ image torn. inl (stands laws old.progress history inside.cut image inside.whole inside.fits (was inside.cut image torn.0 inside.fits (inside.images torn.0 torn.1) torn.2))) crash;
          device = on_device done result told made one works;
        }

  -- A sync that works: the progress is t, and the commands are those that follow, cut anew. The bytes that were read
  -- are all that a crash may leave.
  module _ {next : Device} {after : Bool} (one : asks ≡ syncs ∷ []) (works : old.failed ≡ false) where
    pub synced : {t : Progress} {later : List Command → List Command} → Synced old.device next after (Ok tt)
        → (recut : Cut → Cut) → ((k : Cut) → later (all k) ≡ all (recut k)) → ((k : Cut) → Fits old.progress k → Fits t (recut k))
        → ((k : Cut) (image : List ℕ) → Fits old.progress k → Facts old.progress k image → Reads old.progress k image → Facts t (recut k) image)
        → ((k : Cut) (image : List ℕ) → Fits old.progress k → Facts old.progress k image → Reads old.progress k image → Reads t (recut k) image)
        → Called old (record { device = next; progress = t; failed = after }) (Ok tt) later asks
    synced {t = t} {later = later} sync recut whole fits step reads = record {
      keeps = λ history inside.
          let k = inside.cut in
          let seen = old.device.seen in
          let was : Facts old.progress k seen = inside.images seen old.device.seen_may_stay in
          record {
            cut = recut k;
            whole = ap later inside.whole ∙ whole k;
            fits = fits k inside.fits;
            images = λ image left. subst (Facts t (recut k)) (sym (sync.durable image left)) (step k seen inside.fits was (inside.reads works));
            reads = λ on. subst (Reads t (recut k)) (sym sync.seen_still) (reads k seen inside.fits was (inside.reads works));
          };
      since = λ history inside. leaves_within (stands_now laws t inside) sync.crash;
      device = on_device {E = Fault} (Ok tt) (Ok tt) (refl, sync.told) sync.call one works;
    }

    pub unsynced : {fault : Fault} → Synced old.device next after (Err fault)
        → Called old (record { device = next; progress = old.progress; failed = after }) (Err fault) (λ history. history) asks
    unsynced {fault = fault} sync = record {
      keeps = λ history inside. kept (record { device = next; progress = old.progress; failed = after }) inside inside.fits (λ image left. inside.images image (sync.crash.after image left)) (λ on. absurd (let off = sync.told.1 in cc));
      since = λ history inside. leaves_within (stands_now laws old.progress inside) sync.crash;
      device = on_device {E = Fault} (Err fault) (Err fault) (ap (λ (f : Fault). Err f) sync.told.0, sync.told.1) sync.call one works;
    }
