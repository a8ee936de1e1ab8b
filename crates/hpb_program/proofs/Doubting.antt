-- The warning if a file opens, but there are doubts about it: signs of damage that no honest file shows.
use Rattle.std.proofs.Common.{◌≡◌, ◌⊎◌, ◌∙◌, ℕ, Bool, List, [], Option, Result, Ok, Err, sym, ap, subst, refl, inl, inr, ⊎_elim}
use Rattle.std.specs.Bool.{⊤}
use Rattle.std.proofs.KnownBytes.{Keeps-refl}
use Rattle.std.specs.Io.KnownBytes.{Keeps}
use Rattle.hpb_disk.specs.Device.{Device, IsSettled}
use Rattle.hpb_disk.specs.declared.fault.FileFault.{FileFault}
use Rattle.hpb_house.specs.declared.starting.StartCause.TheVariants as starting
use Rattle.hpb_recover.specs.Flaws.{HasFlaw}
use Rattle.hpb_recover.specs.declared.flaw.Flaw.{Flaw}
use Rattle.hpb_recover.specs.Causes.{HasCause}
use Rattle.hpb_recover.specs.Doubts.{IsFrameTold, IsSlotTold}
use Rattle.hpb_recover.specs.Quiet.{IsQuiet}
use Rattle.hpb_recover.specs.declared.doubts.Later.{Later}
use Rattle.hpb_recover.specs.declared.plan.Plan.{Plan}
use Rattle.hpb_recover.specs.declared.cause.Cause.{Cause}
use Rattle.hpb_recover.specs.declared.cause.Cause.TheVariants as opening
use Rattle.hpb_serve.specs.declared.fault.ServeFault.{ServeFault}
use Rattle.hpb_serve.specs.declared.fault.ServeFault.TheVariants as serving
use Rattle.hpb_messages.specs.declared.job_fault.JobFault.{JobFault}
use Rattle.hpb_messages.specs.declared.job_fault.JobFault.TheVariants as faults
use Rattle.hpb_program.specs.ConsoleValue.{ConsoleValue}
use Rattle.hpb_program.specs.Doubts.{doubts_text, IsOfMachine, TellsDoubts, TellsImage, TellsKept, TellsStopped}
use Rattle.hpb_server.specs.Telling.{Says}
use Rattle.hpb_program.specs.Jobs.{made_of_serving, Checks, ShowsKept}
use Rattle.hpb_messages.specs.Faults.{made_of_file, made_of_opening}
use Rattle.hpb_program.specs.Keeping.{IsNotOpened}
use Rattle.hpb_program.specs.Serving.{IsOfDescriptors}
use Rattle.hpb_messages.specs.Telling.{IsCutBy}
use Rattle.hpb_program.proofs.Files.{of_each_file}

-- a device that was only read since leaves what it left
pub durable_still : (calls : ℕ) (old new : Device) → IsSettled old → IsQuiet calls old new → IsSettled new
durable_still calls old new only quiet = λ other left. only other (quiet.crash other left) ∙ sym quiet.same

-- the doubts about such a device are reported for the opened one
pub tells : (first plan : Plan) (here image : List ℕ) (old new : Option (List ℕ)) (slot : Option ℕ) (later : Option Later) (count : ℕ) (text : List ℕ) → plan ≡ first → here ≡ image
    → IsSlotTold first here slot → IsFrameTold first here later → count ≡ plan.auction.count → text ≡ doubts_text count slot later → Says old new text → TellsDoubts plan image old new
tells first plan here image old new slot later count text same at slot_told frame_told counted is says = (
  slot,
  later,
  subst (λ (p : Plan). IsSlotTold p image slot) (sym same) (subst (λ (i : List ℕ). IsSlotTold first i slot) at slot_told),
  subst (λ (p : Plan). IsFrameTold p image later) (sym same) (subst (λ (i : List ℕ). IsFrameTold first i later) at frame_told),
  subst (Says old new) (is ∙ ap (λ (n : ℕ). doubts_text n slot later) counted) says,
)

-- the fault that ended the look at it is one of the machine
pub of_machine : (old new : Device) (cause : Cause) (made : JobFault) → made ≡ made_of_opening cause → HasCause old new cause → IsOfMachine made
of_machine old new cause made is has = subst IsOfMachine (sym is) (go cause has)
  where
    go : (cause : Cause) → HasCause old new cause → IsOfMachine (made_of_opening cause)
    go (opening.Flawed flaw) has = absurd has
    go opening.Memory has = inl refl
    go opening.Device has = inr refl

-- and so is the fault of a device that is not opened
pub not_looked : (image : List ℕ) (fault : JobFault) → IsOfMachine fault → IsNotOpened image fault
not_looked image fault of = ⊎_elim
    (λ (e : fault ≡ faults.Memory). subst (IsNotOpened image) (sym e) (inl refl))
    (λ (e : fault ≡ faults.Open opening.Device). subst (IsNotOpened image) (sym e) (inr refl)) of

-- a fact about memory's fault, a call's and a flaw that is there holds of the fault of a device that is not opened
module _ (image : List ℕ) (Is : JobFault → Type 0) (of_memory : Is faults.Memory) (of_device : Is (faults.Open opening.Device)) (of_flaw : (flaw : Flaw) → HasFlaw flaw image → Is (faults.Open (opening.Flawed flaw))) where
  of_either : (fault : JobFault) → (fault ≡ faults.Memory) ⊎ (fault ≡ faults.Open opening.Device) → Is fault
  of_either fault = ⊎_elim (λ (e : fault ≡ faults.Memory). subst Is (sym e) of_memory) (λ (e : fault ≡ faults.Open opening.Device). subst Is (sym e) of_device)

  pub of_each_not_opened : (fault : JobFault) → IsNotOpened image fault → Is fault
  of_each_not_opened (faults.Open (opening.Flawed flaw)) not = of_flaw flaw not
  of_each_not_opened (faults.Open opening.Memory) not = of_either _ not
  of_each_not_opened (faults.Open opening.Device) not = of_either _ not
  of_each_not_opened faults.Memory not = of_either _ not
  of_each_not_opened (faults.File fault) not = of_either _ not
  of_each_not_opened faults.Reader not = of_either _ not
  of_each_not_opened faults.Writer not = of_either _ not
  of_each_not_opened (faults.Definition refusal) not = of_either _ not
  of_each_not_opened faults.Journal not = of_either _ not
  of_each_not_opened (faults.Format cause) not = of_either _ not
  of_each_not_opened (faults.Port at error) not = of_either _ not
  of_each_not_opened (faults.Descriptors sessions wanted error) not = of_either _ not
  of_each_not_opened faults.Place not = of_either _ not
  of_each_not_opened faults.Order not = of_either _ not
  of_each_not_opened faults.Counts not = of_either _ not

-- if it is not opened, nothing of it is shown,
pub shown_not : (image : List ℕ) (contents : Option (List ℕ)) (fault : JobFault) → IsNotOpened image fault → ShowsKept image contents contents (Err fault)
shown_not image contents =
    let keeps = Keeps-refl contents in
    of_each_not_opened image (λ fault. ShowsKept image contents contents (Err fault)) (keeps, inl refl) (keeps, inr refl) (λ flaw has. (keeps, has))

-- no output was cut,
pub cut_not : (image : List ℕ) (cut : Bool) (fault : JobFault) → IsNotOpened image fault → IsCutBy cut (Err fault)
cut_not image cut = of_each_not_opened image (λ fault. IsCutBy cut (Err fault)) tt tt (λ flaw has. tt)

-- and nothing was reported
pub told_not : (image : List ℕ) (old new : Option (List ℕ)) (fault : JobFault) → IsNotOpened image fault → Keeps old new → TellsStopped image old new fault
told_not image old new fault not keeps = of_each_not_opened image (TellsStopped image old new) (inl keeps) keeps (λ flaw has. keeps) fault not

-- a report stays if an auction is not served to its end
pub told_serving : (D : Type 0) (image : List ℕ) (old new : Option (List ℕ)) (fault : ServeFault D) (made : JobFault) → made ≡ made_of_serving fault → TellsImage image old new → TellsStopped image old new made
told_serving D image old new fault made is told = subst (TellsStopped image old new) (sym is) (go fault)
  where
    go : (fault : ServeFault D) → TellsStopped image old new (made_of_serving fault)
    go serving.Memory = inr told
    go serving.Writer = told
    go (serving.Start starting.Memory) = inr told
    go (serving.Start starting.Place) = told
    go (serving.Order client) = told
    go (serving.Counts differing) = told

-- if a file is not opened, nothing is reported
pub told_unopened_file : (contents : Option (List ℕ)) (fault : FileFault) (made : JobFault) → made ≡ made_of_file fault → TellsStopped [] contents contents made
told_unopened_file contents = of_each_file (TellsStopped [] contents contents) (inl (Keeps-refl contents)) (λ fault. Keeps-refl contents)

-- nor if the process may have too few files and connections at a time
pub told_unheld : (contents : Option (List ℕ)) (fault : JobFault) → IsOfDescriptors fault → TellsStopped [] contents contents fault
told_unheld contents faults.Memory is = inl (Keeps-refl contents)
told_unheld contents (faults.Descriptors held wanted error) is = Keeps-refl contents
told_unheld contents (faults.File fault) is = absurd is
told_unheld contents (faults.Open cause) is = absurd is
told_unheld contents faults.Reader is = absurd is
told_unheld contents faults.Writer is = absurd is
told_unheld contents (faults.Definition refusal) is = absurd is
told_unheld contents faults.Journal is = absurd is
told_unheld contents (faults.Format cause) is = absurd is
told_unheld contents (faults.Port at error) is = absurd is
told_unheld contents faults.Place is = absurd is
told_unheld contents faults.Order is = absurd is
told_unheld contents faults.Counts is = absurd is

-- the auction shown of an opened file is that of the bytes about which doubts were reported
pub checked : (image : List ℕ) (before after : ConsoleValue) (result : Result ⊤ JobFault)
    → ShowsKept image before.streams.contents after.streams.contents result → TellsKept image before.errors after.errors result → Checks before after result
checked image before after (Ok done) shows told = (image, shows, told)
checked image before after (Err faults.Writer) shows told = (image, shows, told)
checked image before after (Err faults.Memory) shows told = (shows.0, (image, told))
checked image before after (Err (faults.File fault)) shows told = (shows.0, (image, told))
checked image before after (Err (faults.Open (opening.Flawed flaw))) shows told = (shows.0, (image, told))
checked image before after (Err (faults.Open opening.Memory)) shows told = (shows.0, (image, told))
checked image before after (Err (faults.Open opening.Device)) shows told = (shows.0, (image, told))
checked image before after (Err faults.Reader) shows told = (shows.0, (image, told))
checked image before after (Err (faults.Definition refusal)) shows told = (shows.0, (image, told))
checked image before after (Err faults.Journal) shows told = (shows.0, (image, told))
checked image before after (Err (faults.Format cause)) shows told = (shows.0, (image, told))
checked image before after (Err (faults.Port at error)) shows told = (shows.0, (image, told))
checked image before after (Err (faults.Descriptors held wanted error)) shows told = (shows.0, (image, told))
checked image before after (Err faults.Place) shows told = (shows.0, (image, told))
checked image before after (Err faults.Order) shows told = (shows.0, (image, told))
checked image before after (Err faults.Counts) shows told = (shows.0, (image, told))

-- and nothing is shown or reported of a file that is not opened
pub checked_unopened : (console : ConsoleValue) (fault : FileFault) (made : JobFault) → made ≡ made_of_file fault → Checks console console (Err made)
checked_unopened console =
    let contents = Keeps-refl console.streams.contents in
    let errors = Keeps-refl console.errors in
    of_each_file (λ made. Checks console console (Err made)) (contents, ([], inl errors)) (λ fault. (contents, ([], errors)))
