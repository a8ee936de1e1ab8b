-- Letters whose new commands are put in flight.
use Rattle.std.proofs.Common.{◌≡◌, ℕ, suc, ◌<◌, Bool, false, None, Option, Some, List, [], ◌∷◌, length, refl, sym, ◌∙◌, ap, subst, arith}
use Rattle.std.specs.Prelude.{if◌then◌else◌}
use Rattle.std.specs.List.{AllByRecursion}
use Rattle.std.proofs.lemmas.List.{length-reverse}
use Rattle.hpb_rules.specs.declared.command.Command.{Command}
use Rattle.hpb_rules.specs.declared.letter.Answer.{Answer}
use Rattle.hpb_rules.specs.declared.letter.Letter.{Letter}
use Rattle.hpb_rules.specs.AcceptedRuns.{AllAccepted}
use Rattle.hpb_rules.specs.Answer.{unknown}
use Rattle.hpb_rules.specs.AuctionValue.{AuctionValue}
use Rattle.hpb_rules.specs.Letters.{judged, new_commands}
use Rattle.hpb_rules.specs.Machine.{Effect, Flight, Machine, in_flight, offered, take_letters}
use Rattle.hpb_rules.specs.Tree.{Rules}
use Rattle.hpb_rules.specs.Values.{value_after}
use Rattle.hpb_rules.specs.Rounds.{HasTicket}
use Rattle.hpb_rules.specs.Judging.{judged_in}
use Rattle.hpb_rules.specs.LetterLaws.{JudgedIsShown}
use Rattle.hpb_engine.specs.declared.progress.Progress.{Progress}
use Rattle.hpb_engine.specs.Cuts.{Cut, all}
use Rattle.hpb_engine.specs.Facts.{Fits, IsFlight}
use Rattle.hpb_disk.specs.Device.{Device}
use Rattle.hpb_engine.specs.Keeping.{Inside, Keeps, Running}
use Rattle.hpb_engine.specs.Laws.{Laws}
use Rattle.hpb_engine.specs.Moves.{begun}
use Rattle.hpb_engine.proofs.CommitTurns.{begun_facts, begun_fits, begun_reads}
use Rattle.hpb_engine.specs.Offers.{AreOld}

some_of : (commands : List Command) → (commands ≡ [] → ⊥) → 0 < length commands
some_of [] not = absurd (not refl)
some_of (command ∷ commands) not = omega arith

-- The commands that are newly accepted when letters are judged.
module _ (laws : Laws) (s : Progress) (free : s.commit.busy ≡ false) (rest : s.commit.working ≡ s.committed) (letters : List Letter) (new : AreOld s letters → ⊥) (room : s.window.next < s.window.clean_end)
    {answers : List Answer} {commands : List Command} {after : AuctionValue} (value : answers ≡ judged_in s.commit.working letters) (commands_are : commands ≡ new_commands answers)
    (accepted : AllAccepted s.commit.working commands) (leads : after ≡ value_after s.commit.working commands) (ruled : after.rules ≡ s.commit.working.rules)
    (tickets : AllByRecursion HasTicket commands) (known : AllByRecursion (λ command. unknown s.commit.working.rules command ≡ None) commands)
    {first : ℕ} (numbered : first ≡ suc s.committed.count) where
  abbrev pub flying : Progress
  flying = begun s (record { index = s.window.next; first = first; commands = commands }) answers after

  same : answers ≡ judged_in s.committed letters
  same = value ∙ ap (λ (value : AuctionValue). judged_in value letters) rest

  are_new : commands ≡ [] → ⊥
  are_new none = new (ap new_commands (sym same) ∙ sym commands_are ∙ none)

  flight : (k : Cut) → Fits s k → IsFlight k.rules s.window.next s.committed (all k) flying.commit
  flight k fits =
      let by_rules : s.commit.working.rules ≡ k.rules = ap (λ (value : AuctionValue). value.rules) rest ∙ fits.rules in
      let count : s.committed.count ≡ length (all k) = ap (λ (value : AuctionValue). value.count) fits.shows.1 ∙ length-reverse (all k) in
      record {
        kept = record {
          some = some_of commands are_new;
          tickets = tickets;
          known = subst (λ (rules : Rules). AllByRecursion (λ command. unknown rules command ≡ None) commands) by_rules known;
        };
        index = refl;
        first = numbered ∙ ap suc count;
        accepted = subst (λ (value : AuctionValue). AllAccepted value commands) rest accepted;
        after = leads ∙ ap (λ (value : AuctionValue). value_after value commands) rest;
        new = commands_are;
      }

  pub inside_flying : (device : Device) (failed : Bool) (history : List Command) → Inside (record { device = device; progress = s; failed = failed }) history
      → Inside (record { device = device; progress = flying; failed = failed }) history
  inside_flying device failed history inside =
      let k = inside.cut in
      let batch = flying.commit.batch in
      record {
        cut = k;
        whole = inside.whole;
        fits = begun_fits laws s k inside.fits free room batch answers after (ruled ∙ ap (λ (value : AuctionValue). value.rules) rest) (flight k inside.fits);
        images = λ image left. begun_facts laws s k inside.fits free batch answers after image (inside.images image left);
        reads = λ works. begun_reads laws s k inside.fits free batch answers after device.seen (inside.images device.seen device.seen_may_stay) (inside.reads works);
      }

-- The machine takes letters.
offered_new : (acknowledged : List Command) (answers : List Answer) (commands : List Command) → (commands ≡ [] → ⊥)
    → offered acknowledged answers commands ≡ record { leaving = []; machine = in_flight acknowledged answers 0 }
offered_new acknowledged answers [] not = absurd (not refl)
offered_new acknowledged answers (command ∷ commands) not = refl

abbrev at_flight : List Command → Option Flight → Machine
at_flight acknowledged flight = record { acknowledged = acknowledged; flight = flight }

abbrev lets_leave : List Answer → Machine → Effect
lets_leave answers machine = record { leaving = answers; machine = machine }

-- With nothing in flight the machine takes letters by the answers that they are given.
module _ (shown : JudgedIsShown) {run : Running} {machine : Machine} (keeps : Keeps run machine) (letters : List Letter) (free : run.progress.commit.busy ≡ false) where
  abbrev s : Progress
  s = run.progress

  rests : machine.flight ≡ None
  rests = keeps.flight ∙ ap (λ (busy : Bool). if busy then Some (record { answers = s.commit.answers; turns = s.commit.turns }) else None) free

  answers_of : judged_in s.committed letters ≡ judged s.committed.rules machine.acknowledged letters
  answers_of = shown s.committed machine.acknowledged letters keeps.shows

  taken : (answers : List Answer) → answers ≡ judged_in s.committed letters
      → take_letters s.committed.rules machine letters ≡ offered machine.acknowledged answers (new_commands answers)
  taken answers is =
      ap (λ (flight : Option Flight). take_letters s.committed.rules (at_flight machine.acknowledged flight) letters) rests
      ∙ ap (λ (given : List Answer). offered machine.acknowledged given (new_commands given)) (sym (is ∙ answers_of))

  -- If none is new, the machine stays, and the answers leave.
  pub taken_old : (answers : List Answer) → answers ≡ judged_in s.committed letters → AreOld s letters
      → take_letters s.committed.rules machine letters ≡ record { leaving = answers; machine = machine }
  taken_old answers is old =
      taken answers is ∙ ap (offered machine.acknowledged answers) (ap new_commands is ∙ old)
      ∙ ap (λ (flight : Option Flight). lets_leave answers (at_flight machine.acknowledged flight)) (sym rests)

  -- Otherwise they are in flight.
  pub taken_new : (answers : List Answer) → answers ≡ judged_in s.committed letters → (AreOld s letters → ⊥)
      → take_letters s.committed.rules machine letters ≡ record { leaving = []; machine = in_flight machine.acknowledged answers 0 }
  taken_new answers is new =
      taken answers is ∙ offered_new machine.acknowledged answers (new_commands answers) (λ none. new (ap new_commands (sym is) ∙ none))
