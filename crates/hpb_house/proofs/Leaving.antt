-- The values that a keeper leaves when it is closed.
use Rattle.std.proofs.Common.{◌≡◌, inl, inr, ⊎_elim, ℕ, All, Bool, List, [], ◌∷◌, ◌++◌, Some, None, true, false, ap, refl, sym, subst}
use Rattle.std.specs.Prelude.{if◌then◌else◌}
use mathlib.Core.List.{IsPrefix}
use Rattle.hpb_rules.specs.declared.command.Command.{Command}
use Rattle.hpb_rules.specs.declared.letter.Answer.{Answer}
use Rattle.hpb_rules.specs.AuctionValue.{AuctionValue}
use Rattle.hpb_rules.specs.Letters.{new_commands}
use Rattle.hpb_rules.specs.Judging.{judged_in, letters_of}
use Rattle.hpb_rules.specs.LetterLaws.{JudgedIsShown}
use Rattle.hpb_disk.specs.Device.{Device}
use Rattle.hpb_recover.specs.Standing.{Stands}
use Rattle.hpb_engine.specs.declared.progress.Commit.{Commit}
use Rattle.hpb_engine.specs.Keeping.{Keeps, StandsFor, flight_of, machine_of}
use Rattle.hpb_rules.specs.Fronts.{joined}
use Rattle.hpb_rings.specs.declared.report.Report.{Report}
use Rattle.hpb_house.specs.Histories.{history_in}
use Rattle.hpb_house.specs.Closings.{GivesBack, StandsWith, batch_of, commands_of}
use Rattle.hpb_house.specs.Keepers.{IsKept, Keeping, history_by, in_flight_of, pending_of, running_in}
use Rattle.hpb_house.specs.declared.closing.Closing.{Closing}

-- after a stop there may stand a history, or that and then the commands in flight
stands_with : (commit : Commit) (history : List Command) (image : List ℕ) → StandsFor (record { acknowledged = history; flight = flight_of commit }) image
    → StandsWith history (commands_of (in_flight_of commit)) image
stands_with commit history image = by commit.busy
  where
    by : (busy : Bool) → StandsFor (record { acknowledged = history; flight = if busy then Some (record { answers = commit.answers; turns = commit.turns }) else None }) image
        → StandsWith history (commands_of (if busy then Some commit.answers else None)) image
    by true it = ⊎_elim (λ e. inl (subst (λ (l : List Command). Stands l image) e it.2)) (λ e. inr (subst (λ (l : List Command). Stands l image) e.1 it.2)) it.1
    by false it = inl (subst (λ (l : List Command). Stands l image) it.1 it.2)

-- the batch in flight is the prepared one
same_batch : (commit : Commit) → batch_of (in_flight_of commit) ≡ pending_of commit
same_batch commit = by commit.busy
  where
    by : (busy : Bool) → batch_of (if busy then Some commit.answers else None) ≡ (if busy then letters_of commit.answers ∷ [] else [])
    by true = refl
    by false = refl

-- if no batch is in flight, the commit isn't busy
pub not_busy : (commit : Commit) → in_flight_of commit ≡ None → commit.busy ≡ false
not_busy commit = by commit.busy
  where
    by : (busy : Bool) → (if busy then Some commit.answers else None) ≡ None → busy ≡ false
    by true it = absurd (cc it)
    by false it = refl

-- a batch in flight was judged as the commit says
judged_flight : (commit : Commit) (value : AuctionValue) (answers : List Answer) → (commit.busy ≡ true → commit.answers ≡ judged_in value (letters_of commit.answers))
    → in_flight_of commit ≡ Some answers → answers ≡ judged_in value (letters_of answers)
judged_flight commit value answers judged = by commit.busy judged
  where
    by : (busy : Bool) → (busy ≡ true → commit.answers ≡ judged_in value (letters_of commit.answers)) → (if busy then Some commit.answers else None) ≡ Some answers
        → answers ≡ judged_in value (letters_of answers)
    by true is it = subst (λ (l : List Answer). l ≡ judged_in value (letters_of l)) (cc it) (is refl)
    by false is it = absurd (cc it)

-- the history that a keeper's machine acknowledges is that of its opened device, and then the commands that its list
-- newly accepts
module _ {D : Type 0} (device : D → Device) (law : JudgedIsShown) (k : Keeping D) (facts : IsKept device k) where
  abbrev commands : List Command
  commands = history_in k.board.opened k.board.list

  kept : (history : List Command) → Stands history (device k.opened).seen → Keeps (running_in device k) (machine_of k.progress (history ++ commands))
  kept history stands =
      let acknowledged : history_by k.board.opened.rules history (joined k.board.list) ≡ history ++ commands =
      ap (λ (answers : List Answer). history ++ new_commands answers) (sym (law k.board.opened history (joined k.board.list) (facts.begins history stands))) in
      subst (λ (l : List Command). Keeps (running_in device k) (machine_of k.progress l)) acknowledged (facts.keeps history stands)

  left : (image : List ℕ) → (device k.disk).may_leave image → (history : List Command) → Stands history (device k.opened).seen
      → StandsWith (history ++ commands) (commands_of (in_flight_of k.progress.commit)) image
  left image may history stands = stands_with k.progress.commit (history ++ commands) image ((kept history stands).images image may)

  -- the values that the keeper hands back, with a list that goes on to all prepared batches and all that each report
  -- has entered
  pub gives_back : {closing : Closing D} {reports : List Report} → closing.disk ≡ k.disk → closing.auction ≡ k.progress.committed → closing.has_failed ≡ k.failed
      → closing.in_flight ≡ in_flight_of k.progress.commit → closing.published.log ≡ k.board.list
      → closing.published.book ≡ closing.whole.book → IsPrefix (k.board.list ++ k.board.pending) closing.whole.log
      → All (λ r. r.viewer.book ≡ closing.whole.book) reports → All (λ r. IsPrefix r.viewer.list closing.whole.log) reports
      → GivesBack device (device k.opened) k.board.opened closing reports
  gives_back disk auction failed flight is book begins followed entered = record {
    leaves = rw (disk, auction, flight, is) (record {
      shows = λ history stands. (kept history stands).shows;
      reads = left (device k.disk).seen (device k.disk).seen_may_stay;
      images = λ history stands image may. left image may history stands;
    });
    listed = record {
      leads = rw (auction, is) (sym facts.shown);
      judged = rw (auction, flight) (λ answers flies. judged_flight k.progress.commit k.progress.committed answers facts.judged flies);
      book = book;
      begins = rw (is, flight, same_batch k.progress.commit, sym facts.prepared) begins;
      followed = followed;
      entered = entered;
    };
    told = rw (failed, disk) facts.told;
  }

-- the same of a device that gave the same bytes, with as many failed calls
pub gives_for : {D : Type 0} {device : D → Device} {opened other : Device} {before : AuctionValue} {closing : Closing D} {reports : List Report} → opened.seen ≡ other.seen
    → opened.failures ≡ other.failures → GivesBack device opened before closing reports → GivesBack device other before closing reports
gives_for seen failures back =
    record { leaves = rw (sym seen) back.leaves; listed = back.listed; told = record { fails = rw (sym failures) back.told.fails; works = rw (sym failures) back.told.works } }
