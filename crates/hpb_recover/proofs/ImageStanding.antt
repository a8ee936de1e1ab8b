-- An image stands for a list of commands if its reading shows a front of the list and spells the rest.
use Rattle.std.proofs.Common.{ℕ, suc, List, ◌++◌, sym, subst}
use Rattle.hpb_rules.specs.declared.command.Command.{Command}
use Rattle.hpb_rules.specs.Answer.{IsHistory}
use Rattle.hpb_rules.specs.AuctionValue.{Shows}
use Rattle.hpb_rules.proofs.RunLaws.{rest_is_accepted, rest_is_shown}
use Rattle.hpb_slots.specs.Laws.{NewestIsOne}
use Rattle.hpb_journal.specs.Frames.{Kept}
use Rattle.hpb_rules.specs.Fronts.{joined}
use Rattle.hpb_rules.proofs.Judged.{shown_count}
use Rattle.hpb_journal.specs.Journals.{ShapesAreJournal}
use Rattle.hpb_codec.specs.Laws.{HeadsAreOne}
use Rattle.hpb_recover.specs.Heads.{layout_of}
use Rattle.hpb_recover.specs.Standing.{Stands}
use Rattle.hpb_recover.specs.Readings.{Found, Reads, layout_in, checkpoint, last_value}
use Rattle.hpb_recover.specs.Laws.{ReadIsShown, StandsIsRead, StandsForOne, IsTold}
use Rattle.hpb_recover.proofs.ImageReading.{reading_is_one}

module _ (history : List Command) (image : List ℕ) (stands : Stands history image) where
  abbrev pub found : Found
  found = record { head = stands.head; slot = stands.slot; covered = stands.covered; saved = stands.saved; batches = stands.batches }

  allowed : IsHistory (checkpoint found).rules (stands.before ++ joined stands.batches)
  allowed = subst (IsHistory stands.head.definition) stands.cuts stands.allowed

  pub found_reads : Reads found image
  found_reads = record {
    reaches = record {
      formatted = stands.formatted;
      laid = stands.laid;
      newest = stands.newest;
      kept = subst (λ (k : ℕ). Kept (layout_of stands.head) stands.head.definition stands.covered (suc k) stands.batches image)
          (sym (shown_count (checkpoint found) stands.before stands.shows)) stands.kept;
      accepted = (rest_is_accepted (checkpoint found) stands.before (joined stands.batches) stands.shows).1 allowed;
    };
    ends = λ later. stands.ends later.0 later.1 later.2 later.3;
  }

  pub found_told : IsTold history found
  found_told = record { before = stands.before; shows = stands.shows; cuts = stands.cuts }

  found_shows : Shows (last_value found) history
  found_shows = subst (Shows (last_value found)) (sym stands.cuts) (rest_is_shown (checkpoint found) stands.before (joined stands.batches) stands.shows found_reads.reaches.accepted)

pub read_is_shown : HeadsAreOne → NewestIsOne → ShapesAreJournal → ReadIsShown
read_is_shown heads newest shapes history other image stands reads =
    subst (λ (f : Found). Shows (last_value f) history) (reading_is_one heads newest shapes (found history image stands) other image (found_reads history image stands) reads)
    (found_shows history image stands)

stands_of : (history : List Command) (f : Found) (image : List ℕ) → Reads f image → IsTold history f → Stands history image
stands_of history f image reads told =
    let r = reads.reaches in
    record {
      formatted = r.formatted;
      head = f.head;
      laid = r.laid;
      allowed = subst (IsHistory f.head.definition) (sym told.cuts) ((rest_is_accepted (checkpoint f) told.before (joined f.batches) told.shows).0 r.accepted);
      slot = f.slot;
      covered = f.covered;
      saved = f.saved;
      newest = r.newest;
      before = told.before;
      shows = told.shows;
      batches = f.batches;
      cuts = told.cuts;
      kept = subst (λ (k : ℕ). Kept (layout_in f) f.head.definition f.covered (suc k) f.batches image) (shown_count (checkpoint f) told.before told.shows) r.kept;
      ends = λ b from below own. reads.ends (b, from, below, own);
    }

pub stands_is_read : StandsIsRead
stands_is_read history image = (
  λ stands. (found history image stands, found_reads history image stands, found_told history image stands),
  λ read. stands_of history read.0 image read.1 read.2,
)

pub stands_for_one : HeadsAreOne → NewestIsOne → ShapesAreJournal → StandsForOne
stands_for_one heads newest shapes one other image stands stands' =
    let f = found one image stands in
    (last_value f, found_shows one image stands, read_is_shown heads newest shapes other f image stands' (found_reads one image stands))
