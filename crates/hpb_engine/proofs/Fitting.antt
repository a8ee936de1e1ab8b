-- Numbers that change without the committed auction.
use Rattle.std.proofs.Common.{◌≡◌, ℕ, ◌-◌, ◌≤◌, true}
use Rattle.hpb_engine.specs.declared.progress.Checkpoint.{Checkpoint}
use Rattle.hpb_engine.specs.declared.progress.Commit.{Commit}
use Rattle.hpb_engine.specs.declared.progress.Progress.{Progress}
use Rattle.hpb_engine.specs.declared.progress.Retirement.{Retirement}
use Rattle.hpb_engine.specs.Cuts.{Cut, all, upto}
use Rattle.hpb_engine.specs.Facts.{Fits, IsFlight, IsSnapshot}
use Rattle.hpb_engine.specs.Numbers.{IsSafe}

-- A progress with another end of its clean frames, batch in flight, checkpoint and retirement.
abbrev pub beside : Progress → ℕ → Commit → Checkpoint → Retirement → Progress
beside s clean_end commit checkpoint retirement = record s {
  window = record s.window { clean_end = clean_end };
  commit = commit;
  checkpoint = checkpoint;
  retirement = retirement;
}

-- It agrees with the same acknowledged commands.
pub refitted : (s : Progress) (k : Cut) → Fits s k → (clean_end : ℕ) (commit : Commit) (checkpoint : Checkpoint) (retirement : Retirement)
    → IsSafe (beside s clean_end commit checkpoint retirement)
    → (commit.busy ≡ true → IsFlight k.rules s.window.next s.committed (all k) commit)
    → (1 ≤ checkpoint.steps → IsSnapshot k.rules checkpoint.body.items checkpoint.covers (upto k (checkpoint.covers - s.window.covered)))
    → Fits (beside s clean_end commit checkpoint retirement) k
refitted s k fits clean_end commit checkpoint retirement safe flight snapshot = record {
  safe = safe;
  rules = fits.rules;
  next = fits.next;
  shows = fits.shows;
  enough = fits.enough;
  flight = flight;
  snapshot = snapshot;
}
