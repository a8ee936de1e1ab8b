use Rattle.std.proofs.Common.{refl}
use Rattle.hpb_engine.proofs.DeviceCalls.{ended, synced, unsynced}
use Rattle.hpb_engine.proofs.RetiredFrames.{cleaned_fits, cleaned_synced, cleaned_reads}
use Rattle.hpb_engine.proofs.engine.Engine.sync_retired.Goals as goal

pub returns-clause-called : goal.returns-clause-called
returns-clause-called g c =
    let s = c.args.self.now.progress in
    let laws = c.laws_below.ensures in
    rw c.end-end.ensures (synced laws refl c.requires.works c.in_ok-sync.ensures (λ k. k) (λ k. refl)
    (λ k fits. cleaned_fits laws s k fits c.requires.done)
    (λ k image fits. cleaned_synced laws s k fits c.requires.done image)
    (λ k image fits. cleaned_reads laws s k fits c.requires.done image))

pub returns-in_err-sync-clause-called : goal.returns-in_err-sync-clause-called
returns-in_err-sync-clause-called g c = ended c.from_residual.result c.from_residual.ensures.1 (unsynced c.laws_below.ensures refl c.requires.works c.in_err-sync.ensures)
