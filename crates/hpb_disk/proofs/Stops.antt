-- A stop leaves one of the images that a crash may leave.
use Rattle.std.proofs.Common.{◌≡◌, ℕ, List, [], ◌∷◌, ◌++◌, length, refl, sym, subst}
use Rattle.std.specs.Prelude.{replicate}
use Rattle.std.proofs.lemmas.List.{length-replicate}
use Rattle.hpb_disk.specs.declared.fate.Fate.{Fate}
use Rattle.hpb_disk.specs.declared.fate.Fate.TheVariants.{Kept, Lost, Filled}
use Rattle.hpb_disk.specs.Calls.{Call, after_write, left_of, base_of, pending_of}
use Rattle.hpb_disk.specs.Calls.Call.{read, wrote, synced, failed, write_failed}
use Rattle.hpb_disk.specs.Traces.{write_is_torn, torn_self}
use Rattle.hpb_disk.specs.Fates.{struck, stopped}
use Rattle.hpb_disk.specs.Images.{Torn, TornFrom}

-- The newest write has some fate.
stopped_last : (writes : List (ℕ × List ℕ)) (fates : List Fate) (write : ℕ × List ℕ) (image : List ℕ)
    → (fate : Fate) × (stopped (writes ++ write ∷ []) fates image ≡ struck fate write.0 write.1 (stopped writes fates image))
stopped_last [] [] write image = (Lost, refl)
stopped_last [] (fate ∷ fates) write image = (fate, refl)
stopped_last (one ∷ writes) [] write image = stopped_last writes [] write (struck Lost one.0 one.1 image)
stopped_last (one ∷ writes) (fate ∷ fates) write image = stopped_last writes fates write (struck fate one.0 one.1 image)

struck_is_torn : (fate : Fate) (at : ℕ) (bytes image : List ℕ) → Torn at (length bytes) image (struck fate at bytes image)
struck_is_torn Kept at bytes image = write_is_torn at bytes image
struck_is_torn Lost at bytes image = torn_self at (length bytes) image
struck_is_torn (Filled byte) at bytes image =
    let filled = replicate (length bytes) byte in
    subst (λ (count : ℕ). Torn at count image (after_write at filled image)) (length-replicate (length bytes) byte) (write_is_torn at filled image)

torn_last : (writes : List (ℕ × List ℕ)) (fates : List Fate) (at : ℕ) (bytes image : List ℕ) (left : List ℕ → Type 0)
    → left (stopped writes fates image) → TornFrom at (length bytes) left (stopped (writes ++ (at, bytes) ∷ []) fates image)
torn_last writes fates at bytes image left may =
    let last = stopped_last writes fates (at, bytes) image in
    (stopped writes fates image, may, subst (Torn at (length bytes) (stopped writes fates image)) (sym last.1) (struck_is_torn last.0 at bytes (stopped writes fates image)))

pub stopped_is_left : (first : List ℕ) (calls : List Call) (fates : List Fate) → left_of first calls (stopped (pending_of calls) fates (base_of first calls))
stopped_is_left first [] fates = refl
stopped_is_left first (read ∷ calls) fates = stopped_is_left first calls fates
stopped_is_left first (wrote at bytes ∷ calls) fates =
    torn_last (pending_of calls) fates at bytes (base_of first calls) (left_of first calls) (stopped_is_left first calls fates)
stopped_is_left first (synced ∷ calls) fates = refl
stopped_is_left first (failed ∷ calls) fates = stopped_is_left first calls fates
stopped_is_left first (write_failed at bytes ∷ calls) fates =
    torn_last (pending_of calls) fates at bytes (base_of first calls) (left_of first calls) (stopped_is_left first calls fates)
