-- The effect of a stop on the writes that no sync covers.
use Rattle.std.specs.Prelude.{ℕ, List, [], ◌∷◌, length, replicate}
use Rattle.hpb_disk.specs.declared.fate.Fate.{Fate}
use Rattle.hpb_disk.specs.declared.fate.Fate.TheVariants.{Kept, Lost, Filled}
use Rattle.hpb_disk.specs.Calls.{after_write}

-- The image after one write with this fate.
abbrev pub struck : Fate → ℕ → List ℕ → List ℕ → List ℕ
struck Kept at bytes image = after_write at bytes image
struck Lost at bytes image = image
struck (Filled byte) at bytes image = after_write at (replicate (length bytes) byte) image

-- The image after all of them in order, each with the next fate. Writes without a fate are lost.
abbrev pub stopped : List (ℕ × List ℕ) → List Fate → List ℕ → List ℕ
stopped [] fates image = image
stopped (write ∷ writes) [] image = stopped writes [] (struck Lost write.0 write.1 image)
stopped (write ∷ writes) (fate ∷ fates) image = stopped writes fates (struck fate write.0 write.1 image)
