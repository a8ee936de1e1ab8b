-- The cells of a batch, written at the start of the body of a frame.
use Rattle.std.proofs.Common.{◌≡◌, ℕ, ◌+◌, ◌≤◌, List, length, take, drop, sym, ◌∙◌, ap, subst, arith}
use Rattle.std.proofs.lemmas.List.{take-take, length-take-le}
use Rattle.hpb_rules.specs.Tree.{Rules}
use Rattle.hpb_codec.specs.declared.batch.Batch.{Batch}
use Rattle.hpb_codec.specs.Numbers.{before}
use Rattle.hpb_codec.specs.Cells.{cells_of, size_of_cells, BeginsCells, SpellsCells}
use Rattle.hpb_disk.specs.Images.{part, put}
use Rattle.hpb_disk.specs.Laws.{PutIsRead}

-- The bytes that encoding writes, and their number.
module _ (batch : Batch) (size : ℕ) (out : List ℕ) (sized : size ≡ size_of_cells (length batch.commands)) (few : size ≤ 1520) (all : length out ≡ 1520)
    (written : before size out ≡ cells_of batch) where
  pub cells_are : take size out ≡ cells_of batch
  unfolding before
  cells_are = written

  long : length (take size out) ≡ size
  long = length-take-le size out (omega (arith, few, all))

  pub cells_sized : length (cells_of batch) ≡ size
  cells_sized = ap length (sym cells_are) ∙ long

  pub cells_few : length (cells_of batch) ≤ 1520
  cells_few = omega (arith, few, cells_sized)

  pub cells_say : PutIsRead → (at : ℕ) (old image : List ℕ) → at + length (cells_of batch) ≤ length old → image ≡ put at (cells_of batch) old
      → (rules : Rules) → SpellsCells rules (before size out) batch → BeginsCells rules (part at 1520 image) batch
  unfolding before
  cells_say reads at old image inside put_there rules spells =
      let read : part at size image ≡ take size out =
      ap (λ (n : ℕ). part at n image) (sym cells_sized) ∙ ap (part at (length (cells_of batch))) put_there ∙ reads at (cells_of batch) old inside ∙ sym cells_are in
      let there : take size (part at 1520 image) ≡ take size out = take-take size 1520 (drop at image) few ∙ read in
      subst (λ (n : ℕ). SpellsCells rules (take n (part at 1520 image)) batch) sized (subst (λ (l : List ℕ). SpellsCells rules l batch) (sym there) spells)
