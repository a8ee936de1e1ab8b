-- The body of a slot, chunk by chunk.
use Rattle.std.proofs.Common.{◌≡◌, ℕ, ◌+◌, ◌*◌, ◌<◌, List, ◌++◌, length, take, drop, sym, ◌∙◌, ap, arith, append_assoc}
use Rattle.std.proofs.Math.Seq.{take-add}
use Rattle.std.proofs.lemmas.List.{drop-drop}
use Rattle.hpb_codec.specs.Laws.{chunk_of, ChunksAreBody}
use Rattle.hpb_disk.specs.Images.{part}
use Rattle.hpb_slots.specs.declared.slot.Slot.{Slot}
use Rattle.hpb_slots.specs.Slots.{gate_at, body_of, HasChunks}

next_part : (at many : ℕ) (image : List ℕ) → part at (4096 + many) image ≡ part at 4096 image ++ part (at + 4096) many image
next_part at many image = take-add 4096 many (drop at image) ∙ ap (λ (l : List ℕ). take 4096 (drop at image) ++ take many l) (drop-drop 4096 at image)

module _ (slot : Slot) (body image : List ℕ) (has : HasChunks slot 4 body image) where
  piece : (i at : ℕ) → i < 4 → at ≡ gate_at slot + 4096 + 4096 * i → part at 4096 image ≡ chunk_of i body
  piece i at some is = ap (λ (from : ℕ). part from 4096 image) is ∙ has i some

  pub whole : (chunks : ChunksAreBody) → length body ≡ 16384 → body_of slot image ≡ body
  whole chunks size =
      let p = gate_at slot + 4096 in
      let last = piece 3 (p + 4096 + 4096 + 4096) (omega arith) (omega arith) in
      let third = next_part (p + 4096 + 4096) 4096 image ∙ ap (λ (l : List ℕ). l ++ part (p + 4096 + 4096 + 4096) 4096 image) (piece 2 (p + 4096 + 4096) (omega arith) (omega arith)) ∙ ap (λ (l : List ℕ). chunk_of 2 body ++ l) last in
      let second = next_part (p + 4096) 8192 image ∙ ap (λ (l : List ℕ). l ++ part (p + 4096 + 4096) 8192 image) (piece 1 (p + 4096) (omega arith) (omega arith)) ∙ ap (λ (l : List ℕ). chunk_of 1 body ++ l) third in
      next_part p 12288 image ∙ ap (λ (l : List ℕ). l ++ part (p + 4096) 12288 image) (piece 0 p (omega arith) (omega arith)) ∙ ap (λ (l : List ℕ). chunk_of 0 body ++ l) second
      ∙ sym (chunks body size ∙ append_assoc (chunk_of 0 body ++ chunk_of 1 body) (chunk_of 2 body) (chunk_of 3 body) ∙ append_assoc (chunk_of 0 body) (chunk_of 1 body) (chunk_of 2 body ++ chunk_of 3 body))
