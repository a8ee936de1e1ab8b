use Rattle.std.proofs.Common.{◌≡◌, ◌<◌, ℕ}
use Rattle.std.specs.Prelude.{slice_index, EachIndex}
use Rattle.hpb_codec.proofs.reader.is_zero.Given as goal

abbrev pub invariant-loop-byte : goal.invariant-loop-byte
invariant-loop-byte l = record {
  zero : l.greatest ≡ 0 → (k : ℕ) → k < l.byte-index → slice_index l.bytes k ≡ 0;
  none : EachIndex l.bytes (λ k. slice_index l.bytes k ≡ 0) → l.greatest ≡ 0;
}
