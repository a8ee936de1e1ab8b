-- Chunks of a body.
use Rattle.std.proofs.Common.{◌≡◌, ℕ, ◌+◌, ◌*◌, ◌≤◌, List, ◌++◌, take, drop, length, refl, sym, ap, ◌∙◌, arith, append_assoc}
use Rattle.std.proofs.lemmas.List.{drop-drop, take-append-drop, take_all, length-drop}
use Rattle.hpb_codec.specs.Laws.{chunk_of, ChunksAreBody}

-- the bytes from a chunk on
unfoldable from_chunk : ℕ → List ℕ → List ℕ
from_chunk i body = drop (i * 4096) body

chunk_first : (i : ℕ) (body : List ℕ) → from_chunk i body ≡ chunk_of i body ++ from_chunk (i + 1) body
unfolding from_chunk chunk_of
chunk_first i body =
    let next : i * 4096 + 4096 ≡ (i + 1) * 4096 = omega arith in
    sym (take-append-drop 4096 (drop (i * 4096) body)) ∙ ap (λ (x : List ℕ). take 4096 (drop (i * 4096) body) ++ x) (drop-drop 4096 (i * 4096) body ∙ ap (λ (k : ℕ). drop k body) next)

chunk_last : (i : ℕ) (body : List ℕ) → length body ≤ (i + 1) * 4096 → from_chunk i body ≡ chunk_of i body
unfolding from_chunk chunk_of
chunk_last i body le = sym (take_all 4096 (drop (i * 4096) body) (omega (arith, length-drop (i * 4096) body)))

all : (body : List ℕ) → from_chunk 0 body ≡ body
unfolding from_chunk
all body = refl

pub chunks_are_body : ChunksAreBody
chunks_are_body body size = sym (all body) ∙ rw (chunk_first 0 body, chunk_first 1 body, chunk_first 2 body, chunk_last 3 body (omega arith)) (simp append_assoc)
