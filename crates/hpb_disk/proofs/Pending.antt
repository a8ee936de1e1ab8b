-- The writes that no sync covers, from the record of a device in memory.
use Rattle.std.proofs.Common.{◌≡◌, ℕ, ◌≤◌, List, [], ◌∷◌, ◌++◌, length, drop, refl, ap, ◌∙◌}
use Rattle.std.proofs.lemmas.List.{drop-append-le}
use Rattle.hpb_disk.specs.declared.done.Done.{Done}
use Rattle.hpb_disk.specs.declared.done.Done.TheVariants.{Read, Write, Sync}
use Rattle.hpb_disk.specs.Records.{writes_of}

writes_of-append : (some others : List Done) → writes_of (some ++ others) ≡ writes_of some ++ writes_of others
writes_of-append [] others = refl
writes_of-append (Read ∷ some) others = writes_of-append some others
writes_of-append (Write at bytes ∷ some) others = ap (λ (writes : List (ℕ × List ℕ)). (at, bytes.items) ∷ writes) (writes_of-append some others)
writes_of-append (Sync ∷ some) others = writes_of-append some others

-- One more call that no sync covers.
pub pending_next : (done later : List Done) (one : Done) (covered : ℕ) (pending : List (ℕ × List ℕ)) → covered ≤ length done
    → writes_of (drop covered done) ≡ pending → later ≡ done ++ one ∷ [] → writes_of (drop covered later) ≡ pending ++ writes_of (one ∷ [])
pending_next done later one covered pending inside was is =
    ap (λ (l : List Done). writes_of (drop covered l)) is
    ∙ ap writes_of (drop-append-le covered done (one ∷ []) inside)
    ∙ writes_of-append (drop covered done) (one ∷ [])
    ∙ ap (λ (writes : List (ℕ × List ℕ)). writes ++ writes_of (one ∷ [])) was
