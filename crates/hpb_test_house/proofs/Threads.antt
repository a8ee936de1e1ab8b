-- Threads that are started for clients, one a turn, and then joined.
use Rattle.std.proofs.Common.{[], ◌≡◌, ℕ, zero, suc, ◌<◌, List, ◌∷◌, length, map, slice_index_or, arith, subst}
use Rattle.hpb_house.specs.Starts.{AreOneByOne}

-- facts at each place are facts one by one
pub all_kept : {A B C : Type 0} (has : A → B → Type 0) (f : C → A) (threads : List C) (results : List B)
    → ((i : ℕ) (d : B) → i < length threads → (thread : C) × (thread ≡ slice_index_or threads i thread) × has (f thread) (slice_index_or results i d))
    → length results ≡ length threads → AreOneByOne has (map f threads) results
all_kept has f [] [] each long = tt
all_kept has f [] (y ∷ results) each long = absurd (omega (arith, long))
all_kept has f (x ∷ threads) [] each long = absurd (omega (arith, long))
all_kept has f (x ∷ threads) (y ∷ results) each long =
    let first = each zero y (omega arith) in (
      subst (λ thread. has (f thread) y) first.1 first.2,
      all_kept has f threads results (λ i d lt. each (suc i) d (omega (arith, lt))) (omega (arith, long)),
    )
