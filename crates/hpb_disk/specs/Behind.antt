-- The times of a device that passes calls on are those of the device behind it.
use Rattle.std.proofs.Common.{◌≡◌, ℕ, ◌+◌, ◌-◌, nat_le, List, [], ◌∷◌, length, refl, ap, ◌∙◌, subst}
use Rattle.std.proofs.Math.Nat.{lt-suc_self, sub-zero}
use Rattle.std.proofs.lemmas.Bool.{lt-leb, cond-false}
use Rattle.hpb_disk.specs.Events.{Event}
use Rattle.hpb_disk.specs.Faults.{passed_on, passed_since}

none_since_now : (events : List Event) → passed_since events (length events) ≡ 0
none_since_now [] = refl
none_since_now (event ∷ events) =
    cond-false (nat_le (length (event ∷ events)) (length events)) (passed_on event + passed_since events (length (event ∷ events))) 0
    (lt-leb (length (event ∷ events)) (length events) (lt-suc_self (length events)))

-- The present is the same for both.
pub now_behind : (past : ℕ → List ℕ → Type 0) (now : ℕ) (events : List Event) (image : List ℕ) → past (now - passed_since events (length events)) image → past now image
now_behind past now events image left =
    subst (λ (moment : ℕ). past moment image) (ap (λ (count : ℕ). now - count) (none_since_now events) ∙ sub-zero now) left
