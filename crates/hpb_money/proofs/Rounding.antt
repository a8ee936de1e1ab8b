-- Percentages, multiples and shares.
use Rattle.std.proofs.Common.{◌≡◌, ℕ, ◌+◌, ◌*◌, ◌/◌, ◌%◌, ◌<◌, ◌≤◌, List, get_or, sym, ap, ◌∙◌, ⊎_elim, arith, suc-mul, le_refl}
use Rattle.std.proofs.lemmas.Bool.{cases_lt}
use Rattle.std.proofs.lemmas.Nat.{div-add-mod'}
use Rattle.std.proofs.lemmas.Grind.{div_ceil_times}
use Rattle.std.proofs.Math.Nat.{mul-le-mul, mul_assoc, mul_comm, add-mul}
use Rattle.std.specs.Int.{div_ceil}
use Rattle.hpb_rules.specs.Prices.{IsShares, share}
use Rattle.hpb_rules.proofs.TreeLaws.{shares_are_one}
use Rattle.hpb_rules.proofs.Loops.{share_at}

-- a percentage in two parts: that of the hundreds, and that of the rest
parts : (a p : ℕ) → a * p ≡ 100 * (a / 100 * p) + a % 100 * p
parts a p = ap (λ x. x * p) (sym (div-add-mod' a 100)) ∙ add-mul (a / 100 * 100) (a % 100) p ∙ ap (λ x. x + a % 100 * p) (ap (λ x. x * p) (mul_comm (a / 100) 100) ∙ mul_assoc 100 (a / 100) p)

pub percent_enough : (a p : ℕ) → a * p ≤ 100 * (a / 100 * p + div_ceil (a % 100 * p) 100)
percent_enough a p = omega (arith, parts a p, (div_ceil_times (a % 100 * p) 100 (omega arith)).0)

pub percent_least : (a p x : ℕ) → a * p ≤ 100 * x → a / 100 * p + div_ceil (a % 100 * p) 100 ≤ x
percent_least a p x h = omega (arith, parts a p, (div_ceil_times (a % 100 * p) 100 (omega arith)).1)

pub multiple_of : (r s : ℕ) → r % s ≡ 0 → (q : ℕ) × (r ≡ q * s)
multiple_of r s e = (r / s, omega (arith, div-add-mod' r s))

pub multiple_least : (a r s q : ℕ) → 0 < s → r % s ≡ 0 → r < a + s → a ≤ q * s → r ≤ q * s
multiple_least a r s q some e below h =
    let m = multiple_of r s e in
    ⊎_elim
    (λ more. absurd (omega (arith, m.1, mul-le-mul more (le_refl s), suc-mul q s)))
    (λ le. omega (arith, m.1, mul-le-mul le (le_refl s)))
    (cases_lt q m.0)

pub share_law : (d k i r : ℕ) → i < k → r ≡ share d k i → (xs : List ℕ) → IsShares d k xs → r ≡ get_or xs i 0
share_law d k i r h e xs a = e ∙ sym (ap (λ ys. get_or ys i 0) ((shares_are_one d k (omega arith)).1 xs a) ∙ share_at d k i h)

pub share_most : (d k i : ℕ) → i < k → share d k i ≤ d
share_most d k i h = grind (arith, div-add-mod' d k, mul-le-mul (le_refl (d / k)) (let some : 1 ≤ k = omega arith in some))
