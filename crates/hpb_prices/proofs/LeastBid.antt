-- The least bid, rounded twice.
use Rattle.std.proofs.Common.{◌≡◌, ℕ, ◌+◌, ◌-◌, ◌*◌, ◌<◌, ◌≤◌, max, arith}
use Rattle.hpb_rules.specs.Prices.{IsMinimum, minimum_of}
use Rattle.hpb_rules.proofs.TreeLaws.{minimum_is_one}

module _ (step percent opening price : ℕ) {raise amount result : ℕ} (some : 0 < step) (raise_enough : price * percent ≤ 100 * raise) (raise_least : (x : ℕ) → price * percent ≤ 100 * x → raise ≤ x) (amount_is : amount ≡ max opening (price + raise))
    (multiple : (q : ℕ) × (result ≡ q * step)) (enough : amount ≤ result) (least : (q : ℕ) → amount ≤ q * step → result ≤ q * step) where
  pub minimum_is : IsMinimum step percent opening price result
  minimum_is = record {
    enough = record { multiple = multiple; meets_opening = omega arith; meets_price = omega (arith, raise_enough) };
    least = λ other o.
        let above : price ≤ other = omega (arith, o.meets_price) in
        let rest : raise ≤ other - price = raise_least (other - price) (omega (arith, o.meets_price)) in
        let all : amount ≤ other = omega (arith, o.meets_opening) in
        omega (arith, o.multiple.1, least o.multiple.0 (omega (arith, o.multiple.1)));
  }

  pub minimum_value : result ≡ minimum_of step percent opening price
  minimum_value = (minimum_is_one step percent opening price some).1 result minimum_is
