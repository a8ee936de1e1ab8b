-- Results of tests, and tests of bits: small steps that other crates' proofs cite too.
use Rattle.std.proofs.Common.{◌≡◌, ℕ, Bool, true, false, cond, ◌||◌, eqb, refl, sym, ap, ◌∙◌}
use Rattle.std.specs.Int.{bit_at}
use Rattle.std.proofs.lemmas.Nat.Bits.{bit_at-zero}

-- two tests that follow from one another give the same answer
pub same_answer : (one other : Bool) → (one ≡ true → other ≡ true) → (other ≡ true → one ≡ true) → one ≡ other
same_answer true other there back = sym (there refl)
same_answer false true there back = back refl
same_answer false false there back = refl

-- equal answers on either side
pub or_same : (one other first second : Bool) → one ≡ other → first ≡ second → (one || first) ≡ (other || second)
or_same one other first second e f = cc

-- 0 has no bit
pub no_bit : (mask place : ℕ) → mask ≡ 0 → eqb (bit_at mask place) 1 ≡ false
no_bit mask place none = ap (λ m. eqb (bit_at m place) 1) none ∙ ap (λ b. eqb b 1) (bit_at-zero place)

-- a test that is written as a bit reads back
pub bit_of_test : (test : Bool) → eqb (cond test 1 0) 1 ≡ test
bit_of_test true = refl
bit_of_test false = refl
