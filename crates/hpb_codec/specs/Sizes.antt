-- How many bytes spell a number, and how many a number or a text has with more behind it.
use Rattle.std.specs.Prelude.{◌≡◌, ℕ, zero, suc, ◌+◌, List, ◌++◌, length, refl}
use Rattle.std.proofs.Common.{ap, ◌∙◌, length-append}
use Rattle.hpb_codec.specs.Numbers.{number}

pub length-number : (k n : ℕ) → length (number k n) ≡ k
unfolding number
length-number zero n = refl
length-number (suc k) n = ap suc (length-number k n)

pub behind : (k n : ℕ) {m : ℕ} (back : List ℕ) → length back ≡ m → length (number k n ++ back) ≡ k + m
behind k n {m} back e = length-append (number k n) back ∙ ap (λ (x : ℕ). x + length back) (length-number k n) ∙ ap (λ (x : ℕ). k + x) e

pub behind_text : (k : ℕ) (text : List ℕ) {m : ℕ} (back : List ℕ) → length text ≡ k → length back ≡ m → length (text ++ back) ≡ k + m
behind_text k text {m} back t e = length-append text back ∙ ap (λ (x : ℕ). x + length back) t ∙ ap (λ (x : ℕ). k + x) e
