-- Bytes begin with at most one text or number of a given size.
use Rattle.std.proofs.Common.{◌≡◌, ℕ, ◌^◌, ◌<◌, List, ◌++◌, length, take, drop, sym, ap, ◌∙◌}
use Rattle.std.proofs.lemmas.List.{take_at, drop_at}
use Rattle.hpb_codec.specs.Numbers.{number, value}
use Rattle.hpb_codec.specs.Sizes.{length-number}
use Rattle.hpb_codec.proofs.Numbers.{value-number}

-- texts of one length, with more bytes behind them
pub same_text : (k : ℕ) (a b x y : List ℕ) → length a ≡ k → length b ≡ k → a ++ x ≡ b ++ y → (a ≡ b) × (x ≡ y)
same_text k a b x y la lb e = (sym (take_at a x k la) ∙ ap (take k) e ∙ take_at b y k lb, sym (drop_at a x k la) ∙ ap (drop k) e ∙ drop_at b y k lb)

-- numbers of one size, with more bytes behind them
pub same_number : (k n m : ℕ) (x y : List ℕ) → n < 256 ^ k → m < 256 ^ k → number k n ++ x ≡ number k m ++ y → (n ≡ m) × (x ≡ y)
same_number k n m x y ln lm e =
    let s = same_text k (number k n) (number k m) x y (length-number k n) (length-number k m) e in
    (sym (value-number k n ln) ∙ ap value s.0 ∙ value-number k m lm, s.1)
