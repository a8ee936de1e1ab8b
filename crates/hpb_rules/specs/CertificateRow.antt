-- The worked row of certificates: the high bids after the first round, prices of the four licences, and a set of winners.
use Rattle.std.specs.Prelude.{ℕ, Bool, true, false, List, [], ◌∷◌, slice_index}
use Rattle.hpb_rules.specs.Prices.{IsCertificate}
use Rattle.hpb_rules.specs.RowRules.{small}

-- The high bids after `first_round`: 500 on `all`, 100 on `a`, 150 on `b`, 100 on `c`, and 0 on the others.
abbrev pub highs : ℕ → ℕ
highs node = slice_index (500 ∷ 0 ∷ 100 ∷ 150 ∷ 100 ∷ 0 ∷ []) node

-- Prices of the licences `a`, `b`, `c` and `d`, and 0 of the packages.
abbrev pub priced : ℕ → ℕ → ℕ → ℕ → ℕ → ℕ
priced a b c d node = slice_index (0 ∷ 0 ∷ a ∷ b ∷ c ∷ d ∷ []) node

-- The set of nodes in which the package `all` wins alone.
abbrev pub all_wins : List Bool
all_wins = true ∷ false ∷ false ∷ false ∷ false ∷ false ∷ []

-- The set of nodes in which `a`, `b` and `c` win.
abbrev pub parts_win : List Bool
parts_win = false ∷ false ∷ true ∷ true ∷ true ∷ false ∷ []

-- Two ways to split the price certify the package. Prices that don't sum to the winners' bids, or that leave a bid
-- uncovered, certify nothing.
pub record Certificates : Type 0 where
  pub computed : IsCertificate small.nodes highs (priced 138 187 175 0) all_wins
  pub another : IsCertificate small.nodes highs (priced 137 188 175 0) all_wins
  pub other_winners : IsCertificate small.nodes highs (priced 138 187 175 0) parts_win → ⊥
  pub uncovered : IsCertificate small.nodes highs (priced 99 226 175 0) all_wins → ⊥
