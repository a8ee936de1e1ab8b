-- A pass over all nodes.
use Rattle.std.proofs.Common.{◌≡◌, ℕ, zero, suc, ◌+◌, ◌<◌, ◌≤◌, true, cond, List, length, refl, ap, arith}
use Rattle.std.specs.Int.{bit_at}
use Rattle.std.specs.List.{count_by, range_with_len}
use Rattle.std.proofs.lemmas.Bool.{eq-eqb, both_ways}
use Rattle.std.proofs.lemmas.List.Sums.{sum_by-cons}
use Rattle.std.proofs.lemmas.Nat.Bits.{bit_at_ones}
use Rattle.hpb_rules.specs.declared.limits.TheConstants.{MOST_NODES}
use Rattle.hpb_rules.specs.Tree.{Node, IsTree, itself}
use Rattle.hpb_rules.specs.Saved.{has_bit}
use Rattle.hpb_winners.specs.View.{OutcomeView, IsOutcome, no_bid}
use Rattle.hpb_winners.specs.Along.{WasOutcome, is_reached, reached_count}
use Rattle.hpb_winners.proofs.Along.{finds}

-- the mask of all nodes
abbrev pub every : ℕ
every = 340282366920938463463374607431768211455

every_bit : (n : ℕ) → n < 128 → has_bit every n ≡ true
every_bit n h = eq-eqb (bit_at every n) 1 (bit_at_ones 128 n h)

pub was_none : (nodes : List Node) (bid : ℕ → ℕ) {o : OutcomeView} → length nodes ≤ MOST_NODES → IsOutcome nodes no_bid o → WasOutcome nodes bid every o
was_none nodes bid few found = record {
  was = no_bid;
  outcome = found;
  most = λ n. omega arith;
  same = λ n h off. absurd (both_ways (has_bit every n) off (every_bit n (omega arith)));
}

count_every : (nodes : List Node) → IsTree nodes → length nodes ≤ MOST_NODES → (k i : ℕ) → i + k ≡ length nodes → count_by (is_reached nodes every) (range_with_len i k) ≡ k
count_every nodes tree few zero i e = refl
count_every nodes tree few (suc k) i e =
    omega (
      arith,
      sum_by-cons (λ n. cond {A = ℕ} (is_reached nodes every n) 1 0) i (range_with_len (i + 1) k),
      ap (λ b. cond {A = ℕ} b 1 0) (finds nodes no_bid every tree every i (i, omega arith, every_bit i (omega arith), itself)),
      count_every nodes tree few k (i + 1) (omega arith),
    )

-- a pass over the mask of all nodes forms each of them
pub all_reached : (nodes : List Node) → IsTree nodes → length nodes ≤ MOST_NODES → reached_count nodes every ≡ length nodes
all_reached nodes tree few = count_every nodes tree few (length nodes) 0 (omega arith)
