-- The worked row of certificates.
use Rattle.std.proofs.Common.{◌≡◌, ℕ, zero, suc, ◌+◌, ◌<◌, ◌≤◌, true, false, refl, arith}
use Rattle.std.proofs.lemmas.Bool.{both_ways}
use Rattle.hpb_rules.specs.Choices.{IsChoice, is_in}
use Rattle.hpb_rules.specs.Prices.{Covers}
use Rattle.hpb_rules.specs.RowRules.{small}
use Rattle.hpb_rules.specs.CertificateRow.{highs, priced, all_wins, Certificates}

-- the package alone is in the set
alone : (node : ℕ) → is_in all_wins node ≡ true → node ≡ 0
alone zero e = refl
alone (suc zero) e = absurd (both_ways false refl e)
alone (suc (suc zero)) e = absurd (both_ways false refl e)
alone (suc (suc (suc zero))) e = absurd (both_ways false refl e)
alone (suc (suc (suc (suc zero)))) e = absurd (both_ways false refl e)
alone (suc (suc (suc (suc (suc zero))))) e = absurd (both_ways false refl e)
alone (suc (suc (suc (suc (suc (suc node)))))) e = absurd (both_ways false refl e)

has_bid : (node : ℕ) → is_in all_wins node ≡ true → 0 < highs node
has_bid zero e = omega arith
has_bid (suc node) e = absurd (omega (arith, alone (suc node) e))

choice : IsChoice small.nodes highs all_wins
choice = record {
  length = refl;
  have_bids = has_bid;
  apart = λ one other a b e. absurd (e (omega (arith, alone one a, alone other b)));
}

-- prices that cover each of the six bids
covered : (a b c d : ℕ) → 100 ≤ a → 150 ≤ b → 100 ≤ c → 500 ≤ a + b + c → Covers small.nodes highs (priced a b c d)
covered a b c d p q r s zero l = omega arith
covered a b c d p q r s (suc zero) l = omega arith
covered a b c d p q r s (suc (suc zero)) l = omega arith
covered a b c d p q r s (suc (suc (suc zero))) l = omega arith
covered a b c d p q r s (suc (suc (suc (suc zero)))) l = omega arith
covered a b c d p q r s (suc (suc (suc (suc (suc zero))))) l = omega arith
covered a b c d p q r s (suc (suc (suc (suc (suc (suc node)))))) l = absurd (omega arith)

pub certificates : Certificates
certificates = record {
  computed = record { choice = choice; covers = covered 138 187 175 0 (omega arith) (omega arith) (omega arith) (omega arith); sums = refl };
  another = record { choice = choice; covers = covered 137 188 175 0 (omega arith) (omega arith) (omega arith) (omega arith); sums = refl };
  other_winners = λ is. let e : ◌≡◌ {A = ℕ} 500 350 = is.sums in omega (arith, e);
  uncovered = λ is. let e : 100 ≤ 99 = is.covers 2 (omega arith) in omega (arith, e);
}
