-- In every tree the winners and the prices of its nodes are a certificate.
use Rattle.std.proofs.Common.{◌≡◌, ℕ, zero, suc, ◌+◌, ◌<◌, ◌≤◌, Bool, true, cond, List, Option, Some, None, length, refl, sym, ap, ◌∙◌, arith, subst}
use Rattle.std.specs.List.{sum_by, range_with_len}
use Rattle.std.proofs.lemmas.List.Sums.{sum_by-cons}
use Rattle.hpb_rules.specs.declared.licence.Terms.{Terms}
use Rattle.hpb_rules.specs.Tree.{Node, terms_of, sum_over, at_or_under, IsTree}
use Rattle.hpb_rules.specs.Choices.{IsWinners, winners}
use Rattle.hpb_rules.specs.Prices.{IsCertificate, licence_price, price}
use Rattle.hpb_rules.proofs.Winners.{winners_are_one}
use Rattle.hpb_rules.proofs.PriceSums.{term}
use Rattle.hpb_rules.proofs.NodePrices.{covers, sum_is_revenue, licence_price_is}

-- sums over licences of numbers that agree there
sum_same : (nodes : List Node) (test : ℕ → Bool) (f g : ℕ → ℕ) → ((l : ℕ) (t : Terms) → l < length nodes → terms_of nodes l ≡ Some t → f l ≡ g l) → sum_over nodes test f ≡ sum_over nodes test g
sum_same nodes test f g h = over 0 (length nodes) (λ l m. one l (terms_of nodes l) refl (omega arith))
  where
    one : (l : ℕ) (c : Option Terms) → terms_of nodes l ≡ c → l < length nodes → term c (test l) (f l) ≡ term c (test l) (g l)
    one l None e m = refl
    one l (Some t) e m = ap (λ x. cond (test l) x 0) (h l t m e)

    over : (a k : ℕ) → ((l : ℕ) → l < a + k → term (terms_of nodes l) (test l) (f l) ≡ term (terms_of nodes l) (test l) (g l))
        → sum_by (λ l. term (terms_of nodes l) (test l) (f l)) (range_with_len a k) ≡ sum_by (λ l. term (terms_of nodes l) (test l) (g l)) (range_with_len a k)
    over a zero e = refl
    over a (suc k) e = omega (arith, sum_by-cons (λ l. term (terms_of nodes l) (test l) (f l)) a (range_with_len (a + 1) k), sum_by-cons (λ l. term (terms_of nodes l) (test l) (g l)) a (range_with_len (a + 1) k), e a (omega arith), over (a + 1) k (λ l m. e l (omega arith)))

-- the winners with numbers that are the nodes' prices
pub certified : (nodes : List Node) (bid : ℕ → ℕ) → IsTree nodes → (priced : ℕ → ℕ) → ((node : ℕ) → node < length nodes → priced node ≡ price nodes bid node) → IsCertificate nodes bid priced (winners nodes bid)
certified nodes bid tree priced is =
    let won : IsWinners nodes bid (winners nodes bid) = (winners_are_one nodes bid tree).0 in
    record {
      choice = won.choice;
      covers = λ node h. subst (λ total. bid node ≤ total) (same (λ licence. at_or_under nodes node licence)) (covers nodes bid tree node h);
      sums = sym (same (λ licence. true)) ∙ sum_is_revenue nodes bid tree;
    }
  where
    same : (test : ℕ → Bool) → sum_over nodes test (licence_price nodes bid) ≡ sum_over nodes test priced
    same test = sum_same nodes test (licence_price nodes bid) priced (λ l t h e. sym (is l h ∙ licence_price_is nodes bid tree l t h e))
