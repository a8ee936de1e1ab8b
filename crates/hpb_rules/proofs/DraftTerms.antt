-- The licences of a draft, in number and terms, keep the rules exactly if no test refuses them.
use Rattle.std.proofs.Common.{◌≡◌, ℕ, zero, suc, ◌+◌, ◌*◌, ◌/◌, ◌%◌, false, not, cond, ◌||◌, eqb, List, [], ◌∷◌, Option, Some, None, refl, sym, ap, ◌∙◌, subst, arith}
use Rattle.std.specs.Prelude.{is_some}
use Rattle.std.specs.List.{list_any}
use Rattle.std.proofs.Math.Nat.{mul-mod_left, mul_comm}
use Rattle.std.proofs.lemmas.Bool.{not-false, eqb-true, eq-eqb, or_parts, or_from}
use Rattle.std.proofs.lemmas.List.Sums.{sum_by-cons}
use Rattle.std.proofs.lemmas.Nat.{div-add-mod'}
use Rattle.hpb_rules.specs.declared.licence.Terms.{Terms}
use Rattle.hpb_rules.specs.Tree.{Node, terms_of}
use Rattle.hpb_rules.specs.Definitions.{HasLicences, of_none, with_licence, with_package, AreTerms}
use Rattle.hpb_rules.specs.Drafts.{is_within, licence_count, are_bad_terms}
use Rattle.hpb_rules.proofs.DraftTests.{within, is_within_true}

-- ---- how many licences
count_first : (node : Node) (nodes : List Node) → licence_count (node ∷ nodes) ≡ cond (is_some node.terms) 1 0 + licence_count nodes
count_first node nodes = sum_by-cons (λ (n : Node). cond (is_some n.terms) 1 0) node nodes

pub counted : (nodes : List Node) → HasLicences nodes (licence_count nodes)
counted [] = of_none
counted (node ∷ nodes) = by (counted nodes) node.terms refl
  where
    by : HasLicences nodes (licence_count nodes) → (t : Option Terms) → node.terms ≡ t → HasLicences (node ∷ nodes) (licence_count (node ∷ nodes))
    by rec None e =
        let same : licence_count nodes ≡ licence_count (node ∷ nodes) = omega (arith, count_first node nodes, ap {B = ℕ} (λ t. cond (is_some t) 1 0) e) in
        subst (HasLicences (node ∷ nodes)) same (with_package e rec)
    by rec (Some terms) e =
        let more : suc (licence_count nodes) ≡ licence_count (node ∷ nodes) = omega (arith, count_first node nodes, ap {B = ℕ} (λ t. cond (is_some t) 1 0) e) in
        subst (HasLicences (node ∷ nodes)) more (with_licence e rec)

pub count_is : (nodes : List Node) (count : ℕ) → HasLicences nodes count → licence_count nodes ≡ count
count_is nodes count of_none = refl
count_is nodes count (with_licence {node = node} {nodes = others} {count = rest} e h) =
    let less : licence_count others ≡ rest = count_is others rest h in
    omega (arith, count_first node others, ap {B = ℕ} (λ t. cond (is_some t) 1 0) e, less)
count_is nodes count (with_package {node = node} {nodes = others} {count = rest} e h) =
    let same : licence_count others ≡ rest = count_is others rest h in
    omega (arith, count_first node others, ap {B = ℕ} (λ t. cond (is_some t) 1 0) e, same)

-- ---- their terms
module _ (step : ℕ) where
  multiple_of : (terms : Terms) → terms.opening % step ≡ 0 → terms.opening ≡ (terms.opening / step) * step
  multiple_of terms e = omega (arith, div-add-mod' terms.opening step, e, mul_comm step (terms.opening / step))

  terms_are : (terms : Terms) → are_bad_terms step (Some terms) ≡ false → AreTerms step terms
  terms_are terms e =
      let two : (not (is_within 1 1000000 terms.units) || not (is_within 1 10000000000 terms.opening)) ≡ false = (or_parts _ _ e).0 in
      let units : not (is_within 1 1000000 terms.units) ≡ false = (or_parts _ _ two).0 in
      let opening : not (is_within 1 10000000000 terms.opening) ≡ false = (or_parts _ _ two).1 in
      let multiple : not (eqb (terms.opening % step) 0) ≡ false = (or_parts _ _ e).1 in
      record {
        units = within 1 1000000 terms.units (not-false _ units);
        opening = within 1 10000000000 terms.opening (not-false _ opening);
        multiple = (terms.opening / step, multiple_of terms (eqb-true (terms.opening % step) 0 (not-false _ multiple)));
      }

  terms_pass : (terms : Terms) → AreTerms step terms → are_bad_terms step (Some terms) ≡ false
  terms_pass terms h = or_from _ _
      (or_from _ _ (ap not (is_within_true 1 1000000 terms.units h.units)) (ap not (is_within_true 1 10000000000 terms.opening h.opening)))
      (ap not (eq-eqb (terms.opening % step) 0 (ap (λ n. n % step) h.multiple.1 ∙ mul-mod_left h.multiple.0 step)))

  pub all_terms : (nodes : List Node) → list_any (λ (node : Node). are_bad_terms step node.terms) nodes ≡ false → (place : ℕ) (terms : Terms) → terms_of nodes place ≡ Some terms → AreTerms step terms
  all_terms [] e place terms f = absurd (cc)
  all_terms (node ∷ nodes) e zero terms f = terms_are terms (ap (are_bad_terms step) (sym f) ∙ (or_parts _ _ e).0)
  all_terms (node ∷ nodes) e (suc place) terms f = all_terms nodes (or_parts (are_bad_terms step node.terms) _ e).1 place terms f

  pub no_bad_terms : (nodes : List Node) → ((place : ℕ) (terms : Terms) → terms_of nodes place ≡ Some terms → AreTerms step terms) → list_any (λ (node : Node). are_bad_terms step node.terms) nodes ≡ false
  no_bad_terms [] h = refl
  no_bad_terms (node ∷ nodes) h = or_from _ _ (by node.terms refl) (no_bad_terms nodes (λ place. h (suc place)))
    where
      by : (t : Option Terms) → node.terms ≡ t → are_bad_terms step t ≡ false
      by None e = refl
      by (Some terms) e = terms_pass terms (h zero terms e)
