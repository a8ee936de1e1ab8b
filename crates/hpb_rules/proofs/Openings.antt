-- Each node of a definition that isn't refused has an opening above 0.
use Rattle.std.proofs.Common.{◌≡◌, ℕ, zero, suc, ◌<◌, ◌≤◌, Bool, true, false, cond, List, [], ◌∷◌, get_or, Option, Some, None, length, refl, sym, ap, ◌∙◌, arith}
use Rattle.std.specs.Prelude.{IsSome}
use Rattle.std.specs.List.{list_any}
use Rattle.std.proofs.lemmas.Bool.{or_parts, and_parts, leb-true, not-false}
use Rattle.std.proofs.lemmas.List.Sums.{get_or-le-sum_by}
use Rattle.std.proofs.lemmas.List.FromFn.{get_or-range_with_len, length-range_with_len}
use Rattle.hpb_rules.specs.declared.licence.Terms.{Terms}
use Rattle.hpb_rules.specs.Tree.{Rules, Node, terms_of, places, at_or_under, sum_over, of_terms, opening_at, opening, Licences, IsTree}
use Rattle.hpb_rules.specs.Drafts.{is_within, are_bad_terms, draft_faults, draft_refusal}
use Rattle.hpb_rules.proofs.AcceptedDrafts.{no_fault, accepted_is_definition}
use Rattle.hpb_rules.proofs.Under.{some_licence}
use Rattle.hpb_rules.proofs.GoingUp.{under_complete}

-- the terms that are there
some_terms : (terms : Option Terms) → IsSome terms → (own : Terms) × (terms ≡ Some own)
some_terms None some = absurd (cc)
some_terms (Some own) some = (own, refl)

terms_in : (nodes : List Node) (licence : ℕ) (terms : Terms) → terms_of nodes licence ≡ Some terms → licence < length nodes
terms_in [] licence terms e = absurd (cc)
terms_in (node ∷ nodes) zero terms e = omega arith
terms_in (node ∷ nodes) (suc licence) terms e = omega (arith, terms_in nodes licence terms e)

-- a test that no node's terms pass
passed_by_none : (test : Option Terms → Bool) (nodes : List Node) (licence : ℕ) (terms : Terms) → list_any (λ (node : Node). test node.terms) nodes ≡ false → terms_of nodes licence ≡ Some terms → test (Some terms) ≡ false
passed_by_none test [] licence terms none e = absurd (cc)
passed_by_none test (node ∷ nodes) zero terms none e = sym (ap test e) ∙ (or_parts _ _ none).0
passed_by_none test (node ∷ nodes) (suc licence) terms none e = passed_by_none test nodes licence terms (or_parts (test node.terms) _ none).1 e

-- terms that aren't refused have an opening above 0
opening_of_terms : (step : ℕ) (terms : Terms) → are_bad_terms step (Some terms) ≡ false → 0 < terms.opening
opening_of_terms step terms e =
    let first : is_within 1 10000000000 terms.opening ≡ true = not-false _ (or_parts _ _ (or_parts _ _ e).0).1 in
    leb-true 1 terms.opening (and_parts _ _ first).0

module _ (nodes : List Node) (test : ℕ → Bool) (number : ℕ → ℕ) where
  -- a licence that passes a test is counted in the sum over those that do
  counted : (licence : ℕ) (terms : Terms) → terms_of nodes licence ≡ Some terms → test licence ≡ true → number licence ≤ sum_over nodes test number
  counted licence terms e passes =
      let inside : licence < length nodes = terms_in nodes licence terms e in
      let place : get_or (places nodes) licence 0 ≡ licence = get_or-range_with_len 0 (length nodes) licence 0 inside ∙ omega arith in
      omega (arith, get_or-le-sum_by part (places nodes) licence 0 (omega (arith, length-range_with_len 0 (length nodes))), ap part place, here)
    where
      part : ℕ → ℕ
      part place = elim (terms_of nodes place) [ None ↦ 0 | Some own ↦ cond (test place) (number place) 0 ]

      here : part licence ≡ number licence
      here = ap (λ (own : Option Terms). elim own [ None ↦ 0 | Some terms ↦ cond (test licence) (number licence) 0 ]) e ∙ ap (λ b. cond b (number licence) 0) passes

pub opening_positive : (rules : Rules) → draft_refusal rules ≡ None → (node : ℕ) → node < length rules.nodes → 0 < opening rules.nodes node
opening_positive rules accepted node inside =
    let tree : IsTree rules.nodes = (accepted_is_definition rules accepted).tree in
    let licence : (licence : ℕ) × Licences rules.nodes node licence = some_licence rules.nodes tree node inside in
    let own : (terms : Terms) × (terms_of rules.nodes licence.0 ≡ Some terms) = some_terms _ licence.1.0 in
    let good : are_bad_terms rules.step (Some own.0) ≡ false = passed_by_none (are_bad_terms rules.step) rules.nodes licence.0 own.0 (no_fault (draft_faults rules) accepted 8) own.1 in
    omega (
      arith,
      opening_of_terms rules.step own.0 good,
      ap (λ terms. of_terms terms (λ (t : Terms). t.opening)) own.1,
      counted rules.nodes (at_or_under rules.nodes node) (opening_at rules.nodes) licence.0 own.0 own.1 (under_complete rules.nodes tree node licence.0 licence.1.1),
    )
