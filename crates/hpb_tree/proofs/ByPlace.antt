-- Sums and tests over the places of nodes, and the same over the nodes themselves.
use Rattle.std.proofs.Common.{◌≡◌, ℕ, zero, suc, ◌+◌, Bool, cond, ◌||◌, List, [], ◌∷◌, length, Option, refl, sym, ap, ◌∙◌}
use Rattle.std.proofs.Math.Numerals.{add-one}
use Rattle.std.specs.Option.{is_some}
use Rattle.std.specs.List.{list_any, sum_by, range_with_len}
use Rattle.std.proofs.lemmas.List.Sums.{sum_by-cons}
use Rattle.hpb_rules.specs.declared.licence.Terms.{Terms}
use Rattle.hpb_rules.specs.Drafts as drafts
use Rattle.hpb_rules.specs.Tree.{Node, terms_of, places}
use Rattle.hpb_tree.specs.Licences.{licence_count}

-- a sum over places that begin one later
sum_moved : (f : ℕ → ℕ) (a n : ℕ) → sum_by f (range_with_len (a + 1) n) ≡ sum_by (λ place. f (suc place)) (range_with_len a n)
sum_moved f a zero = refl
sum_moved f a (suc n) =
    sum_by-cons f (a + 1) (range_with_len (a + 1 + 1) n)
    ∙ ap (λ x. f x + sum_by f (range_with_len (a + 1 + 1) n)) (add-one a)
    ∙ ap (λ x. f (suc a) + x) (sum_moved f (a + 1) n)
    ∙ sym (sum_by-cons (λ place. f (suc place)) a (range_with_len (a + 1) n))

-- a sum over the terms, place by place, is the sum over the nodes
sum_over_terms : (f : Option Terms → ℕ) (nodes : List Node) → sum_by (λ place. f (terms_of nodes place)) (places nodes) ≡ sum_by (λ node. f node.terms) nodes
sum_over_terms f [] = refl
sum_over_terms f (node ∷ nodes) =
    sum_by-cons (λ place. f (terms_of (node ∷ nodes) place)) 0 (range_with_len 1 (length nodes))
    ∙ ap (λ x. f node.terms + x) (sum_moved (λ place. f (terms_of (node ∷ nodes) place)) 0 (length nodes) ∙ sum_over_terms f nodes)
    ∙ sym (sum_by-cons (λ (n : Node). f n.terms) node nodes)

-- a test of places that begin one later
any_moved : (p : ℕ → Bool) (a n : ℕ) → list_any p (range_with_len (a + 1) n) ≡ list_any (λ place. p (suc place)) (range_with_len a n)
any_moved p a zero = refl
any_moved p a (suc n) =
    ap (λ x. p x || list_any p (range_with_len (a + 1 + 1) n)) (add-one a)
    ∙ ap (λ b. p (suc a) || b) (any_moved p (a + 1) n)

-- a test of the terms, place by place, is the test of the nodes
pub any_over_terms : (p : Option Terms → Bool) (nodes : List Node) → list_any (λ place. p (terms_of nodes place)) (places nodes) ≡ list_any (λ node. p node.terms) nodes
any_over_terms p [] = refl
any_over_terms p (node ∷ nodes) =
    ap (λ b. p node.terms || b) (any_moved (λ place. p (terms_of (node ∷ nodes) place)) 0 (length nodes) ∙ any_over_terms p nodes)

-- licences counted by places are the licences among the nodes
pub count_is : (nodes : List Node) → licence_count nodes ≡ drafts.licence_count nodes
count_is nodes = sum_over_terms (λ terms. cond (is_some terms) 1 0) nodes
