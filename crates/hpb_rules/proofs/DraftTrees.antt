-- The nodes of a draft are a tree whose packages have two children exactly if no test refuses it.
use Rattle.std.proofs.Common.{◌≡◌, ℕ, zero, suc, ◌+◌, ◌-◌, ◌<◌, ◌≤◌, Bool, true, false, cond, ◌&&◌, ltb, List, Option, Some, None, length, refl, ap, ⊎_elim, arith}
use Rattle.std.specs.Prelude.{is_some, is_none}
use Rattle.std.specs.List.{range_with_len}
use Rattle.std.proofs.lemmas.Bool.{both_ways, cases_lt, eqb-true, leb-false, lt-leb, ltb-false, le-ltb, lt-ltb}
use Rattle.std.proofs.lemmas.List.Sums.{sum_by-cons}
use Rattle.hpb_rules.specs.declared.licence.Terms.{Terms}
use Rattle.hpb_rules.specs.Tree.{Node, parent_of, terms_of, IsTree}
use Rattle.hpb_rules.specs.Choices.{is_node}
use Rattle.hpb_rules.specs.Prices.{children_among}
use Rattle.hpb_rules.specs.Definitions.{HasTwoChildren}
use Rattle.hpb_rules.specs.Drafts.{is_late, has_late_parent, children_of, has_thin_package, has_licence_with_child}
use Rattle.hpb_rules.proofs.Places.{none_at, none_here}
use Rattle.hpb_rules.proofs.Ranks.{before, before_child, before_grows, rank_lt}
use Rattle.hpb_rules.proofs.Under.{parent_in}

-- ---- children that are counted
is_parent : (parent : ℕ) (c : Option ℕ) → is_node parent c ≡ true → c ≡ Some parent
is_parent parent None e = absurd (both_ways false refl e)
is_parent parent (Some other) e = ap Some (eqb-true other parent e)

module _ (nodes : List Node) where
  -- how many of a range are children, by its first place
  child_first : (parent a k : ℕ) → children_among nodes parent (range_with_len a (suc k)) ≡ cond (is_node parent (parent_of nodes a)) 1 0 + children_among nodes parent (range_with_len (a + 1) k)
  child_first parent a k = sum_by-cons (λ node. cond (is_node parent (parent_of nodes node)) 1 0) a (range_with_len (a + 1) k)

  -- if a child is counted, there is one
  some_child : (parent a k : ℕ) → 0 < children_among nodes parent (range_with_len a k) → (node : ℕ) × (a ≤ node) × (parent_of nodes node ≡ Some parent)
  some_child parent a zero h = absurd (omega arith)
  some_child parent a (suc k) h = by (some_child parent (a + 1) k) (is_node parent (parent_of nodes a)) refl
    where
      by : (0 < children_among nodes parent (range_with_len (a + 1) k) → (node : ℕ) × (a + 1 ≤ node) × (parent_of nodes node ≡ Some parent)) → (b : Bool) → is_node parent (parent_of nodes a) ≡ b
          → (node : ℕ) × (a ≤ node) × (parent_of nodes node ≡ Some parent)
      by rec true e = (a, omega arith, is_parent parent (parent_of nodes a) e)
      by rec false e =
          let r : (node : ℕ) × (a + 1 ≤ node) × (parent_of nodes node ≡ Some parent) = rec (omega (arith, child_first parent a k, ap {B = ℕ} (λ b. cond b 1 0) e)) in
          (r.0, omega (arith, r.1), r.2)

  -- if two children are counted, there are two
  two_children : (parent a k : ℕ) → 2 ≤ children_among nodes parent (range_with_len a k) → HasTwoChildren nodes parent
  two_children parent a zero h = absurd (omega arith)
  two_children parent a (suc k) h = by (two_children parent (a + 1) k) (is_node parent (parent_of nodes a)) refl
    where
      by : (2 ≤ children_among nodes parent (range_with_len (a + 1) k) → HasTwoChildren nodes parent) → (b : Bool) → is_node parent (parent_of nodes a) ≡ b → HasTwoChildren nodes parent
      by rec true e =
          let r : (node : ℕ) × (a + 1 ≤ node) × (parent_of nodes node ≡ Some parent) = some_child parent (a + 1) k (omega (arith, child_first parent a k, ap {B = ℕ} (λ b. cond b 1 0) e)) in
          (a, r.0, (λ same. omega (arith, same, r.1)), is_parent parent (parent_of nodes a) e, r.2)
      by rec false e = rec (omega (arith, child_first parent a k, ap {B = ℕ} (λ b. cond b 1 0) e))

  -- if there are two children, two are counted
  two_in_order : (parent one other : ℕ) → one < other → parent_of nodes one ≡ Some parent → parent_of nodes other ≡ Some parent → 2 ≤ children_of nodes parent
  two_in_order parent one other less e f =
      let j : suc one + (other - suc one) ≡ other = omega arith in
      omega (arith, before_child nodes parent one e, before_grows nodes parent (suc one) (other - suc one), ap (before nodes parent) j, rank_lt nodes parent other f)

  two_counted : (parent : ℕ) → HasTwoChildren nodes parent → 2 ≤ children_of nodes parent
  two_counted parent h = ⊎_elim
      (λ less. two_in_order parent h.0 h.1 less h.3 h.4)
      (λ le. two_in_order parent h.1 h.0 (⊎_elim (λ more. more) (λ no. absurd (h.2 (omega arith))) (cases_lt h.1 h.0)) h.4 h.3)
      (cases_lt h.0 h.1)

  -- ---- each parent before its node
  not_late : (node parent : ℕ) (c : Option ℕ) → c ≡ Some parent → is_late node c ≡ false → parent < node
  not_late node parent None e f = absurd (cc)
  not_late node parent (Some other) e f = let same : other ≡ parent = cc in omega (arith, leb-false node other f)

  before_node : has_late_parent nodes ≡ false → (node parent : ℕ) → parent_of nodes node ≡ Some parent → parent < node
  before_node late node parent e = let l : node < length nodes = parent_in nodes node parent e in
      not_late node parent (parent_of nodes node) e (none_at (λ n. is_late n (parent_of nodes n)) (length nodes) node late (omega arith))

  no_late_parent : IsTree nodes → has_late_parent nodes ≡ false
  no_late_parent tree = none_here (λ n. is_late n (parent_of nodes n)) (length nodes) (λ node h. by node (parent_of nodes node) refl)
    where
      by : (node : ℕ) (c : Option ℕ) → parent_of nodes node ≡ c → is_late node c ≡ false
      by node None e = refl
      by node (Some parent) e = lt-leb node parent (tree.parents node parent e)

  -- ---- packages and licences
  no_terms : (t : Option Terms) (count : ℕ) → 0 < count → (is_some t && ltb 0 count) ≡ false → t ≡ None
  no_terms None count h e = refl
  no_terms (Some t) count h e = absurd (both_ways _ e (lt-ltb 0 count h))

  not_thin : (t : Option Terms) (count : ℕ) → t ≡ None → (is_none t && ltb count 2) ≡ false → 2 ≤ count
  not_thin None count e f = ltb-false count 2 f
  not_thin (Some t) count e f = absurd (cc)

  two_inside : has_thin_package nodes ≡ false → (parent : ℕ) → parent < length nodes → terms_of nodes parent ≡ None → HasTwoChildren nodes parent
  two_inside thin parent h e = two_children parent 0 (length nodes)
      (not_thin (terms_of nodes parent) (children_of nodes parent) e (none_at (λ n. is_none (terms_of nodes n) && ltb (children_of nodes n) 2) (length nodes) parent thin (omega arith)))

  pub no_thin_package : ((parent : ℕ) → parent < length nodes → terms_of nodes parent ≡ None → HasTwoChildren nodes parent) → has_thin_package nodes ≡ false
  no_thin_package two = none_here (λ n. is_none (terms_of nodes n) && ltb (children_of nodes n) 2) (length nodes) (λ node h. by node h (terms_of nodes node) refl)
    where
      by : (node : ℕ) → node < length nodes → (t : Option Terms) → terms_of nodes node ≡ t → (is_none t && ltb (children_of nodes node) 2) ≡ false
      by node h None e = le-ltb (children_of nodes node) 2 (two_counted node (two node h e))
      by node h (Some t) e = refl

  no_licence_with_child : IsTree nodes → has_licence_with_child nodes ≡ false
  no_licence_with_child tree = none_here (λ n. is_some (terms_of nodes n) && ltb 0 (children_of nodes n)) (length nodes) (λ node h. by node (terms_of nodes node) refl)
    where
      by : (node : ℕ) (t : Option Terms) → terms_of nodes node ≡ t → (is_some t && ltb 0 (children_of nodes node)) ≡ false
      by node None e = refl
      by node (Some t) e = ⊎_elim
          (λ some.
          let r : (child : ℕ) × (0 ≤ child) × (parent_of nodes child ≡ Some node) = some_child node 0 (length nodes) some in
          let no : terms_of nodes node ≡ None = tree.packages r.0 node r.2 in
          absurd (cc))
          (λ none. le-ltb 0 (children_of nodes node) none)
          (cases_lt 0 (children_of nodes node))

  -- ---- both
  pub record IsFullTree : Type 0 where
    pub tree : IsTree nodes
    pub children : (parent : ℕ) → parent < length nodes → terms_of nodes parent ≡ None → HasTwoChildren nodes parent

  pub full_tree : has_late_parent nodes ≡ false → has_thin_package nodes ≡ false → has_licence_with_child nodes ≡ false → IsFullTree
  full_tree late thin licence = record {
    tree = record {
      parents = before_node late;
      packages = λ node parent e.
          let h : parent < node = before_node late node parent e in
          let l : node < length nodes = parent_in nodes node parent e in
          no_terms (terms_of nodes parent) (children_of nodes parent) (omega (arith, rank_lt nodes parent node e))
          (none_at (λ n. is_some (terms_of nodes n) && ltb 0 (children_of nodes n)) (length nodes) parent licence (omega arith));
      children = λ parent h e. let two : HasTwoChildren nodes parent = two_inside thin parent h e in (two.0, two.3);
    };
    children = two_inside thin;
  }

  pub tree_passes : IsTree nodes → (has_late_parent nodes ≡ false) × (has_licence_with_child nodes ≡ false)
  tree_passes tree = (no_late_parent tree, no_licence_with_child tree)
