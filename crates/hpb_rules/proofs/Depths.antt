-- The depth of a node is its level: 1 at the top, and one more than its parent's below.
use Rattle.std.proofs.Common.{◌≡◌, ℕ, zero, suc, ◌<◌, ◌≤◌, List, Option, Some, None, refl, sym, ap, ◌∙◌, subst, arith}
use Rattle.hpb_rules.specs.Tree.{Node, parent_of, IsTree}
use Rattle.hpb_rules.specs.Prices.{of_parent}
use Rattle.hpb_rules.specs.Drafts.{depth_within, depth}
use Rattle.hpb_rules.specs.Definitions.{IsOnLevel, top, below}
use Rattle.hpb_rules.specs.Laws.{DepthIsOneMore}

-- each parent stands before its children
pub record Ordered (nodes : List Node) : Type 0 where
  pub before : (node parent : ℕ) → parent_of nodes node ≡ Some parent → parent < node

pub in_order : (nodes : List Node) → IsTree nodes → Ordered nodes
in_order nodes tree = record { before = tree.parents }

module _ (nodes : List Node) (tree : Ordered nodes) where
  top_of : (c : Option ℕ) → parent_of nodes 0 ≡ c → c ≡ None
  top_of None e = refl
  top_of (Some parent) e = absurd (omega (arith, tree.before 0 parent e))

  -- no node stands above the first
  pub first_on_top : parent_of nodes 0 ≡ None
  first_on_top = top_of (parent_of nodes 0) refl

  -- counting more levels than there are changes nothing
  enough : (k m node : ℕ) → node ≤ k → node ≤ m → depth_within nodes k node ≡ depth_within nodes m node
  enough zero zero node a b = refl
  enough zero (suc m) node a b = let z : node ≡ 0 = omega arith in
      subst (λ n. 1 ≡ depth_within nodes (suc m) n) (sym z) (sym (ap (λ c. suc (of_parent c (depth_within nodes m))) first_on_top))
  enough (suc k) zero node a b = let z : node ≡ 0 = omega arith in
      subst (λ n. depth_within nodes (suc k) n ≡ 1) (sym z) (ap (λ c. suc (of_parent c (depth_within nodes k))) first_on_top)
  enough (suc k) (suc m) node a b = ap (λ n. suc n) (by (enough k m) (parent_of nodes node) refl)
    where
      by : ((parent : ℕ) → parent ≤ k → parent ≤ m → depth_within nodes k parent ≡ depth_within nodes m parent) → (c : Option ℕ) → parent_of nodes node ≡ c → of_parent c (depth_within nodes k) ≡ of_parent c (depth_within nodes m)
      by rec None e = refl
      by rec (Some parent) e = let less : parent < node = tree.before node parent e in rec parent (omega arith) (omega arith)

  once_more : (node : ℕ) (c : Option ℕ) → parent_of nodes node ≡ c → depth nodes node ≡ suc (of_parent c (depth_within nodes node))
  once_more node c e = enough node (suc node) node (omega arith) (omega arith) ∙ ap (λ p. suc (of_parent p (depth_within nodes node))) e

  pub depth_top : (node : ℕ) → parent_of nodes node ≡ None → depth nodes node ≡ 1
  depth_top node e = once_more node None e

  pub depth_below : (node parent : ℕ) → parent_of nodes node ≡ Some parent → depth nodes node ≡ suc (depth nodes parent)
  depth_below node parent e = let less : parent < node = tree.before node parent e in
      once_more node (Some parent) e ∙ ap (λ n. suc n) (enough node parent parent (omega arith) (omega arith))

  -- ---- levels
  pub level_is : (node level : ℕ) → IsOnLevel nodes node level → level ≡ depth nodes node
  level_is node level (top e) = sym (depth_top node e)
  level_is node level (below {parent = parent} {level = upper} e above) = ap (λ n. suc n) (level_is parent upper above) ∙ sym (depth_below node parent e)

  on_level_within : (most node : ℕ) → node ≤ most → IsOnLevel nodes node (depth nodes node)
  on_level_within zero node h = at_top (parent_of nodes node) refl
    where
      at_top : (c : Option ℕ) → parent_of nodes node ≡ c → IsOnLevel nodes node (depth nodes node)
      at_top None e = subst (IsOnLevel nodes node) (sym (depth_top node e)) (top e)
      at_top (Some parent) e = absurd (omega (arith, tree.before node parent e))
  on_level_within (suc most) node h = by (on_level_within most) (parent_of nodes node) refl
    where
      by : ((parent : ℕ) → parent ≤ most → IsOnLevel nodes parent (depth nodes parent)) → (c : Option ℕ) → parent_of nodes node ≡ c → IsOnLevel nodes node (depth nodes node)
      by rec None e = subst (IsOnLevel nodes node) (sym (depth_top node e)) (top e)
      by rec (Some parent) e = subst (IsOnLevel nodes node) (sym (depth_below node parent e)) (below e (rec parent (omega (arith, tree.before node parent e))))

  pub on_level : (node : ℕ) → IsOnLevel nodes node (depth nodes node)
  on_level node = on_level_within node node (omega arith)

pub depth_is_one_more : DepthIsOneMore
depth_is_one_more nodes node tree = let ordered = in_order nodes tree in (depth_top nodes ordered node, depth_below nodes ordered node)
