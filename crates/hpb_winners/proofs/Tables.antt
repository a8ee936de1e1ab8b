-- The tables of the code.
use Rattle.std.proofs.Common.{◌≡◌, ℕ, zero, suc, ◌<◌, ◌≤◌, Bool, true, not, ◌&&◌, List, [], ◌∷◌, length, get_or, set, replicate, ap, sym, ◌∙◌, subst, Option, Some, None, arith}
use Rattle.std.proofs.lemmas.List.{length-replicate}
use Rattle.hpb_rules.specs.declared.limits.TheConstants.{MOST_NODES}
use Rattle.hpb_rules.proofs.Lists.{get_or-replicate_same}
use Rattle.hpb_winners.specs.declared.outcome.TheConstants.{MOST_VALUE}
use Rattle.hpb_winners.specs.declared.outcome.Outcome.TheInside.{Inside}
use Rattle.hpb_winners.specs.View.{OutcomeView, AreBefore, is_free, wins_of}
use Rattle.hpb_winners.specs.Inside.{outcome_view, IsKept}
use Rattle.hpb_winners.proofs.Winning.{free_under, free_top}

-- an item read within a table doesn't depend on the item that stands for those behind its end
pub within_read : {A : Type 0} (xs : List A) (n : ℕ) (x d : A) → n < length xs → x ≡ get_or xs n x → get_or xs n d ≡ x
within_read [] n x d h e = absurd (omega arith)
within_read (y ∷ ys) zero x d h e = sym e
within_read (y ∷ ys) (suc n) x d h e = within_read ys n x d (omega arith) e

-- setting one small number keeps a table of small numbers
pub set_small : (most : ℕ) (xs : List ℕ) (i x : ℕ) → x ≤ most → ((p : ℕ) → get_or xs p 0 ≤ most) → (p : ℕ) → get_or (set xs i x) p 0 ≤ most
set_small most [] i x h k p = k p
set_small most (y ∷ ys) zero x h k zero = h
set_small most (y ∷ ys) zero x h k (suc p) = k (suc p)
set_small most (y ∷ ys) (suc i) x h k zero = k zero
set_small most (y ∷ ys) (suc i) x h k (suc p) = set_small most ys i x h (λ q. k (suc q)) p

pub zeros_small : {items : List ℕ} → items ≡ replicate MOST_NODES 0 → (n : ℕ) → get_or items n 0 ≤ MOST_VALUE
zeros_small zeros n = omega (arith, ap (λ (xs : List ℕ). get_or xs n 0) zeros ∙ get_or-replicate_same MOST_NODES n 0)

pub sized : {A : Type 0} {items : List A} {item : A} → items ≡ replicate MOST_NODES item → length items ≡ MOST_NODES
sized {item = item} same = ap length same ∙ length-replicate MOST_NODES item

-- the same tables stand for the same outcome
pub same_outcome : {p q : List (Option ℕ)} {i j v w : List ℕ} {f g r s : ℕ} → p ≡ q → i ≡ j → v ≡ w → f ≡ g → r ≡ s
    → ◌≡◌ {A = OutcomeView} (record { parents = p; inside = i; values = v; wins = wins_of p i v; revenue = r; formed = f }) (record { parents = q; inside = j; values = w; wins = wins_of q j w; revenue = s; formed = g })
same_outcome a b c d e = cc

pub same_kept : (one other : Inside) → other.parents.items ≡ one.parents.items → other.inside.items ≡ one.inside.items → other.values.values.items ≡ one.values.values.items → other.revenue ≡ one.revenue → IsKept other → IsKept one
same_kept one other p i v r k = record {
  parents = ap length (sym p) ∙ k.parents;
  inside = ap length (sym i) ∙ k.inside;
  values = ap length (sym v) ∙ k.values;
  before = subst AreBefore p k.before;
  most_inside = λ n. omega (arith, ap (λ xs. get_or xs n 0) i, k.most_inside n);
  most_value = λ n. omega (arith, ap (λ xs. get_or xs n 0) v, k.most_value n);
  most_revenue = omega (arith, r, k.most_revenue);
}

-- the parent of a node was read
module _ (o : Inside) (kept : IsKept o) (now : OutcomeView) (seen : outcome_view o ≡ now) (place node : ℕ) (same : place ≡ node) (within : place < length o.parents.items) (read : Option ℕ) (found : read ≡ get_or o.parents.items place read) where
  pub parent_read : get_or o.parents.items node None ≡ read
  parent_read = ap (λ n. get_or o.parents.items n None) (sym same) ∙ within_read o.parents.items place read None within found

  parent_seen : get_or now.parents node None ≡ read
  parent_seen = ap (λ (v : OutcomeView). get_or v.parents node None) (sym seen) ∙ parent_read

  before_seen : AreBefore now.parents
  before_seen = subst (λ (v : OutcomeView). AreBefore v.parents) seen kept.before

  pub free_by_parent : (test : ℕ → Bool) (parent : ℕ) → read ≡ Some parent → is_free now.parents test node ≡ (not (test parent) && is_free now.parents test parent)
  free_by_parent test parent is = free_under now.parents before_seen test node (parent_seen ∙ is)

  pub free_at_top : (test : ℕ → Bool) → read ≡ None → is_free now.parents test node ≡ true
  free_at_top test is = free_top now.parents before_seen test node (parent_seen ∙ is)
