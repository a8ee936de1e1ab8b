-- The pass from changed nodes upward, by the set bits of a mask.
use Rattle.std.proofs.Common.{◌≡◌, ℕ, zero, suc, ◌+◌, ◌-◌, ◌*◌, ◌%◌, ◌^◌, ◌<◌, ◌≤◌, true, false, ◌||◌, List, Option, Some, None, length, get_or, set, max, refl, sym, ap, ◌∙◌, arith, subst}
use Rattle.std.specs.Prelude.{◌==◌, bit_or}
use Rattle.std.proofs.Math.Pow.{pow-lt}
use Rattle.std.proofs.lemmas.Nat.{one_shl, or_lt}
use Rattle.std.proofs.lemmas.Nat.Bits.{bit_at-zero}
use Rattle.hpb_rules.specs.declared.limits.TheConstants.{MOST_NODES}
use Rattle.hpb_rules.specs.Tree.{Node, parent_of, IsTree}
use Rattle.hpb_rules.specs.Saved.{has_bit}
use Rattle.hpb_bids.proofs.History.{bit_more}
use Rattle.hpb_winners.specs.View.{OutcomeView}
use Rattle.hpb_winners.specs.Along.{WasOutcome, AreSums, AreSmall, IsOthersSum}
use Rattle.hpb_winners.specs.Places.{IsGreatestTaken}
use Rattle.hpb_winners.proofs.Along.{Along, few, along_start, along_stays, along_part, along_top}
use Rattle.hpb_winners.proofs.GreatestBit.{taken_here, taken_behind, taken_before, taken_within}

module _ (nodes : List Node) (bid : ℕ → ℕ) (changed : ℕ) where
  -- the nodes from a place on are done; the bits that are left are those before it that the pass must form
  pub record Walk (pending : ℕ) (o : OutcomeView) : Type 0 where
    pub place : ℕ
    pub asked : ℕ
    pub so_far : Along nodes bid changed place asked o
    pub within : place ≤ length nodes
    pub left : (n : ℕ) → n < place → has_bit pending n ≡ has_bit asked n
    pub most : pending < 2 ^ place

  module _ (tree : IsTree nodes) where
    -- ---- at the start the bits that are left are those of the changed nodes
    pub walk_start : {o begun : OutcomeView} → WasOutcome nodes bid changed o → begun ≡ record o { formed = 0 } → length o.inside ≡ MOST_NODES → length o.values ≡ MOST_NODES
        → (count pending : ℕ) → count ≡ length nodes → ((n : ℕ) → n < count → has_bit pending n ≡ has_bit changed n) → pending < 2 ^ count → Walk pending begun
    walk_start was begun insides values count pending all same most = record {
      place = count;
      asked = changed;
      so_far = along_start nodes bid changed tree was count begun all insides values;
      within = omega arith;
      left = same;
      most = most;
    }

    -- ---- the places between two set bits are not reached
    skips : {asked : ℕ} {o : OutcomeView} (more i : ℕ) {k : ℕ} → Along nodes bid changed k asked o → k ≡ i + more → k ≤ length nodes → ((n : ℕ) → i ≤ n → n < k → has_bit asked n ≡ false) → Along nodes bid changed i asked o
    skips {asked = asked} {o = o} zero i {k = k} so_far at within clear = subst (λ j. Along nodes bid changed j asked o) (let e : k ≡ i = omega (arith, at) in e) so_far
    skips (suc more) i so_far at within clear =
        skips more i (along_stays nodes bid changed tree so_far (i + more) (omega (arith, at)) (omega (arith, at, within)) (clear (i + more) (omega arith) (omega (arith, at)))) refl (omega (arith, at, within)) (λ n a h. clear n a (omega (arith, at)))

    -- ---- taking the greatest place that is left
    module _ {pending place rest node : ℕ} {o : OutcomeView} (walk : Walk pending o) (taken : IsGreatestTaken pending (Some place) rest) (same : node ≡ place) where
      ahead : node < walk.place
      ahead = omega (arith, same, taken_within place taken walk.place walk.most)

      pub walk_within : node < length nodes
      walk_within = omega (arith, ahead, walk.within)

      reached : Along nodes bid changed (suc node) walk.asked o
      reached = skips (walk.place - suc node) (suc node) walk.so_far (omega (arith, ahead)) walk.within (λ n a h. sym (walk.left n h) ∙ taken_behind place taken n (omega arith))

      on : has_bit walk.asked node ≡ true
      on = sym (walk.left node ahead) ∙ ap (has_bit pending) same ∙ taken_here place taken

      left_after : (n : ℕ) → n < node → has_bit rest n ≡ has_bit walk.asked n
      left_after n h = taken_before place taken n (omega arith) ∙ walk.left n (omega (arith, ahead))

      pub walk_few : length nodes ≤ MOST_NODES → o.formed < MOST_NODES
      walk_few most = few nodes bid changed tree reached node refl walk_within most

      module _ {above : Option ℕ} (parent : above ≡ parent_of nodes node) {p q : ℕ} (some : above ≡ Some p) (at : q ≡ p) (low : q < 128) where
        before : q < node
        before = omega (arith, at, tree.parents node p (sym parent ∙ some))

        handed_up : bit_or rest (1 * 2 ^ q % 2 ^ 128) < 2 ^ node
        handed_up = or_lt node rest (1 * 2 ^ q % 2 ^ 128) (omega (arith, taken.1, ap (λ k. 2 ^ k) same)) (omega (arith, one_shl q 128 low, pow-lt before))

        -- the bits that are left get fewer
        pub walk_smaller : bit_or rest (1 * 2 ^ q % 2 ^ 128) < pending
        walk_smaller = omega (arith, handed_up, taken.0, ap (λ k. 2 ^ k) same)

        more : (mask n : ℕ) → has_bit (bit_or mask (1 * 2 ^ q % 2 ^ 128)) n ≡ ((q == n) || has_bit mask n)
        more mask n = ap (λ x. has_bit (bit_or mask x) n) (one_shl q 128 low) ∙ bit_more mask q n

        left_more : (n : ℕ) → n < node → has_bit (bit_or rest (1 * 2 ^ q % 2 ^ 128)) n ≡ has_bit (bit_or walk.asked (1 * 2 ^ q % 2 ^ 128)) n
        left_more n h = more rest n ∙ ap (λ b. (q == n) || b) (left_after n h) ∙ sym (more walk.asked n)

      module _ {o' : OutcomeView} {above : Option ℕ} (most : length nodes ≤ MOST_NODES) (parent : above ≡ parent_of nodes node)
          (sums : AreSums nodes o') (small : AreSmall nodes o') (value : o'.values ≡ set o.values node (max (bid node) (get_or o.inside node 0)))
          (others : IsOthersSum nodes node o.inside o'.inside) (formed : o'.formed ≡ o.formed + 1) (parents : o'.parents ≡ o.parents) where
        -- its parent's bit is set
        pub walk_part : {p q : ℕ} → above ≡ Some p → q ≡ p → q < 128 → Walk (bit_or rest (1 * 2 ^ q % 2 ^ 128)) o'
        walk_part {q = q} some at low = record {
          place = node;
          asked = bit_or walk.asked (1 * 2 ^ q % 2 ^ 128);
          so_far = along_part nodes bid changed tree reached node refl walk_within most on parent sums small value others formed parents some at low;
          within = omega (arith, walk_within);
          left = left_more parent some at low;
          most = handed_up parent some at low;
        }

        -- it has no parent
        pub walk_top : above ≡ None → Walk rest o'
        walk_top none = record {
          place = node;
          asked = walk.asked;
          so_far = along_top nodes bid changed tree reached node refl walk_within most on parent sums small value others formed parents none;
          within = omega (arith, walk_within);
          left = left_after;
          most = omega (arith, taken.1, ap (λ k. 2 ^ k) same);
        }

    -- ---- in the end no bit is left
    pub walk_done : {pending rest : ℕ} {o : OutcomeView} (walk : Walk pending o) → IsGreatestTaken pending None rest → Along nodes bid changed 0 walk.asked o
    walk_done walk none = skips walk.place 0 walk.so_far (omega arith) walk.within (λ n a h. sym (walk.left n h) ∙ ap (λ m. has_bit m n) none.0 ∙ ap (λ k. k == 1) (bit_at-zero n))
