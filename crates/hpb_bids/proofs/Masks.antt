-- The mask of the nodes whose high bid changes.
use Rattle.std.proofs.Common.{[], ◌∷◌, ◌≡◌, ℕ, zero, suc, ◌+◌, ◌<◌, ◌≤◌, ◌%◌, ◌*◌, ◌^◌, ◌&&◌, ◌||◌, Bool, true, false, ltb, List, map, take, drop, ◌++◌, ◌-◌, get_or, length, refl, sym, ap, ◌∙◌, ⊎_elim, arith}
use Rattle.std.specs.Prelude.{◌==◌, ◌≢◌, nat_lt, if◌then◌else◌, Option, None, bit_or}
use Rattle.std.proofs.lemmas.Bool.{cases_eq, ne_eqb, eq-eqb, lt-ltb, ltb-true, le-ltb, cases_lt, and_right}
use Rattle.std.proofs.lemmas.List.{get_or-map, get_or_past, get_or-append_right, get_or-drop, length-map, length-take-le}
use Rattle.std.proofs.lemmas.Nat.Bits.{bit_at-zero}
use Rattle.std.proofs.lemmas.Nat.{one_shl}
use Rattle.hpb_rules.specs.declared.command.Offer.{Offer}
use Rattle.hpb_rules.specs.History.{amount_of, greater}
use Rattle.hpb_rules.specs.Saved.{has_bit}
use Rattle.hpb_rules.proofs.Masks.{ltb_other, ltb_same}
use Rattle.hpb_bids.specs.Inside.{closed, is_raised, tables_view}
use Rattle.hpb_bids.specs.declared.books.NodeBids.{NodeBids}
use Rattle.hpb_bids.specs.View.{BooksView, IsBooks, folded, offer_at, AreChanged}
use Rattle.hpb_bids.proofs.History.{bit_more, folded_standing}

-- whether the bid on the node at a place is raised
abbrev pub raised_at : List NodeBids → ℕ → Bool
raised_at nodes n = get_or (map is_raised nodes) n false

-- the mask has the bits of those among the first nodes whose bids are raised
abbrev pub AreRaised : List NodeBids → ℕ → ℕ → Type 0
AreRaised nodes i mask = (n : ℕ) → has_bit mask n ≡ (ltb n i && raised_at nodes n)

pub none_raised : (nodes : List NodeBids) → AreRaised nodes 0 0
none_raised nodes n = ap (λ k. k == 1) (bit_at-zero n) ∙ sym (ap (λ b. b && raised_at nodes n) (le-ltb n 0 (omega arith)))

module _ (nodes : List NodeBids) (i mask : ℕ) (so_far : AreRaised nodes i mask) where
  -- the node at the next place is raised
  pub raised_more : {new : ℕ} → i < 128 → raised_at nodes i ≡ true → new ≡ bit_or mask (1 * 2 ^ i % 2 ^ 128) → AreRaised nodes (i + 1) new
  raised_more {new = new} small raised made n =
      ap (λ m. has_bit m n) (made ∙ ap (bit_or mask) (one_shl i 128 small)) ∙ bit_more mask i n ∙ ⊎_elim
      (λ same. ap (λ b. b || has_bit mask n) (eq-eqb i n same) ∙ sym (ap (λ b. b && raised_at nodes n) (ltb_same n i (sym same)) ∙ ap (raised_at nodes) (sym same) ∙ raised))
      (λ other. ap (λ b. b || has_bit mask n) (ne_eqb i n other) ∙ so_far n ∙ ap (λ b. b && raised_at nodes n) (sym (ltb_other n i (λ e. other (sym e)))))
      (cases_eq i n)

  -- the node at the next place isn't raised
  pub raised_no_more : {new : ℕ} → raised_at nodes i ≡ false → new ≡ mask → AreRaised nodes (i + 1) new
  raised_no_more {new = new} raised made n = ap (λ m. has_bit m n) made ∙ so_far n ∙ ⊎_elim
      (λ same. and_right (ltb n i) (raised_at nodes n) (ap (raised_at nodes) (sym same) ∙ raised) ∙ sym (and_right (ltb n (i + 1)) (raised_at nodes n) (ap (raised_at nodes) (sym same) ∙ raised)))
      (λ other. ap (λ b. b && raised_at nodes n) (sym (ltb_other n i (λ e. other (sym e)))))
      (cases_eq i n)

-- the rows that the loop hasn't reached are unchanged
pub row_kept : (nodes : List NodeBids) (i : ℕ) (rows : List NodeBids) (row : NodeBids) → i < length nodes → rows ≡ map closed (take i nodes) ++ drop i nodes → row ≡ get_or rows i row → row ≡ get_or nodes i row
row_kept nodes i rows row within e found =
    let front : length (map closed (take i nodes)) ≡ i = length-map (take i nodes) closed ∙ length-take-le i nodes (omega arith) in
    let start : i + (i - i) ≡ i = omega arith in
    found ∙ ap (λ xs. get_or xs i row) e ∙ get_or-append_right (map closed (take i nodes)) (drop i nodes) i i row front (omega arith)
    ∙ get_or-drop i nodes (i - i) row ∙ ap (λ k. get_or nodes k row) start

-- the code's test of the row at a place
pub raised_row : (nodes : List NodeBids) (i : ℕ) (row : NodeBids) → i < length nodes → row ≡ get_or nodes i row → raised_at nodes i ≡ is_raised row
raised_row nodes i row within found = get_or-map is_raised nodes i row false within ∙ ap is_raised (sym found)

-- a raised bid displaces another one; if the bid isn't raised, the old one stays
raised_is_other : (older newer : Option Offer) → nat_lt (amount_of older) (amount_of newer) ≡ true → greater older newer ≢ older
raised_is_other older newer raised same =
    let taken : greater older newer ≡ newer = ap (λ b. if b then newer else older) raised in
    let less : amount_of older < amount_of newer = ltb-true (amount_of older) (amount_of newer) raised in
    omega (arith, ap amount_of (sym taken ∙ same))

-- whether the bid on a node is raised, by the books
raised_view : (nodes : List NodeBids) (n : ℕ) → raised_at nodes n ≡ nat_lt (amount_of (get_or (map (λ (m : NodeBids). m.standing) nodes) n None)) (amount_of (get_or (map (λ (m : NodeBids). m.incoming) nodes) n None))
raised_view [] n = refl
raised_view (m ∷ ms) zero = refl
raised_view (m ∷ ms) (suc n) = raised_view ms n

-- the mask of all nodes
pub raised_all : (nodes : List NodeBids) (masks : List ℕ) {old new : BooksView} (i mask : ℕ) → tables_view nodes masks ≡ old → IsBooks old → new ≡ folded old → length nodes ≤ i
    → AreRaised nodes i mask → AreChanged old new mask
raised_all nodes masks {old = old} {new = new} i mask seen sized e all so_far = record {
  changed = λ n bit same. raised_is_other (offer_at old.standing n) (offer_at old.incoming n) (sym (here n) ∙ bit) (sym (folded_standing sized e n) ∙ same);
  same = λ n bit. folded_standing sized e n ∙ ap (λ b. if b then offer_at old.incoming n else offer_at old.standing n) (sym (here n) ∙ bit);
}
  where
    here : (n : ℕ) → has_bit mask n ≡ nat_lt (amount_of (offer_at old.standing n)) (amount_of (offer_at old.incoming n))
    here n = so_far n ∙ ⊎_elim
        (λ less. ap (λ b. b && raised_at nodes n) (lt-ltb n i less))
        (λ past. and_right (ltb n i) (raised_at nodes n) (get_or_past (map is_raised nodes) n false (omega (arith, length-map nodes is_raised))) ∙ sym (get_or_past (map is_raised nodes) n false (omega (arith, length-map nodes is_raised))))
        (cases_lt n i)
        ∙ raised_view nodes n ∙ ap (λ (v : BooksView). nat_lt (amount_of (offer_at v.standing n)) (amount_of (offer_at v.incoming n))) seen
