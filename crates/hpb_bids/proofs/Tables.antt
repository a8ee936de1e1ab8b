-- The tables of the code, as definitions see them.
use Rattle.std.proofs.Common.{◌≡◌, ℕ, zero, suc, ◌<◌, ◌≤◌, ◌*◌, ◌%◌, ◌^◌, ◌++◌, Bool, true, false, List, [], ◌∷◌, map, take, drop, length, get_or, set, replicate, Option, Some, None, refl, sym, ap, ◌∙◌, arith, subst}
use Rattle.std.specs.Prelude.{nat_lt, if◌then◌else◌, IfSome, IsTrue, All, bit_or, ◌↔◌}
use Rattle.std.proofs.lemmas.List.{map-set, get_or-map, length-map, take_all, drop_all, append-nil}
use Rattle.std.proofs.lemmas.List.Elements.{All-map}
use Rattle.std.proofs.lemmas.Nat.{one_shl}
use Rattle.std.proofs.Math.Seq.{map-set_same, take-append_seam}
use Rattle.hpb_rules.specs.declared.command.Offer.{Offer}
use Rattle.hpb_rules.specs.declared.limits.TheConstants.{MOST_AMOUNT}
use Rattle.hpb_rules.specs.History.{amount_of, greater}
use Rattle.hpb_bids.specs.View.{BooksView, IsBooks, merged, placed, folded, IsQuiet}
use Rattle.hpb_bids.specs.Inside.{tables_view, books_view, received, closed, IsSmall, IsKept}
use Rattle.hpb_bids.specs.declared.books.Books.TheInside.{Inside}
use Rattle.hpb_bids.specs.declared.books.NodeBids.{NodeBids}

-- a table of rows without a bid has no bid
pub none_at : {A X : Type 0} (f : A → Option X) (a : A) → f a ≡ None → (k n : ℕ) → get_or (map f (replicate k a)) n None ≡ None
none_at f a e zero n = refl
none_at f a e (suc k) zero = e
none_at f a e (suc k) (suc n) = none_at f a e k n

small_at : (most : ℕ) (o : Option Offer) → IfSome o (λ x. x.amount ≤ most) → amount_of o ≤ most
small_at most None h = omega arith
small_at most (Some o) h = h

-- each place of a table has an offer of one of its rows, or none
offers_small : (f : NodeBids → Option Offer) (nodes : List NodeBids) (n : ℕ) → All (λ m. IfSome (f m) (λ o. o.amount ≤ MOST_AMOUNT)) nodes → IfSome (get_or (map f nodes) n None) (λ o. o.amount ≤ MOST_AMOUNT)
offers_small f [] n h = tt
offers_small f (m ∷ ms) zero h = h 0 m (omega arith)
offers_small f (m ∷ ms) (suc n) h = offers_small f ms n (λ i d within. h (suc i) d (omega arith))

-- bounds that hold in the code's tables hold in the books
pub kept_view : (inside : Inside) (books : BooksView) → books_view inside ≡ books → IsKept inside → IsBooks books
kept_view inside books seen kept = subst IsBooks seen (record {
  standing = length-map inside.nodes.items _ ∙ kept.nodes;
  incoming = length-map inside.nodes.items _ ∙ kept.nodes;
  bids = kept.bids;
  standing_amounts = high;
  incoming_amounts = λ n. offers_small (λ m. m.incoming) inside.nodes.items n (λ i d within. (kept.amounts i d within).incoming);
  amounts = λ n. small_at _ _ (high n);
})
  where
    high : (n : ℕ) → IfSome (get_or (map (λ (m : NodeBids). m.standing) inside.nodes.items) n None) (λ o. o.amount ≤ MOST_AMOUNT)
    high n = offers_small (λ m. m.standing) inside.nodes.items n (λ i d within. (kept.amounts i d within).standing)

same_books : {s t i j : List (Option Offer)} {b d : List ℕ} → s ≡ t → i ≡ j → b ≡ d → ◌≡◌ {A = BooksView} (record { standing = s; incoming = i; bids = b }) (record { standing = t; incoming = j; bids = d })
same_books e f g = cc

-- a bid in the tables
pub placed_view : (nodes : List NodeBids) (masks : List ℕ) (books : BooksView) (i j n b a mask : ℕ) (old new : NodeBids)
    → tables_view nodes masks ≡ books → i ≡ n → j ≡ b → i < length nodes → i < 128 → old ≡ get_or nodes i old → new ≡ received old (record { amount = a; bidder = b }) → mask ≡ get_or masks j 0
    → tables_view (set nodes i new) (set masks j (bit_or mask (1 * 2 ^ i % 2 ^ 128))) ≡ placed books b n a
placed_view nodes masks books i j n b a mask old new seen e f within small found made read =
    ap (λ r. tables_view (set nodes i r) (set masks j (bit_or mask (1 * 2 ^ i % 2 ^ 128)))) made
    ∙ same_books
    (map-set_same (λ (m : NodeBids). m.standing) nodes i _ old (ap (λ (m : NodeBids). m.standing) found))
    (map-set (λ (m : NodeBids). m.incoming) nodes i _ ∙ ap (λ o. set (map (λ (m : NodeBids). m.incoming) nodes) i (greater o (Some (record { amount = a; bidder = b })))) (ap (λ (m : NodeBids). m.incoming) found ∙ sym (get_or-map (λ (m : NodeBids). m.incoming) nodes i old None within)))
    (ap (λ x. set masks j (bit_or mask x)) (one_shl i 128 small) ∙ ap (λ x. set masks j (bit_or x (2 ^ i))) read ∙ ap (λ k. set masks k (bit_or (get_or masks k 0) (2 ^ i))) f)
    ∙ (ap (λ k. placed (tables_view nodes masks) b k a) e ∙ ap (λ x. placed x b n a) seen)

-- ---- the end of a round

merged_view : (nodes : List NodeBids) → map (λ (m : NodeBids). m.standing) (map closed nodes) ≡ merged (map (λ (m : NodeBids). m.standing) nodes) (map (λ (m : NodeBids). m.incoming) nodes)
merged_view [] = refl
merged_view (n ∷ ns) = ap (λ xs. greater n.standing n.incoming ∷ xs) (merged_view ns)

cleared_view : (nodes : List NodeBids) → map (λ (m : NodeBids). m.incoming) (map closed nodes) ≡ map (λ (o : Option Offer). None) (map (λ (m : NodeBids). m.incoming) nodes)
cleared_view [] = refl
cleared_view (n ∷ ns) = ap (λ xs. None ∷ xs) (cleared_view ns)

zeros : (masks : List ℕ) → replicate {A = ℕ} (length masks) 0 ≡ map (λ (x : ℕ). 0) masks
zeros [] = refl
zeros (x ∷ xs) = ap (λ ys. 0 ∷ ys) (zeros xs)

pub folded_view : (nodes : List NodeBids) (masks : List ℕ) (books : BooksView) → tables_view nodes masks ≡ books → tables_view (map closed nodes) (replicate {A = ℕ} (length masks) 0) ≡ folded books
folded_view nodes masks books seen = same_books (merged_view nodes) (cleared_view nodes) (zeros masks) ∙ ap folded seen

-- the table that a loop over all rows leaves
pub whole : (nodes rows : List NodeBids) (i n : ℕ) → length nodes ≤ i → rows ≡ map closed (take i nodes) ++ drop i nodes → n ≡ length nodes → take n (rows ++ drop (length rows) nodes) ≡ map closed nodes
whole nodes rows i n h e size =
    let all : rows ≡ map closed nodes = e ∙ ap (λ xs. map closed xs ++ drop i nodes) (take_all i nodes h) ∙ ap (λ xs. map closed nodes ++ xs) (drop_all i nodes h) ∙ append-nil (map closed nodes) in
    let same : length rows ≡ n = ap length all ∙ length-map nodes closed ∙ sym size in
    ap (λ k. take k (rows ++ drop (length rows) nodes)) (sym same) ∙ take-append_seam rows (drop (length rows) nodes) ∙ all

small_greater : (most : ℕ) (o n : Option Offer) → IfSome o (λ x. x.amount ≤ most) → IfSome n (λ x. x.amount ≤ most) → IfSome (greater o n) (λ x. x.amount ≤ most)
small_greater most None None h k = tt
small_greater most None (Some n) h k = elim (nat_lt 0 n.amount) as (λ b. IfSome (if b then Some n else None) (λ x. x.amount ≤ most)) [ true ↦ k | false ↦ tt ]
small_greater most (Some o) None h k = elim (nat_lt o.amount 0) as (λ b. IfSome (if b then None else Some o) (λ x. x.amount ≤ most)) [ true ↦ tt | false ↦ h ]
small_greater most (Some o) (Some n) h k = elim (nat_lt o.amount n.amount) as (λ b. IfSome (if b then Some n else Some o) (λ x. x.amount ≤ most)) [ true ↦ k | false ↦ h ]

small_closed : (n : NodeBids) → IsSmall n → IsSmall (closed n)
small_closed n h = record { standing = small_greater _ n.standing n.incoming h.standing h.incoming; incoming = tt }

pub small_all_closed : (nodes : List NodeBids) → All IsSmall nodes → All IsSmall (map closed nodes)
small_all_closed nodes h = All-map IsSmall closed nodes (λ i d within. small_closed _ (h i d within))

-- ---- a round without a bid

each_quiet : (masks : List ℕ) → All (λ m. m ≡ 0) masks → (b : ℕ) → get_or {A = ℕ} masks b 0 ≡ 0
each_quiet [] h b = refl
each_quiet (m ∷ ms) h zero = h 0 m (omega arith)
each_quiet (m ∷ ms) h (suc b) = each_quiet ms (λ i d within. h (suc i) d (omega arith)) b

all_quiet : (masks : List ℕ) → ((b : ℕ) → get_or {A = ℕ} masks b 0 ≡ 0) → All (λ m. m ≡ 0) masks
all_quiet [] h i d within = absurd (omega arith)
all_quiet (m ∷ ms) h zero d within = h 0
all_quiet (m ∷ ms) h (suc i) d within = all_quiet ms (λ b. h (suc b)) i d (omega arith)

pub quiet_view : (nodes : List NodeBids) (masks : List ℕ) (books : BooksView) (b : Bool) → tables_view nodes masks ≡ books → IsTrue b ↔ All (λ m. m ≡ 0) masks → IsTrue b ↔ IsQuiet books
quiet_view nodes masks books b seen e = subst (λ v. IsTrue b ↔ IsQuiet v) seen (λ t. each_quiet masks (e.0 t), λ q. e.1 (all_quiet masks q))
