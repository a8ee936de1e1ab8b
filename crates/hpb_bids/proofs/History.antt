-- The books after each kind of command.
use Rattle.std.proofs.Common.{◌≡◌, ℕ, zero, suc, ◌<◌, ◌^◌, Bool, ◌&&◌, ◌||◌, List, [], ◌∷◌, map, length, get_or, set, eq-eqb, Option, Some, None, max, refl, sym, ap, ◌∙◌, ⊎_elim, arith, subst}
use Rattle.std.specs.Prelude.{◌==◌, nat_lt, if◌then◌else◌, bit_or}
use Rattle.std.specs.Int.{bit_at}
use Rattle.std.proofs.lemmas.Bool.{cases_eq, ne_eqb}
use Rattle.std.proofs.lemmas.List.{get_or-set_same, get_or-set_other}
use Rattle.std.proofs.lemmas.Nat.Bits.{bit_at_or, bit_at-pow_same, bit_at-pow_other, bit_at-lt}
use Rattle.hpb_rules.specs.declared.command.Offer.{Offer}
use Rattle.hpb_rules.specs.declared.command.Command.{Command}
use Rattle.hpb_rules.specs.declared.command.Command.TheVariants.{Bid, Close}
use Rattle.hpb_rules.specs.declared.limits.TheConstants.{MOST_BIDDERS, MOST_NODES}
use Rattle.hpb_rules.specs.History.{amount_of, greater, high, incoming, bid_on}
use Rattle.hpb_rules.proofs.RunLaws.{close_takes_greater}
use Rattle.hpb_rules.proofs.Tests.{no_bit}
use Rattle.hpb_bids.specs.View.{BooksView, IsBooks, IsQuiet, IsEmpty, offer_at, has_bid, merged, placed, folded}
use Rattle.hpb_bids.specs.Past.{AreBooksOf}

-- the greater of two bids at each place
merged_at : (older newer : List (Option Offer)) (n : ℕ) → length older ≡ length newer → offer_at (merged older newer) n ≡ greater (offer_at older n) (offer_at newer n)
merged_at [] [] n e = refl
merged_at [] (o ∷ newer) n e = absurd (omega arith)
merged_at (o ∷ older) [] n e = absurd (omega arith)
merged_at (o ∷ older) (p ∷ newer) zero e = refl
merged_at (o ∷ older) (p ∷ newer) (suc n) e = merged_at older newer n (omega arith)

none_left : (offers : List (Option Offer)) (n : ℕ) → offer_at (map (λ (o : Option Offer). None) offers) n ≡ None
none_left [] n = refl
none_left (o ∷ offers) zero = refl
none_left (o ∷ offers) (suc n) = none_left offers n

zero_left : (masks : List ℕ) (b : ℕ) → get_or {A = ℕ} (map (λ (x : ℕ). 0) masks) b 0 ≡ 0
zero_left [] b = refl
zero_left (x ∷ xs) zero = refl
zero_left (x ∷ xs) (suc b) = zero_left xs b

pub empty_are_books : {books : BooksView} → IsEmpty books → AreBooksOf books []
empty_are_books e = record { standing = λ n h. e.standing n; incoming = λ n h. e.incoming n; bids = λ b n h k. no_bit _ n (e.bids b) }

pub folded_are_books : {old new : BooksView} → IsBooks old → new ≡ folded old → (past : List Command) (t : ℕ) → AreBooksOf old past → AreBooksOf new (Close t ∷ past)
folded_are_books {old = old} {new = new} sized e past t h = subst (λ v. AreBooksOf v (Close t ∷ past)) (sym e) (record {
  standing = λ n k. merged_at old.standing old.incoming n (sized.standing ∙ sym sized.incoming) ∙ ap (λ o. greater o (offer_at old.incoming n)) (h.standing n k) ∙ ap (greater (high past n)) (h.incoming n k) ∙ sym (close_takes_greater past t n);
  incoming = λ n k. none_left old.incoming n;
  bids = λ b n k l. no_bit _ n (zero_left old.bids b);
})

pub bit_more : (x n m : ℕ) → (bit_at (bit_or x (2 ^ n)) m == 1) ≡ ((n == m) || (bit_at x m == 1))
bit_more x n m = ⊎_elim
    (λ e. subst (λ k. (bit_at (bit_or x (2 ^ n)) k == 1) ≡ ((n == k) || (bit_at x k == 1))) e
    (eq-eqb (bit_at (bit_or x (2 ^ n)) n) 1 (omega (arith, bit_at_or x (2 ^ n) n, bit_at-pow_same n, bit_at-lt x n)) ∙ sym (ap (λ b. b || (bit_at x n == 1)) (eq-eqb n n refl))))
    (λ e. ap (λ k. k == 1) (bit_at_or x (2 ^ n) m ∙ ap (max (bit_at x m)) (bit_at-pow_other n m (λ f. e (sym f))) ∙ omega arith) ∙ sym (ap (λ b. b || (bit_at x m == 1)) (ne_eqb n m e)))
    (cases_eq n m)

placed_incoming : (offers : List (Option Offer)) (n m a b : ℕ) (older : Option Offer) → n < length offers → offer_at offers m ≡ older
    → offer_at (set offers n (greater (offer_at offers n) (Some (record { amount = a; bidder = b })))) m ≡ (if (n == m) && nat_lt (amount_of older) a then Some (record { amount = a; bidder = b }) else older)
placed_incoming offers n m a b older h e = ⊎_elim
    (λ f. subst (λ k. offer_at offers k ≡ older → offer_at (set offers n (greater (offer_at offers n) (Some (record { amount = a; bidder = b })))) k ≡ (if (n == k) && nat_lt (amount_of older) a then Some (record { amount = a; bidder = b }) else older)) f
    (λ g. get_or-set_same offers n _ None h ∙ ap (λ o. greater o (Some (record { amount = a; bidder = b }))) g ∙ sym (ap (λ t. if t && nat_lt (amount_of older) a then Some (record { amount = a; bidder = b }) else older) (eq-eqb n n refl))) e)
    (λ f. get_or-set_other offers n m _ None (λ g. f (sym g)) ∙ e ∙ sym (ap (λ t. if t && nat_lt (amount_of older) a then Some (record { amount = a; bidder = b }) else older) (ne_eqb n m f)))
    (cases_eq n m)

placed_mask : (masks : List ℕ) (b n c m : ℕ) (older : Bool) → b < length masks → (bit_at (get_or masks c 0) m == 1) ≡ older
    → (bit_at (get_or (set masks b (bit_or (get_or masks b 0) (2 ^ n))) c 0) m == 1) ≡ (((b == c) && (n == m)) || older)
placed_mask masks b n c m older h e = ⊎_elim
    (λ f. subst (λ k. (bit_at (get_or masks k 0) m == 1) ≡ older → (bit_at (get_or (set masks b (bit_or (get_or masks b 0) (2 ^ n))) k 0) m == 1) ≡ (((b == k) && (n == m)) || older)) f
    (λ g. ap (λ x. bit_at x m == 1) (get_or-set_same masks b _ 0 h) ∙ bit_more (get_or masks b 0) n m ∙ ap (λ v. (n == m) || v) g ∙ sym (ap (λ t. (t && (n == m)) || older) (eq-eqb b b refl))) e)
    (λ f. ap (λ x. bit_at x m == 1) (get_or-set_other masks b c _ 0 (λ g. f (sym g))) ∙ e ∙ sym (ap (λ t. (t && (n == m)) || older) (ne_eqb b c f)))
    (cases_eq b c)

pub placed_are_books : {old new : BooksView} (b n a : ℕ) → IsBooks old → b < MOST_BIDDERS → n < MOST_NODES → new ≡ placed old b n a → (past : List Command) (t : ℕ) → AreBooksOf old past → AreBooksOf new (Bid b t n a ∷ past)
placed_are_books {old = old} {new = new} b n a sized i j e past t h = subst (λ v. AreBooksOf v (Bid b t n a ∷ past)) (sym e) (record {
  standing = h.standing;
  incoming = λ m k. placed_incoming old.incoming n m a b (incoming past m) (omega (arith, sized.incoming)) (h.incoming m k);
  bids = λ c m k l. placed_mask old.bids b n c m (bid_on past c m) (omega (arith, sized.bids)) (h.bids c m k l);
})

-- ---- the books after a bid and after a close, place by place

pub placed_offers : {old new : BooksView} (b n a : ℕ) → IsBooks old → n < MOST_NODES → new ≡ placed old b n a
    → (m : ℕ) → offer_at new.incoming m ≡ (if n == m then greater (offer_at old.incoming m) (Some (record { amount = a; bidder = b })) else offer_at old.incoming m)
placed_offers {old = old} {new = new} b n a sized h e m = ap (λ (v : BooksView). offer_at v.incoming m) e ∙ ⊎_elim
    (λ f. subst (λ k. offer_at (set old.incoming n (greater (offer_at old.incoming n) (Some (record { amount = a; bidder = b })))) k ≡ (if n == k then greater (offer_at old.incoming k) (Some (record { amount = a; bidder = b })) else offer_at old.incoming k)) f
    (get_or-set_same old.incoming n _ None (omega (arith, sized.incoming)) ∙ sym (ap (λ t. if t then greater (offer_at old.incoming n) (Some (record { amount = a; bidder = b })) else offer_at old.incoming n) (eq-eqb n n refl))))
    (λ f. get_or-set_other old.incoming n m _ None (λ g. f (sym g)) ∙ sym (ap (λ t. if t then greater (offer_at old.incoming m) (Some (record { amount = a; bidder = b })) else offer_at old.incoming m) (ne_eqb n m f)))
    (cases_eq n m)

pub placed_bids : {old new : BooksView} (b n a : ℕ) → IsBooks old → b < MOST_BIDDERS → new ≡ placed old b n a
    → (c m : ℕ) → has_bid new c m ≡ (((b == c) && (n == m)) || has_bid old c m)
placed_bids {old = old} {new = new} b n a sized h e c m = ap (λ (v : BooksView). has_bid v c m) e ∙ placed_mask old.bids b n c m (has_bid old c m) (omega (arith, sized.bids)) refl

pub folded_standing : {old new : BooksView} → IsBooks old → new ≡ folded old → (n : ℕ) → offer_at new.standing n ≡ greater (offer_at old.standing n) (offer_at old.incoming n)
folded_standing {old = old} {new = new} sized e n = ap (λ (v : BooksView). offer_at v.standing n) e ∙ merged_at old.standing old.incoming n (sized.standing ∙ sym sized.incoming)

pub folded_incoming : (old : BooksView) {new : BooksView} → new ≡ folded old → (n : ℕ) → offer_at new.incoming n ≡ None
folded_incoming old {new = new} e n = ap (λ (v : BooksView). offer_at v.incoming n) e ∙ none_left old.incoming n

pub folded_quiet : (old : BooksView) {new : BooksView} → new ≡ folded old → IsQuiet new
folded_quiet old {new = new} e b = ap (λ (v : BooksView). get_or {A = ℕ} v.bids b 0) e ∙ zero_left old.bids b
