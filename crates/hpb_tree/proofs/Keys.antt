-- Two names with the same key are the same name.
use Rattle.std.proofs.Common.{◌≡◌, ℕ, zero, suc, ◌+◌, ◌*◌, ◌/◌, ◌^◌, ◌<◌, ◌≤◌, true, List, [], ◌∷◌, ◌++◌, map, take, drop, length, get_or, min, inl, inr, ◌⊎◌, Option, option_map, false, Some, None, refl, sym, ap, ◌∙◌, arith}
use Rattle.std.proofs.Math.Nat.{pow-succ', pow-le-pow_right, div-div-eq-div-mul}
use Rattle.std.proofs.lemmas.Nat.{div-mul-add, pow-add}
use Rattle.std.proofs.Math.Numerals.{add-one}
use Rattle.std.specs.List.{list_all, position, slice_get}
use Rattle.std.specs.Str.{bytes_eq}
use Rattle.std.proofs.lemmas.Bool.{and_parts, leb-true, cases_lt}
use Rattle.std.proofs.lemmas.Bool.Decides.{nat_tests}
use Rattle.std.proofs.lemmas.Option.{slice_get-map, slice_get_within, get_or_from_slice_get, same_Some}
use Rattle.std.proofs.lemmas.List.{map_push, take_more, take_all, drop_all, take-append-drop, length-take, length-drop}
use Rattle.hpb_rules.specs.Drafts.{is_name_byte, is_name, has_twice}
use Rattle.hpb_tree.proofs.Twice.{found_at}
use Rattle.hpb_tree.specs.Keys.{number_from, number, key_of}
use Rattle.hpb_tree.specs.declared.key.NameKey.{NameKey}

-- each number is a byte
abbrev pub AreBytes : List ℕ → Type 0
AreBytes bytes = (i : ℕ) → get_or bytes i 0 < 256

-- one byte more
from_more : (n : ℕ) (bytes : List ℕ) (byte : ℕ) → number_from n (bytes ++ byte ∷ []) ≡ number_from n bytes * 256 + byte
unfolding number_from
from_more n [] byte = refl
from_more n (b ∷ bytes) byte = from_more (n * 256 + b) bytes byte

pub number_none : number [] ≡ 0
unfolding number_from
number_none = refl

pub number_more : (bytes : List ℕ) (i : ℕ) → i < length bytes → number (take (i + 1) bytes) ≡ number (take i bytes) * 256 + get_or bytes i 0
number_more bytes i h = ap number (take_more bytes i 0 h) ∙ from_more 0 (take i bytes) (get_or bytes i 0)

-- one byte more multiplies the bound of a number by 256
pub bound_more : (n byte i : ℕ) → n < 256 ^ i → byte < 256 → n * 256 + byte < 256 ^ (i + 1)
bound_more n byte i h b =
    let more : 256 ^ (i + 1) ≡ 256 * 256 ^ i = ap (λ (k : ℕ). 256 ^ k) (add-one i) ∙ pow-succ' 256 i in
    omega (arith, more)

-- the number of at most eight bytes fits 64 bits
pub bound_fits : (n i : ℕ) → n < 256 ^ i → i ≤ 8 → n < 2 ^ 64
bound_fits n i h s =
    let most : 256 ^ i ≤ 256 ^ 8 = pow-le-pow_right (omega arith) s in
    omega (arith, most)

-- the number of the first bytes is the number of all of them, without the part that the last ones add
pub number_front : (bytes : List ℕ) (len more all : ℕ) → AreBytes bytes → all ≡ len + more → all ≤ length bytes → number (take all bytes) / 256 ^ more ≡ number (take len bytes)
number_front bytes len zero all a e h = let same : all ≡ len = omega arith in rw same (omega arith)
number_front bytes len (suc more) all a e h =
    let fewer : number (take (len + more) bytes) / 256 ^ more ≡ number (take len bytes) = number_front bytes len more (len + more) a refl (omega arith) in
    let last : get_or bytes (len + more) 0 < 256 = a (len + more) in
    let one : all ≡ len + more + 1 = omega arith in
    let step : number (take all bytes) ≡ number (take (len + more) bytes) * 256 + get_or bytes (len + more) 0 =
    ap (λ (k : ℕ). number (take k bytes)) one ∙ number_more bytes (len + more) (omega arith) in
    let power : 256 ^ suc more ≡ 256 * 256 ^ more = pow-succ' 256 more in
    ap (λ (n : ℕ). n / 256 ^ suc more) step
    ∙ ap (λ (n : ℕ). (number (take (len + more) bytes) * 256 + get_or bytes (len + more) 0) / n) power
    ∙ sym (div-div-eq-div-mul (number (take (len + more) bytes) * 256 + get_or bytes (len + more) 0) 256 (256 ^ more))
    ∙ ap (λ (n : ℕ). n / 256 ^ more) (div-mul-add (number (take (len + more) bytes)) 256 (get_or bytes (len + more) 0) last)
    ∙ fewer

-- a bound in bits is the same bound in bytes
pub byte_bits : (k : ℕ) → 2 ^ (8 * k) ≡ 256 ^ k
byte_bits zero = refl
byte_bits (suc k) =
    let more : 8 * suc k ≡ 8 + 8 * k = omega arith in
    ap (λ (n : ℕ). 2 ^ n) more ∙ pow-add 2 8 (8 * k) ∙ ap (λ (n : ℕ). 256 * n) (byte_bits k) ∙ sym (pow-succ' 256 k)

-- the number of eight bytes
pub number_eight : (bytes : List ℕ) → 8 ≤ length bytes → number (take 8 bytes)
    ≡ ((((((get_or bytes 0 0 * 256 + get_or bytes 1 0) * 256 + get_or bytes 2 0) * 256 + get_or bytes 3 0) * 256 + get_or bytes 4 0) * 256 + get_or bytes 5 0) * 256 + get_or bytes 6 0) * 256 + get_or bytes 7 0
number_eight bytes h = omega (
  arith,
  number_none,
  number_more bytes 0 (omega arith),
  number_more bytes 1 (omega arith),
  number_more bytes 2 (omega arith),
  number_more bytes 3 (omega arith),
  number_more bytes 4 (omega arith),
  number_more bytes 5 (omega arith),
  number_more bytes 6 (omega arith),
  number_more bytes 7 (omega arith),
)

-- two lists of bytes of one length that spell the same number are the same list
same_bytes : (m n : ℕ) (xs ys : List ℕ) → length xs ≡ length ys → AreBytes xs → AreBytes ys → number_from m xs ≡ number_from n ys → (m ≡ n) × (xs ≡ ys)
unfolding number_from
same_bytes m n [] [] l a b e = (e, refl)
same_bytes m n [] (y ∷ ys) l a b e = absurd (omega arith)
same_bytes m n (x ∷ xs) [] l a b e = absurd (omega arith)
same_bytes m n (x ∷ xs) (y ∷ ys) l a b e =
    let behind : (m * 256 + x ≡ n * 256 + y) × (xs ≡ ys) = same_bytes (m * 256 + x) (n * 256 + y) xs ys (omega arith) (λ i. a (suc i)) (λ i. b (suc i)) e in
    let one : x < 256 = a 0 in
    let other : y < 256 = b 0 in
    let same : x ≡ y = omega (arith, behind.0) in
    (omega (arith, behind.0), ap (λ z. z ∷ xs) same ∙ ap (λ zs. y ∷ zs) behind.1)

-- the first of some bytes are bytes
pub bytes_taken : (n : ℕ) (xs : List ℕ) → AreBytes xs → AreBytes (take n xs)
bytes_taken zero xs a i = omega arith
bytes_taken (suc n) [] a i = omega arith
bytes_taken (suc n) (x ∷ xs) a zero = a 0
bytes_taken (suc n) (x ∷ xs) a (suc i) = bytes_taken n xs (λ k. a (suc k)) i

bytes_dropped : (n : ℕ) (xs : List ℕ) → AreBytes xs → AreBytes (drop n xs)
bytes_dropped zero xs a i = a i
bytes_dropped (suc n) [] a i = omega arith
bytes_dropped (suc n) (x ∷ xs) a i = bytes_dropped n xs (λ k. a (suc k)) i

-- the key of a name of no more than eight bytes
pub key_short : (name : List ℕ) → length name ≤ 8 → record { len = length name; first = number name; rest = 0 } ≡ key_of name
unfolding key_of
key_short name h =
    let first : take 8 name ≡ name = take_all 8 name h in
    let rest : take 8 (drop 8 name) ≡ [] = ap (take 8) (drop_all 8 name h) in
    rw (first, rest, number_none) refl

-- the key of such a name, which is the first bytes of a longer text
pub key_front : (bytes : List ℕ) (len : ℕ) → len ≤ length bytes → len ≤ 8 → record { len = len; first = number (take len bytes); rest = 0 } ≡ key_of (take len bytes)
key_front bytes len h short =
    let size : length (take len bytes) ≡ len = omega (arith, length-take len bytes) in
    ap (λ (n : ℕ). record { len = n; first = number (take len bytes); rest = 0 }) (sym size) ∙ key_short (take len bytes) (omega arith)

-- the key of a name of more than eight bytes
pub key_long : (name front behind : List ℕ) → front ≡ take 8 name → behind ≡ drop 8 name → record { len = length name; first = number front; rest = number (take 8 behind) } ≡ key_of name
unfolding key_of
key_long name front behind f b = rw (b, f) refl

-- as many as there are, but at most eight, are the first eight
pub take_least : (xs : List ℕ) (n : ℕ) → n ≡ min (length xs) 8 → take n xs ≡ take 8 xs
take_least xs n h = by (cases_lt (length xs) 8)
  where
    by : (length xs < 8) ⊎ (8 ≤ length xs) → take n xs ≡ take 8 xs
    by (inl l) = take_all n xs (omega arith) ∙ sym (take_all 8 xs (omega arith))
    by (inr l) = let same : n ≡ 8 = omega arith in ap (λ k. take k xs) same

-- two names of at most 16 bytes with the same key are the same
pub key_same : (one other : List ℕ) → key_of one ≡ key_of other → AreBytes one → AreBytes other → length one ≤ 16 → one ≡ other
unfolding key_of
key_same one other e a b short =
    let len : length one ≡ length other = ap (λ (k : NameKey). k.len) e in
    let first : number (take 8 one) ≡ number (take 8 other) = ap (λ (k : NameKey). k.first) e in
    let rest : number (take 8 (drop 8 one)) ≡ number (take 8 (drop 8 other)) = ap (λ (k : NameKey). k.rest) e in
    let firsts : length (take 8 one) ≡ length (take 8 other) = omega (arith, length-take 8 one, length-take 8 other) in
    let rests : length (take 8 (drop 8 one)) ≡ length (take 8 (drop 8 other)) =
    omega (arith, length-take 8 (drop 8 one), length-take 8 (drop 8 other), length-drop 8 one, length-drop 8 other) in
    let front : take 8 one ≡ take 8 other = (same_bytes 0 0 (take 8 one) (take 8 other) firsts (bytes_taken 8 one a) (bytes_taken 8 other b) first).1 in
    let next : take 8 (drop 8 one) ≡ take 8 (drop 8 other) =
    (same_bytes 0 0 (take 8 (drop 8 one)) (take 8 (drop 8 other)) rests (bytes_taken 8 (drop 8 one) (bytes_dropped 8 one a)) (bytes_taken 8 (drop 8 other) (bytes_dropped 8 other b)) rest).1 in
    let mine : take 8 (drop 8 one) ≡ drop 8 one = take_all 8 (drop 8 one) (omega (arith, length-drop 8 one)) in
    let its : take 8 (drop 8 other) ≡ drop 8 other = take_all 8 (drop 8 other) (omega (arith, length-drop 8 other)) in
    let behind : drop 8 one ≡ drop 8 other = sym mine ∙ next ∙ its in
    sym (take-append-drop 8 one) ∙ ap (λ xs. xs ++ drop 8 one) front ∙ ap (λ xs. take 8 other ++ xs) behind ∙ take-append-drop 8 other

-- the keys of one item more
pub keys_more : {X : Type 0} (named : X → List ℕ) (items : List X) (i : ℕ) (x : X) (keys : List NameKey) (key : NameKey) → i < length items → x ≡ get_or items i x
    → key ≡ key_of (named x) → keys ≡ map (λ y. key_of (named y)) (take i items) → keys ++ key ∷ [] ≡ map (λ y. key_of (named y)) (take (i + 1) items)
keys_more named items i x keys key h found k e =
    ap (λ ks. ks ++ key ∷ []) e
    ∙ ap (λ last. map (λ y. key_of (named y)) (take i items) ++ last ∷ []) (k ∙ ap (λ y. key_of (named y)) found)
    ∙ sym (map_push (λ y. key_of (named y)) (take i items) (get_or items i x))
    ∙ ap (map (λ y. key_of (named y))) (sym (take_more items i x h))

-- a name consists of bytes, and is at most 16 long
name_bytes : (name : List ℕ) → list_all is_name_byte name ≡ true → AreBytes name
name_bytes [] e i = omega arith
name_bytes (byte ∷ name) e zero = let here : is_name_byte byte ≡ true = (and_parts _ _ e).0 in grind (arith, nat_tests)
name_bytes (byte ∷ name) e (suc i) = name_bytes name (and_parts _ _ e).1 i

pub is_short : (name : List ℕ) → is_name name ≡ true → length name ≤ 16
is_short name e = leb-true (length name) 16 (and_parts _ _ (and_parts _ _ e).0).1

-- among valid names that each stand once, the name with a key is found at the place of the key
pub found_by_key : {X : Type 0} (named : X → List ℕ) (xs : List X) (keys : List NameKey) (place : ℕ) (name : List ℕ)
    → keys ≡ map (λ x. key_of (named x)) xs → ((k : ℕ) (d : X) → k < length xs → is_name (named (get_or xs k d)) ≡ true) → has_twice (map named xs) ≡ false
    → AreBytes name → slice_get keys place ≡ Some (key_of name) → (position (λ x. bytes_eq (named x) name) xs ≡ Some place) × (place < length xs)
found_by_key {X = X} named xs keys place name e valid once bytes here = by (slice_get xs place) refl
  where
    there : option_map (λ x. key_of (named x)) (slice_get xs place) ≡ Some (key_of name)
    there = sym (slice_get-map (λ x. key_of (named x)) xs place) ∙ ap (λ ks. slice_get ks place) (sym e) ∙ here

    by : (found : Option X) → slice_get xs place ≡ found → (position (λ x. bytes_eq (named x) name) xs ≡ Some place) × (place < length xs)
    by None none = let no : None ≡ Some (key_of name) = ap (option_map (λ x. key_of (named x))) (sym none) ∙ there in cc
    by (Some x) some =
        let key : key_of (named x) ≡ key_of name = same_Some _ _ (ap (option_map (λ y. key_of (named y))) (sym some) ∙ there) in
        let small : place < length xs = slice_get_within xs place x some in
        let at : get_or xs place x ≡ x = get_or_from_slice_get xs place x x some in
        let good : is_name (named x) ≡ true = ap (λ y. is_name (named y)) (sym at) ∙ valid place x small in
        let same : named x ≡ name = key_same (named x) name key (name_bytes (named x) (and_parts _ _ good).1) bytes (is_short (named x) good) in
        (ap (λ bs. position (λ y. bytes_eq (named y) bs) xs) (sym same ∙ ap named (sym at)) ∙ found_at named xs place x once small, small)
