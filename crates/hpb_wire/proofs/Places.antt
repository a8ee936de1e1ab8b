-- The places of a byte in the parts of a line.
use Rattle.std.proofs.Common.{◌≡◌, ◌≢◌, ℕ, zero, suc, ◌+◌, ◌*◌, ◌/◌, ◌%◌, ◌^◌, ◌<◌, ◌≤◌, Bool, true, false, cond, eqb, List, [], ◌∷◌, length, map, get_or, take, drop, refl, sym, ap, subst, ◌∙◌, arith}
use lib.Count.{count_trailing_zeros}
use native.Mathlib.Nat.{add-mul-mod_self_right, mod-eq_of_lt}
use Rattle.std.proofs.Math.Bool.{not}
use Rattle.std.proofs.Math.Nat.{two-pow-succ}
use Rattle.std.specs.List.{All, position_or_len}
use Rattle.std.proofs.lemmas.Bool.{eqb-true}
use Rattle.std.proofs.lemmas.List.{get_or-take, length-map, length-take-le, take-take}
use Rattle.std.proofs.lemmas.List.Elements.{All-from_get_or}
use Rattle.std.proofs.lemmas.List.Sums.{fails_before_first, passes_at_first}
use Rattle.std.proofs.lemmas.Nat.{shr-shr}
use Rattle.std.proofs.lemmas.Simd.{leading_from_mask_l, mask_l-lt, trailing_mask_l}
use Rattle.hpb_rules.specs.Lines.{line_words, is_line_feed, is_space, line_feed, space}
use Rattle.hpb_rules.proofs.Masks.{half}
use Rattle.hpb_wire.specs.ByteMaps.{map_of}
use Rattle.hpb_wire.specs.Requests.{IsFrontLine}
use Rattle.hpb_wire.proofs.Cutting.{words_all}

-- the map from byte n on
pub map_behind : (byte n : ℕ) (line : List ℕ) → map_of byte line / 2 ^ n ≡ map_of byte (drop n line)
map_behind byte zero line = omega arith
map_behind byte (suc n) [] = omega arith
map_behind byte (suc n) (x ∷ xs) =
    let one_more : suc n ≡ 1 + n = omega arith in
    ap (λ k. map_of byte (x ∷ xs) / 2 ^ k) one_more
    ∙ sym (shr-shr (map_of byte (x ∷ xs)) 1 n)
    ∙ ap (λ m. m / 2 ^ n) (half (eqb x byte) (map_of byte xs))
    ∙ map_behind byte n xs

-- the map of the first n bytes and that of the bytes from n on give the whole map
pub map_joined : (byte n : ℕ) (line : List ℕ) → map_of byte (take n line) + map_of byte (drop n line) * 2 ^ n ≡ map_of byte line
map_joined byte zero line = omega arith
map_joined byte (suc n) [] = omega arith
map_joined byte (suc n) (x ∷ xs) = omega (arith, map_joined byte n xs, ap (λ p. map_of byte (drop n xs) * p) (two-pow-succ n))

-- if a byte is mapped, its first place is within the line
pub mapped_within : (byte : ℕ) (line : List ℕ) → 0 < map_of byte line → position_or_len (λ b. eqb b byte) line < length line
mapped_within byte [] h = absurd (omega (arith, h))
mapped_within byte (x ∷ xs) h =
    (elim (eqb x byte) as (λ b. 0 < cond b 1 0 + 2 * map_of byte xs → cond (not b) (1 + position_or_len (λ b. eqb b byte) xs) 0 < suc (length xs)) [
      | true ↦ λ p. omega arith
      | false ↦ λ p. omega (arith, mapped_within byte xs (omega (arith, p)))
    ]) h

-- the lowest bit is the place of the first such byte
pub first_bit : (byte : ℕ) (line : List ℕ) → length line ≤ 64 → 0 < map_of byte line → (count_trailing_zeros 64 (map_of byte line) ≡ position_or_len (λ b. eqb b byte) line) × (position_or_len (λ b. eqb b byte) line < length line)
first_bit byte line short some = (trailing_mask_l (λ b. eqb b byte) 64 line short some, mapped_within byte line some)

-- the lowest n bits are the map of the first n bytes
pub map_before : (byte n : ℕ) (line : List ℕ) → n ≤ length line → map_of byte line % 2 ^ n ≡ map_of byte (take n line)
map_before byte n line within =
    let front = take n line in
    let below : map_of byte front < 2 ^ n = subst (λ k. map_of byte front < 2 ^ k) (length-map front (λ b. eqb b byte) ∙ length-take-le n line within) (mask_l-lt (map (λ b. eqb b byte) front)) in
    ap (λ m. m % 2 ^ n) (sym (map_joined byte n line)) ∙ add-mul-mod_self_right (map_of byte front) (map_of byte (drop n line)) (2 ^ n) ∙ mod-eq_of_lt below

-- a line without a space is one word
pub words_unmapped : (line : List ℕ) → map_of space line ≡ 0 → line_words line ≡ line ∷ []
words_unmapped line h = words_all line (sym (leading_from_mask_l is_space line h))

-- if a space is mapped, the lowest bit is the first space's
pub lowest_bit : (is_mapped : Bool) (spaces : ℕ) (line : List ℕ) → (is_mapped ≡ true → length line ≤ 32) → spaces ≡ cond is_mapped (map_of space line) 0 → spaces ≢ 0 → (count_trailing_zeros 64 spaces ≡ position_or_len is_space line) × (position_or_len is_space line < length line) × (length line ≤ 32)
lowest_bit true spaces line short e h =
    let some : 0 < map_of space line = omega (arith, e, h) in
    let first = first_bit space line (omega (arith, short refl)) some in
    (ap (count_trailing_zeros 64) e ∙ first.0, first.1, short refl)
lowest_bit false spaces line short e h = absurd (h e)

-- the map of the bytes behind the first n
pub spaces_behind : (is_mapped : Bool) (n : ℕ) (line : List ℕ) → cond is_mapped (map_of space line) 0 / 2 ^ n ≡ cond is_mapped (map_of space (drop n line)) 0
spaces_behind true n line = map_behind space n line
spaces_behind false n line = omega arith

-- if a line feed is mapped among the first bytes, the lowest bit is the end of the first line
pub front_ends : (n : ℕ) (bytes : List ℕ) → n ≤ 64 → n ≤ length bytes → 0 < map_of line_feed (take n bytes)
    → IsFrontLine bytes (count_trailing_zeros 64 (map_of line_feed (take n bytes))) × (count_trailing_zeros 64 (map_of line_feed (take n bytes)) < n)
front_ends n bytes few within some =
    let front = take n bytes in
    let size = position_or_len is_line_feed front in
    let long : length front ≡ n = length-take-le n bytes within in
    let first = first_bit line_feed front (omega (arith, long)) some in
    let less : size < n = omega (arith, first.1, long) in
    let same : take size front ≡ take size bytes = take-take size n bytes (omega (arith, less)) in
    let ended : get_or bytes size 0 ≡ line_feed = sym (get_or-take n bytes size 0 less) ∙ eqb-true (get_or front size 0) line_feed (passes_at_first is_line_feed front 0 first.1) in
    let short : length (take size bytes) ≡ size = length-take-le size bytes (omega (arith, less)) in
    let none : All (λ b. is_line_feed b ≡ false) (take size bytes) =
    All-from_get_or (λ b. is_line_feed b ≡ false) (take size bytes) 0 (λ i less_i.
    ap is_line_feed (get_or-take size bytes i 0 (omega (arith, less_i, short)) ∙ sym (get_or-take n bytes i 0 (omega (arith, less_i, short, less))))
    ∙ fails_before_first is_line_feed front i 0 (omega (arith, less_i, short))) in
    subst (λ k. IsFrontLine bytes k × (k < n)) (sym first.0) ((omega (arith, less), ended, none), less)
