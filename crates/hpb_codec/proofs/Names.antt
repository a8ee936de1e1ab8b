-- A name is read back up to its first zero byte.
use Rattle.std.proofs.Common.{◌≡◌, ℕ, ◌-◌, ◌<◌, Bool, true, false, cond, ltb, List, ◌++◌, length, take, get_or, Option, Some, None, refl, ap, ◌∙◌, ⊎_elim, arith, length-append}
use Rattle.std.specs.Prelude.{◌==◌}
use Rattle.std.specs.List.{position, position_or_len}
use Rattle.std.specs.Option.{unwrap_or}
use Rattle.std.specs.Str.{IsUtf8}
use Rattle.std.proofs.lemmas.Bool.{cases_lt, lt-ltb, le-ltb, eq-eqb, ne_eqb}
use Rattle.std.proofs.lemmas.List.{get_or_append_left, get_or-append_right, get_or_past, take_at}
use Rattle.std.proofs.lemmas.List.Sums.{position_or_len_is}
use Rattle.std.proofs.lemmas.Str.{IsUtf8-from_ascii}
use Rattle.hpb_rules.specs.Definitions.{IsName, IsNameByte}
use Rattle.hpb_codec.specs.Numbers.{number, filled}
use Rattle.hpb_codec.specs.Sizes.{length-number}
use Rattle.hpb_codec.proofs.Numbers.{get_or-number}

-- a byte of a name is ASCII, and not zero
byte_some : (b : ℕ) → IsNameByte b → 0 < b
byte_some b h = ⊎_elim (λ letter. omega (arith, letter.0)) (λ other. ⊎_elim (λ digit. omega (arith, digit.0)) (λ line. omega (arith, line)) other) h

byte_ascii : (b : ℕ) → IsNameByte b → b < 128
byte_ascii b h = ⊎_elim (λ letter. omega (arith, letter.1)) (λ other. ⊎_elim (λ digit. omega (arith, digit.1)) (λ line. omega (arith, line)) other) h

module _ (name : List ℕ) (is : IsName name) where
  pub name_utf8 : IsUtf8 name
  name_utf8 = IsUtf8-from_ascii name (λ i. ⊎_elim (λ lt. byte_ascii (get_or name i 0) (is.1 i 0 lt)) (λ past. omega (arith, get_or_past name i 0 past)) (cases_lt i (length name)))

  module _ (bytes : List ℕ) (spelled : bytes ≡ filled 16 name) where
    padded : bytes ≡ name ++ number (16 - length name) 0
    unfolding filled
    padded = spelled

    size : length bytes ≡ 16
    size = ap length padded ∙ omega (arith, length-append name (number (16 - length name) 0), length-number (16 - length name) 0, is.0.1)

    some_before : (i : ℕ) → i < length name → (get_or bytes i 0 == 0) ≡ false
    some_before i lt =
        let here : get_or bytes i 0 ≡ get_or name i 0 = ap (λ (x : List ℕ). get_or x i 0) padded ∙ get_or_append_left name (number (16 - length name) 0) 0 i lt in
        ne_eqb (get_or bytes i 0) 0 (λ e. omega (arith, here, byte_some (get_or name i 0) (is.1 i 0 lt)))

    zero_at : length name < length bytes → (get_or bytes (length name) 0 == 0) ≡ true
    zero_at lt =
        eq-eqb (get_or bytes (length name) 0) 0
        (ap (λ (x : List ℕ). get_or x (length name) 0) padded ∙ get_or-append_right name (number (16 - length name) 0) (length name) (length name) 0 refl (omega arith) ∙ get_or-number (16 - length name) (length name - length name) 0 (omega (arith, size)))

    -- the place of the first zero byte, or the end
    found : position_or_len (λ b. b == 0) bytes ≡ length name
    found = position_or_len_is (λ b. b == 0) bytes (length name) 0 (omega (arith, size, is.0.1)) some_before zero_at

    name_end : unwrap_or (position (λ b. b == 0) bytes) (length bytes) ≡ length name
    name_end = ⊎_elim
        (λ lt. ap (λ (n : ℕ). unwrap_or (cond (ltb n (length bytes)) (Some n) None) (length bytes)) found ∙ ap (λ (b : Bool). unwrap_or (cond b (Some (length name)) None) (length bytes)) (lt-ltb (length name) (length bytes) lt))
        (λ le. ap (λ (n : ℕ). unwrap_or (cond (ltb n (length bytes)) (Some n) None) (length bytes)) found ∙ ap (λ (b : Bool). unwrap_or (cond b (Some (length name)) None) (length bytes)) (le-ltb (length name) (length bytes) le) ∙ omega (arith, size, is.0.1))
        (cases_lt (length name) (length bytes))

    -- the bytes before it are the name
    pub name_cut : (place : Option ℕ) (end : ℕ) → place ≡ position (λ b. b == 0) bytes → end ≡ unwrap_or place (length bytes) → take end bytes ≡ name
    name_cut place end at cut =
        ap (λ (n : ℕ). take n bytes) (cut ∙ ap (λ (o : Option ℕ). unwrap_or o (length bytes)) at ∙ name_end) ∙ ap (take (length name)) padded ∙ take_at name (number (16 - length name) 0) (length name) refl
