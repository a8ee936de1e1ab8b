-- The words of a line from its first space on.
use Rattle.std.proofs.Common.{◌≡◌, ℕ, suc, ◌+◌, ◌≤◌, Bool, true, false, cond, eqb, ltb, List, [], ◌∷◌, length, take, drop, Some, None, refl, ap, ◌∙◌, arith}
use Rattle.std.proofs.Math.Bool.{not, ◌||◌}
use Rattle.std.specs.List.{All, position, position_or_len, slice_split, onto_first}
use Rattle.std.proofs.lemmas.Option.{cond_some}
use Rattle.std.proofs.lemmas.Bool.{le-ltb, ltb-true}
use Rattle.std.proofs.lemmas.List.Folds.{list_any_none}
use Rattle.std.proofs.lemmas.List.Splits.{slice_split_first}
use Rattle.std.proofs.lemmas.List.Sums.{prefix_len-le-length}
use Rattle.hpb_rules.specs.Lines.{line_words, is_line_feed, is_space, most_line_bytes, spelled, spelled_by}

pub words_found : (xs : List ℕ) (i : ℕ) → position is_space xs ≡ Some i → line_words xs ≡ take i xs ∷ line_words (drop (i + 1) xs)
words_found xs i h =
    let found = cond_some (ltb (position_or_len is_space xs) (length xs)) (position_or_len is_space xs) i h in
    let split = slice_split_first is_space xs 0 (ltb-true _ _ found.0) in
    split ∙ ap (λ n. take n xs ∷ slice_split is_space (drop (n + 1) xs)) found.1

pub words_all : (xs : List ℕ) → length xs ≡ position_or_len is_space xs → slice_split is_space xs ≡ xs ∷ []
words_all [] h = refl
words_all (x ∷ xs) h =
    (elim (eqb x 32) as (λ b. suc (length xs) ≡ cond (not b) (1 + position_or_len is_space xs) 0 → cond b ([] ∷ slice_split is_space xs) (onto_first x (slice_split is_space xs)) ≡ (x ∷ xs) ∷ []) [
      | true ↦ λ e. absurd (omega (arith, e))
      | false ↦ λ e. ap (onto_first x) (words_all xs (omega (arith, e)))
    ]) h

none_when : (b : Bool) (n : ℕ) → cond b (Some n) None ≡ None → b ≡ false
none_when true n h = cc
none_when false n h = refl

pub words_none : (xs : List ℕ) → position is_space xs ≡ None → line_words xs ≡ xs ∷ []
words_none xs h =
    let past : ltb (position_or_len is_space xs) (length xs) ≡ false = none_when _ _ h in
    words_all xs (grind (arith, past, prefix_len-le-length (λ x. not (is_space x)) xs))

-- a line of more than five words
five_and_more : (k b t n a : List ℕ) (ws : List (List ℕ)) (whole : Bool) (x : ℕ) → spelled_by (k ∷ b ∷ t ∷ n ∷ a ∷ cond whole ([] ∷ ws) (onto_first x ws)) ≡ None
five_and_more k b t n a ws true x = refl
five_and_more k b t n a [] false x = refl
five_and_more k b t n a (w ∷ ws) false x = refl

pub too_many : (k b t n a rest : List ℕ) → spelled_by (k ∷ b ∷ t ∷ n ∷ a ∷ line_words rest) ≡ None
too_many k b t n a [] = refl
too_many k b t n a (x ∷ xs) = five_and_more k b t n a (slice_split is_space xs) (is_space x) x

-- a short line without a line feed spells the request that its words spell
pub spelled_whole : (line : List ℕ) → length line ≤ most_line_bytes → All (λ b. is_line_feed b ≡ false) line → spelled line ≡ spelled_by (line_words line)
spelled_whole line short none = λ i. cond (le-ltb most_line_bytes (length line) short i || list_any_none is_line_feed line none i) None (spelled_by (line_words line))
