-- The words of a line: they have no space and no line feed, and joined they are the line.
use Rattle.std.proofs.Common.{◌≡◌, ◌≢◌, ℕ, ◌<◌, ◌≤◌, Bool, true, false, cond, eqb, List, [], ◌∷◌, length, get_or, inl, inr, None, refl, ap, ◌∙◌}
use Rattle.std.specs.Prelude.{All, if◌then◌else◌}
use Rattle.std.specs.List.{onto_first, list_any}
use Rattle.std.proofs.lemmas.Bool.{both_ways, or_parts, or_from, cases_Bool, eq-eqb, ne_eqb, le-ltb}
use Rattle.std.proofs.lemmas.List.Folds.{list_any-append, list_any_none, list_any_at}
use Rattle.std.proofs.lemmas.List.Splits.{slice_split_at, slice_split_none}
use Rattle.hpb_rules.specs.Lines.{most_line_bytes, line_feed, space, is_line_feed, is_space, line_words, spelled, spelled_by, spaced, IsSpellableName}

-- no space and no line feed stands in a word
pub record IsClean (word : List ℕ) : Type 0 where
  pub no_space : list_any is_space word ≡ false
  pub no_line_feed : list_any is_line_feed word ≡ false

abbrev pub AreClean : List (List ℕ) → Type 0
AreClean [] = Unit {0}
AreClean (word ∷ words) = IsClean word × AreClean words

-- ---- the words between the spaces of a line
pub words_clean : (line : List ℕ) → list_any is_line_feed line ≡ false → AreClean (line_words line)
words_clean [] e = (record { no_space = refl; no_line_feed = refl }, tt)
words_clean (x ∷ xs) e = by (is_space x) refl (line_words xs) (words_clean xs (or_parts (is_line_feed x) (list_any is_line_feed xs) e).1)
  where
    by : (b : Bool) → is_space x ≡ b → (words : List (List ℕ)) → AreClean words → AreClean (cond b ([] ∷ words) (onto_first x words))
    by true f words h = (record { no_space = refl; no_line_feed = refl }, h)
    by false f [] h = (record { no_space = or_from (is_space x) _ f refl; no_line_feed = or_from (is_line_feed x) _ (or_parts (is_line_feed x) (list_any is_line_feed xs) e).0 refl }, tt)
    by false f (word ∷ words) h = (record { no_space = or_from (is_space x) _ f h.0.no_space; no_line_feed = or_from (is_line_feed x) _ (or_parts (is_line_feed x) (list_any is_line_feed xs) e).0 h.0.no_line_feed }, h.1)

-- ---- words and the line that they make
none_passes : (p : ℕ → Bool) (xs : List ℕ) → list_any p xs ≡ false → All (λ x. p x ≡ false) xs
none_passes p xs e k d h = elim (cases_Bool (p (get_or xs k d))) [ inl passes ↦ absurd (both_ways _ e (list_any_at p xs k d h passes)) | inr fails ↦ fails ]

words_joined : (word : List ℕ) (words : List (List ℕ)) → AreClean (word ∷ words) → line_words (spaced (word ∷ words)) ≡ word ∷ words
words_joined word [] h = slice_split_none is_space word (none_passes is_space word h.0.no_space)
words_joined word (next ∷ words) h =
    slice_split_at is_space word space (spaced (next ∷ words)) (none_passes is_space word h.0.no_space) refl ∙ ap (λ rest. word ∷ rest) (words_joined next words h.1)

no_end_joined : (word : List ℕ) (words : List (List ℕ)) → AreClean (word ∷ words) → list_any is_line_feed (spaced (word ∷ words)) ≡ false
no_end_joined word [] h = h.0.no_line_feed
no_end_joined word (next ∷ words) h = list_any-append is_line_feed word (space ∷ spaced (next ∷ words)) ∙ or_from (list_any is_line_feed word) _ h.0.no_line_feed (no_end_joined next words h.1)

-- a line of such words that isn't too long spells what its words spell
pub spelled_joined : (word : List ℕ) (words : List (List ℕ)) → AreClean (word ∷ words) → length (spaced (word ∷ words)) ≤ most_line_bytes → spelled (spaced (word ∷ words)) ≡ spelled_by (word ∷ words)
spelled_joined word words h short =
    ap (λ b. if b then None else spelled_by (line_words (spaced (word ∷ words)))) (or_from _ _ (le-ltb most_line_bytes (length (spaced (word ∷ words))) short) (no_end_joined word words h))
    ∙ ap spelled_by (words_joined word words h)

-- ---- names as words
is_other : (byte other : ℕ) → eqb byte other ≡ false → byte ≢ other
is_other byte other e same = both_ways _ e (eq-eqb byte other same)

pub clean_of_name : (name : List ℕ) → IsSpellableName name → IsClean name
clean_of_name name h = record {
  no_space = list_any_none is_space name (λ k d l. ne_eqb (get_or name k d) space (h.no_space k d l));
  no_line_feed = list_any_none is_line_feed name (λ k d l. ne_eqb (get_or name k d) line_feed (h.no_line_feed k d l));
}

pub name_of_clean : (name : List ℕ) → 0 < length name → IsClean name → IsSpellableName name
name_of_clean name filled h = record {
  filled = filled;
  no_space = λ k d l. is_other (get_or name k d) space (none_passes is_space name h.no_space k d l);
  no_line_feed = λ k d l. is_other (get_or name k d) line_feed (none_passes is_line_feed name h.no_line_feed k d l);
}
