-- Whether the values of options are given well.
use Rattle.std.proofs.Common.{◌≡◌, ◌∙◌, ℕ, Bool, ◌&&◌, refl, ◌∷◌, true, false, List, [], Option, Some, Result, Ok, Err, ap, subst, sym, Bor}
use Rattle.std.specs.Prelude.{⊤, ◌≢◌, codes, option_map, IfSome, MatchResult}
use Rattle.std.specs.Char.{is_ascii_digit}
use Rattle.std.specs.List.{list_all}
use Rattle.std.specs.Str.{all_ascii_digits}
use Rattle.clap.specs.Matches.{first_value}
use Rattle.clap.specs.Walk.{Row, Text, first_of, rows_of}
use Rattle.clap.specs.declared.parser.matches.Found.{Found}
use Rattle.clap.proofs.WalkLemmas.{first_value-rows}
use Rattle.hpb_words.specs.Words.{AreWellGivenIn, IsGivenByDigits, text_in}

pub all_digits : (text : List ℕ) → list_all is_ascii_digit text ≡ all_ascii_digits text
all_digits [] = refl
all_digits (c ∷ cs) = ap (λ (b : Bool). is_ascii_digit c && b) (all_digits cs)

-- the value that was read is digits alone
pub digits_read : (f : Found) (id : Text) (o : Option (Bor Text)) → option_map (λ s. s.now) o ≡ first_value f id → IfSome (option_map (λ s. s.now) o) (λ t. all_ascii_digits t ≡ true)
    → IsGivenByDigits (rows_of f) id
digits_read f id o read are = subst (λ (t : Option Text). IfSome t (λ u. all_ascii_digits u ≡ true)) (read ∙ first_value-rows f id) are

-- the value that was read isn't
pub sign_read : (f : Found) (id : Text) (o : Option (Bor Text)) (s : Bor Text) → option_map (λ s. s.now) o ≡ first_value f id → o ≡ Some s → all_ascii_digits s.now ≡ false
    → IsGivenByDigits (rows_of f) id → ⊥
sign_read f id o s read is not given =
    let text : first_of id (rows_of f) ≡ Some s.now = sym (read ∙ first_value-rows f id) ∙ ap (λ (v : Option (Bor Text)). option_map (λ s. s.now) v) is in
    let all : all_ascii_digits s.now ≡ true = subst (λ (t : Option Text). IfSome t (λ u. all_ascii_digits u ≡ true)) text given in
    let no : false ≡ true = sym not ∙ all in
    cc

-- all values are given well if the last of them is
pub by_last : {E : Type 0} (rows : List Row) (r : Result ⊤ E) → text_in rows (codes "file") ≢ [] → IsGivenByDigits rows (codes "journal") → IsGivenByDigits rows (codes "layout")
    → IsGivenByDigits rows (codes "batch") → IsGivenByDigits rows (codes "every") → IsGivenByDigits rows (codes "port")
    → MatchResult r (λ _. IsGivenByDigits rows (codes "sessions")) (λ _. IsGivenByDigits rows (codes "sessions") → ⊥) → MatchResult r (λ _. AreWellGivenIn rows) (λ _. AreWellGivenIn rows → ⊥)
by_last rows (Ok done) named journal layout batch every port sessions = (named, journal, layout, batch, every, port, sessions)
by_last rows (Err fault) named journal layout batch every port ill = λ given. ill given.6
