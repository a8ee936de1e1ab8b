-- The rows of a command and its options.
use Rattle.std.proofs.Common.{◌≡◌, ◌∙◌, ℕ, List, [], Option, Some, None, Result, Ok, Err, ap, subst, refl, Bor}
use Rattle.std.specs.Prelude.{option_map, unwrap_or, Box}
use Rattle.std.specs.Str.Parse.{ParsesUnsigned}
use Rattle.clap.specs.Matches.{first_value, one_text, subcommand_name_of, ReadsOne}
use Rattle.clap.specs.Simple.{subcommand_rows, subcommand_rows_of}
use Rattle.clap.specs.Walk.{Row, Text, one_of, rows_of}
use Rattle.clap.specs.declared.parser.matches.ArgMatches.{ArgMatches}
use Rattle.clap.specs.declared.parser.matches.ArgMatches.TheViews.{out-ArgMatches, out-SubCommand}
use Rattle.clap.specs.declared.parser.matches.Found.{Found}
use Rattle.clap.specs.declared.parser.matches.SubCommand.{SubCommand}
use Rattle.clap.proofs.WalkLemmas.{first_value-rows, one_text-rows}
use Rattle.std.specs.Box.{box_value}
use Rattle.hpb_words.specs.Words.{IsNumberOr, text_in}

-- its name and its rows are those that `clap` found
pub found_sub : (m : ArgMatches) (name : Text) (rows : List Row) → Some name ≡ subcommand_name_of m → Some rows ≡ option_map (λ p. p.1) (subcommand_rows_of m)
    → subcommand_rows_of m ≡ Some (name, rows)
found_sub m name rows p q = go (out-ArgMatches m).subcommand p q
  where
    go : {Z : Type 0} (s : Option (Box SubCommand Z)) → Some name ≡ option_map (λ b. (out-SubCommand (box_value b)).name.now) s → Some rows ≡ option_map (λ p. p.1) (subcommand_rows s)
        → subcommand_rows s ≡ Some (name, rows)
    go None p q = cc
    go (Some b) p q = cc

-- the text of an option
pub text_read : (f : Found) (id : Text) (o : Option (Bor Text)) (d r : Bor Text) → d.now ≡ [] → r ≡ unwrap_or o d → option_map (λ s. s.now) o ≡ first_value f id
    → r.now ≡ text_in (rows_of f) id
text_read f id o d r empty is read = go o is ∙ ap (λ (t : Option Text). unwrap_or t []) (read ∙ first_value-rows f id)
  where
    go : (o : Option (Bor Text)) → r ≡ unwrap_or o d → r.now ≡ unwrap_or (option_map (λ s. s.now) o) []
    go None is = ap (λ (s : Bor Text). s.now) is ∙ empty
    go (Some s) is = ap (λ (s : Bor Text). s.now) is

-- the number that it spells, or another
pub number_read : {E : Type 0} (bits : ℕ) (gives : Text → Result ℕ E → Type 0) (f : Found) (id : Text) (o : Option ℕ) (d n : ℕ)
    → ((t : Text) (r : Result ℕ E) → gives t r → ParsesUnsigned bits 10 t r)
    → (one_text f id ≡ None → o ≡ None) → ((t : Text) → one_text f id ≡ Some t → ReadsOne gives t o) → n ≡ unwrap_or o d
    → IsNumberOr bits d (one_of id (rows_of f)) n
number_read {E} bits gives f id o d n parses none some is = subst (λ (t : Option Text). IsNumberOr bits d t n) (one_text-rows f id) (go (one_text f id) none some)
  where
    read : (t : Text) (o : Option ℕ) → ReadsOne gives t o → n ≡ unwrap_or o d → IsNumberOr bits d (Some t) n
    read t None h is = (λ spells. absurd (parses t (Err h.0) h.1 spells), λ _. is)
    read t (Some v) h is = let p = parses t (Ok v) h in (λ spells. is ∙ p.1, λ not. absurd (not p.0))

    go : (t : Option Text) → (t ≡ None → o ≡ None) → ((u : Text) → t ≡ Some u → ReadsOne gives u o) → IsNumberOr bits d t n
    go None none some = is ∙ ap (λ (x : Option ℕ). unwrap_or x d) (none refl)
    go (Some t) none some = read t o (some t refl) is
