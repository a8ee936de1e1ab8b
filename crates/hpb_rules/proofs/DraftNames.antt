-- The names of a draft are valid and distinct exactly if no test refuses them.
use Rattle.std.proofs.Common.{◌≡◌, ◌≢◌, ℕ, zero, suc, ◌<◌, Bool, false, true, not, ◌||◌, eqb, List, [], ◌∷◌, map, length, get_or, inl, inr, Some, refl, sym, ap, ◌∙◌, arith}
use Rattle.std.specs.Prelude.{All, slice_get}
use Rattle.std.specs.List.{list_any, list_all}
use Rattle.std.specs.Str.{bytes_eq}
use Rattle.std.proofs.lemmas.Bool.{both_ways, and_parts, cases_Bool, eqb-true, eq-eqb, or_parts, or_from, and_from}
use Rattle.std.proofs.lemmas.List.Elements.{All-weaker}
use Rattle.std.proofs.lemmas.List.Folds.{list_any_none, list_any_at}
use Rattle.std.proofs.lemmas.List.Sums.{AllPass-from_list_all, list_all-from_AllPass}
use Rattle.std.proofs.lemmas.Option.{slice_get-get_or, slice_get_within, get_or_from_slice_get}
use Rattle.std.proofs.lemmas.Slice.Eq.{bytes_eq-Decides}
use Rattle.hpb_rules.specs.Tree.{Rules, Node, Bidder}
use Rattle.hpb_rules.specs.Lines.{space, line_feed, IsSpellableName}
use Rattle.hpb_rules.specs.Definitions.{IsNameByte, IsName, AreDistinct, AreNames}
use Rattle.hpb_rules.specs.Drafts.{is_within, is_name_byte, is_name, has_bad_name, has_twice, has_duplicate}
use Rattle.hpb_rules.proofs.DraftTests.{within, is_within_true}
use Rattle.hpb_rules.proofs.Lists.{or_true}

-- ---- one name
byte_is : (byte : ℕ) → is_name_byte byte ≡ true → IsNameByte byte
byte_is byte e = by (is_within 97 122 byte) refl (is_within 48 57 byte) refl e
  where
    by : (a : Bool) → is_within 97 122 byte ≡ a → (b : Bool) → is_within 48 57 byte ≡ b → ((a || b) || eqb byte 95) ≡ true → IsNameByte byte
    by true p b q f = inl (within 97 122 byte p)
    by false p true q f = inr (inl (within 48 57 byte q))
    by false p false q f = inr (inr (eqb-true byte 95 f))

byte_passes : (byte : ℕ) → IsNameByte byte → is_name_byte byte ≡ true
byte_passes byte (inl letter) = ap (λ b. (b || is_within 48 57 byte) || eqb byte 95) (is_within_true 97 122 byte letter)
byte_passes byte (inr (inl digit)) = ap (λ b. (is_within 97 122 byte || b) || eqb byte 95) (is_within_true 48 57 byte digit) ∙ middle (is_within 97 122 byte)
  where
    middle : (a : Bool) → ((a || true) || eqb byte 95) ≡ true
    middle true = refl
    middle false = refl
byte_passes byte (inr (inr underscore)) = ap (λ b. (is_within 97 122 byte || is_within 48 57 byte) || b) (eq-eqb byte 95 underscore) ∙ or_true (is_within 97 122 byte || is_within 48 57 byte)

name_is : (name : List ℕ) → is_name name ≡ true → IsName name
name_is name e =
    let parts : (is_within 1 16 (length name) ≡ true) × (list_all is_name_byte name ≡ true) = and_parts _ _ e in
    (within 1 16 (length name) parts.0, All-weaker (λ byte. is_name_byte byte ≡ true) IsNameByte byte_is name (AllPass-from_list_all is_name_byte name parts.1))

name_passes : (name : List ℕ) → IsName name → is_name name ≡ true
name_passes name h = and_from _ _ (is_within_true 1 16 (length name) h.0) (list_all-from_AllPass is_name_byte name (All-weaker IsNameByte (λ byte. is_name_byte byte ≡ true) byte_passes name h.1))

-- a name of a definition can stand in a line
pub spellable : (name : List ℕ) → IsName name → IsSpellableName name
spellable name h = record {
  filled = omega (arith, h.0.0);
  no_space = All-weaker IsNameByte (λ byte. byte ≢ space) (λ byte is. other byte space (omega arith) is) name h.1;
  no_line_feed = All-weaker IsNameByte (λ byte. byte ≢ line_feed) (λ byte is. other byte line_feed (omega arith) is) name h.1;
}
  where
    other : (byte low : ℕ) → low < 48 → IsNameByte byte → byte ≢ low
    other byte low h (inl letter) e = omega (arith, letter.0)
    other byte low h (inr (inl digit)) e = omega (arith, digit.0)
    other byte low h (inr (inr underscore)) e = omega (arith, underscore)

-- ---- names that differ
-- a name that no later name equals is none of them
met : (first : List ℕ) (names : List (List ℕ)) (other : ℕ) (name : List ℕ) → list_any (bytes_eq first) names ≡ false → first ≡ name → slice_get names other ≡ Some name → ⊥
met first names other name none same too =
    let place : other < length names = slice_get_within names other name too in
    both_ways _ none (list_any_at (bytes_eq first) names other name place ((bytes_eq-Decides first (get_or names other name)).1 (same ∙ sym (get_or_from_slice_get names other name name too))))

distinct : (names : List (List ℕ)) → has_twice names ≡ false → AreDistinct names
distinct [] e one other name at too = absurd (cc)
distinct (first ∷ names) e zero zero name at too = refl
distinct (first ∷ names) e zero (suc other) name at too = absurd (met first names other name (or_parts _ _ e).0 (cc) too)
distinct (first ∷ names) e (suc one) zero name at too = absurd (met first names one name (or_parts _ _ e).0 (cc) at)
distinct (first ∷ names) e (suc one) (suc other) name at too = ap suc (distinct names (or_parts (list_any (bytes_eq first) names) _ e).1 one other name at too)

not_twice : (names : List (List ℕ)) → AreDistinct names → has_twice names ≡ false
not_twice [] h = refl
not_twice (first ∷ names) h = or_from _ _
    (list_any_none (bytes_eq first) names (λ k d l. elim (cases_Bool (bytes_eq first (get_or names k d))) [ inl passes ↦ absurd (met k d l passes) | inr fails ↦ fails ]))
    (not_twice names (λ one other name at too. let same : suc one ≡ suc other = h (suc one) (suc other) name at too in omega arith))
  where
    met : (k : ℕ) (d : List ℕ) → k < length names → bytes_eq first (get_or names k d) ≡ true → ⊥
    met k d l passes =
        let same : first ≡ get_or names k d = (bytes_eq-Decides first (get_or names k d)).0 passes in
        let one : zero ≡ suc k = h zero (suc k) first refl (slice_get-get_or names k d l ∙ ap Some (sym same)) in
        omega (arith, one)

-- ---- the names of a draft
pub record HasNames (rules : Rules) : Type 0 where
  pub nodes : AreNames (map (λ (node : Node). node.name) rules.nodes)
  pub bidders : AreNames (map (λ (bidder : Bidder). bidder.name) rules.bidders)

module _ {A : Type 0} (named : A → List ℕ) where
  names_of : (some : List A) → list_any (λ x. not (is_name (named x))) some ≡ false → All IsName (map named some)
  names_of [] e k d h = absurd (omega arith)
  names_of (x ∷ some) e zero d h = let passes : not (is_name (named x)) ≡ false = (or_parts _ _ e).0 in name_is (named x) (yes (is_name (named x)) passes)
    where
      yes : (b : Bool) → not b ≡ false → b ≡ true
      yes true e = refl
      yes false e = absurd (both_ways _ e refl)
  names_of (x ∷ some) e (suc k) d h = names_of some (or_parts (not (is_name (named x))) _ e).1 k d (omega arith)

  names_pass : (some : List A) → All IsName (map named some) → list_any (λ x. not (is_name (named x))) some ≡ false
  names_pass [] all = refl
  names_pass (x ∷ some) all = or_from _ _ (ap not (name_passes (named x) (all zero [] (omega arith)))) (names_pass some (λ k d h. all (suc k) d (omega arith)))

pub names_are : (rules : Rules) → has_bad_name rules ≡ false → has_duplicate rules ≡ false → HasNames rules
names_are rules bad duplicate =
    let nodes : list_any (λ (node : Node). not (is_name node.name)) rules.nodes ≡ false = (or_parts _ _ bad).0 in
    let bidders : list_any (λ (bidder : Bidder). not (is_name bidder.name)) rules.bidders ≡ false = (or_parts _ _ bad).1 in
    record {
      nodes = (names_of (λ (node : Node). node.name) rules.nodes nodes, distinct (map (λ (node : Node). node.name) rules.nodes) (or_parts _ _ duplicate).0);
      bidders = (names_of (λ (bidder : Bidder). bidder.name) rules.bidders bidders, distinct (map (λ (bidder : Bidder). bidder.name) rules.bidders) (or_parts _ _ duplicate).1);
    }

pub no_bad_name : (rules : Rules) → HasNames rules → has_bad_name rules ≡ false
no_bad_name rules h = or_from _ _ (names_pass (λ (node : Node). node.name) rules.nodes h.nodes.0) (names_pass (λ (bidder : Bidder). bidder.name) rules.bidders h.bidders.0)

pub no_duplicate : (rules : Rules) → HasNames rules → has_duplicate rules ≡ false
no_duplicate rules h = or_from _ _ (not_twice (map (λ (node : Node). node.name) rules.nodes) h.nodes.1) (not_twice (map (λ (bidder : Bidder). bidder.name) rules.bidders) h.bidders.1)
