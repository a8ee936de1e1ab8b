-- The names of a definition can stand in a line. Each name is found at its own place, and no other word is found there.
use Rattle.std.proofs.Common.{◌≡◌, ℕ, zero, suc, ◌<◌, true, false, List, [], ◌∷◌, map, length, get_or, Some, refl, sym, ap, ◌∙◌, subst, arith}
use Rattle.std.specs.Prelude.{slice_get}
use Rattle.std.specs.List.{position}
use Rattle.std.specs.Str.{bytes_eq}
use Rattle.std.proofs.lemmas.Bool.{lt-ltb, false_from_ne_true}
use Rattle.std.proofs.lemmas.List.Quantifiers.{position-Some}
use Rattle.std.proofs.lemmas.List.Sums.{position_or_len_is}
use Rattle.std.proofs.lemmas.Option.{slice_get_within, get_or_from_slice_get}
use Rattle.std.proofs.lemmas.Slice.Eq.{bytes_eq-Decides}
use Rattle.hpb_rules.specs.Tree.{Rules, Node, Bidder}
use Rattle.hpb_rules.specs.Lines.{node_named, bidder_named}
use Rattle.hpb_rules.specs.Text.{node_name, bidder_name}
use Rattle.hpb_rules.specs.TextLaws.{NamesAreFound}
use Rattle.hpb_rules.specs.Definitions.{IsName, AreDistinct, AreNames, IsDefinition}
use Rattle.hpb_rules.proofs.AcceptedDrafts.{accepted_is_definition}
use Rattle.hpb_rules.proofs.DraftNames.{spellable}

-- the name that stands at a place
node_name_at : (nodes : List Node) (place : ℕ) → place < length nodes → slice_get (map (λ (node : Node). node.name) nodes) place ≡ Some (node_name nodes place)
node_name_at [] place h = absurd (omega arith)
node_name_at (node ∷ nodes) zero h = refl
node_name_at (node ∷ nodes) (suc place) h = node_name_at nodes place (omega arith)

bidder_name_at : (bidders : List Bidder) (place : ℕ) → place < length bidders → slice_get (map (λ (bidder : Bidder). bidder.name) bidders) place ≡ Some (bidder_name bidders place)
bidder_name_at [] place h = absurd (omega arith)
bidder_name_at (bidder ∷ bidders) zero h = refl
bidder_name_at (bidder ∷ bidders) (suc place) h = bidder_name_at bidders place (omega arith)

module _ {A : Type 0} (named : A → List ℕ) where
  name_at : (some : List A) (place : ℕ) (d : A) → place < length some → slice_get (map named some) place ≡ Some (named (get_or some place d))
  name_at [] place d h = absurd (omega arith)
  name_at (x ∷ some) zero d h = refl
  name_at (x ∷ some) (suc place) d h = name_at some place d (omega arith)

  -- an item of a list that has one
  item_of : (some : List A) (place : ℕ) → place < length some → A
  item_of [] place h = absurd (omega arith)
  item_of (x ∷ some) place h = x

  -- the first item that bears a name is the one that does
  found_at : (some : List A) (place : ℕ) (name : List ℕ) → place < length some → AreDistinct (map named some) → slice_get (map named some) place ≡ Some name → position (λ x. bytes_eq (named x) name) some ≡ Some place
  found_at some place name h distinct at =
      let d : A = item_of some place h in
      rw (position_or_len_is (λ x. bytes_eq (named x) name) some place d (omega arith) (other d) (λ less. (bytes_eq-Decides (named (get_or some place d)) name).1 (here d)), lt-ltb place (length some) h) refl
    where
      here : (d : A) → named (get_or some place d) ≡ name
      here d = let same : ◌≡◌ {A = _} (Some (named (get_or some place d))) (Some name) = sym (name_at some place d h) ∙ at in cc

      other : (d : A) (earlier : ℕ) → earlier < place → bytes_eq (named (get_or some earlier d)) name ≡ false
      other d earlier less = false_from_ne_true (bytes_eq (named (get_or some earlier d)) name) (λ same.
          let equal : named (get_or some earlier d) ≡ name = (bytes_eq-Decides (named (get_or some earlier d)) name).0 same in
          let one : earlier ≡ place = distinct earlier place name (name_at some earlier d (omega arith) ∙ ap Some equal) at in
          omega (arith, one))

  -- an item that is found bears the name
  bears : (some : List A) (place : ℕ) (name : List ℕ) → position (λ x. bytes_eq (named x) name) some ≡ Some place → (place < length some) × (slice_get (map named some) place ≡ Some name)
  bears [] place name e = absurd (cc)
  bears (x ∷ some) place name e =
      let is : (place < length (x ∷ some)) × (bytes_eq (named (get_or (x ∷ some) place x)) name ≡ true) × _ = position-Some (λ x. bytes_eq (named x) name) (x ∷ some) place x e in
      (is.0, name_at (x ∷ some) place x is.0 ∙ ap Some ((bytes_eq-Decides (named (get_or (x ∷ some) place x)) name).0 is.1))

-- two names at the same place are the same
same_name : (names : List (List ℕ)) (place : ℕ) (one other : List ℕ) → slice_get names place ≡ Some one → slice_get names place ≡ Some other → one ≡ other
same_name names place one other e f = let same : ◌≡◌ {A = _} (Some one) (Some other) = sym e ∙ f in cc

-- a word under which a node or a bidder is found is its name
pub node_found : (rules : Rules) (name : List ℕ) (place : ℕ) → node_named rules name ≡ Some place → (place < length rules.nodes) × (name ≡ node_name rules.nodes place)
node_found rules name place e =
    let is : (place < length rules.nodes) × (slice_get (map (λ (node : Node). node.name) rules.nodes) place ≡ Some name) = bears (λ (node : Node). node.name) rules.nodes place name e in
    (is.0, same_name (map (λ (node : Node). node.name) rules.nodes) place name (node_name rules.nodes place) is.1 (node_name_at rules.nodes place is.0))

pub bidder_found : (rules : Rules) (name : List ℕ) (place : ℕ) → bidder_named rules name ≡ Some place → (place < length rules.bidders) × (name ≡ bidder_name rules.bidders place)
bidder_found rules name place e =
    let is : (place < length rules.bidders) × (slice_get (map (λ (bidder : Bidder). bidder.name) rules.bidders) place ≡ Some name) = bears (λ (bidder : Bidder). bidder.name) rules.bidders place name e in
    (is.0, same_name (map (λ (bidder : Bidder). bidder.name) rules.bidders) place name (bidder_name rules.bidders place) is.1 (bidder_name_at rules.bidders place is.0))

-- an item of a list of names is a name
one_name : (names : List (List ℕ)) (place : ℕ) (name : List ℕ) → AreNames names → slice_get names place ≡ Some name → IsName name
one_name names place name are at = subst IsName (get_or_from_slice_get names place name name at) (are.0 place name (slice_get_within names place name at))

pub node_name_is_name : (rules : Rules) (place : ℕ) → IsDefinition rules → place < length rules.nodes → IsName (node_name rules.nodes place)
node_name_is_name rules place definition h = one_name (map (λ (node : Node). node.name) rules.nodes) place (node_name rules.nodes place) definition.node_names (node_name_at rules.nodes place h)

pub bidder_name_is_name : (rules : Rules) (place : ℕ) → IsDefinition rules → place < length rules.bidders → IsName (bidder_name rules.bidders place)
bidder_name_is_name rules place definition h = one_name (map (λ (bidder : Bidder). bidder.name) rules.bidders) place (bidder_name rules.bidders place) definition.bidder_names (bidder_name_at rules.bidders place h)

pub names_are_found : NamesAreFound
names_are_found rules place accepted =
    let definition : IsDefinition rules = accepted_is_definition rules accepted in (
      λ h.
          let at : slice_get (map (λ (node : Node). node.name) rules.nodes) place ≡ Some (node_name rules.nodes place) = node_name_at rules.nodes place h in (
            spellable (node_name rules.nodes place) (node_name_is_name rules place definition h),
            found_at (λ (node : Node). node.name) rules.nodes place (node_name rules.nodes place) h definition.node_names.1 at,
          ),
      λ h.
          let at : slice_get (map (λ (bidder : Bidder). bidder.name) rules.bidders) place ≡ Some (bidder_name rules.bidders place) = bidder_name_at rules.bidders place h in (
            spellable (bidder_name rules.bidders place) (bidder_name_is_name rules place definition h),
            found_at (λ (bidder : Bidder). bidder.name) rules.bidders place (bidder_name rules.bidders place) h definition.bidder_names.1 at,
          ),
    )
