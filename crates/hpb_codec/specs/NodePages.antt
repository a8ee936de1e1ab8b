-- The nodes of a definition, on page 1.
use Rattle.std.specs.Prelude.{ℕ, ◌<◌, ◌^◌, List, [], ◌∷◌, Option, Some, None, IfSome}
use Rattle.std.specs.List.{concat, flat_map}
use Rattle.hpb_rules.specs.declared.licence.Terms.{Terms}
use Rattle.hpb_rules.specs.Tree.{Node}
use Rattle.hpb_rules.specs.Definitions.{IsName}
use Rattle.hpb_codec.specs.Numbers.{filled, number, zeros}

-- The byte of a parent: its place, or 0xFF if there is none.
abbrev pub parent_byte : Option ℕ → ℕ
parent_byte None = 255
parent_byte (Some parent) = parent

-- The fields of a node, in their order: name, parent, kind, zero, units, opening.
abbrev pub node_fields : List ℕ → (parent kind units opening : ℕ) → List ℕ
node_fields name parent kind units opening = concat (
    filled 16 name
    ∷ number 1 parent
    ∷ number 1 kind
    ∷ zeros 2
    ∷ number 4 units
    ∷ number 8 opening
    ∷ [])

-- The bytes of a node with these fields. The kind is 0 for a package and 1 for a licence. The units and the opening of
-- a package are 0.
unfoldable pub entry_of : List ℕ → Option ℕ → Option Terms → List ℕ
entry_of name parent None = node_fields name (parent_byte parent) 0 0 0
entry_of name parent (Some terms) = node_fields name (parent_byte parent) 1 terms.units terms.opening

-- The bytes of a node.
abbrev pub node_of : Node → List ℕ
node_of node = entry_of node.name node.parent node.terms

-- The page has 4,096 bytes: the nodes one after another, and zeros behind them.
abbrev pub node_page_of : List Node → List ℕ
node_page_of nodes = filled 4096 (flat_map node_of nodes)

-- A node whose fields fit their bytes.
pub record HasEntry (node : Node) : Type 0 where
  pub name : IsName node.name
  pub parent : IfSome node.parent (λ parent. parent < 255)
  pub units : IfSome node.terms (λ terms. terms.units < 2 ^ 32)
  pub opening : IfSome node.terms (λ terms. terms.opening < 2 ^ 64)
