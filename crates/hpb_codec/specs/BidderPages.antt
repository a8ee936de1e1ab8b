-- The bidders of a definition, on page 2.
use Rattle.std.specs.Prelude.{ℕ, ◌<◌, ◌^◌, List, [], ◌∷◌}
use Rattle.std.specs.List.{concat, flat_map}
use Rattle.hpb_rules.specs.Tree.{Bidder}
use Rattle.hpb_rules.specs.Definitions.{IsName}
use Rattle.hpb_codec.specs.Numbers.{filled, number, zeros}

-- The fields of a bidder, in their order: name, starting units, zero.
unfoldable pub entry_of : List ℕ → ℕ → List ℕ
entry_of name units = concat (
    filled 16 name
    ∷ number 4 units
    ∷ zeros 4
    ∷ [])

-- The bytes of a bidder.
abbrev pub bidder_of : Bidder → List ℕ
bidder_of bidder = entry_of bidder.name bidder.units

-- The page has 4,096 bytes: the bidders one after another, and zeros behind them.
abbrev pub bidder_page_of : List Bidder → List ℕ
bidder_page_of bidders = filled 4096 (flat_map bidder_of bidders)

-- A bidder whose fields fit their bytes.
pub record HasEntry (bidder : Bidder) : Type 0 where
  pub name : IsName bidder.name
  pub units : bidder.units < 2 ^ 32
