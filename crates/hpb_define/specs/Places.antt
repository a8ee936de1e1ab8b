-- The places of nodes by their names, while a definition is read.
use Rattle.std.specs.Prelude.{◌≡◌, ℕ, List, String}
use Rattle.std.specs.HashMap.{HashMap, get_by_text}
use Rattle.std.specs.declared.alloc.Global.{Global}
use Rattle.hpb_rules.specs.Tree.{Node}
use Rattle.hpb_define.specs.Spelling.{node_named}

-- The map has the place of the first node with each name.
abbrev pub Places : {S : Type 0} → HashMap (String Global) ℕ S → List Node → Type 0
Places places nodes = (name : List ℕ) → get_by_text places name ≡ node_named nodes name
