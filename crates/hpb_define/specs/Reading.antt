-- The results of the steps of reading: the words of private clauses.
use Rattle.std.specs.Prelude.{◌≡◌, ℕ, List, false, IsTrue, Option, Some, None, Result, Ok, Err}
use Rattle.serde_json.specs.Data.{Data}
use Rattle.hpb_tree.specs.Draft.{rules_of}
use Rattle.hpb_tree.specs.declared.draft.Draft.{Draft}
use Rattle.hpb_define.specs.declared.fault.DefineCause.{DefineCause}
use Rattle.hpb_define.specs.declared.fault.DefineCause.TheVariants.{Memory, Json, Field, Number, Refused}
use Rattle.hpb_define.specs.Shape.{has_shape}
use Rattle.hpb_define.specs.Spelling.{rules_in}
use Rattle.hpb_define.specs.Text.{Spells, IsNoJson, HasOtherFields, HasOtherNumbers}

-- Reading a part of a value may fail: with a fault of number if the part spells nothing, and in any case if memory was
-- refused.
abbrev pub Fails : {A : Type 0} → DefineCause → Option A → Type 0
Fails Memory spelled = Unit {0}
Fails Json spelled = ⊥
Fails Field spelled = ⊥
Fails Number spelled = spelled ≡ None
Fails (Refused fault) spelled = ⊥

-- The part that was read is the one that its value spells.
abbrev pub Gives : {X A : Type 0} → (X → A) → Result X DefineCause → Option A → Type 0
Gives view (Ok part) spelled = spelled ≡ Some (view part)
Gives view (Err fault) spelled = Fails fault spelled

-- The result of reading a value: first its fields and their types are checked, then its numbers.
abbrev pub ReadsValue : Data → Result Draft DefineCause → Type 0
ReadsValue value (Ok draft) = IsTrue (has_shape value) × (rules_in value ≡ Some (rules_of draft))
ReadsValue value (Err Memory) = Unit {0}
ReadsValue value (Err Json) = ⊥
ReadsValue value (Err Field) = has_shape value ≡ false
ReadsValue value (Err Number) = IsTrue (has_shape value) × (rules_in value ≡ None)
ReadsValue value (Err (Refused fault)) = ⊥

-- The result of reading bytes: first whether they are JSON, then as for a value.
abbrev pub ReadsBytes : List ℕ → Result Draft DefineCause → Type 0
ReadsBytes bytes (Ok draft) = Spells bytes (rules_of draft)
ReadsBytes bytes (Err Memory) = Unit {0}
ReadsBytes bytes (Err Json) = IsNoJson bytes
ReadsBytes bytes (Err Field) = HasOtherFields bytes
ReadsBytes bytes (Err Number) = HasOtherNumbers bytes
ReadsBytes bytes (Err (Refused fault)) = ⊥
