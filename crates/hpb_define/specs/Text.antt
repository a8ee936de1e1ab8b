-- The bytes that spell a definition, and the answer to any bytes.
use Rattle.std.specs.Prelude.{◌≡◌, ◌≤◌, ℕ, List, false, IsTrue, length, Some, None, Result, Ok, Err}
use Rattle.std.specs.Str.{IsUtf8}
use Rattle.serde_json.specs.Data.{Data}
use Rattle.serde_json.specs.Read.{read}
use Rattle.hpb_rules.specs.declared.limits.TheConstants.{MOST_DEFINITION_BYTES}
use Rattle.hpb_rules.specs.Drafts.{draft_refusal}
use Rattle.hpb_rules.specs.Tree.{Rules}
use Rattle.hpb_tree.specs.Fault.{refusal_of}
use Rattle.hpb_define.specs.declared.fault.DefineCause.{DefineCause}
use Rattle.hpb_define.specs.declared.fault.DefineFault.{DefineFault}
use Rattle.hpb_define.specs.declared.fault.DefineCause.TheVariants.{Memory, Json, Field, Number, Refused}
use Rattle.hpb_define.specs.Shape.{has_shape}
use Rattle.hpb_define.specs.Spelling.{rules_in}

-- **Reading.** The answer to bytes is a relation. They are JSON if they are UTF-8, at most 65,536, and `serde_json`
-- reads a value from them. A value has the shape of a definition if it has its fields, no other, and each has its type.
-- It spells rules if, besides, all its numbers are whole and fit 64 bits. So 60 comes before 61 and 61 before 62,
-- wherever the faults stand; then the rules are refused as a draft is. If memory was refused, the answer says nothing
-- about the bytes.
--
-- The bytes are the text of a JSON value, and at most 65,536.
abbrev pub IsJson : List ℕ → Data → Type 0
IsJson bytes value = (length bytes ≤ MOST_DEFINITION_BYTES) × IsUtf8 bytes × (read bytes ≡ Some value)

-- The bytes spell rules: a value with the fields of a definition, whose numbers are whole.
abbrev pub Spells : List ℕ → Rules → Type 0
Spells bytes rules = (value : Data) × IsJson bytes value × IsTrue (has_shape value) × (rules_in value ≡ Some rules)

-- The bytes aren't JSON, or are too many.
abbrev pub IsNoJson : List ℕ → Type 0
IsNoJson bytes = (value : Data) → IsJson bytes value → ⊥

-- The bytes are JSON, but some field isn't one of a definition, is missing, or has another type.
abbrev pub HasOtherFields : List ℕ → Type 0
HasOtherFields bytes = (value : Data) × IsJson bytes value × (has_shape value ≡ false)

-- The fields are those of a definition, but some number isn't whole.
abbrev pub HasOtherNumbers : List ℕ → Type 0
HasOtherNumbers bytes = (value : Data) × IsJson bytes value × IsTrue (has_shape value) × (rules_in value ≡ None)

-- The answer to bytes: the first fault of their text, or else that of the rules that they spell.
abbrev pub Answers : List ℕ → Result Rules DefineCause → Type 0
Answers bytes (Ok rules) = Spells bytes rules × (draft_refusal rules ≡ None)
Answers bytes (Err Memory) = Unit {0}
Answers bytes (Err Json) = IsNoJson bytes
Answers bytes (Err Field) = HasOtherFields bytes
Answers bytes (Err Number) = HasOtherNumbers bytes
Answers bytes (Err (Refused fault)) = (rules : Rules) × Spells bytes rules × (draft_refusal rules ≡ Some (refusal_of fault))

-- The answer without the words for people.
abbrev pub by_cause : Result Rules DefineFault → Result Rules DefineCause
by_cause (Ok rules) = Ok rules
by_cause (Err fault) = Err fault.cause
