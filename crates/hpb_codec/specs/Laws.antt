-- The law of each table.
use Rattle.std.specs.Prelude.{◌≡◌, ◌↔◌, ℕ, ◌+◌, ◌*◌, ◌≤◌, List, ◌++◌, length, take, drop}
use Rattle.hpb_rules.specs.declared.saved.Saved.{Saved}
use Rattle.hpb_rules.specs.Tree.{Rules}
use Rattle.hpb_codec.specs.declared.batch.Batch.{Batch}
use Rattle.hpb_codec.specs.Batches.{SpellsBatch}
use Rattle.hpb_codec.specs.Cells.{further_cells, BeginsCells, SpellsCells}
use Rattle.hpb_codec.specs.Heads.{SpellsHead, SpellsHeadIn, magic}
use Rattle.hpb_codec.specs.Layouts.{layout_byte}
use Rattle.hpb_codec.specs.Numbers.{leading, rest}
use Rattle.hpb_codec.specs.declared.head.Head.{Head}
use Rattle.hpb_codec.specs.Records.{SpellsRecord}
use Rattle.hpb_codec.specs.States.{SpellsState, SpellsStateIn}
use Rattle.hpb_codec.specs.declared.state_format.StateFormat.{StateFormat}

-- A value has one spelling, and bytes spell at most one value.
pub record IsOneToOne {V : Type 0} (Spells : List ℕ → V → Type 0) : Type 0 where
  pub one_spelling : (value : V) (bytes others : List ℕ) → Spells bytes value → Spells others value → bytes ≡ others
  pub one_value : (bytes : List ℕ) (value other : V) → Spells bytes value → Spells bytes other → value ≡ other

-- A command has one record, and bytes are the record of at most one command.
abbrev pub RecordsAreOne : Type 0
RecordsAreOne = IsOneToOne SpellsRecord

-- A batch has one body, and bytes are the body of at most one batch.
abbrev pub BatchesAreOne : Type 0
BatchesAreOne = (rules : Rules) → IsOneToOne (SpellsBatch rules)

-- The body of a batch begins with its index.
abbrev pub BatchBegins : Type 0
BatchBegins = (rules : Rules) (bytes : List ℕ) (batch : Batch) → SpellsBatch rules bytes batch → leading 8 bytes ≡ batch.index

-- A batch has one spelling in cells, and bytes are the cells of at most one batch.
abbrev pub CellsAreOne : Type 0
CellsAreOne = (rules : Rules) → IsOneToOne (SpellsCells rules)

-- The body of a frame of cells begins with the cells of at most one batch, and with that batch's index. Behind the
-- cells it may have any bytes.
pub record CellsBegin : Type 0 where
  pub one : (rules : Rules) (bytes : List ℕ) (batch other : Batch) → BeginsCells rules bytes batch → BeginsCells rules bytes other → batch ≡ other
  pub indexed : (rules : Rules) (bytes : List ℕ) (batch : Batch) → BeginsCells rules bytes batch → leading 8 bytes ≡ batch.index

-- A batch takes as few cells as hold its fields and records. These have 24 bytes and 16 for each record. The first cell
-- holds 488 of them, and each further one 496.
abbrev pub CellsAreFewest : Type 0
CellsAreFewest = (count further : ℕ) → (further_cells count ≤ further) ↔ (24 + 16 * count ≤ 488 + 496 * further)

-- A saved auction with a batch index has one body in each format. Bytes are the body of at most one of these, whatever
-- the format.
abbrev pub StatesAreOne : Type 0
StatesAreOne = ((format : StateFormat) (rules : Rules) → IsOneToOne {V = Saved × ℕ} (λ bytes state. SpellsStateIn format rules bytes state.0 state.1))
    × ((rules : Rules) (bytes : List ℕ) (state other : Saved × ℕ) → SpellsState rules bytes state.0 state.1 → SpellsState rules bytes other.0 other.1 → state ≡ other)

-- A definition with the shape of its journal has one head in each format of states. Bytes are the head of at most one
-- of these, whatever the format.
abbrev pub HeadsAreOne : Type 0
HeadsAreOne = ((format : StateFormat) → IsOneToOne (SpellsHeadIn format))
    × ((bytes : List ℕ) (head other : Head) → SpellsHead bytes head → SpellsHead bytes other → head ≡ other)

-- A head names the layout of its journal by the byte behind its magic.
abbrev pub LayoutIsNamed : Type 0
LayoutIsNamed = (bytes : List ℕ) (head : Head) → SpellsHead bytes head → leading 1 (rest (length magic) bytes) ≡ layout_byte head.journal.layout

-- Chunk i of a body, from 0: 4,096 bytes.
unfoldable pub chunk_of : ℕ → List ℕ → List ℕ
chunk_of i body = take 4096 (drop (i * 4096) body)

-- The four chunks of a state's body, one after another, are the body.
abbrev pub ChunksAreBody : Type 0
ChunksAreBody = (body : List ℕ) → length body ≡ 16384 → body ≡ chunk_of 0 body ++ chunk_of 1 body ++ chunk_of 2 body ++ chunk_of 3 body
