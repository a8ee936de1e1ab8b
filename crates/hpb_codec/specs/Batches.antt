-- The body of a frame: a batch.
use Rattle.std.specs.Prelude.{◌≡◌, ℕ, ◌<◌, ◌≤◌, ◌^◌, List, [], ◌∷◌, None, length}
use Rattle.std.specs.List.{concat, flat_map, AllByRecursion}
use Rattle.hpb_rules.specs.declared.limits.TheConstants.{MOST_LETTERS}
use Rattle.hpb_rules.specs.Tree.{Rules}
use Rattle.hpb_rules.specs.Answer.{unknown}
use Rattle.hpb_codec.specs.declared.batch.Batch.{Batch}
use Rattle.hpb_codec.specs.Numbers.{filled, number, zeros}
use Rattle.hpb_codec.specs.Records.{record_of, HasRecord}

-- The fields of a body, in their order: batch index, number of the first command, count of records, zero, records.
unfoldable pub batch_fields : (index first count : ℕ) → List ℕ → List ℕ
batch_fields index first count records = concat (
    number 8 index
    ∷ number 8 first
    ∷ number 2 count
    ∷ zeros 6
    ∷ records
    ∷ [])

-- The body of a frame of one page for a batch, 4,080 bytes. Its index and its first number take 8 bytes each and the
-- count of its records 2. Then come 6 zeros, the records, and zeros up to the end.
abbrev pub batch_of : Batch → List ℕ
batch_of batch = filled 4080 (batch_fields batch.index batch.first (length batch.commands) (flat_map record_of batch.commands))

-- A batch has a body under a definition: it has 1 to 64 commands, with bidders and nodes of the definition.
pub record IsBatch (rules : Rules) (batch : Batch) : Type 0 where
  pub index : batch.index < 2 ^ 64
  pub first : batch.first < 2 ^ 64
  pub some : 0 < length batch.commands
  pub most : length batch.commands ≤ MOST_LETTERS
  pub records : AllByRecursion HasRecord batch.commands
  pub known : AllByRecursion (λ command. unknown rules command ≡ None) batch.commands

-- Bytes are the body of a batch.
pub record SpellsBatch (rules : Rules) (bytes : List ℕ) (batch : Batch) : Type 0 where
  pub is : IsBatch rules batch
  pub spelled : bytes ≡ batch_of batch
