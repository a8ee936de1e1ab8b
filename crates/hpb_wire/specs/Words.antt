-- Parts of a line.
use Rattle.std.specs.Prelude.{ℕ, List, take}
use Rattle.hpb_wire.specs.declared.word.Word.{Word}

-- The bytes of a part of a line, without those behind it.
abbrev pub bytes_of : Word → List ℕ
bytes_of word = take word.size word.bytes.now
