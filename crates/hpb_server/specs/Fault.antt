-- Faults: the refusal that reports each, and the answers that it leaves unwritten.
use Rattle.std.specs.Prelude.{◌≡◌, ◌≢◌, ℕ, ◌≤◌, Bool, true, List, [], ◌∷◌, ◌++◌, length}
use Rattle.std.specs.IoError.{error_kind}
use Rattle.std.specs.declared.io.Error.{Error}
use Rattle.std.specs.declared.io.ErrorKind.TheVariants.{Interrupted}
use Rattle.hpb_rules.specs.declared.refusal.Refusal.{Refusal}
use Rattle.hpb_rules.specs.declared.refusal.Refusal.TheVariants as refusals
use Rattle.hpb_rules.specs.Text.{line_of}
use Rattle.hpb_server.specs.declared.fault.SessionFault.{SessionFault}
use Rattle.hpb_server.specs.declared.fault.SessionFault.TheVariants.{Memory, Reader, Writer}

-- The refusal that reports a fault.
abbrev pub refusal_of : SessionFault → Refusal
refusal_of Memory = refusals.Memory
refusal_of Reader = refusals.Stream
refusal_of Writer = refusals.Stream

-- **Faults.** If a session is broken off, a fault says why. The fault limits the answers left unwritten. If memory was
-- refused, they are at most a number of the last lines. If the reader failed, there are none. If the writer failed,
-- they are any end of the answers.
--
-- Texts, each with the end of its line.
abbrev pub lines_of : List (List ℕ) → List ℕ
lines_of [] = []
lines_of (text ∷ more) = line_of text ++ lines_of more

-- The answers left unwritten. If memory was refused, they are at most `most` of the last lines, and at least one unless
-- the desk takes memory. If the reader failed, there are none. If the writer failed, they are any end of the answers.
abbrev pub IsLeft : (most : ℕ) (takes_memory : Bool) → SessionFault → List ℕ → Type 0
IsLeft most takes_memory Memory left = (answers : List (List ℕ)) × (length answers ≤ most) × (answers ≡ [] → takes_memory ≡ true) × (left ≡ lines_of answers)
IsLeft most takes_memory Reader left = left ≡ []
IsLeft most takes_memory Writer left = Unit {0}

-- The same for a desk that is asked for one command at a time and takes no memory: the last line is left if memory was
-- refused for it.
abbrev pub IsLeftOfScript : SessionFault → List ℕ → Type 0
IsLeftOfScript Memory left = (answer : List ℕ) × (left ≡ line_of answer)
IsLeftOfScript Reader left = left ≡ []
IsLeftOfScript Writer left = Unit {0}

-- An error that isn't an interruption.
abbrev pub IsFailure : Error → Type 0
IsFailure error = error_kind error ≢ Interrupted
