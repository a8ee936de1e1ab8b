-- The letters that the intake gathers, and the halts that it sends. Source: this project's own.
use Rattle.std.specs.Prelude.{◌≡◌, ℕ, zero, suc, ◌==◌, if◌then◌else◌, List, [], ◌∷◌, ◌++◌, map}
use Rattle.rtrb.specs.Ring.{sent, received}
use Rattle.hpb_rules.specs.declared.command.Command.{Command}
use Rattle.hpb_rules.specs.declared.letter.Letter.{Letter}
use Rattle.hpb_rings.specs.Slips.{commands}
use Rattle.hpb_rings.specs.declared.ring.Ring.{Ring}

-- **Gathering.** The committer takes letters out of the rings of all seats. The letters that came out of each ring are
-- those gathered of its seat, in order; a letter gets the seat of the ring that it came out of.
--
-- A command as a letter of a seat.
abbrev pub letter_of : ℕ → Command → Letter
letter_of seat command = record { seat = seat; command = command }

-- The commands of a seat's letters, in order.
abbrev pub of_seat : ℕ → List Letter → List Command
of_seat seat [] = []
of_seat seat (letter ∷ letters) = if letter.seat == seat then letter.command ∷ of_seat seat letters else of_seat seat letters

-- Commands were taken out of a ring, and added to the letters gathered before, as letters of its seat. Given are the
-- commands taken out before and after.
abbrev pub Drained : ℕ → List Command → List Command → List Letter → List Letter → Type 0
Drained seat before after had has = (moved : List Command) × (after ≡ before ++ moved) × (has ≡ had ++ map (letter_of seat) moved)

-- The commands that came through each ring.
abbrev pub gathered : {M : Type 0} → List (Ring M) → List (List Command)
gathered rings = map (λ ring. commands (received ring.letters)) rings

-- The commands of one seat among them: none for an unknown seat.
abbrev pub at_seat : List (List Command) → ℕ → List Command
at_seat [] seat = []
at_seat (first ∷ others) zero = first
at_seat (first ∷ others) (suc seat) = at_seat others seat

-- **Halts.** Each seat gets one, and none gets a second.
--
-- The halts that went to each seat.
abbrev pub halts : {M : Type 0} → List (Ring M) → List (List M)
halts rings = map (λ ring. sent ring.halts) rings

-- The halts sent to a seat after one more halt: that halt is added, unless the seat had one.
abbrev pub told_of : {M : Type 0} → M → Ring M → List M
told_of halt ring = if ring.is_told then sent ring.halts else sent ring.halts ++ halt ∷ []
