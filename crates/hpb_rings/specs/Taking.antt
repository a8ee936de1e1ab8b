-- The letters that a client posts, and the answers that it takes. Source: this project's own.
use Rattle.std.specs.Prelude.{◌≡◌, ℕ, ◌≤◌, List, [], ◌∷◌, length, map}
use Rattle.hpb_rules.specs.declared.letter.Letter.{Letter}
use Rattle.hpb_rules.specs.declared.letter.Answer.{Answer}
use Rattle.hpb_rules.specs.Letters.{new_commands}
use Rattle.hpb_rings.specs.declared.waiting.Waiting.{Waiting}
use Rattle.hpb_rings.specs.declared.slip.Slip.{Slip}
use Rattle.hpb_rings.specs.declared.slip.Slip.TheVariants.{Letter as Post}

-- **Posting and taking.** A client has letters that wait, the oldest first, each with the client's mark at its post. An
-- answer may be taken if it is for the oldest of them, and at least as many commands were accepted before it as that
-- mark says.
--
-- The letters that wait.
abbrev pub posted : List Waiting → List Letter
posted waiting = map (λ (one : Waiting). one.letter) waiting

-- Letters as a ring carries them.
abbrev pub slips : List Letter → List Slip
slips letters = map Post letters

-- How many of the answers newly accept a command.
abbrev pub newly : List Answer → ℕ
newly answers = length (new_commands answers)

-- The answer is for the oldest letter that waits. When it was given, at least as many commands were accepted as the
-- client knew of at the letter's post.
abbrev pub IsForOldest : List Waiting → Answer → Type 0
IsForOldest [] answered = ⊥
IsForOldest (oldest ∷ others) answered = (oldest.letter ≡ answered.letter) × (oldest.mark ≤ answered.at)
