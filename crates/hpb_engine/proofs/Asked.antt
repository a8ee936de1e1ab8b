-- The calls that a turn and a step make, by how many were made before.
use Rattle.std.proofs.Common.{◌≡◌, ℕ, ◌-◌, ◌<◌, ◌≤◌, Bool, true, false, [], ◌∷◌, if◌then◌else◌, ◌∙◌, ap, arith}
use Rattle.std.proofs.lemmas.Bool.Decides.{nat_tests}
use Rattle.hpb_journal.specs.Places.{closes_frame}
use Rattle.hpb_journal.specs.Shapes.{shape_of}
use Rattle.hpb_slots.specs.Slots.{other_of}
use Rattle.hpb_slots.specs.Writes.{closes_slot, writes_chunk}
use Rattle.hpb_engine.specs.declared.progress.Progress.{Progress}
use Rattle.hpb_engine.specs.Asking.{retire_asks, step_asks, turn_asks, turn_in_flight}
use Rattle.hpb_engine.specs.Moves.{stepped, turned}
use Rattle.hpb_engine.specs.Numbers.{end_of, may_be_open}

module _ (s : Progress) where
  pub at_turn : (turns : ℕ) → s.commit.busy ≡ true → s.commit.turns ≡ turns → turn_asks s ≡ turn_in_flight (turned s turns) ∷ []
  at_turn turns busy is = ap (λ (b : Bool). if b then turn_in_flight s ∷ [] else []) busy ∙ ap (λ (n : ℕ). turn_in_flight (turned s n) ∷ []) is

  pub at_step : (steps : ℕ) → s.checkpoint.steps ≡ steps → step_asks s ≡ step_asks (stepped s steps)
  at_step steps is = ap (λ (n : ℕ). step_asks (stepped s n)) is

  pub at_chunk : 2 ≤ s.checkpoint.steps → s.checkpoint.steps ≤ 5 → step_asks s ≡ writes_chunk (other_of s.checkpoint.newest) (s.checkpoint.steps - 2) s.checkpoint.body.items ∷ []
  at_chunk from to = grind (arith, nat_tests)

  pub at_begin : s.checkpoint.steps ≡ 0 → s.retirement.going ≡ false → s.window.covered < s.window.next → (may : Bool) → s.checkpoint.other_open ≡ may
      → step_asks s ≡ if may then closes_slot (other_of s.checkpoint.newest) ∷ [] else []
  at_begin steps idle some may is = grind (arith, nat_tests)

  -- With nothing going, and all frames clean up to the end, there is no call.
  pub at_rest : s.checkpoint.steps ≡ 0 → s.retirement.going ≡ false → s.window.covered ≡ s.window.next → s.retirement.upto ≡ end_of s.window → step_asks s ≡ []
  at_rest steps off covered done = grind (arith, nat_tests)

  pub at_retire : (may : Bool) → may_be_open s.window s.retirement.upto ≡ may
      → retire_asks s.window s.retirement.upto ≡ if may then closes_frame (shape_of s.window.frames) s.retirement.upto ∷ [] else []
  at_retire may is = ap (λ (b : Bool). if b then closes_frame (shape_of s.window.frames) s.retirement.upto ∷ [] else []) is
