-- Calls of a device one after another.
use Rattle.std.proofs.Common.{◌≡◌, List, [], ◌∷◌, ◌++◌, refl, sym, ◌∙◌, ap, append_assoc}
use Rattle.std.specs.Prelude.{Result, Ok, Err, IsErrAnd, OnOk}
use Rattle.hpb_disk.specs.Asked.{Asked, Asks, AsksInTurn}
use Rattle.hpb_disk.specs.Asked.Asked.{fails}

-- The calls of two steps, the second step's first, in front of the earlier calls.
pub and_then : (one two old middle new : List Asked) → middle ≡ one ++ old → new ≡ two ++ middle → new ≡ (two ++ one) ++ old
and_then one two old middle new first second = second ∙ ap (λ (l : List Asked). two ++ l) first ∙ sym (append_assoc two one old)

-- The calls up to a failed one are the first ones of all that were to be made.
abbrev pub Breaks : (calls old new : List Asked) → Type 0
Breaks calls old new = (later done : List Asked) × (calls ≡ later ++ done) × (new ≡ fails ∷ done ++ old)

-- The last of them failed.
pub at_last : (calls old new : List Asked) → new ≡ fails ∷ calls ++ old → Breaks calls old new
at_last calls old new is = ([], calls, refl, is)

-- One of the first failed.
pub at_first : (one two old new : List Asked) → Breaks one old new → Breaks (two ++ one) old new
at_first one two old new breaks = (two ++ breaks.0, breaks.1, ap (λ (l : List Asked). two ++ l) breaks.2 ∙ sym (append_assoc two breaks.0 breaks.1), breaks.3)

-- One of the later ones failed.
pub at_later : (one two old middle new : List Asked) → middle ≡ one ++ old → Breaks two middle new → Breaks (two ++ one) old new
at_later one two old middle new first breaks = (
  breaks.0,
  breaks.1 ++ one,
  ap (λ (l : List Asked). l ++ one) breaks.2 ∙ append_assoc breaks.0 breaks.1 one,
  breaks.3 ∙ ap (λ (l : List Asked). fails ∷ l) (ap (λ (l : List Asked). breaks.1 ++ l) first ∙ sym (append_assoc breaks.1 one old)),
)

-- The call behind these failed.
pub fails_after : (one two old middle new : List Asked) → middle ≡ one ++ old → new ≡ fails ∷ two ++ middle → new ≡ fails ∷ (two ++ one) ++ old
fails_after one two old middle new first second =
    second ∙ ap (λ (l : List Asked). fails ∷ l) (ap (λ (l : List Asked). two ++ l) first ∙ sym (append_assoc two one old))

-- The last call, whether it succeeds or not,
pub asks_on : {T E : Type 0} (result : Result T E) (one two old middle new : List Asked) → middle ≡ one ++ old → Asks result two middle new → Asks result (two ++ one) old new
asks_on (Ok value) one two old middle new first second = and_then one two old middle new first second
asks_on (Err error) one two old middle new first second = fails_after one two old middle new first second

-- by itself, and after others.
pub in_turn : {T E : Type 0} (result : Result T E) (calls old new : List Asked) → Asks result calls old new → AsksInTurn result calls old new
in_turn (Ok value) calls old new is = is
in_turn (Err error) calls old new is = at_last calls old new is

pub in_turn_on : {T E : Type 0} (result : Result T E) (one two old middle new : List Asked) → middle ≡ one ++ old → AsksInTurn result two middle new → AsksInTurn result (two ++ one) old new
in_turn_on (Ok value) one two old middle new first second = and_then one two old middle new first second
in_turn_on (Err error) one two old middle new first second = at_later one two old middle new first second

-- Two properties of a call's success.
pub both_ok : {T E : Type 0} (P Q : Type 0) (result : Result T E) → OnOk result P → OnOk result Q → OnOk result (P × Q)
both_ok P Q (Ok value) one other = (one, other)
both_ok P Q (Err error) one other = tt

-- A result that hands on an error is about the call that failed.
pub failed_with : {T E : Type 0} (P : E → Type 0) (result : Result T E) (call old new : List Asked) → IsErrAnd result P → new ≡ fails ∷ call ++ old → Asks result call old new
failed_with P (Ok value) call old new bad is = absurd bad
failed_with P (Err error) call old new told is = is

pub breaks_with : {T E : Type 0} (P : E → Type 0) (result : Result T E) (calls old new : List Asked) → IsErrAnd result P → Breaks calls old new → AsksInTurn result calls old new
breaks_with P (Ok value) calls old new bad is = absurd bad
breaks_with P (Err error) calls old new told is = is
