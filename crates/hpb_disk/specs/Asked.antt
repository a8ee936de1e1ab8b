-- The writes and syncs that a device was asked for, the newest first. A read that succeeds leaves no entry, as it
-- changes nothing.
use Rattle.std.specs.Prelude.{◌≡◌, ℕ, ◌==◌, List, [], ◌∷◌, ◌++◌, Result, Ok, Err, MatchResult, if◌then◌else◌}
use Rattle.hpb_disk.specs.Events.{Event}

-- A write of these bytes at an offset, or a sync, whether it was done or not. Before a call that failed, a read too,
-- stands a note of the failure.
pub data Asked : Type 0 where
  writes : ℕ → List ℕ → Asked
  syncs : Asked
  fails : Asked

-- The device was asked for this call, or for a read if the list is empty.
abbrev pub Asks : {T E : Type 0} → Result T E → (call old new : List Asked) → Type 0
Asks result call old new = MatchResult result (λ _. new ≡ call ++ old) (λ _. new ≡ fails ∷ call ++ old)

-- The device was asked for these writes and syncs in turn, with any reads between. If none failed, they are all of
-- them; otherwise they end with the one that failed, and none comes after it.
abbrev pub AsksInTurn : {T E : Type 0} → Result T E → (calls old new : List Asked) → Type 0
AsksInTurn (Ok _) calls old new = new ≡ calls ++ old
AsksInTurn (Err _) calls old new = (later done : List Asked) × (calls ≡ later ++ done) × (new ≡ fails ∷ done ++ old)

-- The writes and syncs of an entry of a trace.
abbrev pub asked_by : Event → List Asked
asked_by event =
    if event.0 == 0 then []
    else if event.0 == 1 then writes event.1 event.2 ∷ []
    else if event.0 == 2 then syncs ∷ []
    else if event.0 == 3 then fails ∷ writes event.1 event.2 ∷ []
    else if event.0 == 4 then fails ∷ []
    else if event.0 == 5 then fails ∷ writes event.1 event.2 ∷ []
    else fails ∷ syncs ∷ []

-- The writes and syncs of a trace.
abbrev pub asked_of : List Event → List Asked
asked_of [] = []
asked_of (event ∷ events) = asked_by event ++ asked_of events
