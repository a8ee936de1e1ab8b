-- How the clients of a house begin.
-- Source: this project's own.
use Rattle.std.specs.Prelude.{◌≡◌, ℕ, false, List, [], ◌∷◌, All, map}
use Rattle.std.specs.List.{range_with_len}
use Rattle.hpb_board.specs.Publication.{Publishing, Viewing, auction_of}
use Rattle.hpb_house.specs.declared.keeper.Halt.{Halt}
use Rattle.hpb_rings.specs.declared.client.Client.{Client}
use Rattle.hpb_rings.specs.declared.ring.Ring.{Ring}
use Rattle.rtrb.specs.Ring.{IsPair}

-- **How clients begin.** There is one for each seat from 0 on. Each has entered all that the house's own viewer has. It
-- has nothing outstanding or taken, knows of no more commands than the opened ones, and has got no halt. It posts into
-- the ring that the committer empties for its seat, and gets that ring's halt.
--
-- A viewer has entered all published batches.
abbrev pub IsViewOf : Publishing → Viewing → Type 0
IsViewOf board v = (v.book ≡ board.book) × (v.opened ≡ board.opened) × (v.seats ≡ board.seats) × (v.list ≡ board.list)

-- A viewer began as another did.
abbrev pub BeganAs : Viewing → Viewing → Type 0
BeganAs eye v = (v.book ≡ eye.book) × (v.opened ≡ eye.opened) × (v.seats ≡ eye.seats) × (v.list ≡ eye.list)

-- A client before its first letter. Its viewer began as this one, nothing is outstanding or taken, it has seen the
-- opened auction alone, and no halt came.
pub record IsBegun (eye : Viewing) (client : Client Halt) : Type 0 where
  pub viewer : BeganAs eye client.viewer
  pub waiting : client.waiting.items ≡ []
  pub taken : client.taken ≡ 0
  pub mark : client.mark ≡ (auction_of eye).count
  pub halted : client.is_halted ≡ false

-- There is a client for each seat from 0 on, before its first letter.
pub record AreBegun (eye : Viewing) (clients : List (Client Halt)) (count : ℕ) : Type 0 where
  pub numbered : map (λ (client : Client Halt). client.seat) clients ≡ range_with_len 0 count
  pub begun : All (IsBegun eye) clients

-- A client posts its letters into this ring, and gets its halt out of it.
abbrev pub HasRing : Client Halt → Ring Halt → Type 0
HasRing client ring = IsPair client.letters ring.letters × IsPair ring.halts client.halts

-- Each of these has its counterpart at the same place, and there are as many.
abbrev pub AreOneByOne : {A B : Type 0} (has : A → B → Type 0) → List A → List B → Type 0
AreOneByOne has [] [] = Unit {0}
AreOneByOne has [] (y ∷ ys) = ⊥
AreOneByOne has (x ∷ xs) [] = ⊥
AreOneByOne has (x ∷ xs) (y ∷ ys) = has x y × AreOneByOne has xs ys

-- Each client has the ring of its place.
abbrev pub HaveRings : List (Client Halt) → List (Ring Halt) → Type 0
HaveRings clients rings = AreOneByOne HasRing clients rings
