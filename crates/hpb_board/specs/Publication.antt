-- Publication: batches of letters, the auction and the answers that they lead to, and the terms for a publisher and a
-- viewer in contracts. Source: this project's own.
use Rattle.std.specs.Prelude.{◌<◌, ◌^◌, ◌+◌, ◌==◌, nat_lt, if◌then◌else◌, ℕ, zero, suc, List, [], ◌∷◌, ◌++◌, fold, filter, All, Option, None, slice_get, length}
use Rattle.hpb_rules.specs.declared.letter.Answer.{Answer}
use Rattle.hpb_rules.specs.declared.letter.Letter.{Letter}
use Rattle.hpb_rules.specs.AuctionValue.{AuctionValue}
use Rattle.hpb_rules.specs.Values.{next_value}
use Rattle.hpb_rules.specs.Judging.{judged_in, value_by}
use Rattle.hpb_rules.specs.Fronts.{joined}
use Rattle.logbook.specs.Pages.{Book}

-- **Lists.** A list has the batches of letters that were published since the auction was opened. Each letter is judged
-- by the auction after those before it. So a list leads to one auction, and to the answers of each seat.
--
-- The answers to the letters of one seat, among letters that a value judges one after another.
abbrev pub answers_to : ℕ → AuctionValue → List Letter → List Answer
answers_to seat value letters = filter (λ a. a.letter.seat == seat) (judged_in value letters)

-- **The last 16.** An answer is found by its number among those of its seat, from 1, as long as at most 15 came after
-- it.
--
-- The answer with this number, from 1, if it is among the last 16.
abbrev pub recent : List Answer → ℕ → Option Answer
recent answers zero = None
recent answers (suc i) = if nat_lt (length answers) (i + 17) then slice_get answers i else None

-- **Room.** A seat's answers are counted in 64 bits. Letters have room if no seat's number would pass the greatest. A
-- published list has room for every number, whether it is a seat's or not. Letters are seated if each one's seat is
-- below the number of seats.
--
-- How many letters of a seat there are.
abbrev pub tally : ℕ → List Letter → ℕ
tally seat letters = length (filter (λ l. l.seat == seat) letters)

-- No seat's number of answers would pass the greatest that can be counted.
abbrev pub HasRoom : ℕ → List (List Letter) → List Letter → Type 0
HasRoom seats batches letters = (seat : ℕ) → seat < seats → tally seat (joined batches ++ letters) < 2 ^ 64

-- Each number, whether it is a seat's or not, has no more letters than can be counted.
abbrev pub IsRoomy : List (List Letter) → Type 0
IsRoomy batches = (seat : ℕ) → tally seat (joined batches) < 2 ^ 64

-- Each letter's seat is below the number of seats.
abbrev pub AreSeated : ℕ → List Letter → Type 0
AreSeated seats letters = All (λ (l : Letter). l.seat < seats) letters

-- **Publishing, viewing.** The state of a publisher and of a viewer, as contracts see it. A book identifies the
-- publisher's list: the lists of viewers of one book begin one list. The auction that was opened is kept as its value.
--
-- A publisher in contracts: the book of its trail, the auction at the opening, how many seats there are, the published
-- batches, and the prepared ones.
pub record Publishing : Type 0 where
  pub book : Book
  pub opened : AuctionValue
  pub seats : ℕ
  pub list : List (List Letter)
  pub pending : List (List Letter)

-- A viewer in contracts: the book of the trail that it follows, the auction at the opening, the seats, and the batches
-- that it has entered.
pub record Viewing : Type 0 where
  pub book : Book
  pub opened : AuctionValue
  pub seats : ℕ
  pub list : List (List Letter)

-- The auction that is published.
abbrev pub published : Publishing → AuctionValue
published p = value_by p.opened (joined p.list)

-- The auction that a viewer has.
abbrev pub auction_of : Viewing → AuctionValue
auction_of v = value_by v.opened (joined v.list)

-- The answers to the letters of one seat that a viewer has entered.
abbrev pub answers_of : ℕ → Viewing → List Answer
answers_of seat v = answers_to seat v.opened (joined v.list)
