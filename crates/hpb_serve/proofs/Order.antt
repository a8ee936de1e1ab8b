-- The answers to a seat follow one another: each was judged after all commands of those before it.
use Rattle.std.proofs.Common.{◌≡◌, ℕ, zero, suc, ◌+◌, ◌<◌, ◌≤◌, ◌==◌, Bool, true, false, cond, List, [], ◌∷◌, slice_get, Some, refl, subst, arith}
use Rattle.std.specs.Prelude.{if◌then◌else◌, filter, ⊤}
use Rattle.hpb_rules.specs.declared.command.Command.{Command}
use Rattle.hpb_rules.specs.declared.command.Command.TheVariants.{Bid, Close, Stage, Waive}
use Rattle.hpb_rules.specs.declared.letter.Answer.{Answer}
use Rattle.hpb_rules.specs.declared.letter.Letter.{Letter}
use Rattle.hpb_rules.specs.Answer.{is_reply_new}
use Rattle.hpb_rules.specs.AuctionValue.{AuctionValue}
use Rattle.hpb_rules.specs.Letters.{is_answer_new}
use Rattle.hpb_rules.specs.Values.{changed, next_value, reply_in}
use Rattle.hpb_rules.proofs.Lists.{get_front}
use Rattle.hpb_rules.specs.Judging.{answer_in, judged_in}
use Rattle.hpb_board.specs.Publication.{Viewing, answers_of}
use Rattle.hpb_rules.specs.Fronts.{joined}
use Rattle.hpb_rings.proofs.Later.{answers-later}
use Rattle.hpb_serve.specs.Sessions.{Follows, count_after}

-- a newly accepted command is counted, and no other
next_counted : (value : AuctionValue) (letter : Letter) → (next_value value letter.command).count ≡ count_after (answer_in value letter)
next_counted value letter = by (is_reply_new value.count (reply_in value letter.command)) letter.command
  where
    by : (b : Bool) (command : Command) → (if b then changed value command else value).count ≡ (if b then suc value.count else value.count)
    by true (Bid from ticket on amount) = refl
    by true (Close ticket) = refl
    by true (Stage ticket) = refl
    by true (Waive from ticket) = refl
    by false command = refl

-- an answer counts no fewer commands than were accepted before it
pub count_later : (given : Answer) → given.at ≤ count_after given
count_later given = by (is_answer_new given)
  where
    by : (b : Bool) → given.at ≤ (if b then suc given.at else given.at)
    by true = omega arith
    by false = omega arith

-- each of these answers was given after at least this many commands
abbrev AreAfter : ℕ → List Answer → Type 0
AreAfter count [] = ⊤
AreAfter count (given ∷ answers) = (count ≤ given.at) × AreAfter count answers

-- each was given after all commands of those before it
abbrev FollowOneAnother : List Answer → Type 0
FollowOneAnother [] = ⊤
FollowOneAnother (given ∷ answers) = AreAfter (count_after given) answers × FollowOneAnother answers

-- a value answers letters after all that it counts
judged_after : (count : ℕ) (value : AuctionValue) (letters : List Letter) → count ≤ value.count → AreAfter count (judged_in value letters)
judged_after count value [] most = tt
judged_after count value (letter ∷ letters) most = (
  most,
  judged_after count (next_value value letter.command) letters (omega (arith, most, next_counted value letter, count_later (answer_in value letter))),
)

judged_follow : (value : AuctionValue) (letters : List Letter) → FollowOneAnother (judged_in value letters)
judged_follow value [] = tt
judged_follow value (letter ∷ letters) = (
  judged_after (count_after (answer_in value letter)) (next_value value letter.command) letters (omega (arith, next_counted value letter)),
  judged_follow (next_value value letter.command) letters,
)

-- some of them, in their order
some_after : (test : Answer → Bool) (count : ℕ) (answers : List Answer) → AreAfter count answers → AreAfter count (filter test answers)
some_after test count [] after = tt
some_after test count (given ∷ answers) after = by (test given) (some_after test count answers after.1)
  where
    by : (b : Bool) → AreAfter count (filter test answers) → AreAfter count (cond b (given ∷ filter test answers) (filter test answers))
    by true others = (after.0, others)
    by false others = others

some_follow : (test : Answer → Bool) (answers : List Answer) → FollowOneAnother answers → FollowOneAnother (filter test answers)
some_follow test [] follow = tt
some_follow test (given ∷ answers) follow = by (test given) (some_follow test answers follow.1)
  where
    by : (b : Bool) → FollowOneAnother (filter test answers) → FollowOneAnother (cond b (given ∷ filter test answers) (filter test answers))
    by true others = (some_after test (count_after given) answers follow.0, others)
    by false others = others

get_after : (count : ℕ) (answers : List Answer) (place : ℕ) (given : Answer) → AreAfter count answers → slice_get answers place ≡ Some given → count ≤ given.at
get_after count [] place given after at = absurd (cc)
get_after count (first ∷ answers) zero given after at = let same : first ≡ given = cc in subst (λ (a : Answer). count ≤ a.at) same after.0
get_after count (first ∷ answers) (suc place) given after at = get_after count answers place given after.1 at

get_follow : (answers : List Answer) (i j : ℕ) (first later : Answer) → FollowOneAnother answers → i < j → slice_get answers i ≡ Some first → slice_get answers j ≡ Some later
    → count_after first ≤ later.at
get_follow [] i j first later follow less at behind = absurd (cc)
get_follow (given ∷ answers) zero zero first later follow less at behind = absurd (omega (arith, less))
get_follow (given ∷ answers) zero (suc j) first later follow less at behind =
    let same : given ≡ first = cc in get_after (count_after first) answers j later (subst (λ (a : Answer). AreAfter (count_after a) answers) same follow.0) behind
get_follow (given ∷ answers) (suc i) zero first later follow less at behind = absurd (omega (arith, less))
get_follow (given ∷ answers) (suc i) (suc j) first later follow less at behind = get_follow answers i j first later follow.1 (omega (arith, less)) at behind

-- of a seat's answers, the later one was given after all commands of the earlier one
pub given_later : (seat : ℕ) (v : Viewing) (i j : ℕ) (first later : Answer) → i < j → slice_get (answers_of seat v) i ≡ Some first → slice_get (answers_of seat v) j ≡ Some later
    → count_after first ≤ later.at
given_later seat v i j first later less at behind =
    get_follow (answers_of seat v) i j first later
    (some_follow (λ (a : Answer). a.letter.seat == seat) (judged_in v.opened (joined v.list)) (judged_follow v.opened (joined v.list))) less at behind

-- and so it is if it came in a later view
pub next_later : (seat taken : ℕ) (v w : Viewing) (first later : Answer) → Follows v w → slice_get (answers_of seat v) taken ≡ Some first → slice_get (answers_of seat w) (taken + 1) ≡ Some later
    → count_after first ≤ later.at
next_later seat taken v w first later follows at behind =
    let more = answers-later v w follows.1 follows.3 seat in
    given_later seat w taken (taken + 1) first later (omega arith)
    (subst (λ (answers : List Answer). slice_get answers taken ≡ Some first) more.1 (get_front (answers_of seat v) more.0 taken first at)) behind
