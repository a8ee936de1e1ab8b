-- The history that a viewer shows, and the answers that fit it.
use Rattle.std.proofs.Common.{[], ◌≡◌, ℕ, zero, suc, ◌≤◌, ◌+◌, Bool, true, false, cond, List, ◌∷◌, ◌++◌, length, reverse, map, take, slice_get, Some, None, refl, sym, ap, subst, ◌∙◌, arith, append_assoc}
use Rattle.std.specs.Prelude.{if◌then◌else◌, filter, nat_lt, ◌==◌, All}
use Rattle.std.proofs.lemmas.List.{length-append, length-reverse}
use Rattle.std.proofs.lemmas.List.Elements.{All-filter, All-nil}
use Rattle.hpb_rules.specs.declared.command.Command.{Command}
use Rattle.hpb_rules.specs.declared.letter.Answer.{Answer}
use Rattle.hpb_rules.specs.declared.letter.Letter.{Letter}
use Rattle.hpb_rules.specs.declared.reply.Reply.{Reply}
use Rattle.hpb_rules.specs.Answer.{answer, history_after, is_reply_new}
use Rattle.hpb_rules.specs.AuctionValue.{AuctionValue, Shows, ShowsPast}
use Rattle.hpb_rules.specs.Fronts.{IsFront, joined}
use Rattle.hpb_rules.specs.Letters.{Fits, is_answer_new, new_commands}
use Rattle.hpb_rules.specs.Tree.{Rules}
use Rattle.hpb_rules.specs.Values.{next_value, reply_in}
use Rattle.hpb_rules.proofs.Lists.{all_cons, append_nil, get_seam, take_seam}
use Rattle.hpb_rules.proofs.RunLaws.{next_is_shown, reply_is_answer, reverse_history_after, history_after_appends}
use Rattle.hpb_rules.specs.Judging.{answer_in, judged_in, value_by}
use Rattle.hpb_rules.proofs.Judged.{joined_append, judged_join, new_join, next_rules, shown_count}
use Rattle.hpb_board.specs.Publication.{Viewing, answers_of, auction_of, recent}
use Rattle.hpb_serve.specs.Sessions.{Follows, IsToldBy, count_after, seen_by}

-- ---- lists
-- a fact about all of a list holds of each element
all_get : {A : Type 0} (P : A → Type 0) (xs : List A) (i : ℕ) (x : A) → All P xs → slice_get xs i ≡ Some x → P x
all_get P [] i x all at = absurd (cc)
all_get P (y ∷ ys) zero x all at = let same : y ≡ x = cc in subst P same (all zero y (omega arith))
all_get P (y ∷ ys) (suc i) x all at = all_get P ys i x (λ k d h. all (suc k) d (omega (arith, h))) at

-- fewer of a front come before more of the whole
pub fronts_of : {A : Type 0} (n m : ℕ) (xs ys : List A) → n ≤ m → IsFront xs ys → IsFront (take n xs) (take m ys)
fronts_of zero m xs ys le front = (take m ys, refl)
fronts_of (suc n) m [] ys le front = (take m ys, refl)
fronts_of (suc n) zero (x ∷ xs) ys le front = absurd (omega (arith, le))
fronts_of (suc n) (suc m) (x ∷ xs) [] le front = absurd (cc (front.1))
fronts_of (suc n) (suc m) (x ∷ xs) (y ∷ ys) le front =
    let same : y ≡ x = cc (front.1) in
    let rest = fronts_of n m xs ys (omega (arith, le)) (front.0, cc (front.1)) in
    (rest.0, cc (same, rest.1))

take_one : {A : Type 0} (n : ℕ) (xs : List A) (x : A) → slice_get xs n ≡ Some x → take (suc n) xs ≡ take n xs ++ x ∷ []
take_one n [] x at = absurd cc
take_one zero (y ∷ ys) x at = let same : y ≡ x = cc in ap (λ z. z ∷ []) same
take_one (suc n) (y ∷ ys) x at = ap (λ zs. y ∷ zs) (take_one n ys x at)

length_within : {A : Type 0} (n : ℕ) (xs : List A) → n ≤ length xs → length (take n xs) ≡ n
length_within zero xs le = refl
length_within (suc n) [] le = absurd (omega (arith, le))
length_within (suc n) (x ∷ xs) le = ap suc (length_within n xs (omega (arith, le)))

-- ---- letters that a value judges after the history that it shows
module _ (value : AuctionValue) (history : List Command) (shows : Shows value history) (letter : Letter) where
  counted : value.count ≡ length history
  counted = shown_count value history shows

  replied : reply_in value letter.command ≡ answer value.rules history letter.command
  replied = reply_is_answer value (reverse history) letter.command shows

  abbrev next_history : List Command
  next_history = history_after value.rules history letter.command

  next_shows : Shows (next_value value letter.command) next_history
  next_shows =
      subst (ShowsPast (next_value value letter.command)) (sym (reverse_history_after value.rules history letter.command)) (next_is_shown value (reverse history) letter.command shows)

  is_new_there : is_answer_new (answer_in value letter) ≡ is_reply_new (length history) (answer value.rules history letter.command)
  is_new_there = ap (λ n. is_reply_new n (reply_in value letter.command)) counted ∙ ap (is_reply_new (length history)) replied

  -- the commands that the letter's answer accepts, and then those that more accept
  accepted_first : (rest : List Answer) → history ++ new_commands (answer_in value letter ∷ rest) ≡ next_history ++ new_commands rest
  accepted_first rest =
      by (is_answer_new (answer_in value letter))
      ∙ ap (λ b. (if b then history ++ letter.command ∷ [] else history) ++ new_commands rest) is_new_there
      ∙ ap (λ h. h ++ new_commands rest) (sym (history_after_appends value.rules history letter.command))
    where
      by : (new : Bool) → history ++ map (λ (a : Answer). a.letter.command) (cond new (answer_in value letter ∷ filter is_answer_new rest) (filter is_answer_new rest))
          ≡ (if new then history ++ letter.command ∷ [] else history) ++ new_commands rest
      by true = sym (append_assoc history (letter.command ∷ []) (new_commands rest))
      by false = refl

  first_fits : (rest : List Answer) → Fits value.rules (history ++ new_commands (answer_in value letter ∷ rest)) (answer_in value letter)
  first_fits rest =
      let seen : List Command = history ++ new_commands (answer_in value letter ∷ rest) in
      let before : take value.count seen ≡ history = ap (λ n. take n seen) counted ∙ take_seam history (new_commands (answer_in value letter ∷ rest)) in
      record {
        within = omega (arith, counted, length-append history (new_commands (answer_in value letter ∷ rest)));
        reply = replied ∙ ap (λ h. answer value.rules h letter.command) (sym before);
        stands = λ new. ap (λ n. slice_get seen n) counted
            ∙ ap (λ b. slice_get (history ++ map (λ (a : Answer). a.letter.command) (cond b (answer_in value letter ∷ filter is_answer_new rest) (filter is_answer_new rest))) (length history)) new
            ∙ get_seam history (new_commands rest) letter.command;
      }

-- letters lead to a value that shows the longer history, and their answers fit it
pub judged_shown : (letters : List Letter) (value : AuctionValue) (history : List Command) → Shows value history → Shows (value_by value letters) (history ++ new_commands (judged_in value letters))
judged_shown [] value history shows = subst (Shows value) (append_nil history) shows
judged_shown (letter ∷ letters) value history shows =
    let next : AuctionValue = next_value value letter.command in
    subst (Shows (value_by next letters)) (sym (accepted_first value history shows letter (judged_in next letters)))
    (judged_shown letters next (next_history value history shows letter) (next_shows value history shows letter))

pub judged_fit : (letters : List Letter) (value : AuctionValue) (history : List Command) → Shows value history
    → All (Fits value.rules (history ++ new_commands (judged_in value letters))) (judged_in value letters)
judged_fit [] value history shows = All-nil (Fits value.rules (history ++ []))
judged_fit (letter ∷ letters) value history shows =
    let next : AuctionValue = next_value value letter.command in
    let rest : List Answer = judged_in next letters in
    let longer : List Command = next_history value history shows letter in
    let all : All (Fits next.rules (longer ++ new_commands rest)) rest = judged_fit letters next longer (next_shows value history shows letter) in
    all_cons (Fits value.rules (history ++ new_commands (answer_in value letter ∷ rest))) (answer_in value letter) rest
    (first_fits value history shows letter rest)
    (subst (λ seen. All (Fits value.rules seen) rest) (sym (accepted_first value history shows letter rest))
    (subst (λ rules. All (Fits rules (longer ++ new_commands rest)) rest) (next_rules value letter.command) all))

-- ---- the history that a viewer shows
-- a list of batches that goes on from another
grows : (opened : List Command) (value : AuctionValue) (list rest : List (List Letter))
    → IsFront (opened ++ new_commands (judged_in value (joined list))) (opened ++ new_commands (judged_in value (joined (list ++ rest))))
grows opened value list rest =
    let before : List Answer = judged_in value (joined list) in
    let more : List Answer = judged_in (value_by value (joined list)) (joined rest) in (
      new_commands more,
      ap (λ (letters : List Letter). opened ++ new_commands (judged_in value letters)) (joined_append list rest)
          ∙ ap (λ (answers : List Answer). opened ++ new_commands answers) (judged_join value (joined list) (joined rest))
          ∙ ap (λ (commands : List Command). opened ++ commands) (new_join before more)
          ∙ sym (append_assoc opened (new_commands before) (new_commands more)),
    )

-- a viewer that follows shows a history that goes on
pub seen_front : (opened : List Command) (v w : Viewing) → Follows v w → IsFront (seen_by opened v) (seen_by opened w)
seen_front opened v w follows =
    subst (λ (value : AuctionValue). IsFront (seen_by opened v) (opened ++ new_commands (judged_in value (joined w.list)))) (sym follows.1)
    (subst (λ (list : List (List Letter)). IsFront (seen_by opened v) (opened ++ new_commands (judged_in v.opened (joined list)))) follows.3.1
    (grows opened v.opened v.list follows.3.0))

-- it shows the history
pub seen_shown : (opened : List Command) (v : Viewing) → Shows v.opened opened → Shows (auction_of v) (seen_by opened v)
seen_shown opened v shows = judged_shown (joined v.list) v.opened opened shows

-- and counts as many commands
pub seen_counted : (opened : List Command) (v : Viewing) → Shows v.opened opened → (auction_of v).count ≡ length (seen_by opened v)
seen_counted opened v shows = ap (λ (value : AuctionValue). value.count) (seen_shown opened v shows).1 ∙ length-reverse (seen_by opened v)

-- ---- answers
recent_at : (answers : List Answer) (number : ℕ) (given : Answer) → recent answers number ≡ Some given → (place : ℕ) × (slice_get answers place ≡ Some given)
recent_at answers zero given at = absurd (cc)
recent_at answers (suc place) given at = (place, by (nat_lt (length answers) (place + 17)) at)
  where
    by : (b : Bool) → (if b then slice_get answers place else None) ≡ Some given → slice_get answers place ≡ Some given
    by true h = h
    by false h = absurd (cc)

-- an answer that a viewer has fits the history that it shows
pub told_fits : (opened : List Command) (v : Viewing) (seat : ℕ) (given : Answer) → Shows v.opened opened → IsToldBy (answers_of seat v) given → Fits v.opened.rules (seen_by opened v) given
told_fits opened v seat given shows told =
    let fit : Answer → Type 0 = Fits v.opened.rules (seen_by opened v) in
    let all : All fit (judged_in v.opened (joined v.list)) = judged_fit (joined v.list) v.opened opened shows in
    let at = recent_at (answers_of seat v) told.0 given told.1 in
    all_get fit (answers_of seat v) at.0 given (All-filter (λ (a : Answer). a.letter.seat == seat) fit (judged_in v.opened (joined v.list)) all) at.1

-- if an answer fits, its own command leads to as many as it counts
pub fits_after : (rules : Rules) (seen : List Command) (given : Answer) → Fits rules seen given → history_after rules (take given.at seen) given.letter.command ≡ take (count_after given) seen
fits_after rules seen given fits =
    let front : List Command = take given.at seen in
    let command : Command = given.letter.command in
    history_after_appends rules front command
    ∙ ap (λ n. if is_reply_new n (answer rules front command) then front ++ command ∷ [] else front) (length_within given.at seen fits.within)
    ∙ ap (λ (reply : Reply). if is_reply_new given.at reply then front ++ command ∷ [] else front) (sym fits.reply)
    ∙ by (is_answer_new given) refl
  where
    by : (b : Bool) → is_answer_new given ≡ b → (if b then take given.at seen ++ given.letter.command ∷ [] else take given.at seen) ≡ take (if b then suc given.at else given.at) seen
    by true new = sym (take_one given.at seen given.letter.command (fits.stands new))
    by false old = refl
