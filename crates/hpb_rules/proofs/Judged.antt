-- Letters that a value judges one after another: steps that other crates' proofs cite too.
use Rattle.std.proofs.Common.{◌≡◌, ℕ, suc, ◌+◌, ◌≤◌, Bool, true, false, cond, List, [], ◌∷◌, ◌++◌, map, reverse, length, refl, sym, ap, ◌∙◌, arith, subst, append_assoc}
use Rattle.std.specs.Prelude.{if◌then◌else◌, filter}
use Rattle.std.proofs.lemmas.List.{length-reverse, map-append}
use Rattle.std.proofs.lemmas.List.Elements.{filter-append}
use Rattle.hpb_rules.specs.declared.command.Command.{Command}
use Rattle.hpb_rules.specs.declared.command.Command.TheVariants.{Bid, Close, Stage, Waive}
use Rattle.hpb_rules.specs.declared.letter.Answer.{Answer}
use Rattle.hpb_rules.specs.declared.letter.Letter.{Letter}
use Rattle.hpb_rules.specs.declared.reply.Reply.{Reply}
use Rattle.hpb_rules.specs.Tree.{Rules}
use Rattle.hpb_rules.specs.AcceptedRuns.{AllAccepted}
use Rattle.hpb_rules.specs.Answer.{answer, is_reply_new, history_after}
use Rattle.hpb_rules.specs.AuctionValue.{AuctionValue, Shows, ShowsPast}
use Rattle.hpb_rules.specs.Fronts.{joined}
use Rattle.hpb_rules.specs.Judging.{answer_in, judged_in, value_by}
use Rattle.hpb_rules.specs.LetterLaws.{JudgedIsShown}
use Rattle.hpb_rules.specs.Letters.{judged, is_answer_new, new_commands}
use Rattle.hpb_rules.specs.Values.{reply_in, changed, next_value, value_after}
use Rattle.hpb_rules.proofs.AcceptedRuns.{changed_rules}
use Rattle.hpb_rules.proofs.Letters.{reverse_history_after}
use Rattle.hpb_rules.proofs.Readings.{reply_is_answer}
use Rattle.hpb_rules.proofs.Runs.{next_is_shown}

-- ---- one letter
module _ (value : AuctionValue) (command : Command) where
  abbrev pub is_new : Bool
  is_new = is_reply_new value.count (reply_in value command)

  pub next_rules : (next_value value command).rules ≡ value.rules
  next_rules = by is_new
    where
      by : (b : Bool) → (if b then changed value command else value).rules ≡ value.rules
      by true = changed_rules value command
      by false = refl

  pub next_old : is_new ≡ false → next_value value command ≡ value
  next_old old = ap (λ b. if b then changed value command else value) old

-- its command, if it is newly accepted, and then those of the other answers
pub new_first : (value : AuctionValue) (letter : Letter) (rest : List Answer) (b : Bool) → is_new value letter.command ≡ b
    → new_commands (answer_in value letter ∷ rest) ≡ (if b then letter.command ∷ new_commands rest else new_commands rest)
new_first value letter rest b is =
    ap (λ new. map (λ (a : Answer). a.letter.command) (cond new (answer_in value letter ∷ filter is_answer_new rest) (filter is_answer_new rest))) is ∙ by b
  where
    by : (b : Bool) → map (λ (a : Answer). a.letter.command) (cond b (answer_in value letter ∷ filter is_answer_new rest) (filter is_answer_new rest))
        ≡ (if b then letter.command ∷ new_commands rest else new_commands rest)
    by true = refl
    by false = refl

-- ---- the same by histories
pub judged_is_shown : JudgedIsShown
judged_is_shown value history [] shows = refl
judged_is_shown value history (letter ∷ letters) shows =
    let command = letter.command in
    let count : value.count ≡ length history = ap (λ (v : AuctionValue). v.count) shows.1 ∙ length-reverse history in
    let reply : reply_in value command ≡ answer value.rules history command = reply_is_answer value (reverse history) command shows in
    let next : Shows (next_value value command) (history_after value.rules history command)
    = subst (ShowsPast (next_value value command)) (sym (reverse_history_after value.rules history command)) (next_is_shown value (reverse history) command shows) in
    let rest : judged_in (next_value value command) letters ≡ judged value.rules (history_after value.rules history command) letters
    = judged_is_shown (next_value value command) (history_after value.rules history command) letters next
    ∙ ap (λ (rules : Rules). judged rules (history_after value.rules history command) letters) (next_rules value command) in
    both count reply rest
  where
    both : {at at' : ℕ} {reply reply' : Reply} {rest rest' : List Answer} → at ≡ at' → reply ≡ reply' → rest ≡ rest'
        → ◌≡◌ {A = List Answer} (record { letter = letter; at = at; reply = reply } ∷ rest) (record { letter = letter; at = at'; reply = reply' } ∷ rest')
    both a r s = cc

-- ---- letters, and then more
pub value_join : (value : AuctionValue) (letters more : List Letter) → value_by value (letters ++ more) ≡ value_by (value_by value letters) more
value_join value [] more = refl
value_join value (letter ∷ letters) more = value_join (next_value value letter.command) letters more

pub judged_join : (value : AuctionValue) (letters more : List Letter) → judged_in value (letters ++ more) ≡ judged_in value letters ++ judged_in (value_by value letters) more
judged_join value [] more = refl
judged_join value (letter ∷ letters) more = ap (λ (rest : List Answer). answer_in value letter ∷ rest) (judged_join (next_value value letter.command) letters more)

pub joined_append : {A : Type 0} (lists more : List (List A)) → joined (lists ++ more) ≡ joined lists ++ joined more
joined_append [] more = refl
joined_append {A = A} (list ∷ lists) more = ap (λ (rest : List A). list ++ rest) (joined_append lists more) ∙ sym (append_assoc list (joined lists) (joined more))

pub new_join : (answers more : List Answer) → new_commands (answers ++ more) ≡ new_commands answers ++ new_commands more
new_join answers more =
    ap (map (λ (a : Answer). a.letter.command)) (filter-append is_answer_new answers more)
    ∙ map-append (λ (a : Answer). a.letter.command) (filter is_answer_new answers) (filter is_answer_new more)

-- ---- how many there are
pub judged_counted : (value : AuctionValue) (letters : List Letter) → length (judged_in value letters) ≡ length letters
judged_counted value [] = refl
judged_counted value (letter ∷ letters) = ap suc (judged_counted (next_value value letter.command) letters)

pub fewer_new : (answers : List Answer) → length (new_commands answers) ≤ length answers
fewer_new [] = omega arith
fewer_new (first ∷ answers) = by (is_answer_new first) (fewer_new answers)
  where
    by : (b : Bool) → length (new_commands answers) ≤ length answers
        → length (map (λ (a : Answer). a.letter.command) (cond b (first ∷ filter is_answer_new answers) (filter is_answer_new answers))) ≤ suc (length answers)
    by true fewer = omega (arith, fewer)
    by false fewer = omega (arith, fewer)

-- a letter that is newly accepted is counted
next_counted : (value : AuctionValue) (letter : Letter) (rest : List Answer)
    → (next_value value letter.command).count + length (new_commands rest) ≡ value.count + length (new_commands (answer_in value letter ∷ rest))
next_counted value letter rest = by (is_new value letter.command) letter.command
  where
    by : (b : Bool) (command : Command) → (if b then changed value command else value).count + length (new_commands rest)
        ≡ value.count + length (map (λ (a : Answer). a.letter.command) (cond b (answer_in value letter ∷ filter is_answer_new rest) (filter is_answer_new rest)))
    by true (Bid from ticket on amount) = omega arith
    by true (Close ticket) = omega arith
    by true (Stage ticket) = omega arith
    by true (Waive from ticket) = omega arith
    by false command = refl

pub count_by : (value : AuctionValue) (letters : List Letter) → (value_by value letters).count ≡ value.count + length (new_commands (judged_in value letters))
count_by value [] = omega arith
count_by value (letter ∷ letters) =
    let next : AuctionValue = next_value value letter.command in
    count_by next letters ∙ next_counted value letter (judged_in next letters)

pub shown_count : (value : AuctionValue) (history : List Command) → Shows value history → value.count ≡ length history
shown_count value history shows = ap (λ (v : AuctionValue). v.count) shows.1 ∙ length-reverse history

-- ---- the definition stays
pub rules_by : (value : AuctionValue) (letters : List Letter) → (value_by value letters).rules ≡ value.rules
rules_by value [] = refl
rules_by value (letter ∷ letters) = rules_by (next_value value letter.command) letters ∙ next_rules value letter.command

-- ---- the commands that are accepted
pub new_accepted : (value : AuctionValue) (letters : List Letter) → AllAccepted value (new_commands (judged_in value letters))
new_accepted value [] = tt
new_accepted value (letter ∷ letters) =
    by (is_new value letter.command) refl (judged_in (next_value value letter.command) letters) (new_accepted (next_value value letter.command) letters)
  where
    by : (b : Bool) → is_new value letter.command ≡ b → (rest : List Answer) → AllAccepted (next_value value letter.command) (new_commands rest)
        → AllAccepted value (new_commands (answer_in value letter ∷ rest))
    by true new rest more = subst (AllAccepted value) (sym (new_first value letter rest true new)) (new, more)
    by false old rest more =
        subst (AllAccepted value) (sym (new_first value letter rest false old))
        (subst (λ (v : AuctionValue). AllAccepted v (new_commands rest)) (next_old value letter.command old) more)

-- they lead to the same value as all of them
pub new_after : (value : AuctionValue) (letters : List Letter) → value_after value (new_commands (judged_in value letters)) ≡ value_by value letters
new_after value [] = refl
new_after value (letter ∷ letters) =
    by (is_new value letter.command) refl (judged_in (next_value value letter.command) letters) ∙ new_after (next_value value letter.command) letters
  where
    by : (b : Bool) → is_new value letter.command ≡ b → (rest : List Answer)
        → value_after value (new_commands (answer_in value letter ∷ rest)) ≡ value_after (next_value value letter.command) (new_commands rest)
    by true new rest = ap (value_after value) (new_first value letter rest true new)
    by false old rest =
        ap (value_after value) (new_first value letter rest false old)
        ∙ ap (λ (v : AuctionValue). value_after v (new_commands rest)) (sym (next_old value letter.command old))

-- ---- if none is new
pub none_changes : (value : AuctionValue) (letters : List Letter) → new_commands (judged_in value letters) ≡ [] → value_by value letters ≡ value
none_changes value letters none = sym (new_after value letters) ∙ ap (value_after value) none

-- of letters and then more
pub new_then : (value : AuctionValue) (letters more : List Letter) → new_commands (judged_in value letters) ≡ []
    → new_commands (judged_in value (letters ++ more)) ≡ new_commands (judged_in value more)
new_then value letters more none =
    ap new_commands (judged_join value letters more)
    ∙ new_join (judged_in value letters) (judged_in (value_by value letters) more)
    ∙ ap (λ (commands : List Command). commands ++ new_commands (judged_in (value_by value letters) more)) none
    ∙ ap (λ (v : AuctionValue). new_commands (judged_in v more)) (none_changes value letters none)

pub none_more : (value : AuctionValue) (letters : List Letter) (letter : Letter) → new_commands (judged_in value letters) ≡ [] → is_new value letter.command ≡ false
    → new_commands (judged_in value (letters ++ letter ∷ [])) ≡ []
none_more value letters letter none old = new_then value letters (letter ∷ []) none ∙ new_first value letter [] false old

pub one_new : (value : AuctionValue) (letters rest : List Letter) (letter : Letter) → new_commands (judged_in value letters) ≡ [] → is_new value letter.command ≡ true
    → new_commands (judged_in value (letters ++ letter ∷ rest)) ≡ [] → ⊥
one_new value letters rest letter none new all =
    apart (sym (new_first value letter (judged_in (next_value value letter.command) rest) true new) ∙ sym (new_then value letters (letter ∷ rest) none) ∙ all)
  where
    apart : {command : Command} {commands : List Command} → ◌≡◌ {A = List Command} (command ∷ commands) [] → ⊥
    apart e = cc
