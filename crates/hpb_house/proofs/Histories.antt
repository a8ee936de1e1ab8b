-- Histories of viewers that follow one trail.
use Rattle.std.proofs.Common.{◌≡◌, ◌+◌, List, ◌++◌, length, ap, sym, subst, ◌∙◌, arith}
use mathlib.Core.List.{IsPrefix}
use Rattle.hpb_rules.specs.declared.letter.Letter.{Letter}
use Rattle.hpb_rules.specs.declared.command.Command.{Command}
use Rattle.hpb_rules.specs.AcceptedLaws.{RestIsShown}
use Rattle.hpb_rules.specs.AuctionValue.{AuctionValue, Shows}
use Rattle.hpb_rules.specs.Letters.{new_commands}
use Rattle.hpb_rules.specs.Judging.{judged_in, value_by}
use Rattle.hpb_board.specs.Publication.{Viewing, auction_of}
use Rattle.hpb_rules.specs.Fronts.{joined}
use Rattle.hpb_house.specs.Histories.{history_in, history_of}
use Rattle.hpb_rules.proofs.Prefixes.{prefix_same}
use Rattle.hpb_rules.proofs.Judged.{rules_by, count_by, judged_join, new_join, new_accepted, new_after, joined_append}

joined_prefix : (xs ys : List (List Letter)) → IsPrefix xs ys → IsPrefix (joined xs) (joined ys)
joined_prefix xs ys p = (joined p.0, sym (joined_append xs p.0) ∙ ap joined p.1)

pub judged_prefix : (value : AuctionValue) (xs ys : List (List Letter)) → IsPrefix xs ys → IsPrefix (judged_in value (joined xs)) (judged_in value (joined ys))
judged_prefix value xs ys p =
    let q = joined_prefix xs ys p in
    (judged_in (value_by value (joined xs)) q.0, sym (judged_join value (joined xs) q.0) ∙ ap (judged_in value) q.1)

pub rules_shown : (v : Viewing) → (auction_of v).rules ≡ v.opened.rules
rules_shown v = rules_by v.opened (joined v.list)

pub history_counted : (v : Viewing) → (auction_of v).count ≡ v.opened.count + length (history_of v)
history_counted v = count_by v.opened (joined v.list)

pub history_prefix : (value : AuctionValue) (xs ys : List (List Letter)) → IsPrefix xs ys → IsPrefix (new_commands (judged_in value (joined xs))) (new_commands (judged_in value (joined ys)))
history_prefix value xs ys p =
    let q = judged_prefix value xs ys p in
    (new_commands q.0, sym (new_join (judged_in value (joined xs)) q.0) ∙ ap new_commands q.1)

-- two viewers of one trail that show one auction have one history
pub one_history : (v w : Viewing) (all : List (List Letter)) → w.opened ≡ v.opened → IsPrefix v.list all → IsPrefix w.list all → auction_of v ≡ auction_of w → history_of v ≡ history_of w
one_history v w all o p q same =
    let hv = history_prefix v.opened v.list all p in
    let hw = history_prefix w.opened w.list all q in
    let whole : new_commands (judged_in w.opened (joined all)) ≡ new_commands (judged_in v.opened (joined all)) = ap (λ (value : AuctionValue). new_commands (judged_in value (joined all))) o in
    let lv = history_counted v in
    let lw = history_counted w in
    let c = ap (λ (value : AuctionValue). value.count) o in
    let s = ap (λ (value : AuctionValue). value.count) same in
    prefix_same (history_of v) (history_of w) (new_commands (judged_in v.opened (joined all))) hv (hw.0, hw.1 ∙ whole) (omega (arith, lv, lw, c, s))

-- how many more commands a list leads to
pub list_counted : (opened committed : AuctionValue) (list : List (List Letter)) → committed ≡ value_by opened (joined list) → committed.count ≡ opened.count + length (history_in opened list)
list_counted opened committed list leads = ap (λ (value : AuctionValue). value.count) leads ∙ count_by opened (joined list)

-- the opened auction shows a history, and the auction that a viewer shows goes on from there
pub history_shown : RestIsShown → (v : Viewing) (opened shown : AuctionValue) (front : List Command) → v.opened ≡ opened → auction_of v ≡ shown → Shows opened front → Shows shown (front ++ history_of v)
history_shown rest_is_shown v opened shown front o s shows =
    let whole = rest_is_shown v.opened front (history_of v) (subst (λ (value : AuctionValue). Shows value front) (sym o) shows) (new_accepted v.opened (joined v.list)) in
    subst (λ (value : AuctionValue). Shows value (front ++ history_of v)) (new_after v.opened (joined v.list) ∙ s) whole
