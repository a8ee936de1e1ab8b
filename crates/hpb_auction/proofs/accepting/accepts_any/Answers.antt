use Rattle.std.proofs.Common.{◌≡◌, ◌+◌, List, take, drop, length, refl, ap, sym, ◌∙◌, arith}
use Rattle.std.proofs.lemmas.List.{take_all}
use Rattle.hpb_rules.specs.declared.letter.Letter.{Letter}
use Rattle.hpb_rules.specs.AuctionValue.{AuctionValue}
use Rattle.hpb_rules.specs.Letters.{new_commands}
use Rattle.hpb_rules.specs.Judging.{judged_in}
use Rattle.hpb_auction.proofs.Fronts.{front_more, front_split}
use Rattle.hpb_rules.proofs.Judged.{judged_is_shown, none_more, one_new}
use Rattle.hpb_auction.proofs.accepting.accepts_any.Goals as goal

pub loop-letter-preserved : goal.loop-letter-preserved
loop-letter-preserved c =
    let value : AuctionValue = c.args.auction.now in
    let at = c.loop-letter.letter-index in
    let more = front_more c.as_slice-letter-items.result.now c.args.letters.now c.as_slice-letter-items.ensures.value at c.letter-item.result c.loop-letter-test.true c.letter-item.is in
    ap (λ (letters : List Letter). new_commands (judged_in value letters)) more
    ∙ none_more value (take at c.args.letters.now) c.letter-item.result c.loop-letter.invariant (sym c.accepts.ensures ∙ c.if-accepts.false)

pub returns-then-accepts-clause-value : goal.returns-then-accepts-clause-value
returns-then-accepts-clause-value c =
    let value : AuctionValue = c.args.auction.now in
    let letters : List Letter = c.args.letters.now in
    let at = c.loop-letter.letter-index in
    let split = front_split c.as_slice-letter-items.result.now letters c.as_slice-letter-items.ensures.value at c.letter-item.result c.loop-letter-test.true c.letter-item.is in (
      λ no. absurd (cc),
      λ none. absurd (one_new value (take at letters) (drop (at + 1) letters) c.letter-item.result c.loop-letter.invariant (sym c.accepts.ensures ∙ c.if-accepts.true)
          (ap (λ (ls : List Letter). new_commands (judged_in value ls)) split ∙ none)),
    )

pub returns-then-accepts-clause-history : goal.returns-then-accepts-clause-history
returns-then-accepts-clause-history c history shows = (
  λ no. absurd (cc),
  λ none. (returns-then-accepts-clause-value c).1 (ap new_commands (judged_is_shown c.args.auction.now history c.args.letters.now shows) ∙ none),
)

pub returns-clause-history : goal.returns-clause-history
returns-clause-history c history shows =
    let value : AuctionValue = c.args.auction.now in
    let letters : List Letter = c.args.letters.now in
    let whole : take c.loop-letter.letter-index letters ≡ letters = take_all c.loop-letter.letter-index letters (omega (arith, c.loop-letter-test.false, ap length c.as_slice-letter-items.ensures.value)) in (
      λ no. sym (ap new_commands (judged_is_shown value history letters shows)) ∙ ap (λ (ls : List Letter). new_commands (judged_in value ls)) (sym whole) ∙ c.loop-letter.invariant,
      λ none. refl,
    )
