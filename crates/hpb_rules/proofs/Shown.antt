-- An answer depends on nothing but the value.
use Rattle.std.proofs.Common.{reverse, sym, ap, ◌∙◌}
use Rattle.hpb_rules.specs.AuctionValue.{value_of}
use Rattle.hpb_rules.specs.Values.{reply_in}
use Rattle.hpb_rules.specs.HistoryLaws.{AnswerIsShown, ShownIsOne}
use Rattle.hpb_rules.proofs.Readings.{reply_read}

pub answer_is_shown : AnswerIsShown
answer_is_shown rules one other command past longer same =
    sym (reply_read rules (reverse one) past command) ∙ ap (λ value. reply_in value command) same ∙ reply_read rules (reverse other) longer command

pub shown_is_one : ShownIsOne
shown_is_one one other history e a b = a.1 ∙ ap (λ rules. value_of rules (reverse history)) e ∙ sym b.1
