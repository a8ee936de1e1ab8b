use Rattle.std.proofs.Common.{◌≡◌, ◌∙◌}
use Rattle.hpb_rules.specs.Values.{next_value}
use Rattle.hpb_auction.specs.Formed.{formed_in}
use Rattle.hpb_auction.proofs.Formed.{formed_new, formed_old}
use Rattle.hpb_auction.proofs.Histories.{next_new, next_old, shown_at}
use Rattle.hpb_auction.proofs.auction.Auction.apply_counted.Goals as goal
use Rattle.hpb_auction.proofs.auction.Auction.apply_counted.Goals.{After-reply, in-New, in_default}

next : (c : After-reply) → c.match-verdict.self ≡ next_value c.args.self.now c.args.command.now
next c = elim c.match-verdict.branch [
  | in-New w ↦ w.self-is ∙ w.accept-formed.ensures.value ∙ next_new c.args.self.now c.args.command.now w.in-New.number w.in-New.ensures.reply w.in-New.ensures.new.0
  | in_default w ↦ w.self-is ∙ next_old c.args.self.now c.args.command.now c.verdict-verdict.result c.verdict-verdict.ensures.reply w.in_default.not-New c.verdict-verdict.ensures.repeat
]

pub returns-clause-shown : goal.returns-clause-shown
returns-clause-shown c history shows = shown_at c.args.self.now c.match-verdict.self c.args.command.now (next c) history shows

formed : (c : After-reply) → c.match-verdict.formed ≡ formed_in c.args.self.now c.args.command.now
formed c = elim c.match-verdict.branch [
  | in-New w ↦ w.formed-is ∙ w.accept-formed.ensures.formed ∙ formed_new c.args.self.now c.args.command.now w.in-New.number w.in-New.ensures.reply w.in-New.ensures.new.0
  | in_default w ↦ w.formed-is ∙ formed_old c.args.self.now c.args.command.now c.verdict-verdict.result c.verdict-verdict.ensures.reply w.in_default.not-New c.verdict-verdict.ensures.repeat
]

pub returns-clause-formed : goal.returns-clause-formed
returns-clause-formed c = formed c
