use Rattle.std.proofs.Common.{◌≡◌, ap, ◌∙◌, arith}
use Rattle.hpb_rules.specs.Prices.{share}
use Rattle.hpb_money.specs.Shares.{part}
use Rattle.hpb_money.proofs.Rounding.{share_law, share_most}
use Rattle.hpb_money.proofs.share.Goals as goal
use Rattle.hpb_money.proofs.share.Goals.{After-at}

value : (c : After-at) → c.at.result ≡ share c.args.dollars c.args.count c.args.place
value c = c.at.ensures ∙ ap (λ s. part s c.args.place) c.of.ensures

pub returns-clause-value : goal.returns-clause-value
returns-clause-value c = value c

pub returns-clause-law : goal.returns-clause-law
returns-clause-law c = share_law c.args.dollars c.args.count c.args.place _ c.requires (value c)

pub returns-clause-most : goal.returns-clause-most
returns-clause-most c = omega (arith, value c, share_most c.args.dollars c.args.count c.args.place c.requires)
