use Rattle.std.proofs.Common.{Some, sym, ap, ◌∙◌}
use Rattle.hpb_define.specs.Spelling.{whole}
use Rattle.hpb_define.proofs.Each.{each_more, each_stops}
use Rattle.hpb_define.proofs.reading.numbers.Goals as goal

pub returns-in-None : goal.returns-in-None
returns-in-None c = each_stops whole c.args.items.now c.loop-item.item-index c.item-item.result c.loop-item-test.true c.item-item.is (sym c.as_u64.ensures ∙ c.in-None.is)

pub loop-item-preserved : goal.loop-item-preserved
loop-item-preserved c =
    each_more whole c.args.items.now c.loop-item.item-index c.item-item.result c.loop-item.numbers.items c.in-Some.number c.loop-item-test.true c.item-item.is
    c.loop-item.invariant (sym c.as_u64.ensures ∙ c.in-Some.is)
    ∙ ap Some (sym c.in_ok-push-in-Some.ensures.items)
