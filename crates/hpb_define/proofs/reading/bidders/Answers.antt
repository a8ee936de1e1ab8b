use Rattle.std.proofs.Common.{[], ◌∷◌, map, Some, sym, ap, ◌∙◌}
use Rattle.std.proofs.lemmas.List.{map-append}
use Rattle.std.proofs.lemmas.Result.{err_from_is_err_and}
use Rattle.hpb_tree.specs.Draft.{bidder_said}
use Rattle.hpb_define.specs.Spelling.{bidder_of}
use Rattle.hpb_define.proofs.Each.{each_more, each_fails}
use Rattle.hpb_define.proofs.reading.bidders.Goals as goal

pub returns-in_err-bidder : goal.returns-in_err-bidder
returns-in_err-bidder c =
    let p = err_from_is_err_and c.from_residual.result c.from_residual.ensures.1 in
    rw (p.1, p.2) (each_fails bidder_of c.args.items.now c.loop-item.item-index c.item-item.result c.in_err-bidder.field-0.0 c.loop-item-test.true c.item-item.is c.in_err-bidder.ensures)

pub loop-item-preserved : goal.loop-item-preserved
loop-item-preserved c =
    each_more bidder_of c.args.items.now c.loop-item.item-index c.item-item.result (map bidder_said c.loop-item.bidders.items) (bidder_said c.in_ok-bidder.field-0) c.loop-item-test.true c.item-item.is
    c.loop-item.invariant c.in_ok-bidder.ensures
    ∙ ap Some (sym (ap (map bidder_said) c.in_ok-push.ensures.items ∙ map-append bidder_said c.loop-item.bidders.items (c.in_ok-bidder.field-0 ∷ [])))
