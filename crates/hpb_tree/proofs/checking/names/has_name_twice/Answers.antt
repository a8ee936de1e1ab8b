use Rattle.std.proofs.Common.{map, ◌<◌, length, arith, refl, sym}
use Rattle.std.proofs.lemmas.Bool.{MatchBool-at_true}
use Rattle.std.proofs.lemmas.List.{length-map}
use Rattle.hpb_tree.proofs.Seen.{searched_found, searched_more, searched_all, name_at, was_known, was_new}
use Rattle.hpb_tree.proofs.checking.names.has_name_twice.Goals as goal

pub returns-then-not-branch : goal.returns-then-not-branch
returns-then-not-branch g c =
    let small : c.loop-item.item-index < length c.args.items.now = omega arith in
    sym (searched_found (map g.T.Named.named c.args.items.now) c.loop-item.item-index c.loop-item.seen.keys c.name.result.now c.loop-item.invariant
    (omega (arith, length-map c.args.items.now g.T.Named.named))
    (name_at g.T.Named.named c.args.items.now c.loop-item.item-index c.item-item.result c.name.result.now small c.item-item.is c.name.ensures)
    (was_known _ _ c.in_ok-insert.ensures.added c.if-not-branch.true))

pub loop-item-preserved : goal.loop-item-preserved
loop-item-preserved g c =
    let small : c.loop-item.item-index < length c.args.items.now = omega arith in
    searched_more (map g.T.Named.named c.args.items.now) c.loop-item.item-index c.loop-item.seen.keys c.name.result.now c.loop-item.invariant
    (omega (arith, length-map c.args.items.now g.T.Named.named))
    (name_at g.T.Named.named c.args.items.now c.loop-item.item-index c.item-item.result c.name.result.now small c.item-item.is c.name.ensures)
    c.name.result c.insert.new.self.keys refl
    (was_new _ _ c.in_ok-insert.ensures.added c.if-not-branch.false)
    (MatchBool-at_true _ _ c.if-not-branch.false c.in_ok-insert.ensures.keys)

pub returns : goal.returns
returns g c = sym (searched_all (map g.T.Named.named c.args.items.now) c.loop-item.item-index c.loop-item.seen.keys c.loop-item.invariant (omega (arith, length-map c.args.items.now g.T.Named.named)))
