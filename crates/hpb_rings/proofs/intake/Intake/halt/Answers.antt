use Rattle.std.proofs.Common.{◌≡◌, ◌<◌, ◌∙◌, length, map, take, drop, arith, add-one, subst, sym, ap, slice_set, ℕ}
use Rattle.rtrb.specs.Ring.{sent, received}
use Rattle.hpb_rings.specs.Gathering.{told_of, halts, gathered}
use Rattle.hpb_rings.proofs.Gathering.{mapped-on, gathered-on, all-told}
use Rattle.hpb_rings.proofs.intake.Intake.halt.Goals as goal

pub loop-i-preserved : goal.loop-i-preserved
loop-i-preserved g c =
    let rs = c.loop-i.self.rings.items in
    let olds = c.args.self.now.rings.items in
    let y = c.tell.new.self in
    let cur = c.index_mut.result.now in
    let inv = c.loop-i.invariant in
    let i = c.loop-i.i in
    let lt : i < length rs = grind (arith, c.loop-i-test.true, inv, c.loop-i.self.rings.ok, c.args.self.now.rings.ok, c.len-i-end.ensures) in
    let n = mapped-on (λ r. sent r.halts) (told_of c.args.halt) i rs olds y cur lt inv.0 inv.1 c.tell.ensures.told.1 c.index_mut.ensures.value in
    let J : ℕ → Type 0 = λ k. (halts (take k (slice_set rs i y)) ≡ map (told_of c.args.halt) (take k olds)) × (drop k (slice_set rs i y) ≡ drop k olds) in
    let m = subst J (sym (add-one i)) n in
    (m.0, m.1, gathered-on rs i y cur (gathered olds) (ap (λ l. received l) (c.tell.ensures.same.0 ∙ ap (λ r. r.letters) c.index_mut.ensures.value)) inv.2, inv.3)

pub returns-clause-once : goal.returns-clause-once
returns-clause-once g c =
    let inv = c.loop-i.invariant in
    all-told c.args.halt c.loop-i.i c.loop-i.self.rings.items c.args.self.now.rings.items inv.0
    (grind (arith, c.loop-i-test.false, inv.3, c.loop-i.self.rings.ok, c.args.self.now.rings.ok, c.len-i-end.ensures))
    (grind (arith, c.loop-i-test.false, inv.3, c.loop-i.self.rings.ok, c.args.self.now.rings.ok, c.len-i-end.ensures))
