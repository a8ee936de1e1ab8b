use Rattle.std.proofs.Common.{◌≡◌, Some, rules, subst, arith}
use Rattle.std.specs.Bool.{IsTrue}
use Rattle.hpb_codec.specs.declared.batch.Batch.{Batch}
use Rattle.hpb_codec.proofs.Spreading.{body_found, count_found, same_cells, spelled_again}
use Rattle.hpb_codec.proofs.cells.decode_cells.Goals as goal

some_same : {x y : Batch} → Some x ≡ Some y → x ≡ y
some_same e = cc

pub returns-then-count-gt-MOST_LETTERS-clause-only : goal.returns-then-count-gt-MOST_LETTERS-clause-only
returns-then-count-gt-MOST_LETTERS-clause-only c batch begins =
    let count = count_found c.args.definition.now c.args.bytes.now batch begins c.front_u16-count.result.0 c.from-count.result _ c.front_bytes.ensures.rest c.front_u16-count.ensures.value (omega arith) in
    absurd (omega (arith, count, begins.is.most))

pub returns-in_err-batch-clause-only : goal.returns-in_err-batch-clause-only
returns-in_err-batch-clause-only c batch begins =
    let count = count_found c.args.definition.now c.args.bytes.now batch begins c.front_u16-count.result.0 c.from-count.result _ c.front_bytes.ensures.rest c.front_u16-count.ensures.value (omega arith) in
    let no = c.in_err-batch.ensures.only batch (body_found c.args.definition.now c.args.bytes.now batch begins c.from-count.result c.cells_behind.result _ count c.cells_behind.ensures.value c.gather.ensures) in
    absurd (search rules)

pub returns-then-is_same-clause-found : goal.returns-then-is_same-clause-found
returns-then-is_same-clause-found c = record {
  is = c.in_ok-batch.ensures.found.is;
  spelled = same_cells c.spread-size.result c.spread-size.new.out c.args.bytes.now c.in_ok-batch.batch c.spread-size.ensures.size (c.is_same.ensures.0 c.if-is_same.true) c.spread-size.ensures.written;
}

pub returns-then-is_same-clause-only : goal.returns-then-is_same-clause-only
returns-then-is_same-clause-only c batch begins =
    let count = count_found c.args.definition.now c.args.bytes.now batch begins c.front_u16-count.result.0 c.from-count.result _ c.front_bytes.ensures.rest c.front_u16-count.ensures.value (omega arith) in
    c.in_ok-batch.ensures.only batch (body_found c.args.definition.now c.args.bytes.now batch begins c.from-count.result c.cells_behind.result _ count c.cells_behind.ensures.value c.gather.ensures)

pub returns-else-is_same-clause-only : goal.returns-else-is_same-clause-only
returns-else-is_same-clause-only c batch begins =
    let count = count_found c.args.definition.now c.args.bytes.now batch begins c.front_u16-count.result.0 c.from-count.result _ c.front_bytes.ensures.rest c.front_u16-count.ensures.value (omega arith) in
    let same = some_same (c.in_ok-batch.ensures.only batch (body_found c.args.definition.now c.args.bytes.now batch begins c.from-count.result c.cells_behind.result _ count c.cells_behind.ensures.value c.gather.ensures)) in
    let all = spelled_again c.args.definition.now c.spread-size.result c.spread-size.new.out c.args.bytes.now c.in_ok-batch.batch batch same c.spread-size.ensures.size c.spread-size.ensures.written begins in
    absurd (cc (subst IsTrue c.if-is_same.false (c.is_same.ensures.1 all)))
