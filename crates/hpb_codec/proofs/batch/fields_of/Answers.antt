use Rattle.std.proofs.Common.{◌≡◌, ◌*◌, ◌-◌, ◌++◌, ℕ, length, sym, ap, subst, ◌∙◌, arith}
use Rattle.std.specs.Bool.{IsTrue}
use Rattle.hpb_codec.specs.Numbers.{number}
use Rattle.hpb_codec.specs.Sizes.{length-number}
use Rattle.hpb_codec.proofs.Batches.{body_is, found, says}
use Rattle.hpb_codec.proofs.Fronts.{same_text}
use Rattle.hpb_codec.proofs.batch.fields_of.Goals as goal

pub returns-then-count-eq0-clause-only : goal.returns-then-count-eq0-clause-only
returns-then-count-eq0-clause-only c i f n records li lf some most size e =
    let is = says c.args.bytes.now c.front_u64-index.result.0 c.front_u64-first.result.0 c.front_u16-count.result.0 i f n _ _ _ c.front_bytes.result.0.now c.front_bytes.result.1.now _ (omega arith) (omega arith) (omega arith) li lf (omega arith) c.front_u64-index.ensures.whole c.front_u64-first.ensures.whole c.front_u16-count.ensures.whole c.front_bytes.ensures.whole c.front_bytes.ensures.size (e ∙ body_is i f n records size) in
    absurd (omega (arith, is.count))

pub returns-then-count-gt-MOST_LETTERS-clause-only : goal.returns-then-count-gt-MOST_LETTERS-clause-only
returns-then-count-gt-MOST_LETTERS-clause-only c i f n records li lf some most size e =
    let is = says c.args.bytes.now c.front_u64-index.result.0 c.front_u64-first.result.0 c.front_u16-count.result.0 i f n _ _ _ c.front_bytes.result.0.now c.front_bytes.result.1.now _ (omega arith) (omega arith) (omega arith) li lf (omega arith) c.front_u64-index.ensures.whole c.front_u64-first.ensures.whole c.front_u16-count.ensures.whole c.front_bytes.ensures.whole c.front_bytes.ensures.size (e ∙ body_is i f n records size) in
    absurd (omega (arith, is.count))

pub returns-then-not-is_zero-clause-only : goal.returns-then-not-is_zero-clause-only
returns-then-not-is_zero-clause-only c i f n records li lf some most size e =
    let is = says c.args.bytes.now c.front_u64-index.result.0 c.front_u64-first.result.0 c.front_u16-count.result.0 i f n _ _ _ c.front_bytes.result.0.now c.front_bytes.result.1.now _ (omega arith) (omega arith) (omega arith) li lf (omega arith) c.front_u64-index.ensures.whole c.front_u64-first.ensures.whole c.front_u16-count.ensures.whole c.front_bytes.ensures.whole c.front_bytes.ensures.size (e ∙ body_is i f n records size) in
    cc (subst IsTrue c.if-not-is_zero.true (c.is_zero.ensures.1 (is.is_zero ∙ ap (λ (k : ℕ). number k 0) (sym c.front_bytes.ensures.size))))

pub returns-then-not-is_zero-2-clause-only : goal.returns-then-not-is_zero-2-clause-only
returns-then-not-is_zero-2-clause-only c i f n records li lf some most size e =
    let is = says c.args.bytes.now c.front_u64-index.result.0 c.front_u64-first.result.0 c.front_u16-count.result.0 i f n _ _ _ c.front_bytes.result.0.now c.front_bytes.result.1.now _ (omega arith) (omega arith) (omega arith) li lf (omega arith) c.front_u64-index.ensures.whole c.front_u64-first.ensures.whole c.front_u16-count.ensures.whole c.front_bytes.ensures.whole c.front_bytes.ensures.size (e ∙ body_is i f n records size) in
    let two = same_text (n * 16) c.front_bytes-2.result.0.now records c.front_bytes-2.result.1.now (number (4056 - n * 16) 0) (omega (arith, is.count)) size (sym c.front_bytes-2.ensures.whole ∙ is.left) in
    let long : length c.front_bytes-2.result.1.now ≡ 4056 - n * 16 = ap length two.1 ∙ length-number (4056 - n * 16) 0 in
    cc (subst IsTrue c.if-not-is_zero-2.true (c.is_zero-2.ensures.1 (two.1 ∙ ap (λ (k : ℕ). number k 0) (sym long))))

pub returns-clause-found : goal.returns-clause-found
returns-clause-found c =
    let same : c.front_u16-count.result.0 ≡ c.from-count.result = omega arith in
    let counted = c.front_u16-count.ensures.whole ∙ ap (λ (k : ℕ). number 2 k ++ c.front_u16-count.result.1.now) same in
    let unused : c.front_bytes.result.0.now ≡ number 6 0 = c.is_zero.ensures.0 c.if-not-is_zero.false ∙ ap (λ (k : ℕ). number k 0) c.front_bytes.ensures.size in
    let size : length c.front_bytes-2.result.0.now ≡ c.from-count.result * 16 = omega arith in
    let long : length c.front_bytes-2.result.1.now ≡ 4056 - c.from-count.result * 16 = omega arith in
    let zeros : c.front_bytes-2.result.1.now ≡ number (4056 - c.from-count.result * 16) 0 = c.is_zero-2.ensures.0 c.if-not-is_zero-2.false ∙ ap (λ (k : ℕ). number k 0) long in
    (found c.args.bytes.now c.front_u64-index.result.0 c.front_u64-first.result.0 c.from-count.result _ _ _ c.front_bytes.result.0.now c.front_bytes.result.1.now c.front_bytes-2.result.0.now c.front_bytes-2.result.1.now c.front_u64-index.ensures.whole c.front_u64-first.ensures.whole counted c.front_bytes.ensures.whole unused c.front_bytes-2.ensures.whole size zeros, omega arith, omega arith, size)

pub returns-clause-only : goal.returns-clause-only
returns-clause-only c i f n records li lf some most size e =
    let is = says c.args.bytes.now c.front_u64-index.result.0 c.front_u64-first.result.0 c.front_u16-count.result.0 i f n _ _ _ c.front_bytes.result.0.now c.front_bytes.result.1.now _ (omega arith) (omega arith) (omega arith) li lf (omega arith) c.front_u64-index.ensures.whole c.front_u64-first.ensures.whole c.front_u16-count.ensures.whole c.front_bytes.ensures.whole c.front_bytes.ensures.size (e ∙ body_is i f n records size) in
    let two = same_text (n * 16) c.front_bytes-2.result.0.now records c.front_bytes-2.result.1.now (number (4056 - n * 16) 0) (omega (arith, is.count)) size (sym c.front_bytes-2.ensures.whole ∙ is.left) in
    (is.index, is.first, omega (arith, is.count), two.0)
