use Rattle.std.proofs.Common.{◌≡◌, ℕ, length, sym, ap, subst, ◌∙◌, arith}
use Rattle.std.specs.Bool.{IsTrue}
use Rattle.hpb_codec.specs.Numbers.{number}
use Rattle.hpb_codec.specs.Sizes.{length-number}
use Rattle.hpb_codec.proofs.States.{says, found}
use Rattle.hpb_codec.proofs.state.fields_of.Goals as goal

pub returns-then-not-is_zero-clause-only : goal.returns-then-not-is_zero-clause-only
returns-then-not-is_zero-clause-only c h n b lh ln lb e =
    let head = c.front_bytes.ensures in
    let nodes = c.front_bytes-2.ensures in
    let bidders = c.front_bytes-3.ensures in
    let rest = c.front_bytes-3.result.1.now in
    let are = says c.args.bytes.now c.front_bytes.result.0.now c.front_bytes-2.result.0.now c.front_bytes-3.result.0.now rest _ _ h n b head.whole head.size nodes.whole nodes.size bidders.whole bidders.size lh ln lb e in
    let size : length rest ≡ 10216 = ap length are.is_zero ∙ length-number 10216 0 in
    cc (subst IsTrue c.if-not-is_zero.true (c.is_zero.ensures.1 (are.is_zero ∙ ap (λ (k : ℕ). number k 0) (sym size))))

pub returns-clause-only : goal.returns-clause-only
returns-clause-only c h n b lh ln lb e =
    let head = c.front_bytes.ensures in
    let nodes = c.front_bytes-2.ensures in
    let bidders = c.front_bytes-3.ensures in
    let are = says c.args.bytes.now c.front_bytes.result.0.now c.front_bytes-2.result.0.now c.front_bytes-3.result.0.now c.front_bytes-3.result.1.now _ _ h n b head.whole head.size nodes.whole nodes.size bidders.whole bidders.size lh ln lb e in
    (are.head_is, are.nodes_are, are.bidders_are)

pub returns-clause-found : goal.returns-clause-found
returns-clause-found c =
    let head = c.front_bytes.ensures in
    let nodes = c.front_bytes-2.ensures in
    let bidders = c.front_bytes-3.ensures in
    let rest = c.front_bytes-3.result.1.now in
    let size : length rest ≡ 10216 = omega arith in
    let zeros = (c.is_zero.ensures).0 c.if-not-is_zero.false ∙ ap (λ (k : ℕ). number k 0) size in
    (found c.args.bytes.now c.front_bytes.result.0.now c.front_bytes-2.result.0.now c.front_bytes-3.result.0.now rest _ _ head.whole head.size nodes.whole nodes.size bidders.whole bidders.size zeros, head.size, nodes.size, bidders.size)
