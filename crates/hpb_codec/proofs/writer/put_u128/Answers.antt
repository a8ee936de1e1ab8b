use Rattle.std.proofs.Common.{◌++◌, ℕ, List, ap, ◌∙◌}
use Rattle.hpb_codec.specs.Numbers.{before}
use Rattle.hpb_codec.proofs.Numbers.{high_first}
use Rattle.hpb_codec.proofs.writer.put_u128.Goals as goal

pub returns-clause-written : goal.returns-clause-written
returns-clause-written c = c.put_bytes.ensures.written ∙ ap (λ (x : List ℕ). before c.args.at c.args.out.now ++ x) (c.to_be_bytes.ensures ∙ high_first 16 c.args.n)
