use Rattle.std.proofs.Common.{◌++◌, ◌-◌, ℕ, List, length, ap, ◌∙◌, append_assoc}
use Rattle.hpb_codec.specs.Numbers.{before, filled, number}
use Rattle.hpb_codec.proofs.name.put_name.Goals as goal

pub returns-clause-written : goal.returns-clause-written
unfolding filled
returns-clause-written c =
    let old = before c.args.at c.args.out.now in
    c.put_zeros.ensures.written ∙ ap (λ (x : List ℕ). x ++ number (16 - length c.args.name.now) 0) (c.put_bytes-end.ensures.written ∙ ap (λ (x : List ℕ). old ++ x) c.as_bytes.ensures.value) ∙ append_assoc old c.args.name.now _
