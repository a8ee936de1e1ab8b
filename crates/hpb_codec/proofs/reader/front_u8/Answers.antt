use Rattle.std.proofs.Common.{◌++◌, ℕ, List, get_or, sym, ap, ◌∙◌, arith}
use Rattle.std.proofs.lemmas.List.{take_rest}
use Rattle.hpb_codec.specs.Numbers.{number}
use Rattle.hpb_codec.proofs.Numbers.{whole_1}
use Rattle.hpb_codec.proofs.reader.front_u8.Goals as goal

pub returns-clause-whole : goal.returns-clause-whole
returns-clause-whole c =
    let bytes = c.args.bytes.now in
    whole_1 bytes (omega arith) (λ i. omega (arith, c.type_inv.bytes i)) ∙ ap (λ (x : List ℕ). number 1 (get_or bytes 0 0) ++ x) (sym (take_rest bytes 1))
