use Rattle.std.proofs.Common.{◌≡◌, ◌+◌, ◌++◌, ℕ, List, take, length, replicate, sym, ap, ◌∙◌, arith}
use Rattle.std.proofs.lemmas.List.{length-take, length-drop}
use Rattle.std.proofs.lemmas.Slice.{take-put_mid}
use Rattle.hpb_codec.specs.Numbers.{number, before}
use Rattle.hpb_codec.proofs.Numbers.{number-zero}
use Rattle.hpb_codec.proofs.writer.put_zeros.Goals as goal

pub returns-clause-written : goal.returns-clause-written
unfolding before
returns-clause-written c =
    let zeros = c.fill.ensures.after (λ y h. h) in
    let len : length c.fill.new.self ≡ c.args.count = c.fill.ensures.len ∙ simp (length-take, length-drop) (omega arith) in
    let is : c.fill.new.self ≡ number c.args.count 0 = zeros ∙ ap (λ (k : ℕ). replicate k 0) (sym c.fill.ensures.len ∙ len) ∙ sym (number-zero c.args.count) in
    take-put_mid c.args.at _ c.args.out.now c.fill.new.self (c.args.at + c.args.count) (omega arith) (omega arith) ∙ ap (λ (x : List ℕ). take c.args.at c.args.out.now ++ x) is
