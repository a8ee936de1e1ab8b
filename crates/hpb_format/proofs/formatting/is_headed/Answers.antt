use Rattle.std.proofs.Common.{◌≡◌, List, ℕ, take, drop, sym, ◌∙◌, ap, arith}
use Rattle.std.proofs.lemmas.List.{take-take}
use Rattle.hpb_codec.specs.Numbers.{before}
use Rattle.hpb_disk.specs.Images.{part}
use Rattle.hpb_recover.specs.declared.limits.TheConstants.{HEAD_AT, MAGIC_BYTES}
use Rattle.hpb_format.proofs.Beginning.{before_is}
use Rattle.hpb_format.proofs.formatting.is_headed.Goals as goal

pub returns-clause-headed : goal.returns-clause-headed
returns-clause-headed g c =
    let seen = (g.D.Disk.device c.args.disk.now).seen in
    let gate = c.in_ok-gate_is_open.ensures in
    let bytes : c.read_into.new.out ≡ part HEAD_AT MAGIC_BYTES seen = c.in_ok-read_into.ensures.bytes ∙ ap (λ (l : List ℕ). part HEAD_AT MAGIC_BYTES l) gate.unchanged.seen in
    let front : before 8 c.read_into.new.out ≡ part HEAD_AT MAGIC_BYTES seen =
    before_is c.read_into.new.out ∙ ap (λ (l : List ℕ). take 8 l) bytes ∙ take-take 8 8 (drop HEAD_AT seen) (omega arith) in (
      λ is. record { gate = gate.open.0 c.if-not-branch.false; known = sym front ∙ c.has_magic.ensures.0 is },
      λ headed. c.has_magic.ensures.1 (front ∙ headed.known),
    )
