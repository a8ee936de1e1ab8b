use Rattle.std.proofs.Common.{◌≡◌, ℕ, List, length, sym, ap, subst, ◌∙◌, arith}
use Rattle.std.specs.List.{flat_map, AllByRecursion}
use Rattle.hpb_rules.specs.declared.command.Command.{Command}
use Rattle.hpb_codec.specs.Numbers.{before, filled}
use Rattle.hpb_codec.specs.Records.{record_of, HasRecord}
use Rattle.hpb_rules.specs.Rounds.{HasTicket}
use Rattle.hpb_codec.specs.Batches.{batch_fields}
use Rattle.hpb_codec.proofs.Batches.{fields_written}
use Rattle.hpb_codec.proofs.batch.encode_batch.Goals as goal

pub returns-clause-written : goal.returns-clause-written
returns-clause-written c =
    let b = c.args.batch.now in
    let fields = fields_written c.args.out.now c.put_u64-at.new.out c.put_u64-at-2.new.out c.put_u16-at.new.out c.put_zeros-at.new.out c.put_table-at.new.out _ _ _ _ _ b.index b.first _ _ c.put_u64-at.ensures.written c.put_u64-at-2.ensures.written c.put_u16-at.ensures.written c.put_zeros-at.ensures.written c.put_table-at.ensures.written in
    let size : length c.put_table-at.new.out ≡ 4080 = omega arith in
    c.fill_zeros.ensures ∙ ap (λ (k : ℕ). filled k (before c.put_table-at.result c.put_table-at.new.out)) size ∙ ap (filled 4080) fields
    ∙ ap (λ (cs : List Command). filled 4080 (batch_fields b.index b.first (length cs) (flat_map record_of cs))) c.as_slice-commands.ensures.value

pub returns-clause-spelled : goal.returns-clause-spelled
returns-clause-spelled c rules some tickets known =
    let same = c.as_slice-commands.ensures.value in
    record {
      is = record {
        index = omega arith;
        first = omega arith;
        some = some;
        most = omega (arith, c.as_slice-commands.ensures.most, ap length same);
        records = subst (λ (cs : List Command). AllByRecursion HasRecord cs) same (c.put_table-at.ensures.fits (subst (λ (cs : List Command). AllByRecursion HasTicket cs) (sym same) tickets));
        known = known;
      };
      spelled = returns-clause-written c;
    }
