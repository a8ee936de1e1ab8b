use Rattle.std.proofs.Common.{ap, ◌∙◌, length}
use Rattle.std.specs.List.{flat_map}
use Rattle.hpb_codec.specs.Numbers.{leading}
use Rattle.hpb_codec.specs.Records.{record_of}
use Rattle.hpb_codec.proofs.Batches.{body_is, records_sized}
use Rattle.hpb_codec.proofs.Numbers.{leading-number}
use Rattle.hpb_codec.proofs.OneToOne as one
use Rattle.hpb_codec.proofs.laws.batches_are_one.Goals as goal

pub returns-clause-records : goal.returns-clause-records
returns-clause-records c = one.records_are_one

pub returns-clause-bodies : goal.returns-clause-bodies
returns-clause-bodies c = one.batches_are_one

pub returns-clause-begin : goal.returns-clause-begin
returns-clause-begin c rules bytes batch spells =
    ap (leading 8) (spells.spelled ∙ body_is batch.index batch.first (length batch.commands) (flat_map record_of batch.commands) (records_sized batch.commands))
    ∙ leading-number 8 batch.index _ spells.is.index
