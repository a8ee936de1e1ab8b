use Rattle.std.proofs.Common.{◌≡◌, rules}
use Rattle.hpb_disk.proofs.memory.keep_write.Goals as goal

pub returns-clause-ok : goal.returns-clause-ok
returns-clause-ok c =
    let same : c.in_ok-bytes.bytes.items ≡ c.args.bytes.now = search rules in
    (c.in_ok-bytes.bytes, same, c.in_ok-keep.ensures.ok)
