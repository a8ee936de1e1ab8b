use Rattle.std.proofs.Common.{◌+◌, length, subst}
use Rattle.hpb_recover.specs.Replaying.{AreGates, NoneIsOwn, OneIsOwn}
use Rattle.hpb_recover.proofs.Behind.{broken, whole}
use Rattle.hpb_recover.proofs.journal.read_journal.Goals as goal

pub returns-then-not-branch-clause-journal : goal.returns-then-not-branch-clause-journal
returns-then-not-branch-clause-journal g c =
    let layout = g.F.Frames.layout c.args.frames.now in
    let image = (g.D.Disk.device c.args.disk.now).seen in
    let known = c.replay.new.gates.items in
    let some = rw c.in-Some.is at c.in_ok-next.ensures.next in
    let one = rw c.if-not-branch.true at c.in_ok-read_rest.ensures.rest in
    let here = subst (OneIsOwn layout (c.args.covered + length known) (c.args.covered + layout.count)) c.replay.ensures.reads.quiet.same one in
    broken layout c.args.covered c.in-Some.next c.args.auction.now c.replay.new.auction image known some.0 some.1 c.laws.ensures here

pub returns-clause-journal : goal.returns-clause-journal
returns-clause-journal g c =
    let layout = g.F.Frames.layout c.args.frames.now in
    let image = (g.D.Disk.device c.args.disk.now).seen in
    let known = c.replay.new.gates.items in
    let gates = c.read_rest.new.gates.items in
    let some = rw c.in-Some.is at c.in_ok-next.ensures.next in
    let rest = rw c.if-not-branch.false at c.in_ok-read_rest.ensures.rest in
    let same = c.replay.ensures.reads.quiet.same in
    let f = rw c.as_slice.ensures.value at c.first_open-clean.ensures in
    whole layout c.args.covered c.in-Some.next c.args.auction.now c.replay.new.auction image known some.0 some.1 gates
    (subst (AreGates layout c.args.covered gates) same rest.0) rest.1
    (subst (NoneIsOwn layout (c.args.covered + length known) (c.args.covered + layout.count)) same rest.2)
    c.first_open-clean.result f.from f.to f.shut f.open
