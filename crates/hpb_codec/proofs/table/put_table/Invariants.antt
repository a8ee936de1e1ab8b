use Rattle.std.proofs.Common.{◌≡◌, ◌+◌, ◌*◌, ◌++◌, take}
use Rattle.std.specs.List.{flat_map, AllByRecursion}
use Rattle.hpb_codec.specs.Numbers.{before}
use Rattle.hpb_codec.proofs.table.put_table.Given as goal

abbrev pub invariant-loop-entry : goal.invariant-loop-entry
invariant-loop-entry g l =
    let spelling = g.T.Entry.spelling in
    record {
      place : l.next ≡ l.at + l.entry-index * g.T.Entry.SIZE;
      text : before l.next l.out ≡ before l.at l.fn.out ++ flat_map spelling (take l.entry-index l.table);
      fits : AllByRecursion g.T.Entry.sound l.table → AllByRecursion g.T.Entry.fits (take l.entry-index l.table);
    }
