use Rattle.std.proofs.Common.{◌≡◌, ◌-◌, ◌*◌, ◌++◌, List, length, take, drop}
use Rattle.std.specs.List.{flat_map, AllByRecursion}
use Rattle.hpb_codec.proofs.table.read_table.Given as goal

abbrev pub invariant-loop-place : goal.invariant-loop-place
invariant-loop-place g l =
    let spelling = g.T.Entry.spelling in
    let is_one = g.T.Entry.fits in
    record {
      left : length l.rest ≡ (length l.table - l.place-index) * g.T.Entry.SIZE;
      whole : l.bytes ≡ flat_map spelling (take l.place-index l.table) ++ l.rest;
      fits : AllByRecursion is_one (take l.place-index l.table);
      only : (values : List _) → length values ≡ length l.table → AllByRecursion is_one values → l.bytes ≡ flat_map spelling values → (l.rest ≡ flat_map spelling (drop l.place-index values)) × (take l.place-index l.table ≡ take l.place-index values);
    }
