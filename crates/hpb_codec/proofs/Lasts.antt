-- The record of a last command, read from the start of the bytes that spell it.
use Rattle.std.proofs.Common.{◌≡◌, ◌++◌, List, ℕ, Option}
use Rattle.std.proofs.lemmas.List.{take_at, drop_at}
use Rattle.hpb_rules.specs.declared.saved.Accepted.{Accepted}
use Rattle.hpb_codec.specs.Numbers.{before, rest}
use Rattle.hpb_codec.specs.BidderEntries.{last_record, last_record_sized}

pub before-record : (last : Option Accepted) (back : List ℕ) → before 16 (last_record last ++ back) ≡ last_record last
unfolding before
before-record last back = take_at (last_record last) back 16 (last_record_sized last)

pub rest-record : (last : Option Accepted) (back : List ℕ) → rest 16 (last_record last ++ back) ≡ back
unfolding rest
rest-record last back = drop_at (last_record last) back 16 (last_record_sized last)

pub ruleset fields = (before-record, rest-record)
