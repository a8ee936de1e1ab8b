use Rattle.std.proofs.Common.{◌≡◌, ◌^◌, ◌<◌, drop}
use Rattle.hpb_wire.specs.Numbers.{digits_after, digits_number}
use Rattle.hpb_wire.proofs.number.number_of_front.Given as goal

abbrev pub invariant-loop-byte : goal.invariant-loop-byte
invariant-loop-byte l = record {
  rest : digits_number l.digits ≡ digits_after l.number (drop l.byte-index l.digits);
  small : l.number < 10 ^ l.byte-index;
}
