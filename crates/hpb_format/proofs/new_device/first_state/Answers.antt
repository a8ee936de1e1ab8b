use Rattle.std.proofs.Common.{◌≡◌, length, drop, sym, ap, subst, arith}
use Rattle.std.proofs.lemmas.List.{take_at}
use Rattle.hpb_rules.specs.AuctionValue.{AuctionValue}
use Rattle.hpb_format.specs.Beginnings.{IsFirstState}
use Rattle.hpb_format.proofs.Beginning.{first_state_is}
use Rattle.hpb_format.proofs.new_device.first_state.Goals as goal

pub returns-clause-state : goal.returns-clause-state
returns-clause-state c =
    let out = c.encode_state.new.out in
    let auction = c.in_ok-auction.auction in
    let size : length out ≡ c.in_ok-bytes.bytes.len = omega (arith, c.encode_state.auto.out, c.deref_mut.ensures.len) in
    subst (IsFirstState c.args.definition.now) (sym (take_at out (drop (length out) c.in_ok-bytes.bytes.items) c.in_ok-bytes.bytes.len size))
    (first_state_is c.args.definition.now auction c.save.new.saved out (ap (λ (value : AuctionValue). value.rules) c.in_ok-auction.ensures.value)
    (c.encode_state.ensures.spelled auction.rules c.save.ensures.sound (omega arith)) c.save.ensures.back c.in_ok-auction.ensures.empty)
