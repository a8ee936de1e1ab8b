use Rattle.std.proofs.Common.{◌≡◌, ◌++◌, ◌*◌, ◌<◌, ℕ, List, [], ◌∷◌, Option, map, length, take, get_or, ap, sym, subst, ◌∙◌, arith}
use Rattle.std.specs.Prelude.{IsSomeAnd}
use Rattle.std.specs.List.{flat_map}
use Rattle.std.proofs.lemmas.List.{map-append, take_all, take_more}
use Rattle.hpb_rules.specs.Tree.{Bidder}
use Rattle.hpb_tree.specs.Draft.{bidder_said}
use Rattle.hpb_tree.specs.declared.draft.BidderDraft.{BidderDraft}
use Rattle.hpb_codec.specs.Numbers.{before}
use Rattle.hpb_codec.specs.BidderPages.{HasEntry, bidder_of}
use Rattle.hpb_codec.proofs.Tables.{recursion_at}
use Rattle.hpb_codec.proofs.Entries.{entries_sized, next_read, bidder_sized, page_front}
use Rattle.hpb_codec.proofs.bidders.bidders_in.Goals as goal

none : Bidder
none = record { name = []; units = 0 }

pub loop-init : goal.loop-init
loop-init c = record {
  left = omega (arith, c.front_bytes.ensures.size);
  only = λ bidders len all e.
      let size : length (flat_map bidder_of bidders) ≡ c.args.count * 24 = entries_sized bidder_of HasEntry 24 bidder_sized bidders all ∙ ap (λ (n : ℕ). n * 24) len in
      (c.front_bytes.ensures.front ∙ ap (before (c.args.count * 24)) e ∙ page_front (flat_map bidder_of bidders) 4096 (c.args.count * 24) size, ap (map bidder_said) c.in_ok-bidders.ensures.items);
}

pub front_bytes-requires-in-loop : goal.front_bytes-requires-in-loop
front_bytes-requires-in-loop c = omega (arith, c.loop.invariant.left)

pub returns-in-None : goal.returns-in-None
returns-in-None c bidders len all e =
    let i = c.loop.counter in
    let lt : i < length bidders = omega (arith, len) in
    let so_far = c.loop.invariant.only bidders len all e in
    let next = next_read bidder_of HasEntry 24 bidder_sized bidders i none c.loop.rest.now c.front_bytes-in-loop.result.0.now c.front_bytes-in-loop.result.1.now lt all so_far.0 c.front_bytes-in-loop.ensures.whole c.front_bytes-in-loop.ensures.size in
    subst (λ (o : Option BidderDraft). IsSomeAnd o (λ draft. bidder_said draft ≡ get_or bidders i none)) c.in-None.is (c.in_ok-bidder.ensures (get_or bidders i none) (recursion_at HasEntry bidders i none lt all) next.0)

pub loop-preserved : goal.loop-preserved
loop-preserved c = record {
  left = omega (arith, c.loop.invariant.left, c.front_bytes-in-loop.ensures.left);
  only = λ bidders len all e.
      let i = c.loop.counter in
      let lt : i < length bidders = omega (arith, len) in
      let so_far = c.loop.invariant.only bidders len all e in
      let next = next_read bidder_of HasEntry 24 bidder_sized bidders i none c.loop.rest.now c.front_bytes-in-loop.result.0.now c.front_bytes-in-loop.result.1.now lt all so_far.0 c.front_bytes-in-loop.ensures.whole c.front_bytes-in-loop.ensures.size in
      let read : bidder_said c.in-Some.bidder ≡ get_or bidders i none
      = subst (λ (o : Option BidderDraft). IsSomeAnd o (λ draft. bidder_said draft ≡ get_or bidders i none)) c.in-Some.is (c.in_ok-bidder.ensures (get_or bidders i none) (recursion_at HasEntry bidders i none lt all) next.0) in (
        next.1,
        ap (map bidder_said) c.in_ok-push-in-Some.ensures.items ∙ map-append bidder_said c.loop.bidders.items (c.in-Some.bidder ∷ [])
            ∙ ap (λ (ns : List Bidder). ns ++ bidder_said c.in-Some.bidder ∷ []) so_far.1 ∙ ap (λ (n : Bidder). take i bidders ++ n ∷ []) read ∙ sym (take_more bidders i none lt),
      );
}

pub returns : goal.returns
returns c bidders len all e = (c.loop.invariant.only bidders len all e).1 ∙ take_all c.loop.counter bidders (omega (arith, len))
