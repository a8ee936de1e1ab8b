use Rattle.std.proofs.Common.{◌≡◌, ◌<◌, ◌++◌, ℕ, List, [], length, take, ap, ◌∙◌, arith}
use Rattle.std.specs.List.{flat_map}
use Rattle.std.proofs.lemmas.List.{take_all}
use Rattle.hpb_rules.specs.Units.{bidder_units}
use Rattle.hpb_rules.specs.Text.{bidder_name}
use Rattle.hpb_rules.specs.Tree.{Bidder}
use Rattle.hpb_codec.specs.Numbers.{before, filled}
use Rattle.hpb_codec.specs.BidderPages.{entry_of, bidder_of}
use Rattle.hpb_codec.proofs.Numbers.{before_none}
use Rattle.hpb_codec.proofs.Entries.{bidder_entry, one_more}
use Rattle.hpb_codec.proofs.bidders.put_bidders.Goals as goal

none : Bidder
none = record { name = []; units = 0 }

pub loop-place-preserved : goal.loop-place-preserved
loop-place-preserved c =
    let rules = c.args.definition.now in
    let bidders = rules.bidders in
    let i = c.loop-place.place in
    let lt : i < length bidders = omega arith in
    record {
      place = omega (arith, c.loop-place.invariant.place);
      text = one_more bidder_of bidders i none c.args.page.now c.loop-place.page c.put_bidder-at.new.page c.loop-place.at c.put_bidder-at.result lt c.loop-place.invariant.text
          (c.put_bidder-at.ensures.written ∙ ap (λ (n : ℕ). before c.loop-place.at c.loop-place.page ++ entry_of (bidder_name bidders n) (bidder_units rules n)) c.new.ensures ∙ ap (λ (e : List ℕ). before c.loop-place.at c.loop-place.page ++ e) (bidder_entry rules i none lt));
    }

pub returns : goal.returns
returns c =
    let rules = c.args.definition.now in
    let bidders = rules.bidders in
    let size : length c.loop-place.page ≡ 4096 = omega arith in
    let whole : take c.loop-place.place bidders ≡ bidders = take_all c.loop-place.place bidders (omega arith) in
    c.fill_zeros.ensures ∙ ap (λ (n : ℕ). filled n (before c.loop-place.at c.loop-place.page)) size
    ∙ ap (filled 4096) (c.loop-place.invariant.text ∙ ap (λ (b : List ℕ). b ++ flat_map bidder_of (take c.loop-place.place bidders)) (before_none c.args.page.now) ∙ ap (flat_map bidder_of) whole)
