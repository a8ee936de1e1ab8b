use Rattle.std.proofs.Common.{◌≡◌, ℕ, List, length, drop, sym, ◌∙◌, ap, subst, arith}
use Rattle.std.proofs.lemmas.List.{length-reverse, take_at}
use Rattle.hpb_rules.specs.AuctionValue.{AuctionValue, Shows}
use Rattle.hpb_engine.specs.Facts.{IsSnapshot}
use Rattle.hpb_engine.proofs.snapshot.take_snapshot.Goals as goal

pub returns-clause-shows : goal.returns-clause-shows
returns-clause-shows c history shows within =
    let out = c.encode_state.new.out in
    let size : length out ≡ c.args.body.now.len = omega (arith, c.encode_state.auto.out, c.deref_mut.ensures.len) in
    let count : c.save.new.saved.count ≡ length history =
    ap (λ (value : AuctionValue). value.count) c.save.ensures.back ∙ ap (λ (value : AuctionValue). value.count) shows.1 ∙ length-reverse history in
    let is : IsSnapshot c.args.auction.now.rules out c.args.covers history = record {
      saved = c.save.new.saved;
      spelled = c.encode_state.ensures.spelled c.args.auction.now.rules c.save.ensures.sound (omega (arith, within, count));
      shows = subst (λ (value : AuctionValue). Shows value history) (sym c.save.ensures.back) shows;
    } in
    subst (λ (bytes : List ℕ). IsSnapshot c.args.auction.now.rules bytes c.args.covers history) (sym (take_at out (drop (length out) c.args.body.now.items) c.args.body.now.len size)) is
