use Rattle.std.proofs.Common.{◌≡◌, ◌∙◌, All, List, length, sym, ap, arith, slice_index_or, subst}
use Rattle.std.specs.Prelude.{IsPermutation, flat_map}
use Rattle.hpb_rules.specs.declared.command.Command.{Command}
use Rattle.hpb_rules.specs.AuctionValue.{AuctionValue}
use Rattle.hpb_rules.specs.Fronts.{joined}
use Rattle.hpb_rules.proofs.Judged.{rules_by}
use Rattle.hpb_board.specs.Publication.{Viewing}
use Rattle.hpb_house.specs.Histories.{history_in, history_of}
use Rattle.hpb_house.specs.Reports.{accepted_by, total}
use Rattle.hpb_house.proofs.Histories.{list_counted, one_history, history_shown}
use Rattle.hpb_house.proofs.Together.{each_taken, all_once}
use Rattle.hpb_house.proofs.comparing.agree.Goals as goal

pub whole_trail-all-requires : goal.whole_trail-all-requires
whole_trail-all-requires c = λ k d lt. (c.requires.board k d lt).0 ∙ sym c.requires.trail

pub all_show-requires : goal.all_show-requires
all_show-requires c = λ k d lt.
    let rules = λ (a : AuctionValue). a.rules in
    ap rules (c.requires.board k d lt).1 ∙ sym (ap rules c.requires.leads ∙ rules_by c.args.eye.now.opened (joined c.args.shown.now.log))

-- the list leads to the committed auction, and each report shows it
pub returns-clause-agree : goal.returns-clause-agree
returns-clause-agree c =
    let rs = c.args.reports.now in
    let opened = c.args.eye.now.opened in
    let list = c.args.shown.now.log in
    let trail : Viewing = record { book = c.args.shown.now.book; opened = opened; seats = 0; list = list } in
    let all = c.whole_trail-all.result.log in
    let its = c.whole_trail-all.ensures in
    let shown = c.all_show.ensures.0 c.if-not-all_show.false in
    let begun : All (λ r. r.viewer.opened ≡ opened) rs = λ k d lt. (c.requires.board k d lt).1 in
    let whole : All (λ r. history_of r.viewer ≡ history_in opened list) rs =
    λ k d lt. one_history (slice_index_or rs k d).viewer trail all (sym (begun k d lt)) (its.each k d lt) its.this (shown k d lt ∙ c.requires.leads) in
    let long = list_counted opened c.args.committed.now list c.requires.leads in
    let summed : total rs ≡ length (history_in opened list) =
    omega (arith, long, c.requires.count, c.count-counts.ensures.accepted, c.count-counts.ensures.committed, c.count-counts.ensures.most, c.if-counts.false) in
    record {
      shown = shown;
      history = λ k d lt j e le. whole k d lt ∙ sym (whole j e le);
      whole = whole;
      continued = λ front shows k d lt. history_shown c.rest_is_shown.ensures (slice_index_or rs k d).viewer opened c.args.committed.now front (begun k d lt) (shown k d lt) shows;
      counted = λ k d lt. summed ∙ ap length (sym (whole k d lt));
      summed = summed;
      numbers = omega (arith, long, summed);
      once = λ apart. record {
        taken = each_taken rs trail all its.this begun its.each (λ k d lt. sym (whole k d lt)) summed apart;
        once = λ k d lt.
            subst (λ (l : List Command). IsPermutation (flat_map accepted_by rs) l) (sym (whole k d lt)) (all_once rs trail all its.this begun its.each (λ j e le. sym (whole j e le)) summed apart);
      };
    }

-- the numbers if they differ
pub returns-then-not-all_show-clause-counts : goal.returns-then-not-all_show-clause-counts
returns-then-not-all_show-clause-counts c =
    let long = list_counted c.args.eye.now.opened c.args.committed.now c.args.shown.now.log c.requires.leads in
    let told = c.count-counts.ensures in
    record { accepted = told.accepted; committed = omega (arith, c.requires.count, told.committed); since = omega (arith, long, c.requires.count, told.committed) }
