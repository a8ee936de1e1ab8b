use Rattle.std.proofs.Common.{◌∙◌, sym}
use Rattle.hpb_rules.specs.Values.{first_value}
use Rattle.hpb_server.specs.Desk.{rules_in, never_over, one_asked, no_memory, RepliesIn, ShowsItself}
use Rattle.hpb_server.proofs.Chunks.{never_served}
use Rattle.hpb_server.proofs.Explained.{explained_at_none, itself_stays}
use Rattle.hpb_server.proofs.script.answer_script.Goals as goal
use Rattle.hpb_server.specs.AuctionDesk.{auction_ways}

pub answer_lines-requires-clause-stays : goal.answer_lines-requires-clause-stays
answer_lines-requires-clause-stays g c = λ at_terminal. itself_stays

pub returns-in_err-new-clause-served : goal.returns-in_err-new-clause-served
returns-in_err-new-clause-served g c = (first_value c.args.definition.now, never_served auction_ways c.args.input.now _ _ c.from_residual.result c.from_residual.ensures.1)

pub returns-clause-served : goal.returns-clause-served
returns-clause-served g c =
    let served = c.answer_lines.ensures.served (first_value c.args.definition.now) (sym (c.new-desk.ensures ∙ c.in_ok-new.ensures.value)) in
    (served.0, served.1)

pub returns-in_err-new-clause-explained : goal.returns-in_err-new-clause-explained
returns-in_err-new-clause-explained g c = explained_at_none c.args.is_terminal _
