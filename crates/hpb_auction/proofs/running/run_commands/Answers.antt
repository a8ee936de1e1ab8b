use Rattle.std.proofs.Common.{◌≡◌, ◌+◌, ◌++◌, ◌∷◌, [], List, take, refl, ap, sym, ◌∙◌, arith}
use Rattle.std.proofs.lemmas.List.{take_more, take_all}
use Rattle.hpb_rules.specs.declared.command.Command.{Command}
use Rattle.hpb_rules.specs.declared.reply.Reply.{Reply}
use Rattle.hpb_rules.specs.AuctionValue.{AuctionValue}
use Rattle.hpb_rules.specs.Values.{first_value, next_value, reply_in, replies_in, value_after}
use Rattle.hpb_rules.proofs.RunLaws.{value_is_best_choice}
use Rattle.hpb_rules.proofs.RunLaws.{run_is_shown}
use Rattle.hpb_auction.proofs.Runs.{value_more, replies_more, rules_stay}
use Rattle.hpb_auction.proofs.running.run_commands.Goals as goal

pub loop-command-preserved : goal.loop-command-preserved
loop-command-preserved c =
    let start : AuctionValue = first_value c.args.definition.now in
    let done : List Command = take c.loop-command.command-index c.args.commands.now in
    let more : take (c.loop-command.command-index + 1) c.args.commands.now ≡ done ++ c.command-item.result ∷ []
    = take_more c.args.commands.now c.loop-command.command-index c.command-item.result (omega (arith, c.loop-command-test.true)) ∙ ap (λ (command : Command). done ++ command ∷ []) (sym c.command-item.is) in (
      c.apply.ensures.value ∙ ap (λ (q : AuctionValue). next_value q c.command-item.result) c.loop-command.invariant.0 ∙ sym (ap (value_after start) more ∙ value_more start done c.command-item.result),
      c.in_ok-push.ensures.items ∙ ap (λ (reply : Reply). c.loop-command.replies.items ++ reply ∷ []) (c.apply.ensures.reply ∙ ap (λ (q : AuctionValue). reply_in q c.command-item.result) c.loop-command.invariant.0)
          ∙ ap (λ (replies : List Reply). replies ++ reply_in (value_after start done) c.command-item.result ∷ []) c.loop-command.invariant.1
          ∙ sym (ap (replies_in start) more ∙ replies_more start done c.command-item.result),
    )

pub returns-clause-history : goal.returns-clause-history
returns-clause-history c =
    c.loop-command.invariant.1
    ∙ ap (replies_in (first_value c.args.definition.now)) (take_all c.loop-command.command-index c.args.commands.now (omega (arith, c.loop-command-test.false)))
    ∙ (run_is_shown (first_value c.args.definition.now) [] c.args.commands.now (tt, refl)).1

pub returns-clause-best : goal.returns-clause-best
returns-clause-best c front rest split =
    value_is_best_choice (value_after (first_value c.args.definition.now) front) (rules_stay c.args.definition.now front c.is_accepted_draft.ensures)
