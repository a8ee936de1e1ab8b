-- The desk of a session on a house reports histories that go on from one another.
use Rattle.std.specs.Prelude.{◌≡◌, ◌<◌, ◌≤◌, true, List, [], take, Option, Some, None, Result, ⊤}
use Rattle.std.proofs.Common.{refl, sym, ap, subst, ◌∙◌, inl, inr, arith, ⊎_elim}
use Rattle.hpb_rules.specs.declared.command.Command.{Command}
use Rattle.hpb_rules.specs.declared.letter.Letter.{Letter}
use Rattle.hpb_rules.specs.declared.limits.TheConstants.{MOST_LETTERS, MOST_READ_BYTES}
use Rattle.hpb_rules.specs.declared.reply.Reply.{Reply}
use Rattle.hpb_rules.specs.declared.reply.Reply.TheVariants as replies
use Rattle.hpb_rules.specs.Answer.{answer, history_after}
use Rattle.hpb_rules.specs.AuctionValue.{AuctionValue, Shows}
use Rattle.hpb_server.specs.declared.fault.SessionFault.{SessionFault}
use Rattle.hpb_server.specs.Desk.{no_memory}
use Rattle.hpb_server.specs.DeskLaws.{IsOfDesk, RepliesAfter, ShowsAfter}
use Rattle.hpb_server.specs.Serving.{Serves}
use Rattle.hpb_server.specs.Streams.{Streams}
use Rattle.hpb_server.specs.Ways.{Ways}
use Rattle.hpb_serve.specs.declared.stop.Stop.{Stop}
use Rattle.hpb_serve.specs.declared.stop.Stop.TheVariants.{Halted, Order}
use Rattle.hpb_serve.specs.Sessions.{Answers, GoesFrom, RepliesAt, ShowsAt, ShowsSeen, State, Stops, TellsAt, most_in_flight, over_at, rules_at, seen_by, told_by}
use Rattle.hpb_serve.specs.Stops.{refusal_of}

pub some_in_flight : (0 < most_in_flight) × (most_in_flight ≤ MOST_LETTERS)
some_in_flight = (omega arith, omega arith)

pub house_keeps_rules : (old new : State) (command : Command) (reply : Reply) → RepliesAt old command reply new → rules_at new ≡ rules_at old
house_keeps_rules old new command reply it = ap (λ (value : AuctionValue). value.rules) it.0.viewer.1

-- the desk itself gives the refusal of a stop
of_desk : (why : Stop) → IsOfDesk (replies.Refused (refusal_of why))
of_desk Halted = inr (inl refl)
of_desk Order = inr (inr (inr refl))

module _ (old new : State) (goes : GoesFrom old new) (opened : List Command) (shows : Shows old.viewing.opened opened) where
  still : Shows new.viewing.opened opened
  still = subst (λ (value : AuctionValue). Shows value opened) (sym goes.viewer.1) shows

  answered_after : (command : Command) (reply : Reply) → Answers old command reply new → RepliesAfter (rules_at old) (told_by opened old) command reply (TellsAt new)
  answered_after command reply it =
      let history : List Command = take it.given.at (seen_by opened new.viewing) in
      let fits = it.fits opened shows in
      let own : it.given.letter.command ≡ command = ap (λ (letter : Letter). letter.command) it.own in (
        history,
        fits.later,
        inl (
          it.replied ∙ fits.fits.reply ∙ ap (answer (rules_at old) history) own,
          (opened, still, sym (fits.told ∙ ap (history_after (rules_at old) history) own)),
        ),
      )

  stopped_after : (command : Command) (reply : Reply) → Stops old reply new → RepliesAfter (rules_at old) (told_by opened old) command reply (TellsAt new)
  stopped_after command reply it =
      (told_by opened new, goes.told opened, inr (subst IsOfDesk (sym it.replied) (of_desk it.why), (opened, still, refl)))

  shown_after : (shown : Option AuctionValue) → ShowsSeen shown new → ShowsAfter (told_by opened old) shown (TellsAt new)
  shown_after None it = (told_by opened new, goes.told opened, (opened, still, refl))
  shown_after (Some value) it = (told_by opened new, goes.told opened, (it.1 opened still).1, (opened, still, refl))

pub house_replies : (old new : State) (command : Command) (reply : Reply) (told : List Command) → RepliesAt old command reply new → TellsAt old told → RepliesAfter (rules_at old) told command reply (TellsAt new)
house_replies old new command reply told it tells =
    subst (λ (history : List Command). RepliesAfter (rules_at old) history command reply (TellsAt new)) (sym tells.2)
    (⊎_elim (answered_after old new it.0 tells.0 tells.1 command reply) (stopped_after old new it.0 tells.0 tells.1 command reply) it.1)

pub house_shows : (old new : State) (shown : Option AuctionValue) (told : List Command) → ShowsAt old shown new → TellsAt old told → ShowsAfter told shown (TellsAt new)
house_shows old new shown told it tells =
    subst (λ (history : List Command). ShowsAfter history shown (TellsAt new)) (sym tells.2) (shown_after old new it.0 tells.0 tells.1 shown it.2)

-- The ways of a desk of a session on a house.
abbrev pub house_ways : Ways State
house_ways = record {
  rules = rules_at;
  over = over_at;
  tells = TellsAt;
  asks = RepliesAt;
  looks = ShowsAt;
  most = most_in_flight;
  takes_memory = no_memory;
  waits = true;
  most_is_some = some_in_flight;
  rules_stay = house_keeps_rules;
  replies_go_on = house_replies;
  shows_go_on = house_shows;
}

-- Lines were answered from one state to another by a desk whose answers fit. The session ended so.
abbrev pub ServesLines : (before after : Streams) (old new : State) → Result ⊤ SessionFault → Type 0
ServesLines before after old new end = Serves house_ways [] MOST_READ_BYTES before after old new end
