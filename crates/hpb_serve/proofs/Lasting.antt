-- The facts that each reply and each look keep last to the end of a session.
use Rattle.std.proofs.Common.{[], ◌≡◌, ℕ, ◌≤◌, Bool, List, ◌∷◌, ◌++◌, Option, None, refl, sym, ap, subst, inl, inr, arith, take_all}
use Rattle.std.specs.Prelude.{Result, Ok, Err, ⊤}
use Rattle.std.specs.List.{slice_split}
use Rattle.hpb_rules.specs.declared.command.Command.{Command}
use Rattle.hpb_rules.specs.declared.refusal.Refusal.{Refusal}
use Rattle.hpb_rules.specs.declared.reply.Reply.{Reply}
use Rattle.hpb_rules.specs.declared.request.Request.{Request}
use Rattle.hpb_rules.specs.declared.request.Request.TheVariants as requests
use Rattle.hpb_rules.specs.AuctionValue.{AuctionValue, Shows}
use Rattle.hpb_rules.specs.Fronts.{IsFront}
use Rattle.hpb_rules.specs.Lines.{is_line_feed, request_of}
use Rattle.hpb_server.specs.declared.fault.SessionFault.{SessionFault}
use Rattle.hpb_board.specs.Publication.{auction_of}
use Rattle.hpb_rings.specs.declared.client.Client.{Client}
use Rattle.hpb_server.specs.Streams.{Streams}
use Rattle.hpb_server.specs.Ways.{Ways}
use Rattle.hpb_server.specs.Serving.{AnswersLook, AnswersRequest, AnswersLines, Serves}
use Rattle.hpb_serve.specs.declared.stop.Stop.{Stop}
use Rattle.hpb_serve.specs.Ends.{TellsOn}
use Rattle.hpb_serve.specs.Sessions.{DeskStands, GoesFrom, State, at_start, seen_by, told_by}
use Rattle.hpb_serve.specs.Telling.{ServesLines, house_ways}
use Rattle.hpb_serve.proofs.Seen.{seen_counted}
use Rattle.hpb_serve.proofs.Steps.{goes_self, goes_trans}

module _ {S : Type 0} (ways : Ways S) (Keeps : S → Type 0)
    (replies : (old new : S) (command : Command) (reply : Reply) → ways.asks old command reply new → Keeps old → Keeps new)
    (shows : (old new : S) (shown : Option AuctionValue) → ways.looks old shown new → Keeps old → Keeps new) where
  same : (old new : S) → new ≡ old → Keeps old → Keeps new
  same old new e is = subst Keeps (sym e) is

  look_keeps : (how : AuctionValue → List ℕ) (old new : S) (answer : List ℕ) → AnswersLook ways how old answer new → Keeps old → Keeps new
  look_keeps how old new answer h is = shows old new h.0 h.1 is

  request_keeps : (request : Result Request Refusal) (old new : S) (answer : List ℕ) → AnswersRequest ways old request answer new → Keeps old → Keeps new
  request_keeps (Err refusal) old new answer h is = same old new h.0 is
  request_keeps (Ok (requests.Command asked)) old new answer h is = replies old new asked h.0 h.1 is
  request_keeps (Ok requests.Show) old new answer h is = look_keeps _ old new answer h is
  request_keeps (Ok (requests.Node place)) old new answer h is = look_keeps _ old new answer h is
  request_keeps (Ok (requests.Who from)) old new answer h is = look_keeps _ old new answer h is

  lines_keep : (lines : List (List ℕ)) (old new : S) (text : List ℕ) → AnswersLines ways old lines text new → Keeps old → Keeps new
  lines_keep [] old new text h is = same old new h.0 is
  lines_keep (last ∷ []) old new text h is = same old new h.0 is
  lines_keep (line ∷ following ∷ more) old new text (inl ended) is = same old new ended.1 is
  lines_keep (line ∷ following ∷ more) old new text (inr h) is =
      lines_keep (following ∷ more) h.3 new h.2 h.5 (request_keeps (request_of (ways.rules old) line) old h.3 h.1 h.4 is)

  -- whatever ends a session
  pub session_keeps : (unread : List ℕ) (budget : ℕ) (before after : Streams) (old new : S) (result : Result ⊤ SessionFault)
      → Serves ways unread budget before after old new result → Keeps old → Keeps new
  session_keeps unread budget before after old new (Ok done) s is = lines_keep (slice_split is_line_feed (unread ++ s.taken)) old new s.text s.answers is
  session_keeps unread budget before after old new (Err fault) (inl never) is = same old new never.2 is
  session_keeps unread budget before after old new (Err fault) (inr s) is = lines_keep (slice_split is_line_feed s.done) old new s.text s.answers is

-- the result of a session on a house
module _ {M : Type 0} (client : Client M) (next : State) (goes : GoesFrom (at_start client) next) where
  start_told : (opened : List Command) → Shows client.viewer.opened opened → told_by opened (at_start client) ≡ seen_by opened client.viewer
  start_told opened shows = take_all (auction_of client.viewer).count (seen_by opened client.viewer) (omega (arith, seen_counted opened client.viewer shows))

  -- the commands that it reports at last go on from those that its viewer showed at the start
  pub tells_on : TellsOn client.viewer next
  tells_on opened shows = (
    told_by opened next,
    subst (λ (history : List Command). IsFront history (told_by opened next)) (start_told opened shows) (goes.told opened),
    (opened, subst (λ (value : AuctionValue). Shows value opened) (sym goes.viewer.1) shows, refl),
  )

pub house_session : {M : Type 0} (client : Client M) (before after : Streams) (next : State) (result : Result ⊤ SessionFault) → ServesLines before after (at_start client) next result → GoesFrom (at_start client) next
house_session client before after next result serves =
    session_keeps house_ways (GoesFrom (at_start client))
    (λ old new command reply it is. goes_trans (at_start client) old new is it.0)
    (λ old new shown it is. goes_trans (at_start client) old new is it.0)
    _ _ before after (at_start client) next result serves (goes_self (at_start client))

-- a desk with a client is at the start
pub starts : {M : Type 0} (client own : Client M) (stop : Option Stop) → own ≡ client → stop ≡ None → DeskStands own stop (at_start client)
starts client own stop same none =
    (ap (λ c. c.seat) (sym same), ap (λ c. c.viewer) (sym same), subst (λ c. (auction_of client.viewer).count ≤ c.mark) (sym same) client.marked, sym none, ap (λ c. c.letters) (sym same))
