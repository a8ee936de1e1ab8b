-- The history that a session shows continues the one that its desk showed before.
use Rattle.std.proofs.Common.{ℕ, Bool, true, false, List, [], ◌∷◌, ◌++◌, reverse, length, Option, sym, subst, append-nil, ⊎_elim, inl, inr}
use Rattle.std.specs.Prelude.{Result, Ok, Err, Some, None, if◌then◌else◌, ⊤}
use Rattle.std.specs.List.{slice_split}
use Rattle.std.proofs.lemmas.List.{reverse-append, reverse-reverse}
use Rattle.hpb_rules.specs.declared.refusal.Refusal.{Refusal}
use Rattle.hpb_rules.specs.declared.command.Command.{Command}
use Rattle.hpb_rules.specs.declared.reply.Reply.{Reply}
use Rattle.hpb_rules.specs.declared.request.Request.{Request}
use Rattle.hpb_rules.specs.declared.request.Request.TheVariants as requests
use Rattle.hpb_rules.specs.Tree.{Rules}
use Rattle.hpb_rules.specs.Fronts.{IsFront}
use Rattle.hpb_rules.specs.Answer.{is_reply_new, answer_after, history_after}
use Rattle.hpb_rules.specs.AuctionValue.{AuctionValue}
use Rattle.hpb_rules.specs.Lines.{is_line_feed, request_of}
use Rattle.hpb_rules.proofs.Lists.{front_self, front_trans}
use Rattle.hpb_server.specs.declared.fault.SessionFault.{SessionFault}
use Rattle.hpb_server.specs.DeskLaws.{GoesOn, RepliesAfter, ShowsAfter}
use Rattle.hpb_server.specs.Streams.{Streams}
use Rattle.hpb_server.specs.Serving.{AnswersLook, AnswersRequest, AnswersLines, Serves}
use Rattle.hpb_server.specs.Ways.{Ways}

after_front : (b : Bool) (past : List Command) (asked : Command) → IsFront (reverse past) (reverse (if b then asked ∷ past else past))
after_front true past asked = (reverse (asked ∷ []), reverse-append (asked ∷ []) past)
after_front false past asked = ([], sym (append-nil (reverse past)))

-- the history after a command continues the one before it
command_goes : (rules : Rules) (history : List Command) (asked : Command) → IsFront history (history_after rules history asked)
command_goes rules history asked =
    subst (λ (front : List Command). IsFront front (history_after rules history asked)) (reverse-reverse history)
    (after_front (is_reply_new (length (reverse history)) (answer_after rules (reverse history) asked)) (reverse history) asked)

module _ {State : Type 0} (ways : Ways State) where
  reply_goes : (old new : State) (command : Command) (reply : Reply) (told : List Command) → RepliesAfter (ways.rules old) told command reply (ways.tells new) → GoesOn told (ways.tells new)
  reply_goes old new command reply told r = ⊎_elim
      (λ by_rules. (history_after (ways.rules old) r.0 command, front_trans told r.0 (history_after (ways.rules old) r.0 command) r.1 (command_goes (ways.rules old) r.0 command), by_rules.1))
      (λ of_desk. (r.0, r.1, of_desk.1))
      r.2

  shown_goes : (told : List Command) (shown : Option AuctionValue) (new : State) → ShowsAfter told shown (ways.tells new) → GoesOn told (ways.tells new)
  shown_goes told None new s = s
  shown_goes told (Some value) new s = (s.0, s.1, s.3)

  look_goes : (how : AuctionValue → List ℕ) (old new : State) (answer : List ℕ) (told : List Command) → AnswersLook ways how old answer new → ways.tells old told → GoesOn told (ways.tells new)
  look_goes how old new answer told h is = shown_goes told h.0 new (ways.shows_go_on old new h.0 told h.1 is)

  request_goes : (request : Result Request Refusal) (old new : State) (answer : List ℕ) (told : List Command) → AnswersRequest ways old request answer new → ways.tells old told → GoesOn told (ways.tells new)
  request_goes (Err refusal) old new answer told h is = (told, front_self told, subst (λ (d : State). ways.tells d told) (sym h.0) is)
  request_goes (Ok (requests.Command asked)) old new answer told h is = reply_goes old new asked h.0 told (ways.replies_go_on old new asked h.0 told h.1 is)
  request_goes (Ok requests.Show) old new answer told h is = look_goes _ old new answer told h is
  request_goes (Ok (requests.Node place)) old new answer told h is = look_goes _ old new answer told h is
  request_goes (Ok (requests.Who from)) old new answer told h is = look_goes _ old new answer told h is

  goes_trans : (told : List Command) (middle new : State) (first : GoesOn told (ways.tells middle)) → GoesOn first.0 (ways.tells new) → GoesOn told (ways.tells new)
  goes_trans told middle new first second = (second.0, front_trans told first.0 second.0 first.1 second.1, second.2)

  lines_go : (lines : List (List ℕ)) (old new : State) (text : List ℕ) (told : List Command) → AnswersLines ways old lines text new → ways.tells old told → GoesOn told (ways.tells new)
  lines_go [] old new text told h is = (told, front_self told, subst (λ (d : State). ways.tells d told) (sym h.0) is)
  lines_go (last ∷ []) old new text told h is = (told, front_self told, subst (λ (d : State). ways.tells d told) (sym h.0) is)
  lines_go (line ∷ following ∷ more) old new text told (inl ended) is = (told, front_self told, subst (λ (d : State). ways.tells d told) (sym ended.1) is)
  lines_go (line ∷ following ∷ more) old new text told (inr h) is =
      let first : GoesOn told (ways.tells h.3) = request_goes (request_of (ways.rules old) line) old h.3 h.1 told h.4 is in
      goes_trans told h.3 new first (lines_go (following ∷ more) h.3 new h.2 first.0 h.5 first.2)

  -- whatever the end of a session is
  pub session_goes : (unread : List ℕ) (budget : ℕ) (before after : Streams) (old new : State) (told : List Command) (result : Result ⊤ SessionFault)
      → Serves ways unread budget before after old new result → ways.tells old told → GoesOn told (ways.tells new)
  session_goes unread budget before after old new told (Ok done) s is = lines_go (slice_split is_line_feed (unread ++ s.taken)) old new s.text told s.answers is
  session_goes unread budget before after old new told (Err fault) (inl never) is = (told, front_self told, subst (λ (d : State). ways.tells d told) (sym never.2) is)
  session_goes unread budget before after old new told (Err fault) (inr s) is = lines_go (slice_split is_line_feed s.done) old new s.text told s.answers is
