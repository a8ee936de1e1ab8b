-- The state of a session whose auction is kept on a device, its replies, and the auction that it shows.
use Rattle.std.specs.Prelude.{◌≡◌, ◌≢◌, ◌⊎◌, ◌<◌, ◌≤◌, ℕ, suc, Bool, true, false, List, Option, Some}
use Rattle.std.proofs.Common.{sym, ap, subst, ◌∙◌, inl, inr, arith}
use Rattle.hpb_rules.specs.declared.command.Command.{Command}
use Rattle.hpb_rules.specs.declared.limits.TheConstants.{MOST_LETTERS}
use Rattle.hpb_rules.specs.declared.refusal.Refusal.TheVariants as refusals
use Rattle.hpb_rules.specs.declared.reply.Reply.{Reply}
use Rattle.hpb_rules.specs.declared.reply.Reply.TheVariants as replies
use Rattle.hpb_rules.specs.Answer.{answer, history_after}
use Rattle.hpb_rules.specs.AuctionValue.{AuctionValue, Shows}
use Rattle.hpb_rules.specs.Machine.{Flight, Machine, at_rest}
use Rattle.hpb_rules.specs.Tree.{Rules}
use Rattle.hpb_rules.proofs.Lists.{front_self}
use Rattle.hpb_disk.specs.declared.disk.Disk.{Ghosts}
use Rattle.hpb_engine.specs.declared.engine.Engine.{Engine}
use Rattle.hpb_engine.specs.Keeping.{Keeps, Running}
use Rattle.hpb_server.specs.DeskLaws.{RepliesAfter, ShowsAfter}
use Rattle.hpb_server.specs.Ways.{Ways}

-- **Replies.**
--
-- The phases of a session. So far all commands were answered by the rules. Or the batch in which the device failed is
-- being answered, and this many of its commands have no answer yet. Or a command was answered behind that batch, or
-- without one.
pub data Phase : Type 0 where
  works : Phase
  failing : (left : ℕ) → Phase
  failed : Phase

-- How many commands of the batch that failed have no answer yet.
abbrev pub left_of : Phase → ℕ
left_of works = 0
left_of (failing left) = left
left_of failed = 0

-- The rules, the acknowledged commands, and how far the device has failed. Two things stay: how many of its calls had
-- failed when the session began, and whether the engine then counted as failed.
pub record State : Type 0 where
  pub rules : Rules
  pub history : List Command
  pub phase : Phase
  pub failures : ℕ
  pub had_failed : Bool

-- The reply to a command is one of three. By the rules: the command is acknowledged if they accept it. 91: it is the
-- first or the next of the batch in whose commit the device failed. 93: none of that batch is left, or there was none.
-- After the first 91 or 93 no command is answered by the rules.
abbrev pub RepliesAt : State → Command → Reply → State → Type 0
RepliesAt old command reply new =
    ((old.phase ≡ works) × (reply ≡ answer old.rules old.history command) × (new ≡ record old { history = history_after old.rules old.history command }))
    ⊎ ((left : ℕ) × (((old.phase ≡ works) × (left < MOST_LETTERS)) ⊎ (old.phase ≡ failing (suc left))) × (reply ≡ replies.Refused refusals.Device) × (new ≡ record old { phase = failing left }))
    ⊎ ((left_of old.phase ≡ 0) × (reply ≡ replies.Refused refusals.Failed) × (new ≡ record old { phase = failed }))

-- The auction after the acknowledged commands is shown, without a batch in flight. Nothing is shown until all commands
-- of a batch that failed are answered.
abbrev pub ShowsAt : State → Option AuctionValue → State → Type 0
ShowsAt old shown new = (value : AuctionValue) × (shown ≡ Some value) × (value.rules ≡ old.rules) × Shows value old.history × (new ≡ old) × (left_of old.phase ≡ 0)

-- The histories that a session reports are the acknowledged commands.
abbrev pub TellsAt : State → List Command → Type 0
TellsAt state told = told ≡ state.history

pub some_letters : (0 < MOST_LETTERS) × (MOST_LETTERS ≤ MOST_LETTERS)
some_letters = (omega arith, omega arith)

pub device_keeps_rules : (old new : State) (command : Command) (reply : Reply) → RepliesAt old command reply new → new.rules ≡ old.rules
device_keeps_rules old new command reply (inl it) = ap (λ (state : State). state.rules) it.2
device_keeps_rules old new command reply (inr (inl it)) = ap (λ (state : State). state.rules) it.3
device_keeps_rules old new command reply (inr (inr it)) = ap (λ (state : State). state.rules) it.2

pub device_replies : (old new : State) (command : Command) (reply : Reply) (told : List Command) → RepliesAt old command reply new → TellsAt old told → RepliesAfter old.rules told command reply (TellsAt new)
device_replies old new command reply told (inl it) tells = (
  told,
  front_self told,
  inl (
    it.1 ∙ ap (λ (history : List Command). answer old.rules history command) (sym tells),
    ap (λ (history : List Command). history_after old.rules history command) tells ∙ sym (ap (λ (state : State). state.history) it.2),
  ),
)
device_replies old new command reply told (inr (inl it)) tells =
    (told, front_self told, inr (inr (inr (inl it.2)), tells ∙ sym (ap (λ (state : State). state.history) it.3)))
device_replies old new command reply told (inr (inr it)) tells =
    (told, front_self told, inr (inr (inl it.1), tells ∙ sym (ap (λ (state : State). state.history) it.2)))

pub device_shows : (old new : State) (shown : Option AuctionValue) (told : List Command) → ShowsAt old shown new → TellsAt old told → ShowsAfter told shown (TellsAt new)
device_shows old new shown told it tells =
    subst (λ (s : Option AuctionValue). ShowsAfter told s (TellsAt new)) (sym it.1)
    (told, front_self told, subst (λ (history : List Command). Shows it.0 history) (sym tells) it.3, tells ∙ sym (ap (λ (state : State). state.history) it.4))

-- The ways of a desk of a device. It never ends a session.
abbrev pub device_ways : Ways State
device_ways = record {
  rules = λ state. state.rules;
  over = λ state. false;
  tells = TellsAt;
  asks = RepliesAt;
  looks = ShowsAt;
  most = MOST_LETTERS;
  takes_memory = true;
  waits = true;
  most_is_some = some_letters;
  rules_stay = device_keeps_rules;
  replies_go_on = device_replies;
  shows_go_on = device_shows;
}

-- **The state of an engine.** An engine is at a state if the machine that it keeps has the acknowledged commands, and
-- nothing in flight unless the device failed. It counts as failed only if it did at the start, or if a call of the
-- device has failed since. Each command of the batch that failed has its answer.
pub record IsAt (run : Running) (state : State) : Type 0 where
  pub machine : Machine
  pub keeps : Keeps run machine
  pub rules : run.progress.committed.rules ≡ state.rules
  pub acknowledged : machine.acknowledged ≡ state.history
  pub rests : state.phase ≡ works → machine ≡ at_rest state.history
  pub stopped : state.phase ≢ works → run.failed ≡ true
  -- While a batch that failed is being answered, it is in flight: 91 tells of a batch that was taken.
  pub flown : (left : ℕ) → state.phase ≡ failing left → (flight : Flight) × (machine.flight ≡ Some flight)
  pub cause : run.failed ≡ true → (state.had_failed ≡ true) ⊎ (state.failures < run.device.failures)
  pub answered : left_of state.phase ≡ 0

-- The state at the start of a session, and at the start of one over an engine that keeps a history.
abbrev pub at_start : Rules → List Command → (failures : ℕ) (had_failed : Bool) → State
at_start rules history failures had_failed = record { rules = rules; history = history; phase = works; failures = failures; had_failed = had_failed }

abbrev pub start_of : {D : Type 0} {disk : Ghosts D} → Engine D disk → List Command → State
start_of {D} {disk} engine history = at_start engine.progress.committed.rules history (disk.device engine.disk).failures engine.failed
