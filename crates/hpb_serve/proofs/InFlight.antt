-- Commands that are sent together: letters that wait, answers that are taken, and the commands that get none.
use Rattle.std.proofs.Common.{[], ◌≡◌, inl, inr, ℕ, zero, suc, ◌+◌, ◌-◌, ◌<◌, ◌≤◌, true, false, List, ◌∷◌, ◌++◌, length, take, drop, slice_get, Some, None, refl, sym, ap, subst, ◌∙◌, arith, add-one, take_all}
use Rattle.std.proofs.lemmas.Bool.{false≢true}
use Rattle.std.proofs.lemmas.List.{length-drop, length-map, length-take-le, take-append-drop, take-take}
use Rattle.rtrb.specs.Ring.{SameProducer}
use Rattle.hpb_rules.specs.declared.command.Command.{Command}
use Rattle.hpb_rules.specs.declared.letter.Answer.{Answer}
use Rattle.hpb_rules.specs.declared.reply.Reply.{Reply}
use Rattle.hpb_rules.specs.declared.reply.Reply.TheVariants as replies
use Rattle.hpb_board.specs.Publication.{Viewing, answers_of}
use Rattle.hpb_rings.specs.Taking.{IsForOldest}
use Rattle.hpb_rings.specs.declared.client.Client.{Client}
use Rattle.hpb_rings.specs.declared.waiting.Waiting.{Waiting}
use Rattle.hpb_server.specs.Desk.{AsksAll}
use Rattle.hpb_serve.specs.declared.stop.Stop.{Stop}
use Rattle.hpb_serve.specs.declared.stop.Stop.TheVariants.{Halted, Order}
use Rattle.hpb_serve.specs.InFlight.{AwaitsAfter, CameFrom, HasLooked, HasTaken, refused_after, refused_by, waiting_for}
use Rattle.hpb_serve.specs.Sessions.{DeskStands, Follows, State, count_after, over_at}
use Rattle.hpb_serve.specs.Stops.{is_over, refusal_of}
use Rattle.hpb_serve.proofs.Order.{next_later}
use Rattle.hpb_serve.proofs.Steps.{after_answer, after_stop, answered, count_known, follows_self, follows_trans, from_ring, goes_self, ring_kept, same_ring, stopped, stopped_stands}
use Rattle.hpb_serve.specs.Telling.{house_ways}

-- ---- commands that are sent one after another
-- commands, and then more
pub asks_then : (commands more : List Command) (given others : List Reply) (old mid new : State)
    → AsksAll house_ways old commands given mid → over_at mid ≡ false → AsksAll house_ways mid more others new → AsksAll house_ways old (commands ++ more) (given ++ others) new
asks_then [] more given others old mid new asked goes_on then =
    subst (λ (front : List Reply). AsksAll house_ways old more (front ++ others) new) (sym asked.1)
    (subst (λ (state : State). AsksAll house_ways state more others new) asked.0 then)
asks_then (command ∷ commands) more given others old mid new (inl over) goes_on then = absurd (false≢true (sym goes_on ∙ ap over_at over.1 ∙ over.0))
asks_then (command ∷ commands) more given others old mid new (inr asked) goes_on then =
    inr (asked.0, asked.1, asked.2 ++ others, asked.3, asked.4, asks_then commands more asked.2 others asked.3 mid new asked.5 goes_on then, ap (λ (l : List Reply). l ++ others) asked.6)

-- no replies once the session is over
pub asks_none : (state : State) (commands : List Command) → over_at state ≡ true → AsksAll house_ways state commands [] state
asks_none state [] over = (refl, refl)
asks_none state (command ∷ commands) over = inl (over, refl, refl)

-- all are refused once the client is halted
pub asks_halted : (state : State) (commands : List Command) → state.stop ≡ Some Halted → AsksAll house_ways state commands (refused_by Halted (length commands)) state
asks_halted state [] is = (refl, refl)
asks_halted state (command ∷ commands) is = inr (
  ap is_over is,
  replies.Refused (refusal_of Halted),
  refused_by Halted (length commands),
  state,
  (goes_self state, inr (record { why = Halted; before = inr is; after = is; replied = refl })),
  asks_halted state commands is,
  refl,
)

-- and a desk that has stopped stays as it is
pub asks_stopped : (state : State) (commands : List Command) (why : Stop) → state.stop ≡ Some why → AsksAll house_ways state commands (refused_after why (length commands)) state
asks_stopped state commands Halted is = asks_halted state commands is
asks_stopped state commands Order is = asks_none state commands (ap is_over is)

-- ---- letters that wait
-- the oldest one, once `count` were taken
oldest_posted : (seat mark : ℕ) (commands : List Command) (count : ℕ) (given : Answer) → IsForOldest (drop count (waiting_for seat mark commands)) given
    → (command : Command) × (take (suc count) commands ≡ take count commands ++ command ∷ []) × (given.letter ≡ record { seat = seat; command = command })
oldest_posted seat mark [] zero given is = absurd is
oldest_posted seat mark [] (suc count) given is = absurd is
oldest_posted seat mark (command ∷ commands) zero given is = (command, refl, sym is.0)
oldest_posted seat mark (command ∷ commands) (suc count) given is =
    let rest = oldest_posted seat mark commands count given is in (rest.0, ap (λ (l : List Command). command ∷ l) rest.1, rest.2)

-- the answer to the first one was given after all commands that the client knew when they were posted
pub awaits_first : {M : Type 0} (client : Client M) (commands : List Command) (count : ℕ) → client.waiting.items ≡ waiting_for client.seat client.mark commands → count ≤ client.mark → AwaitsAfter client count
awaits_first client commands count waits known view given follows at oldest = by commands (subst (λ (ws : List Waiting). IsForOldest ws given) waits oldest)
  where
    by : (commands : List Command) → IsForOldest (waiting_for client.seat client.mark commands) given → count ≤ given.at
    by [] is = absurd is
    by (command ∷ commands) is = omega (arith, is.1, known)

-- and the answer to the next one after all commands of the answer before it
awaits_next : {M : Type 0} (client : Client M) (taken : ℕ) (given : Answer) → slice_get (answers_of client.seat client.viewer) taken ≡ Some given → client.taken ≡ taken + 1 → AwaitsAfter client (count_after given)
awaits_next client taken given at next view later follows behind oldest =
    next_later client.seat taken client.viewer view given later follows at (subst (λ n. slice_get (answers_of client.seat view) n ≡ Some later) next behind)

-- a client that posted the first `count` of these commands went on from the state of its session, and their letters
-- wait
abbrev pub HavePosted : {M : Type 0} (state : State) (client : Client M) (commands : List Command) (count : ℕ) → Type 0
HavePosted state client commands count = CameFrom state client × (client.waiting.items ≡ waiting_for client.seat client.mark commands) × (length client.waiting.items ≡ count)

pub posted_start : {M : Type 0} (old new : Client M) (state : State) (commands : List Command) (count : ℕ) → DeskStands old None state
    → (new.seat ≡ old.seat) × (new.viewer ≡ old.viewer) × (new.mark ≡ old.mark) → SameProducer old.letters new.letters
    → new.waiting.items ≡ waiting_for old.seat old.mark (take count commands) → count ≤ length commands
    → HavePosted state new (take count commands) count
posted_start old new state commands count stands same ring posted within = (
  (
    same.0 ∙ sym stands.0,
    from_ring state.letters old.letters new.letters stands.4 ring,
    subst (λ (viewing : Viewing). Follows state.viewing viewing) (stands.1 ∙ sym same.1) (follows_self state.viewing),
    omega (arith, stands.2, same.2),
    stands.3,
  ),
  posted ∙ ap (λ n. waiting_for n old.mark (take count commands)) (sym same.0) ∙ ap (λ n. waiting_for new.seat n (take count commands)) (sym same.2),
  ap length posted ∙ length-map (take count commands) (λ (command : Command). record { letter = record { seat = old.seat; command = command }; mark = old.mark })
      ∙ length-take-le count commands within,
)

-- ---- answers that are taken
-- without a look, and looks after looks
pub looked_self : {M : Type 0} (client : Client M) → HasLooked client client
looked_self client = (refl, refl, follows_self client.viewer, omega arith, λ halted. halted)

-- a client that kept all that a look may change
pub looked_aside : {M : Type 0} (old new : Client M) → new.seat ≡ old.seat → new.letters ≡ old.letters → new.viewer ≡ old.viewer → new.mark ≡ old.mark → (old.is_halted ≡ true → new.is_halted ≡ true) → HasLooked old new
looked_aside old new seat letters viewer mark stays = (
  seat,
  letters,
  subst (λ (viewing : Viewing). Follows old.viewer viewing) (sym viewer) (follows_self old.viewer),
  omega (arith, mark),
  stays,
)

pub looked_trans : {M : Type 0} (first second third : Client M) → HasLooked first second → HasLooked second third → HasLooked first third
looked_trans first second third one two = (
  two.0 ∙ one.0,
  two.1 ∙ one.1,
  follows_trans first.viewer second.viewer third.viewer one.2 two.2,
  omega (arith, one.3, two.3),
  λ halted. two.4 (one.4 halted),
)

-- a client that viewed and took goes on from the state that it came from
pub came_on : {M : Type 0} (state : State) (old new : Client M) → CameFrom state old → new.seat ≡ old.seat → SameProducer old.letters new.letters → Follows old.viewer new.viewer → old.mark ≤ new.mark → CameFrom state new
came_on state old new came seat letters follows mark =
    (seat ∙ came.0, same_ring state.letters old.letters new.letters came.1 letters, follows_trans state.viewing old.viewer new.viewer came.2 follows, omega (arith, came.3, mark), came.4)

-- a turn: asks whether it is halted, yields or sleeps, and looks
pub looked_turn : {M : Type 0} (first was asked rested new : Client M) → HasLooked first was → HasLooked was asked → HasLooked asked rested → HasLooked rested new → HasLooked first new
looked_turn first was asked rested new before a r l = looked_trans first was new before (looked_trans was asked new a (looked_trans asked rested new r l))

-- `count` of the letters that a client had waiting are answered
abbrev pub AreTaken : {M : Type 0} (first client : Client M) (count : ℕ) (given : List Reply) → Type 0
AreTaken first client count given =
    (commands : List Command) (state : State) → first.waiting.items ≡ waiting_for first.seat first.mark commands → CameFrom state first
    → (next : State) × AsksAll house_ways state (take count commands) given next × CameFrom next client × AwaitsAfter client next.told × (0 < count → DeskStands client None next)

pub none_taken : {M : Type 0} (client : Client M) (given : List Reply) → given ≡ [] → AreTaken client client 0 given
none_taken client given none commands state waits came = (state, (refl, none), came, awaits_first client commands state.told waits came.3, λ some. absurd (omega (arith, some)))

module _ {M : Type 0} (first old new : Client M) (count : ℕ) (given : Answer) (had : List Reply)
    (has : AreTaken first old count had) (waiting : old.waiting.items ≡ drop count first.waiting.items) (of : old.seat ≡ first.seat)
    (looked : HasLooked old new) (taken : HasTaken old new given) where
  pub one_taken : AreTaken first new (count + 1) (had ++ given.reply ∷ [])
  one_taken commands state waits came =
      let before = has commands state waits came in
      let mid : State = before.0 in
      let seat = looked.0 in
      let came_there : CameFrom mid new = came_on mid old new before.2 seat (ring_kept old.letters new.letters looked.1) looked.2 looked.3 in
      let posted = oldest_posted first.seat first.mark commands count given
      (subst (λ (ws : List Waiting). IsForOldest ws given) (waiting ∙ ap (λ (ws : List Waiting). drop count ws) waits) taken.1) in
      let own : given.letter ≡ record { seat = new.seat; command = posted.0 } = posted.2 ∙ ap (λ n. record { seat = n; command = posted.0 }) (sym (seat ∙ of)) in
      let late : mid.told ≤ given.at = before.3 new.viewer given looked.2 (subst (λ n. slice_get (answers_of n new.viewer) old.taken ≡ Some given) seat taken.0) taken.1 in
      let next : State = after_answer mid new came_there given in
      let one : AsksAll house_ways mid (posted.0 ∷ []) (given.reply ∷ []) next =
      inr (ap is_over before.2.4, given.reply, [], next, answered mid new came_there posted.0 given own late taken.2, (refl, refl), refl) in
      let stands : DeskStands new None next = (refl, refl, omega (arith, count_known old.mark given, taken.3), refl, refl) in (
        next,
        subst (λ (front : List Command). AsksAll house_ways state front (had ++ given.reply ∷ []) next) (sym (ap (λ n. take n commands) (add-one count) ∙ posted.1))
            (asks_then (take count commands) (posted.0 ∷ []) had (given.reply ∷ []) state mid next before.1 (ap is_over before.2.4) one),
        (refl, ring_kept new.letters new.letters refl, follows_self new.viewer, stands.2, refl),
        awaits_next new old.taken given taken.0 taken.4,
        λ some. stands,
      )

-- the commands answered among those that were posted are answered among all
pub front_answered : (state next : State) (commands : List Command) (had : List Reply) (count : ℕ) → length had ≤ count
    → AsksAll house_ways state (take (length had) (take count commands)) had next → AsksAll house_ways state (take (length had) commands) had next
front_answered state next commands had count within asked =
    subst (λ (front : List Command). AsksAll house_ways state front had next) (take-take (length had) count commands within) asked

-- and if they are all of them, all commands are answered
pub all_answered : (state next : State) (commands : List Command) (had : List Reply) (count : ℕ) → length had ≡ count → length commands ≤ count
    → AsksAll house_ways state (take (length had) (take count commands)) had next → AsksAll house_ways state commands had next
all_answered state next commands had count is all asked =
    subst (λ (front : List Command). AsksAll house_ways state front had next) (take_all (length had) commands (omega (arith, is, all)))
    (front_answered state next commands had count (omega (arith, is)) asked)

-- ---- commands that get no answer
refused_left : {M : Type 0} (state : State) (client : Client M) (came : CameFrom state client) (why : Stop) (commands : List Command) → 0 < length commands
    → AsksAll house_ways state commands (refused_by why (length commands)) (after_stop state client came why)
refused_left state client came why [] some = absurd (omega (arith, some))
refused_left state client came Halted (command ∷ commands) some = inr (
  ap is_over came.4,
  replies.Refused (refusal_of Halted),
  refused_by Halted (length commands),
  after_stop state client came Halted,
  stopped state client came command Halted,
  asks_halted (after_stop state client came Halted) commands refl,
  refl,
)
refused_left state client came Order (command ∷ commands) some = inr (
  ap is_over came.4,
  replies.Refused (refusal_of Order),
  [],
  after_stop state client came Order,
  stopped state client came command Order,
  asks_none (after_stop state client came Order) commands refl,
  refl,
)

-- the rest of the commands that were sent together, behind those that are answered
pub rest_refused : {M : Type 0} (state mid : State) (client : Client M) (why : Stop) (commands : List Command) (had : List Reply) (all : List Reply) → length had < length commands
    → AsksAll house_ways state (take (length had) commands) had mid → CameFrom mid client → all ≡ had ++ refused_by why (length commands - length had)
    → (next : State) × AsksAll house_ways state commands all next × DeskStands client (Some why) next
rest_refused state mid client why commands had all fewer asked came is =
    let left : List Command = drop (length had) commands in
    let counted : length left ≡ length commands - length had = length-drop (length had) commands in
    let next : State = after_stop mid client came why in (
      next,
      subst (λ (all : List Reply). AsksAll house_ways state commands all next) (sym (is ∙ ap (λ n. had ++ refused_by why n) (sym counted)))
          (subst (λ (commands : List Command). AsksAll house_ways state commands (had ++ refused_by why (length left)) next) (take-append-drop (length had) commands)
          (asks_then (take (length had) commands) left had (refused_by why (length left)) state mid next asked (ap is_over came.4) (refused_left mid client came why left (omega (arith, counted, fewer))))),
      stopped_stands mid client came why,
    )
