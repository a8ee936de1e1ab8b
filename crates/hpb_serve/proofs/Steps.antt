-- Single steps of a desk: an answer taken, a command that gets none, and a look.
use Rattle.std.proofs.Common.{[], ◌≡◌, inl, inr, ℕ, suc, ◌≤◌, Bool, true, false, max, ◌++◌, take, Option, Some, None, refl, sym, ap, subst, ◌∙◌, arith, append_assoc, take_all}
use Rattle.std.specs.declared.alloc.Global.{Global}
use Rattle.std.specs.Prelude.{if◌then◌else◌}
use Rattle.std.proofs.lemmas.Bool.{eqb-true}
use Rattle.hpb_rules.specs.declared.command.Command.{Command}
use Rattle.hpb_rules.specs.declared.letter.Answer.{Answer}
use Rattle.hpb_rules.specs.declared.reply.Reply.{Reply}
use Rattle.hpb_rules.specs.declared.reply.Reply.TheVariants as replies
use Rattle.hpb_rules.specs.Answer.{history_after, is_reply_new}
use Rattle.hpb_rules.specs.AuctionValue.{AuctionValue, Shows}
use Rattle.hpb_rules.specs.Letters.{Fits}
use Rattle.hpb_rules.proofs.Lists.{append_nil, front_self, front_trans}
use Rattle.hpb_board.specs.Publication.{Viewing, answers_of, auction_of}
use Rattle.hpb_rings.specs.Marks.{greatest, with_reply}
use Rattle.hpb_rings.specs.declared.client.Client.{Client}
use Rattle.hpb_rings.specs.declared.slip.Slip.{Slip}
use Rattle.rtrb.specs.Ring.{SameProducer}
use Rattle.rtrb.specs.declared.AnyItems.{AnyItems}
use Rattle.rtrb.specs.declared.producer.Producer.{Producer}
use Rattle.hpb_serve.specs.declared.stop.Stop.{Stop}
use Rattle.hpb_serve.specs.InFlight.{CameFrom}
use Rattle.hpb_serve.specs.Sessions.{DeskStands, Follows, GoesFrom, IsToldBy, RepliesAt, ShowsAt, State, count_after, seen_by, told_by}
use Rattle.hpb_serve.specs.Stops.{refusal_of}
use Rattle.hpb_serve.proofs.Order.{count_later}
use Rattle.hpb_serve.proofs.Seen.{fits_after, fronts_of, seen_counted, seen_front, seen_shown, told_fits}

-- all commands that an answer counts are known by the mark after it
pub count_known : (mark : ℕ) (given : Answer) → count_after given ≤ greatest mark given
count_known mark given = by given.reply
  where
    number : (given : Answer) (n : ℕ) → (b : Bool) → is_reply_new given.at (replies.Ok n) ≡ b → (if b then suc given.at else given.at) ≤ max (max mark given.at) n
    number given n true new = let e : n ≡ suc given.at = eqb-true n (suc given.at) new in omega (arith, e)
    number given n false old = omega arith

    by : (reply : Reply) → (if is_reply_new given.at reply then suc given.at else given.at) ≤ with_reply (max mark given.at) reply
    by (replies.Ok n) = number given n (is_reply_new given.at (replies.Ok n)) refl
    by (replies.Refused refusal) = omega arith

-- a session that reports no fewer commands goes on
pub goes : (old new : State) → new.seat ≡ old.seat → SameProducer old.letters new.letters → Follows old.viewing new.viewing → old.told ≤ new.told → GoesFrom old new
goes old new seat letters follows more = record {
  seat = seat;
  letters = letters;
  viewer = follows;
  told = λ opened. fronts_of old.told new.told (seen_by opened old.viewing) (seen_by opened new.viewing) more (seen_front opened old.viewing new.viewing follows);
}

-- one ring, if nothing of it has changed
pub ring_kept : (first second : Producer Slip Global AnyItems) → second ≡ first → SameProducer first second
ring_kept first second same = subst (SameProducer first) (sym same) ((refl, refl, refl, refl), refl)

-- from the same end on
pub from_ring : (first same second : Producer Slip Global AnyItems) → first ≡ same → SameProducer same second → SameProducer first second
from_ring first same second is = subst (λ (letters : Producer Slip Global AnyItems). SameProducer letters second) (sym is)

-- and at each step
pub same_ring : (first second third : Producer Slip Global AnyItems) → SameProducer first second → SameProducer second third → SameProducer first third
same_ring first second third one two =
    ((two.0.0 ∙ one.0.0, two.0.1 ∙ one.0.1, two.0.2 ∙ one.0.2, two.0.3 ∙ one.0.3), two.1 ∙ one.1)

-- a viewer follows itself
pub follows_self : (viewing : Viewing) → Follows viewing viewing
follows_self viewing = (refl, refl, refl, ([], sym (append_nil viewing.list)))

-- a state goes on from itself, and going on twice is going on
pub goes_self : (state : State) → GoesFrom state state
goes_self state = record {
  seat = refl;
  letters = ((refl, refl, refl, refl), refl);
  viewer = follows_self state.viewing;
  told = λ opened. front_self (told_by opened state);
}

-- one viewer follows another that follows a third
pub follows_trans : (first second third : Viewing) → Follows first second → Follows second third → Follows first third
follows_trans first second third one two = (
  two.0 ∙ one.0,
  two.1 ∙ one.1,
  two.2 ∙ one.2,
  (one.3.0 ++ two.3.0, sym (append_assoc first.list one.3.0 two.3.0) ∙ ap (λ list. list ++ two.3.0) one.3.1 ∙ two.3.1),
)

pub goes_trans : (first second third : State) → GoesFrom first second → GoesFrom second third → GoesFrom first third
goes_trans first second third one two = record {
  seat = two.seat ∙ one.seat;
  letters = same_ring first.letters second.letters third.letters one.letters two.letters;
  viewer = follows_trans first.viewing second.viewing third.viewing one.viewer two.viewer;
  told = λ opened. front_trans (told_by opened first) (told_by opened second) (told_by opened third) (one.told opened) (two.told opened);
}

-- ---- a command with its reply, by the state that its client came from
module _ {M : Type 0} (state : State) (client : Client M) (came : CameFrom state client) where
  -- the state of a session once an answer is taken
  abbrev pub after_answer : Answer → State
  after_answer given = record { seat = client.seat; letters = client.letters; viewing = client.viewer; told = count_after given; stop = None }

  pub answered : (command : Command) (given : Answer) → given.letter ≡ record { seat = client.seat; command = command } → state.told ≤ given.at
      → IsToldBy (answers_of client.seat client.viewer) given → RepliesAt state command given.reply (after_answer given)
  answered command given own late told = (
    goes state (after_answer given) came.0 came.1 came.2 (omega (arith, late, count_later given)),
    inl (record {
      given = given;
      own = own ∙ ap (λ n. record { seat = n; command = command }) came.0;
      replied = refl;
      among = subst (λ n. IsToldBy (answers_of n client.viewer) given) came.0 told;
      fits = λ opened shows.
          let still : Shows client.viewer.opened opened = subst (λ (value : AuctionValue). Shows value opened) (sym came.2.1) shows in
          let fit = told_fits opened client.viewer client.seat given still told in
          record {
            fits = subst (λ (value : AuctionValue). Fits value.rules (seen_by opened client.viewer) given) came.2.1 fit;
            later = fronts_of state.told given.at (seen_by opened state.viewing) (seen_by opened client.viewer) late (seen_front opened state.viewing client.viewer came.2);
            told = sym (fits_after client.viewer.opened.rules (seen_by opened client.viewer) given fit)
                ∙ ap (λ (value : AuctionValue). history_after value.rules (take given.at (seen_by opened client.viewer)) given.letter.command) came.2.1;
          };
      before = came.4;
      after = refl;
    }),
  )

  -- its state once a command gets none
  abbrev pub after_stop : Stop → State
  after_stop why = record { seat = client.seat; letters = client.letters; viewing = client.viewer; told = state.told; stop = Some why }

  pub stopped : (command : Command) (why : Stop) → RepliesAt state command (replies.Refused (refusal_of why)) (after_stop why)
  stopped command why = (
    goes state (after_stop why) came.0 came.1 came.2 (omega arith),
    inr (record { why = why; before = inl came.4; after = refl; replied = refl }),
  )

  pub stopped_stands : (why : Stop) → DeskStands client (Some why) (after_stop why)
  stopped_stands why = (refl, refl, came.3, refl, refl)

module _ {M : Type 0} (old new : Client M) (stop : Option Stop) (state : State) (stands : DeskStands old stop state)
    (same : new.seat ≡ old.seat) (ring : SameProducer old.letters new.letters) (follows : Follows old.viewer new.viewer) where
  -- the viewer of the state is followed
  at : Follows state.viewing new.viewer
  at = subst (λ (v : Viewing). Follows v new.viewer) (sym stands.1) follows

  on_ring : SameProducer state.letters new.letters
  on_ring = from_ring state.letters old.letters new.letters stands.4 ring

  seated : new.seat ≡ state.seat
  seated = same ∙ sym stands.0

  -- a look at the published auction
  pub looked : (value : AuctionValue) → value ≡ auction_of new.viewer → new.mark ≡ max old.mark (auction_of new.viewer).count
      → (next : State) × ShowsAt state (Some value) next × DeskStands new stop next
  looked value is most =
      let count : ℕ = (auction_of new.viewer).count in
      let next : State = record { seat = new.seat; letters = new.letters; viewing = new.viewer; told = max state.told count; stop = stop } in (
        next,
        (
          goes state next seated on_ring at (omega arith),
          sym stands.3,
          (
            is,
            λ opened shows.
                let all : told_by opened next ≡ seen_by opened new.viewer = take_all next.told (seen_by opened new.viewer) (omega (arith, seen_counted opened new.viewer shows)) in (
                  all,
                  subst (λ (v : AuctionValue). Shows v (told_by opened next)) (sym is) (subst (Shows (auction_of new.viewer)) (sym all) (seen_shown opened new.viewer shows)),
                ),
          ),
        ),
        (refl, refl, omega (arith, stands.2, most), refl, refl),
      )

  -- a look when nothing is published any more
  pub looked_away : new.mark ≡ max old.mark (auction_of new.viewer).count → (next : State) × ShowsAt state None next × DeskStands new stop next
  looked_away most =
      let next : State = record { seat = new.seat; letters = new.letters; viewing = new.viewer; told = state.told; stop = stop } in
      (next, (goes state next seated on_ring at (omega arith), sym stands.3, tt), (refl, refl, omega (arith, stands.2, most), refl, refl))

-- a stop that is none of the reasons is `None`
pub none_of : (stop : Option Stop) → ((why : Stop) → stop ≡ Some why → ⊥) → stop ≡ None
none_of None never = refl
none_of (Some why) never = absurd (never why refl)
