use Rattle.std.proofs.Common.{◌≡◌, ◌<◌, ◌≤◌, Bool, true, false, List, [], ◌∷◌, length, refl, sym, ◌∙◌, arith, inl, inr}
use Rattle.hpb_rules.specs.declared.command.Command.{Command}
use Rattle.hpb_rules.specs.declared.limits.TheConstants.{MOST_LETTERS}
use Rattle.hpb_rules.specs.declared.reply.Reply.{Reply}
use Rattle.hpb_rules.specs.Tree.{Rules}
use Rattle.hpb_server.specs.Desk.{AsksAll}
use Rattle.hpb_server.specs.Ways.{Ways}
use Rattle.hpb_test_auction.proofs.rows_of_desks.BatchDeskDesk.ask.Goals as goal

-- the ways of this desk
abbrev batch_ways : Ways (Rules × Bool)
batch_ways = record {
  rules = λ state. state.0;
  over = λ state. state.1;
  tells = λ state told. ⊥;
  asks = λ old command reply new. new.0 ≡ old.0;
  looks = λ old shown new. Unit {0};
  most = MOST_LETTERS;
  takes_memory = true;
  waits = true;
  most_is_some = (omega arith, omega arith);
  rules_stay = λ old new command reply stays. stays;
  replies_go_on = λ old new command reply told asked tells. absurd tells;
  shows_go_on = λ old new shown told looked tells. absurd tells;
}

-- any replies will do, one for each command up to the one that ends the session
any_asked : {State : Type 0} (ways : Ways State) (old new : State) → ((command : Command) (reply : Reply) → ways.asks old command reply old) → ((command : Command) (reply : Reply) → ways.asks old command reply new)
    → ways.over old ≡ false → (commands : List Command) (replies : List Reply) → 0 < length replies → length replies ≤ length commands → (length replies < length commands → ways.over new ≡ true) → AsksAll ways old commands replies new
any_asked ways old new stays becomes goes [] replies some each ends = absurd (omega (arith, some, each))
any_asked ways old new stays becomes goes (command ∷ more) [] some each ends = absurd (omega (arith, some))
any_asked ways old new stays becomes goes (command ∷ []) (reply ∷ []) some each ends = inr (goes, reply, [], new, becomes command reply, (refl, refl), refl)
any_asked ways old new stays becomes goes (command ∷ other ∷ more) (reply ∷ []) some each ends = inr (goes, reply, [], new, becomes command reply, inl (ends (omega arith), refl, refl), refl)
any_asked ways old new stays becomes goes (command ∷ more) (reply ∷ second ∷ rest) some each ends =
    inr (goes, reply, second ∷ rest, old, stays command reply, any_asked ways old new stays becomes goes more (second ∷ rest) (omega arith) (omega (arith, each)) (λ fewer. ends (omega (arith, fewer))), refl)

over_asked : {State : Type 0} (ways : Ways State) (old : State) (commands : List Command) (replies : List Reply) → ways.over old ≡ true → replies ≡ [] → AsksAll ways old commands replies old
over_asked ways old [] replies is none = (refl, none)
over_asked ways old (command ∷ more) replies is none = inl (is, refl, none)

pub returns-then-self-clause-asked : goal.returns-then-self-clause-asked
returns-then-self-clause-asked c = λ state at. (state, over_asked batch_ways state c.args.commands.now c.new.result (at.1 ∙ c.if-self.true) c.new.ensures, at)

pub returns-then-len-clause-asked : goal.returns-then-len-clause-asked
returns-then-len-clause-asked c = λ state at. (
  (state.0, true),
  any_asked batch_ways state (state.0, true) (λ command reply. refl) (λ command reply. refl) (at.1 ∙ c.if-self.false) c.args.commands.now c.apply_some-replies.result
      (c.apply_some-replies.ensures.some c.requires.some) c.apply_some-replies.ensures.each (λ fewer. refl),
  (at.0 ∙ sym c.apply_some-replies.ensures.rules, refl),
)

pub returns-clause-asked : goal.returns-clause-asked
returns-clause-asked c = λ state at. (
  (state.0, _),
  any_asked batch_ways state _ (λ command reply. refl) (λ command reply. refl) (at.1 ∙ c.if-self.false) c.args.commands.now c.apply_some-replies.result
      (c.apply_some-replies.ensures.some c.requires.some) c.apply_some-replies.ensures.each (λ fewer. absurd (omega (arith, fewer, c.if-len.false, c.len-3.ensures.value, c.len-4.ensures.value))),
  (at.0 ∙ sym c.apply_some-replies.ensures.rules, refl),
)
