use Rattle.std.proofs.Common.{◌≡◌, ◌∙◌, length, sym, subst}
use Rattle.hpb_server.specs.Desk.{AsksAll}
use Rattle.hpb_serve.specs.InFlight.{refused_after}
use Rattle.hpb_serve.specs.Sessions.{RepliesAt, over_at}
use Rattle.hpb_serve.proofs.InFlight.{asks_stopped}
use Rattle.hpb_serve.proofs.Steps.{none_of}
use Rattle.hpb_serve.proofs.desk.HouseDesk.reply.Goals as goal
use Rattle.hpb_serve.specs.Telling.{house_ways}

-- a desk that has stopped stays as it is
pub returns-in-Some-clause-replied : goal.returns-in-Some-clause-replied
returns-in-Some-clause-replied g c state stands =
    let commands = c.args.commands.now in
    let why = c.in-Some.stop in
    let refused : c.refuse_later.result ≡ refused_after why (length commands) = rw c.len.ensures.value at c.refuse_later.ensures in (
      state,
      subst (λ given. AsksAll house_ways state commands given state) (sym refused) (asks_stopped state commands why (stands.3 ∙ c.in-Some.is)),
      stands,
    )

pub returns-clause-replied : goal.returns-clause-replied
returns-clause-replied g c state stands =
    let none = none_of c.args.self.now.stop c.in_default.not-Some in
    rw c.as_slice.ensures.value at (c.ask_client-self.ensures.asked state (stands.0, stands.1, stands.2, stands.3 ∙ none, stands.4))
