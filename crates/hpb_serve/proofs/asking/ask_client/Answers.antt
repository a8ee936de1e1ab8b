use Rattle.std.proofs.Common.{◌≡◌, ◌<◌, None, length, take, refl, ◌∙◌, arith}
use Rattle.hpb_server.specs.Desk.{AsksAll}
use Rattle.hpb_serve.specs.InFlight.{CameFrom}
use Rattle.hpb_serve.specs.Sessions.{DeskStands, State}
use Rattle.hpb_serve.proofs.InFlight.{HavePosted, all_answered, front_answered, posted_start, rest_refused}
use Rattle.hpb_serve.proofs.asking.ask_client.Given.{Over}
use Rattle.hpb_serve.proofs.asking.ask_client.Goals.{After-post_letters-posted, In_default}
use Rattle.hpb_serve.proofs.asking.ask_client.Goals as goal
use Rattle.hpb_serve.specs.Telling.{house_ways}

-- this many commands are posted
posted : (g : Over) (c : After-post_letters-posted g) (state : State) → DeskStands c.args.client.now None state
    → HavePosted state c.post_letters-posted.new.client (take c.post_letters-posted.result c.args.commands.now) c.post_letters-posted.result
posted g c state stands =
    let made = c.post_letters-posted.ensures in
    posted_start c.args.client.now c.post_letters-posted.new.client state c.args.commands.now c.post_letters-posted.result stands made.same made.ring made.posted made.most

-- all that were posted are answered
all_taken : (g : Over) (c : In_default g) (state : State) → DeskStands c.args.client.now None state
    → (next : State) × AsksAll house_ways state (take (length c.take_answers.new.replies) (take c.post_letters-posted.result c.args.commands.now)) c.take_answers.new.replies next
    × CameFrom next c.take_answers.new.client × (0 < length c.take_answers.new.replies → DeskStands c.take_answers.new.client None next)
    × (length c.take_answers.new.replies ≡ c.post_letters-posted.result)
all_taken g c state stands =
    let made = c.post_letters-posted.ensures in
    let start = posted_start c.args.client.now c.post_letters-posted.new.client state c.args.commands.now c.post_letters-posted.result stands made.same made.ring made.posted made.most in
    let taken = c.in_default.ensures.asked (take c.post_letters-posted.result c.args.commands.now) state start.1 start.0 in
    (taken.0, taken.1, taken.2, λ some. taken.3 some refl, (c.in_default.ensures.all refl).1 ∙ start.2)

-- one of those that were posted got no answer
pub returns-in-Some-clause-asked : goal.returns-in-Some-clause-asked
returns-in-Some-clause-asked g c state stands =
    let commands = c.args.commands.now in
    let count = c.post_letters-posted.result in
    let had = c.take_answers.new.replies in
    let start = posted g (goal.at.returns-in-Some-clause-asked g c).After-post_letters-posted state stands in
    let taken = c.in-Some.ensures.asked (take count commands) state start.1 start.0 in
    let fewer : length had < count = omega (arith, c.in-Some.ensures.fewer refl, start.2) in
    rest_refused state taken.0 c.take_answers.new.client c.in-Some.stop commands had c.refuse_rest.new.replies (omega (arith, fewer, c.post_letters-posted.ensures.most))
    (front_answered state taken.0 commands had count (omega (arith, fewer)) taken.1) taken.2 c.refuse_rest.ensures

-- all of them are answered, and one more could not be posted
pub returns-then-posted-commands-clause-asked : goal.returns-then-posted-commands-clause-asked
returns-then-posted-commands-clause-asked g c state stands =
    let commands = c.args.commands.now in
    let had = c.take_answers.new.replies in
    let taken = all_taken g (goal.at.returns-then-posted-commands-clause-asked g c).In_default state stands in
    rest_refused state taken.0 c.take_answers.new.client _ commands had c.refuse_rest-then-posted-commands.new.replies (omega (arith, taken.4, c.if-posted-commands.true))
    (front_answered state taken.0 commands had c.post_letters-posted.result (omega (arith, taken.4)) taken.1) taken.2 c.refuse_rest-then-posted-commands.ensures

-- all were posted, and are answered
pub returns-clause-asked : goal.returns-clause-asked
returns-clause-asked g c state stands =
    let taken = all_taken g (goal.at.returns-clause-asked g c).In_default state stands in (
      taken.0,
      all_answered state taken.0 c.args.commands.now c.take_answers.new.replies c.post_letters-posted.result taken.4 c.if-posted-commands.false taken.1,
      taken.3 (omega (arith, taken.4, c.if-posted-commands.false, c.requires.some)),
    )
