-- Questions of any kind.
use Rattle.std.proofs.Common.{ℕ, ◌<◌, Bool, List, Option, sym, subst}
use Rattle.std.specs.Prelude.{Ok}
use Rattle.hpb_rules.specs.declared.command.Command.{Command}
use Rattle.hpb_rules.specs.declared.reply.Reply.{Reply}
use Rattle.hpb_rules.specs.declared.request.Request.{Request}
use Rattle.hpb_rules.specs.declared.request.Request.TheVariants as requests
use Rattle.hpb_rules.specs.Tree.{Rules}
use Rattle.hpb_rules.specs.AuctionValue.{AuctionValue}
use Rattle.hpb_wire.specs.Requests.{IsRequestOf}
use Rattle.hpb_server.specs.Desk.{HasPlaces}
use Rattle.hpb_server.specs.Serving.{AnswersLook, AnswersRequest}
use Rattle.hpb_server.specs.Session.{view_in, IsQuestion}
use Rattle.hpb_server.specs.Ways.{Ways}

-- an auction has a place for each thing that a question of its definition names
pub question_known : (definition shown : Rules) (request : Request) → IsQuestion (Ok request) → HasPlaces definition shown → IsRequestOf definition request → IsRequestOf shown request
question_known definition shown (requests.Command command) question places known = absurd question
question_known definition shown requests.Show question places known = tt
question_known definition shown (requests.Node place) question places known = subst (λ (count : ℕ). place < count) (sym places.0) known
question_known definition shown (requests.Who from) question places known = subst (λ (count : ℕ). from < count) (sym places.1) known

-- the auction that the desk shows gives its answer
pub question_answered : {State : Type 0} (ways : Ways State) {old new : State} {answer : List ℕ} (request : Request) → IsQuestion (Ok request)
    → AnswersLook ways (view_in request) old answer new → AnswersRequest ways old (Ok request) answer new
question_answered ways (requests.Command command) question looked = absurd question
question_answered ways requests.Show question looked = looked
question_answered ways (requests.Node place) question looked = looked
question_answered ways (requests.Who from) question looked = looked
