use Rattle.std.proofs.Common.{◌≡◌, ◌∙◌, length, ap, sym}
use Rattle.hpb_test_sessions.proofs.Only.{idle_only, one_begun, own_only}
use Rattle.hpb_test_sessions.proofs.one_session.run_started.Goals as goal

-- there is one client
pub only_client-requires : goal.only_client-requires
only_client-requires g c =
    ap (λ clients. length clients.items) c.named-house.ensures.clients ∙ one_begun c.args.started.eye c.args.started.clients.items c.args.started.eye.seats c.requires.begun ∙ c.requires.seats

-- it begins with nothing outstanding
pub run_threads-requires-clause-idle : goal.run_threads-requires-clause-idle
run_threads-requires-clause-idle g c = λ lives outlive.
    idle_only c.args.started.eye c.args.started.clients.items c.args.started.eye.seats c.requires.begun c.in-Some.client (ap (λ clients. clients.items) (sym c.named-house.ensures.clients) ∙ c.in-Some.ensures)

-- its report is the only one
pub close_house-requires : goal.close_house-requires
close_house-requires g c = λ report is.
    own_only g.J.Naming.clients c.in-Some.client report (sym c.requires.clients ∙ ap (λ clients. clients.items) (sym c.named-house.ensures.clients) ∙ c.in-Some.ensures) (c.in_ok-session.ensures report is)
