use Rattle.std.proofs.Common.{◌≡◌, ℕ, [], ◌++◌, List, take, sym, ap, ◌∙◌}
use Rattle.hpb_rules.specs.Lines.{request_of}
use Rattle.hpb_rules.proofs.TextLaws.{request_of_front}
use Rattle.hpb_server.specs.declared.line.TheConstants.{KEPT_BYTES}
use Rattle.hpb_server.proofs.Kept.{none_kept}
use Rattle.hpb_server.proofs.serving.next_request.Goals as goal

-- no byte was kept of the start of a line that is whole in the chunk
pub returns-in-Some-clause-value : goal.returns-in-Some-clause-value
returns-in-Some-clause-value g c =
    let rules = c.args.definition.now in
    let part = take c.in-Some.next.size c.args.input.now.unread in
    let none : c.args.line.now ≡ [] = none_kept c.args.line.now (sym c.is_empty.ensures ∙ c.if-is_empty.true) in
    c.in-Some.ensures.value
    ∙ ap (λ (xs : List ℕ). request_of rules (take c.in-Some.next.size xs)) c.unread.ensures
    ∙ sym (request_of_front rules part)
    ∙ ap (λ (xs : List ℕ). request_of rules (take KEPT_BYTES (xs ++ part))) (sym none)
