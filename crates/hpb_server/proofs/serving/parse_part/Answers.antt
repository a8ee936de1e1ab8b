use Rattle.std.proofs.Common.{◌≡◌, ℕ, [], ◌++◌, List, take, sym, ap, ◌∙◌}
use Rattle.hpb_rules.specs.Lines.{request_of}
use Rattle.hpb_rules.proofs.TextLaws.{request_of_front}
use Rattle.hpb_server.specs.declared.line.TheConstants.{KEPT_BYTES}
use Rattle.hpb_server.proofs.Kept.{none_kept}
use Rattle.hpb_server.proofs.serving.parse_part.Goals as goal

-- no byte was kept before of a line that is whole in the chunk
pub returns-then-is_empty-clause-value : goal.returns-then-is_empty-clause-value
returns-then-is_empty-clause-value c =
    let rules = c.args.definition.now in
    let part = c.args.part.now in
    let none : c.args.line.now ≡ [] = none_kept c.args.line.now (sym c.is_empty.ensures ∙ c.if-is_empty.true) in
    c.parse_line.ensures.value
    ∙ sym (request_of_front rules part)
    ∙ ap (λ (xs : List ℕ). request_of rules (take KEPT_BYTES (xs ++ part))) (sym none)
