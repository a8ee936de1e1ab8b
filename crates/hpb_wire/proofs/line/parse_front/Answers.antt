use Rattle.std.proofs.Common.{◌≡◌, false, take, subst, sym, ap, ◌∙◌, arith}
use Rattle.std.specs.List.{All}
use Rattle.std.proofs.lemmas.List.{length-take-le}
use Rattle.hpb_rules.specs.Lines.{is_line_feed, looked_up, request_of}
use Rattle.hpb_wire.specs.Words.{bytes_of}
use Rattle.hpb_wire.proofs.Cutting.{spelled_whole}
use Rattle.hpb_wire.proofs.line.parse_front.Goals as goal

pub returns-clause-value : goal.returns-clause-value
returns-clause-value g c =
    let rules = c.args.definition.now in
    let line = c.in_ok-words.words.line in
    let long = length-take-le line.size line.bytes.now line.within in
    let lies : bytes_of line ≡ take line.size c.args.bytes.now = ap (take line.size) c.in_ok-words.ensures.line in
    let none = subst (All (λ b. is_line_feed b ≡ false)) (sym lies) c.in_ok-words.ensures.front.2 in
    c.read_spaced.ensures.value
    ∙ ap (looked_up rules) (sym (spelled_whole (bytes_of line) (omega (arith, long, c.in_ok-words.ensures.short)) none))
    ∙ ap (request_of rules) lies
