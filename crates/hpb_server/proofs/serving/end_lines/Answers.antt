use Rattle.std.proofs.Common.{◌≡◌, ℕ, Bool, false, List, [], ◌++◌, refl, sym, ap, subst, ◌∙◌}
use Rattle.std.specs.Prelude.{if◌then◌else◌}
use Rattle.std.proofs.KnownBytes.{Appends-nil}
use Rattle.hpb_rules.specs.Rendering.{refusal_text}
use Rattle.hpb_rules.specs.declared.refusal.Refusal.TheVariants as refusals
use Rattle.hpb_rules.specs.Text.{unfinished_text}
use Rattle.hpb_server.specs.Session.{PassesLine}
use Rattle.hpb_server.proofs.Passing.{line_refused, sent_passes}
use Rattle.hpb_server.proofs.serving.end_lines.Goals as goal

-- the text of a line that has a byte
filled : (b : Bool) → b ≡ false → unfinished_text ≡ (if b then [] else unfinished_text)
filled b is = sym (ap (λ (x : Bool). if x then [] else unfinished_text) is)

pub returns-in_err-refuse : goal.returns-in_err-refuse
returns-in_err-refuse g c =
    let writer = g.W.Write.contents c.args.writer.now in
    subst (λ (out : List ℕ). PassesLine writer writer out [] c.from_residual.result) (filled _ (sym c.is_empty.ensures ∙ c.if-is_empty.false))
    (line_refused writer writer {bytes = []} {output = []} (refusal_text refusals.Line) [] c.from_residual.result c.from_residual.ensures.1 refl (Appends-nil writer))

pub returns : goal.returns
returns g c =
    let writer = g.W.Write.contents c.args.writer.now in
    subst (λ (out : List ℕ). PassesLine writer (g.W.Write.contents c.send.new.writer) out [] c.send.result) (filled _ (sym c.is_empty.ensures ∙ c.if-is_empty.false))
    (sent_passes 1 false writer (g.W.Write.contents c.send.new.writer) c.send.result (c.in_ok-refuse.ensures ∙ ap (λ (xs : List ℕ). xs ++ unfinished_text) c.requires) c.send.ensures.bytes refl)
