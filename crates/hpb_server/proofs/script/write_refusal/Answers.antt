use Rattle.std.proofs.Common.{ap, ◌∙◌, List, ℕ, ◌++◌}
use Rattle.hpb_rules.specs.Rendering.{refusal_text}
use Rattle.hpb_rules.specs.Text.{line_of}
use Rattle.hpb_server.proofs.Refusals.{refusal_cut, refusal_unwritten}
use Rattle.hpb_server.proofs.script.write_refusal.Goals as goal

pub returns-in_err-refuse : goal.returns-in_err-refuse
returns-in_err-refuse g c = refusal_unwritten _ c.args.refusal c.from_residual.result c.from_residual.ensures.1

pub returns-in_err-send : goal.returns-in_err-send
returns-in_err-send g c =
    refusal_cut _ _ c.args.refusal c.in_err-send.field-0.0 c.from_residual-in_err-send.result c.from_residual-in_err-send.ensures.1
    (c.in_ok-refuse.ensures ∙ ap (λ (xs : List ℕ). xs ++ line_of (refusal_text c.args.refusal)) c.requires) c.in_err-send.ensures.bytes
