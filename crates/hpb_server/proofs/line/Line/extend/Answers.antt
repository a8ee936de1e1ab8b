use Rattle.std.proofs.Common.{◌+◌, length, take, sym, ap, ◌∙◌}
use Rattle.std.proofs.lemmas.List.{take_min}
use Rattle.hpb_server.proofs.Kept.{kept_more}
use Rattle.hpb_server.proofs.line.Line.extend.Goals as goal

pub returns : goal.returns
returns c =
    let added = c.copy_from_slice.ensures.after in
    let part = c.args.part.now in
    kept_more c.self.inside.bytes c.args.self.now part c.copy_from_slice.new.self c.self.inside.length _ _ c.self.view_is c.self.invariant c.self.told
    (added ∙ ap (λ i. take i part) c.min.ensures ∙ take_min _ part) (ap (λ xs. c.self.inside.length + length xs) (sym added))
