use Rattle.std.proofs.Common.{◌≡◌, ◌+◌, ◌<◌, ◌++◌, ◌∷◌, length, get_or, take, refl, sym, ap, subst, ◌∙◌, arith}
use Rattle.std.specs.Prelude.{slice_range}
use Rattle.hpb_server.specs.declared.input.TheConstants.{LINE_FEED}
use Rattle.hpb_server.specs.Reading.{Pending}
use Rattle.hpb_server.proofs.Cut.{cut_part}
use Rattle.hpb_server.proofs.input.Input.skip_line.Goals as goal

pub returns : goal.returns
returns c =
    let i = c.self.inside in
    let chunk = i.chunk.items in
    let n = c.args.size in
    let unread = ap (λ (p : Pending). p.unread) c.self.view_is in
    record {
      parts = cut_part chunk chunk _ i.start i.end n _ refl unread (subst (λ xs. n < length xs) (sym unread) c.requires.0) (ap (λ xs. get_or xs n 0) unread ∙ c.requires.1)
          ∙ ap (λ xs. take n xs ++ LINE_FEED ∷ slice_range chunk (i.start + (n + 1)) i.end) unread
          ∙ ap (λ k. take n c.args.self.now.unread ++ LINE_FEED ∷ slice_range chunk k i.end) (let next : i.start + (n + 1) ≡ i.start + n + 1 = omega arith in next);
      nothing_read = ap (λ (p : Pending). p.budget) c.self.view_is;
    }
