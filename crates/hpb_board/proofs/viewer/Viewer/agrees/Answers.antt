use Rattle.std.proofs.Common.{◌≡◌, ◌∙◌, ap, sym, subst, arith, length, List, IsTrue, nat_eq}
use Rattle.std.proofs.lemmas.Bool.Decides.{nat_tests}
use mathlib.Core.List.{IsPrefix}
use Rattle.hpb_rules.specs.declared.letter.Letter.{Letter}
use Rattle.hpb_board.specs.Publication.{Viewing}
use Rattle.hpb_rules.proofs.Prefixes.{prefix_same}
use Rattle.hpb_board.proofs.viewer.Viewer.agrees.Goals as goal

pub returns : goal.returns
returns c =
    let one = c.self.inside.ends.own in
    let two = c.other.inside.ends.own in
    let mine = ap (λ (v : Viewing). v.list) c.self.view_is in
    let theirs = ap (λ (v : Viewing). v.list) c.other.view_is in (
      λ yes.
          let both = c.learn.new.self.log in
          let this : IsPrefix one.trail.log both = subst (λ (l : List (List Letter)). IsPrefix l both) (ap (λ s. s.log) c.again-both.ensures) c.learn.ensures.2 in
          let h : IsTrue (nat_eq one.number two.number) = yes in
          let number : one.number ≡ two.number = grind (arith, nat_tests, h) in
          let long : length one.trail.log ≡ length two.trail.log = sym one.counted ∙ (number ∙ two.counted) in
          sym mine ∙ (prefix_same one.trail.log two.trail.log both this c.learn.ensures.3 long ∙ theirs),
      λ same.
          let long : length one.trail.log ≡ length two.trail.log = ap length (mine ∙ (same ∙ sym theirs)) in
          let number : one.number ≡ two.number = one.counted ∙ (long ∙ sym two.counted) in
          grind (arith, nat_tests, number),
    )
