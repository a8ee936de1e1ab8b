use Rattle.std.proofs.Common.{◌≡◌, ◌∙◌, List, [], ◌++◌, sym, subst, ap}
use Rattle.std.specs.Prelude.{vec_len}
use Rattle.hpb_rules.specs.declared.letter.Letter.{Letter}
use Rattle.hpb_rings.specs.Gathering.{gathered}
use Rattle.hpb_house.specs.Owing.{IsOwed}
use Rattle.hpb_house.proofs.Owing.{none_came}
use Rattle.hpb_house.proofs.starting.assemble.Goals as goal

pub invariant_of-result : goal.invariant_of-result
invariant_of-result g c =
    let board = c.args.setting.publisher in
    let is = c.requires.publisher in
    let empty : c.front-front.result.trail.log ≡ [] = c.front-front.ensures.1 ∙ (ap (λ (l : List (List Letter)). l ++ board.pending) is.2 ∙ is.3) in
    record {
      seats = ap vec_len c.new-2.ensures ∙ (c.requires.rings.0 ∙ sym (c.requires.eye.2 ∙ is.1));
      book = c.front-front.ensures.0 ∙ sym c.requires.eye.0;
      none = subst (λ rings. IsOwed (gathered rings.items) c.front-front.result.trail.log []) (sym c.new-2.ensures) (none_came _ c.requires.fresh _ empty);
    }
