use Rattle.std.proofs.Common.{rules, ◌≡◌, ◌∙◌, List, inr, sym, subst}
use Rattle.std.specs.Prelude.{vec_len}
use Rattle.hpb_rules.specs.declared.command.Command.{Command}
use Rattle.hpb_house.specs.Owing.{IsOwed}
use Rattle.hpb_house.proofs.Owing.{as_many}
use Rattle.hpb_house.proofs.committing.committer.Goals.{then-len-eq0, else-len-eq0}
use Rattle.hpb_house.proofs.committing.committer.Goals as goal

-- the lost letters are those held at the halt, and those drained since
pub returns-in-Halted : goal.returns-in-Halted
returns-in-Halted g c =
    let list = c.turn.new.work.front.trail.log in
    let held = c.in-Halted.ensures.comes in
    let lost = c.drain.ensures.lost list held.0 (subst (λ (came : List (List Command)). IsOwed came list held.0) (sym c.halt.ensures.same) held.1) in
    let before : vec_len c.if-len-eq0.work.intake.rings ≡ g.J.Naming.eye.seats = elim c.if-len-eq0.branch [ then-len-eq0 w ↦ search rules | else-len-eq0 w ↦ search rules ] in
    record {
      seats = c.drain.ensures.rings ∙ (as_many c.turn.new.work.intake.rings c.halt.new.self.rings c.halt.ensures.same ∙ (c.in-Halted.ensures.rings ∙ before));
      book = c.in-Halted.ensures.book;
      ended = c.drain.ensures.ended;
      lost = lost.0;
      owed = lost.1;
      told = inr c.drain.ensures.told;
    }
