use Rattle.std.proofs.Common.{◌≡◌, inl, [], length, sym, ◌∙◌, ap, arith, subst}
use Rattle.std.proofs.lemmas.List.{nil_from_length}
use Rattle.hpb_rules.specs.AuctionValue.{AuctionValue}
use Rattle.hpb_rules.specs.Judging.{judged_in}
use Rattle.hpb_rules.specs.Letters.{new_commands}
use Rattle.hpb_rules.specs.Machine.{Effect}
use Rattle.hpb_disk.proofs.Runs.{leaves_at_first}
use Rattle.hpb_engine.specs.Keeping.{Keeps, StandsEither}
use Rattle.hpb_engine.specs.Offers.{AreOld}
use Rattle.hpb_engine.proofs.Letters.{inside_flying, taken_new, taken_old}
use Rattle.hpb_engine.proofs.Standing.{kept_inside}
use Rattle.hpb_engine.proofs.engine.Engine.take.Goals as goal

pub returns-then-len-eq0-clause-effect : goal.returns-then-len-eq0-clause-effect
returns-then-len-eq0-clause-effect g c =
    let old = c.args.self.now in let device = g.D.Disk.device old.disk in
    let letters = c.args.letters.now in
    let free = c.requires.clear.1 in
    let told = c.judge_letters-judged.ensures in
    let judged = c.judge_letters-judged.result in
    let same = told.value ∙ ap (λ (value : AuctionValue). judged_in value letters) (old.safe.commit.rest free) in
    let none : judged.commands ≡ [] = nil_from_length judged.commands (omega (arith, c.len.ensures.value, c.if-len-eq0.true)) in
    let are_old : AreOld old.progress letters = ap new_commands (sym same) ∙ sym told.commands ∙ none in
    record {
      keeps = λ machine keeps.
          subst (Keeps _) (sym (ap (λ (effect : Effect). effect.machine) (taken_old c.judged_is_shown.ensures keeps letters free judged.answers same are_old)))
          (subst (λ (working : AuctionValue). Keeps (record { device = device; progress = record old.progress { commit = record old.progress.commit { working = working } }; failed = old.failed }) machine)
          (sym (told.none none)) keeps);
      answers = λ machine keeps. sym (ap (λ (effect : Effect). effect.leaving) (taken_old c.judged_is_shown.ensures keeps letters free judged.answers same are_old));
      since = λ machine keeps. leaves_at_first device (StandsEither machine _) (λ image left. inl (keeps.images image left));
    }

pub returns-clause-effect : goal.returns-clause-effect
returns-clause-effect g c =
    let old = c.args.self.now in let device = g.D.Disk.device old.disk in
    let letters = c.args.letters.now in
    let free = c.requires.clear.1 in
    let rest = old.safe.commit.rest free in
    let told = c.judge_letters-judged.ensures in
    let same = told.value ∙ ap (λ (value : AuctionValue). judged_in value letters) rest in
    let are_new : AreOld old.progress letters → ⊥ = λ are_old.
    absurd (omega (arith, ap length (told.commands ∙ ap new_commands same ∙ are_old), c.len.ensures.value, c.if-len-eq0.false)) in
    record {
      keeps = λ machine keeps.
          let inside = inside_flying c.laws_below.ensures old.progress free rest letters are_new (c.requires.clear.2 are_new) told.value told.commands told.accepted told.after told.rules told.tickets told.known
          (omega (arith, c.from-first.ensures, c.count.ensures.value)) device old.failed machine.acknowledged keeps.inside in
          subst (Keeps _) (sym (ap (λ (effect : Effect). effect.machine) (taken_new c.judged_is_shown.ensures keeps letters free _ same are_new)))
          (kept_inside c.laws_below.ensures _ machine.acknowledged inside);
      answers = λ machine keeps. sym (ap (λ (effect : Effect). effect.leaving) (taken_new c.judged_is_shown.ensures keeps letters free _ same are_new));
      since = λ machine keeps. leaves_at_first device (StandsEither machine _) (λ image left. inl (keeps.images image left));
    }
