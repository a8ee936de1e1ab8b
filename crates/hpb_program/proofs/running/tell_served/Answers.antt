use Rattle.std.proofs.KnownBytes.{Keeps-refl}
use Rattle.hpb_program.proofs.running.tell_served.Goals as goal

pub returns-in-Ok-clause-told : goal.returns-in-Ok-clause-told
returns-in-Ok-clause-told g c =
    let taken = rw (c.in-Ok.is, ← c.console.view_is) at c.requires in
    rw (c.in-Ok.is, ← c.console.view_is) ((Keeps-refl _, Keeps-refl _), taken, c.tell_begun.ensures.told)
