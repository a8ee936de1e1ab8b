use Rattle.std.proofs.Common.{◌≡◌, [], All, sym, subst}
use Rattle.rtrb.specs.Ring.{received}
use Rattle.hpb_recover.specs.Standing.{Stands}
use Rattle.hpb_house.proofs.starting.House+D+W+Brand.start.Goals as goal

pub assemble-requires-clause-keeps : goal.assemble-requires-clause-keeps
assemble-requires-clause-keeps g c = λ history stands.
    c.in-Ok-start.ensures.keeps history (subst (λ opened. Stands history (g.D.Disk.device opened.disk).seen) c.of-snapshot.ensures stands)

pub returns-clause-fresh : goal.returns-clause-fresh
returns-clause-fresh g c = subst (λ rings. All (λ ring. received ring.letters ≡ []) rings.items) (sym c.assemble.ensures.intake) c.in-Ok.ensures.fresh
