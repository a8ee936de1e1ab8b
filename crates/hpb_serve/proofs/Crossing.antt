-- The parts that the threads of sessions share: the checkpointer's gate, which has the house and the watch.
use denote.RattleType.{RattleType}
use denote.Ref.{NamedLft}
use denote.Param.Send.{IsSend, IsSync, sendable}
use Rattle.std.proofs.Crossing.{crosses}
use Rattle.hpb_disk.specs.declared.disk.Disk.{Ghosts}
use Rattle.hpb_house.specs.declared.naming.Naming.{Ghosts as Names}
use Rattle.hpb_house.proofs.Crossing.{House-sync}
use Rattle.hpb_serve.specs.contracts.watching.Rounds as Rounds

module _ (κ : NamedLft) (D W J V : RattleType) (g : Ghosts D.Denot) (n : Names J.Denot) where
  pub Rounds-send : IsSend D → IsSend W → IsSend J → IsSync V → IsSend (Rounds.the_row κ D W J V g n)
  Rounds-send d w j v = let house = House-sync D W J g n d w j in search (sendable, crosses) depth 20
