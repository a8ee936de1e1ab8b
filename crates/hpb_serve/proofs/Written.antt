-- The bytes that are written about the port.
use Rattle.std.proofs.Common.{◌≡◌, ℕ, zero, suc, List, [], ◌∷◌, take, Option, Err, refl, ap, subst}
use Rattle.std.specs.Bool.{⊤}
use Rattle.std.specs.Io.KnownBytes.{Appends}
use Rattle.hpb_rules.specs.Fronts.{IsFront}
use Rattle.hpb_rules.proofs.Lists.{take_front}
use Rattle.hpb_serve.specs.Announcing.{Announces}
use Rattle.hpb_serve.specs.declared.fault.ServeFault.TheVariants.{Writer}

-- if the writer failed, it wrote a front of the line
pub stopped : (D : Type 0) (old new : Option (List ℕ)) (bytes line : List ℕ) → bytes ≡ line → (n : ℕ) × Appends old new (take n bytes) → Announces {A = ⊤} {D = D} line old new (Err Writer)
stopped D old new bytes line is put =
    subst (λ (text : List ℕ). Announces {A = ⊤} {D = D} text old new (Err Writer)) is (take put.0 bytes, put.1, take_front put.0 bytes)
