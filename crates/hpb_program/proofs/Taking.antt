-- The bytes read of a definition, part by part.
use Rattle.std.proofs.Common.{◌≡◌, ◌∙◌, ℕ, ◌<◌, ◌≤◌, true, false, List, [], ◌++◌, length, Option, sym, subst, inl, inr, arith, length-append}
use Rattle.std.specs.Io.KnownBytes.{Consumes}
use Rattle.std.proofs.KnownBytes.{Consumes-nil, Consumes-trans}
use Rattle.hpb_rules.proofs.Lists.{append_nil}
use Rattle.hpb_program.specs.declared.formatting.TheConstants.{KEPT_BYTES}
use Rattle.hpb_messages.specs.declared.job_fault.JobFault.{JobFault}
use Rattle.hpb_program.specs.Jobs.{GivesText, ReadsPart, StopsPart, StopsReading}

-- These bytes were read so far.
abbrev pub Taken : (old now : Option (List ℕ)) → List ℕ → Type 0
Taken old now text = Consumes old now text × (length text ≤ KEPT_BYTES)

pub taken_none : (a : Option (List ℕ)) (text : List ℕ) → text ≡ [] → Taken a a text
taken_none a text none = subst (Taken a a) (sym none) (Consumes-nil a, omega arith)

pub taken_more : (a b c : Option (List ℕ)) (text longer : List ℕ) → Taken a b text → ReadsPart b c text longer true → Taken a c longer
taken_more a b c text longer h p = (subst (Consumes a c) (sym p.2) (Consumes-trans a b c text p.0 h.0 p.1), p.4)

pub taken_to_end : (a b c : Option (List ℕ)) (text longer : List ℕ) → Taken a b text → ReadsPart b c text longer false → GivesText a c longer
taken_to_end a b c text longer h p = record {
  read = subst (Consumes a c) (sym (append_nil text) ∙ sym p.1) (Consumes-trans a b c text [] h.0 p.0);
  within = subst (λ (t : List ℕ). length t ≤ KEPT_BYTES) (sym p.1) h.1;
  ended = inl p.2;
}

pub taken_in_vain : (a b c : Option (List ℕ)) (text : List ℕ) (fault : JobFault) → Taken a b text → StopsPart b c text fault → StopsReading a c fault
taken_in_vain a b c text fault h p =
    ((text ++ p.0.0, Consumes-trans a b c text p.0.0 h.0 p.0.1, subst (λ (n : ℕ). n ≤ KEPT_BYTES) (sym (length-append text p.0.0)) p.0.2), p.1)

pub taken_too_much : (a b : Option (List ℕ)) (text : List ℕ) → Taken a b text → (length text < KEPT_BYTES → ⊥) → GivesText a b text
taken_too_much a b text h much = record { read = h.0; within = h.1; ended = inr (omega (arith, much)) }
