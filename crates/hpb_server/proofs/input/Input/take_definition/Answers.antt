use Rattle.std.proofs.Common.{◌≡◌, ◌≢◌, ℕ, List, Option, Result, refl, sym, ◌∙◌, arith}
use Rattle.std.specs.Prelude.{IfErr}
use Rattle.std.specs.Result.{IsErrAnd}
use Rattle.hpb_server.specs.declared.fault.SessionFault.{SessionFault}
use Rattle.hpb_server.specs.declared.fault.SessionFault.TheVariants.{Memory, Reader, Writer}
use Rattle.hpb_server.specs.Reading.{ReadsWithin, StopsReading}
use Rattle.hpb_server.proofs.Errors.{err_case}
use Rattle.hpb_server.proofs.Definitions.{taken_in_vain, taken_line, taken_more, taken_to_end, taken_too_much, taken_within, vain_within, within_taken}
use Rattle.hpb_server.proofs.input.Input.take_definition.Goals as goal

failed : {T : Type 0} (old new : Option (List ℕ)) (budget : ℕ) (fault : SessionFault) (r : Result T SessionFault) → IsErrAnd r (λ e. e ≡ fault) → fault ≢ Writer → ReadsWithin old new budget → IfErr r (StopsReading old new budget)
failed old new budget fault r bad other h = err_case (λ x. IfErr x (StopsReading old new budget)) r bad (λ e is. (λ writer. other (sym is ∙ writer), h))

memory_written : Memory ≢ Writer
memory_written e = absurd (let no : Memory ≡ Writer = e in cc)

reader_written : (fault : SessionFault) → fault ≡ Reader → fault ≢ Writer
reader_written fault is e = absurd (let no : Reader ≡ Writer = sym is ∙ e in cc)

pub take_definition_part-requires : goal.take_definition_part-requires
take_definition_part-requires g c = omega (arith, within_taken c.chunks.invariant, c.chunks.bytes.ok.0)

pub returns-in_err-has_end-clause-err : goal.returns-in_err-has_end-clause-err
returns-in_err-has_end-clause-err g c = failed _ _ _ Memory c.from_residual.result c.from_residual.ensures.1 memory_written (taken_within c.chunks.invariant)

pub returns-then-has_end-clause-ok : goal.returns-then-has_end-clause-ok
returns-then-has_end-clause-ok g c = taken_line c.chunks.invariant (rw c.if-has_end.true at c.in_ok-has_end.ensures) c.if-has_end.true

pub returns-then-is_too_long-clause-ok : goal.returns-then-is_too_long-clause-ok
returns-then-is_too_long-clause-ok g c =
    taken_too_much c.chunks.invariant (rw c.if-has_end.false at c.in_ok-has_end.ensures) refl c.if-has_end.false (omega (arith, c.len-is_too_long.ensures, c.if-is_too_long.true, c.take_definition_part.new.bytes.ok.0))

pub returns-in_err-has_more-clause-err : goal.returns-in_err-has_more-clause-err
returns-in_err-has_more-clause-err g c =
    let vain = c.in_err-has_more.ensures in
    failed _ _ _ c.in_err-has_more.field-0.0 c.from_residual-in_err-has_more.result c.from_residual-in_err-has_more.ensures.1 (reader_written c.in_err-has_more.field-0.0 vain.0)
    (taken_in_vain c.chunks.invariant (rw c.if-has_end.false at c.in_ok-has_end.ensures) _ (vain_within _ _ _ vain.1))

pub returns-then-not-has_more-clause-ok : goal.returns-then-not-has_more-clause-ok
returns-then-not-has_more-clause-ok g c =
    let ended = rw c.if-not-has_more.true at c.in_ok-has_more.ensures in
    taken_to_end c.chunks.invariant (rw c.if-has_end.false at c.in_ok-has_end.ensures) refl c.if-has_end.false ended.0 ended.1 ended.2

pub chunks-preserved : goal.chunks-preserved
chunks-preserved g c =
    let next = rw c.if-not-has_more.false at c.in_ok-has_more.ensures in
    taken_more c.chunks.invariant (rw c.if-has_end.false at c.in_ok-has_end.ensures) next.0 next.2
