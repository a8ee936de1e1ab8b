use Rattle.std.proofs.lemmas.Result.{err_from_is_err_and}
use Rattle.hpb_tree.specs.Draft.{rules_of}
use Rattle.hpb_define.proofs.Refusals.{answers_refused}
use Rattle.hpb_define.proofs.definition.definition_of.Goals as goal

pub returns-in_err-definition : goal.returns-in_err-definition
returns-in_err-definition c =
    let e = err_from_is_err_and c.from_residual-in_err-definition.result c.from_residual-in_err-definition.ensures.1 in
    rw (e.1, e.2) (answers_refused c.args.bytes.now (rules_of c.in_ok-draft.draft) c.in_ok-draft.ensures c.in_err-definition.field-0.0 c.in_err-definition.ensures.refused)
