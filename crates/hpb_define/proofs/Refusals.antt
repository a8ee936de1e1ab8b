-- The facts about a definition's bytes that follow from its refusal.
use Rattle.std.proofs.Common.{◌≡◌, ◌≢◌, ℕ, List, Some, Err}
use Rattle.hpb_rules.specs.Drafts.{draft_refusal}
use Rattle.hpb_rules.specs.Tree.{Rules}
use Rattle.hpb_tree.specs.Fault.{refusal_of}
use Rattle.hpb_tree.specs.declared.fault.DefinitionFault.{DefinitionFault}
use Rattle.hpb_tree.specs.declared.fault.DefinitionFault.TheVariants as faults
use Rattle.hpb_define.specs.Fault.{refused}
use Rattle.hpb_define.specs.Text.{Answers, Spells}

module _ (bytes : List ℕ) (rules : Rules) (spelled : Spells bytes rules) where
  -- refused memory says nothing of the bytes; each other fault is the draft's
  pub answers_refused : (fault : DefinitionFault) → (fault ≢ faults.Memory → draft_refusal rules ≡ Some (refusal_of fault)) → Answers bytes (Err (refused fault))
  answers_refused faults.Memory why = tt
  answers_refused faults.Number why = (rules, spelled, why (λ e. cc))
  answers_refused faults.Empty why = (rules, spelled, why (λ e. cc))
  answers_refused faults.Name why = (rules, spelled, why (λ e. cc))
  answers_refused faults.Duplicate why = (rules, spelled, why (λ e. cc))
  answers_refused faults.Parent why = (rules, spelled, why (λ e. cc))
  answers_refused faults.Children why = (rules, spelled, why (λ e. cc))
  answers_refused faults.Leaf why = (rules, spelled, why (λ e. cc))
  answers_refused faults.Limits why = (rules, spelled, why (λ e. cc))
  answers_refused faults.Terms why = (rules, spelled, why (λ e. cc))
