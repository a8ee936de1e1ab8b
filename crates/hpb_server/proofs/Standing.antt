-- A property that all states of a desk share.
use Rattle.std.proofs.Common.{◌≡◌, sym, ◌∙◌}
use Rattle.hpb_rules.specs.Tree.{Rules}

module _ {Desk State : Type 0} {rules : Desk → Rules} {rules_at : State → Rules} {is_at : Desk → State → Type 0} (are : (desk : Desk) (state : State) → is_at desk state → rules_at state ≡ rules desk) where
  -- if the desk's definition stays, so does that of its state
  pub same_rules : (old new : Desk) (state next : State) → is_at old state → is_at new next → rules new ≡ rules old → rules_at next ≡ rules_at state
  same_rules old new state next before after stays = are new next after ∙ stays ∙ sym (are old state before)
