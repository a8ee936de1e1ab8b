use Rattle.std.proofs.Common.{rules, sym, ◌∙◌}
use Rattle.hpb_tree.proofs.Lists.{mapped, second}
use Rattle.hpb_tree.proofs.checking.names.has_bad_name.Goals as goal

pub returns-then-has_bad_name_among : goal.returns-then-has_bad_name_among
returns-then-has_bad_name_among c = simp mapped (search rules)

pub returns-else-has_bad_name_among : goal.returns-else-has_bad_name_among
returns-else-has_bad_name_among c =
    simp mapped (second _ _ (sym (rw c.deref.ensures.value at c.has_bad_name_among.ensures) ∙ c.if-has_bad_name_among.false) (rw c.deref-else-has_bad_name_among.ensures.value at c.has_bad_name_among-else-has_bad_name_among.ensures))
