use Rattle.std.proofs.Common.{rules, sym, ◌∙◌}
use Rattle.hpb_tree.proofs.Lists.{map_map, second}
use Rattle.hpb_tree.proofs.checking.names.has_duplicate.Goals as goal

pub returns-then-branch : goal.returns-then-branch
returns-then-branch c = simp map_map (search rules)

pub returns-in_ok-has_name_twice-2 : goal.returns-in_ok-has_name_twice-2
returns-in_ok-has_name_twice-2 c =
    simp map_map (second _ _ (sym (rw c.as_slice-nodes.ensures.value at c.in_ok-has_name_twice.ensures) ∙ c.if-branch.false) (rw c.as_slice-bidders.ensures.value at c.in_ok-has_name_twice-2.ensures))
