use Rattle.hpb_tree.proofs.walking.+is_at_or_under.Given as goal

abbrev pub decreases-is_at_or_under : goal.decreases-is_at_or_under
decreases-is_at_or_under l = l.place
