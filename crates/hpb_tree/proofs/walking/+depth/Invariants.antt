use Rattle.hpb_tree.proofs.walking.+depth.Given as goal

abbrev pub decreases-depth : goal.decreases-depth
decreases-depth l = l.place
