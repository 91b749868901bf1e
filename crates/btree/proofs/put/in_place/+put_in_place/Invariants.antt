use Rattle.btree.proofs.put.in_place.+put_in_place.Given as goal

abbrev pub decreases-put_in_place : goal.decreases-put_in_place
decreases-put_in_place g l = l.levels
