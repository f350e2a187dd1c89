use Rattle.bac_resume.proofs.items.+known_at.Given as goal

abbrev pub decreases-known_at : goal.decreases-known_at
decreases-known_at l = l.back
