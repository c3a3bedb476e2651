use Rattle.bad_walks.proofs.+trail.Given as goal

-- the edges that are left
abbrev pub decreases-trail : goal.decreases-trail
decreases-trail l = l.left
