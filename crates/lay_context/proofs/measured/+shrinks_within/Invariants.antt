use Rattle.lay_context.proofs.measured.+shrinks_within.Given as goal

abbrev pub decreases-shrinks_within : goal.decreases-shrinks_within
decreases-shrinks_within l = l.many
