use Rattle.lay_positioned.proofs.containing_rects.+containing_rect.Given as goal

abbrev pub decreases-containing_rect : goal.decreases-containing_rect
decreases-containing_rect g l = l.anchor.context
