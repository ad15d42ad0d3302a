use Rattle.lay_document_cells.proofs.following.follow_styles.Goals as goal

pub follow_boxes-requires-clause-boxes : goal.follow_boxes-requires-clause-boxes
follow_boxes-requires-clause-boxes c = (c.restyled_keep_cells.ensures _ _ _ c.requires.made).boxes

pub follow_boxes-requires-clause-shape : goal.follow_boxes-requires-clause-shape
follow_boxes-requires-clause-shape c = (c.restyled_keep_cells.ensures _ _ _ c.requires.made).shape

pub returns-clause-kept : goal.returns-clause-kept
returns-clause-kept c = c.restyled_keep_cells.ensures _ _ _ c.requires.made
