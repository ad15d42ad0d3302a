use Rattle.lay_line_measures.proofs.AtomicExtents.{atomic_extents_lem}
use Rattle.lay_line_measures.proofs.laws.atomic_boxes_are_margin_boxes.Goals as goal

pub returns : goal.returns
returns c = atomic_extents_lem
