use Rattle.lay_drawing.proofs.Apart.{apart_lem}
use Rattle.lay_drawing.proofs.label.labels_are_apart.Goals as goal

pub returns : goal.returns
returns c = apart_lem
