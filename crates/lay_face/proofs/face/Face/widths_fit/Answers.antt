use Rattle.lay_face.proofs.WidthBounds.{widths_fit_lem}
use Rattle.lay_face.proofs.face.Face.widths_fit.Goals as goal

pub returns : goal.returns
returns c =
    rw (← c.self.view_is)
    (widths_fit_lem _ (record { size = c.args.size; letter = c.args.letter; word = c.args.word }) _ c.utf8.text c.requires.text c.self.invariant.0 c.requires.size c.requires.letter c.requires.word)
