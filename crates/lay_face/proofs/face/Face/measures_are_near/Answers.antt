use Rattle.lay_face.proofs.Measures.{near_lem}
use Rattle.lay_face.proofs.face.Face.measures_are_near.Goals as goal

pub returns : goal.returns
returns c = rw (← c.self.view_is) (near_lem _ c.args.size.0 c.self.invariant.0 c.requires)
