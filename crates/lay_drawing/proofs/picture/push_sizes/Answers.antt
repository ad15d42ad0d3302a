use Rattle.std.proofs.Common.{rules, append_assoc, FitsSigned}
use Rattle.std.specs.Int.{w128}
use Rattle.std.proofs.lemmas.Int.{to_z-of_z}
use Rattle.lay_drawing.specs.Picture.{sizes}
use Rattle.lay_drawing.proofs.picture.push_sizes.Goals as goal

pub returns : goal.returns
unfolding sizes
returns c =
    let f1 : FitsSigned w128 c.size.result = search rules in
    let f2 : FitsSigned w128 c.size-2.result = search rules in
    let e1 = rw c.size.ensures at (simp to_z-of_z at (c.in_ok-push_length.ensures {u = tt})) in
    let e2 = rw c.size-2.ensures at (simp to_z-of_z at (c.in_ok-push_length-2.ensures {u = tt})) in
    rw (e2, e1) (simp append_assoc)
