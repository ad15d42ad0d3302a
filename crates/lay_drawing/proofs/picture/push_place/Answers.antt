use Rattle.std.proofs.Common.{rules, append_assoc, FitsSigned}
use Rattle.std.specs.Int.{w128}
use Rattle.std.proofs.lemmas.Int.{to_z-of_z}
use Rattle.lay_drawing.specs.Picture.{place_text}
use Rattle.lay_drawing.proofs.picture.push_place.Goals as goal

pub returns : goal.returns
unfolding place_text
returns c =
    let f1 : FitsSigned w128 c.args.left = search rules in
    let f2 : FitsSigned w128 c.args.top = search rules in
    let e1 = simp to_z-of_z at (c.in_ok-push_length.ensures {u = tt}) in
    let e2 = simp to_z-of_z at (c.in_ok-push_length-2.ensures {u = tt}) in
    rw (e2, e1) (simp append_assoc)
