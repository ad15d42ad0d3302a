use Rattle.std.proofs.Common.{rules, append_assoc, FitsSigned}
use Rattle.std.specs.Int.{w128}
use Rattle.std.proofs.lemmas.Int.{to_z-of_z}
use Rattle.lay_drawing.specs.Picture.{shape}
use Rattle.lay_drawing.proofs.picture.push_shape.Goals as goal

pub returns : goal.returns
unfolding shape
returns c =
    let f1 : FitsSigned w128 c.low.result = search rules in
    let f2 : FitsSigned w128 c.low-2.result = search rules in
    let e1 = c.in_ok-push.ensures {u = tt} in
    let e2 = rw (c.low.ensures, c.low-2.ensures, c.edges-frame.ensures) at (simp to_z-of_z at (c.in_ok-push_place.ensures {u = tt})) in
    let e3 = rw c.edges-frame.ensures at (c.in_ok-push_sizes.ensures {u = tt}) in
    let e4 = c.in_ok-push_class.ensures {u = tt} in
    let e5 = c.in_ok-push-2.ensures {u = tt} in
    let e6 = c.in_ok-push_title.ensures {u = tt} in
    let e7 = c.in_ok-push-3.ensures {u = tt} in
    rw (e7, e6, e5, e4, e3, e2, e1) (simp append_assoc)
