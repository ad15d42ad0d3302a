use Rattle.std.proofs.Common.{rules, append_assoc, FitsSigned}
use Rattle.std.specs.Int.{w128}
use Rattle.std.proofs.lemmas.Int.{to_z-of_z}
use Rattle.lay_drawing.specs.Picture.{view_text}
use Rattle.lay_drawing.proofs.picture.push_view.Goals as goal

pub returns : goal.returns
unfolding view_text
returns c =
    let f1 : FitsSigned w128 c.outside.result = search rules in
    let f2 : FitsSigned w128 c.outside-2.result = search rules in
    let f3 : FitsSigned w128 c.full_size.result = search rules in
    let f4 : FitsSigned w128 c.full_size-2.result = search rules in
    let e1 = rw c.outside.ensures at (simp to_z-of_z at (c.in_ok-push_px.ensures {u = tt})) in
    let e2 = c.in_ok-push.ensures {u = tt} in
    let e3 = rw c.outside-2.ensures at (simp to_z-of_z at (c.in_ok-push_px-2.ensures {u = tt})) in
    let e4 = c.in_ok-push-2.ensures {u = tt} in
    let e5 = rw c.full_size.ensures at (simp to_z-of_z at (c.in_ok-push_px-3.ensures {u = tt})) in
    let e6 = c.in_ok-push-3.ensures {u = tt} in
    let e7 = rw c.full_size-2.ensures at (simp to_z-of_z at (c.in_ok-push_px-4.ensures {u = tt})) in
    rw (e7, e6, e5, e4, e3, e2, e1) (simp append_assoc)
