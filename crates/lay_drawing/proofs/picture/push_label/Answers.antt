use Rattle.std.proofs.Common.{rules, append_assoc, FitsSigned}
use Rattle.std.specs.Int.{w128}
use Rattle.std.proofs.lemmas.Int.{to_z-of_z}
use Rattle.lay_drawing.specs.Picture.{label_text}
use Rattle.lay_drawing.proofs.picture.push_label.Goals as goal

pub returns : goal.returns
unfolding label_text
returns c =
    let f1 : FitsSigned w128 c.number_left.result = search rules in
    let f2 : FitsSigned w128 c.number_base.result = search rules in
    let e1 = c.in_ok-push.ensures {u = tt} in
    let e2 = rw (c.number_left.ensures, c.number_base.ensures) at (simp to_z-of_z at (c.in_ok-push_place.ensures {u = tt})) in
    let e3 = c.in_ok-push-2.ensures {u = tt} in
    let e4 = rw c.word.ensures at (c.in_ok-push-3.ensures {u = tt}) in
    let e5 = c.in_ok-push-4.ensures {u = tt} in
    let e6 = c.in_ok-push_number.ensures {u = tt} in
    let e7 = c.in_ok-push-5.ensures {u = tt} in
    rw (e7, e6, e5, e4, e3, e2, e1) (simp append_assoc)
