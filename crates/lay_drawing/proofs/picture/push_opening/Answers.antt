use Rattle.std.proofs.Common.{append_assoc}
use Rattle.lay_drawing.specs.Picture.{opening}
use Rattle.lay_drawing.proofs.picture.push_opening.Goals as goal

pub returns : goal.returns
unfolding opening
returns c =
    let e1 = c.in_ok-push.ensures {u = tt} in
    let e2 = c.in_ok-push_full_sizes.ensures {u = tt} in
    let e3 = c.in_ok-push-2.ensures {u = tt} in
    let e4 = c.in_ok-push_view.ensures {u = tt} in
    let e5 = c.in_ok-push-3.ensures {u = tt} in
    rw (e5, e4, e3, e2, e1) (simp append_assoc)
