use Rattle.std.proofs.Common.{append_assoc}
use Rattle.lay_drawing.specs.Picture.{style}
use Rattle.lay_drawing.proofs.style.push_style.Goals as goal

pub returns : goal.returns
unfolding style
returns c =
    let e1 = c.in_ok-push.ensures {u = tt} in
    let e2 = c.in_ok-push_light.ensures {u = tt} in
    let e3 = c.in_ok-push_dark.ensures {u = tt} in
    let e4 = c.in_ok-push-2.ensures {u = tt} in
    rw (e4, e3, e2, e1) (simp append_assoc)
