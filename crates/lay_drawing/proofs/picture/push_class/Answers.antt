use Rattle.std.proofs.Common.{append_assoc}
use Rattle.lay_drawing.specs.Picture.{class_text}
use Rattle.lay_drawing.proofs.picture.push_class.Goals as goal

pub returns : goal.returns
unfolding class_text
returns c =
    let e1 = c.in_ok-push.ensures {u = tt} in
    let e2 = rw c.kind_word.ensures at (c.in_ok-push-2.ensures {u = tt}) in
    let e3 = rw c.word.ensures at (c.in_ok-push-3.ensures {u = tt}) in
    let e4 = c.in_ok-push-4.ensures {u = tt} in
    rw (e4, e3, e2, e1) (simp append_assoc)
