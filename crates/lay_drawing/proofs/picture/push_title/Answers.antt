use Rattle.std.proofs.Common.{append_assoc}
use Rattle.lay_drawing.specs.Picture.{title_text}
use Rattle.lay_drawing.proofs.picture.push_title.Goals as goal

pub returns : goal.returns
unfolding title_text
returns c =
    let e1 = c.in_ok-push.ensures {u = tt} in
    let e2 = rw c.kind_word.ensures at (c.in_ok-push-2.ensures {u = tt}) in
    let e3 = c.in_ok-push-3.ensures {u = tt} in
    let e4 = c.in_ok-push_number.ensures {u = tt} in
    let e5 = c.in_ok-push-4.ensures {u = tt} in
    let e6 = c.in_ok-push_number-2.ensures {u = tt} in
    let e7 = rw c.word.ensures at (c.in_ok-push-5.ensures {u = tt}) in
    let e8 = c.in_ok-push-6.ensures {u = tt} in
    rw (e8, e7, e6, e5, e4, e3, e2, e1) (simp append_assoc)
