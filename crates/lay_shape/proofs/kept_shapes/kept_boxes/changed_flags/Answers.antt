use Rattle.std.proofs.Common.{◌≡◌, ◌++◌, ◌∷◌, []}
use Rattle.lay_shape.proofs.KeptShapesLemmas.KeptBoxes.{one-more-flag}
use Rattle.lay_shape.proofs.kept_shapes.kept_boxes.changed_flags.Goals as goal

pub loop-i-preserved : goal.loop-i-preserved
loop-i-preserved c =
    let pushed : c.push.new.self.items ≡ c.loop-i.flags.items ++ c.is_changed.result ∷ [] = (c.in_ok-push.ensures {u = tt}).items in
    rw pushed (one-more-flag c.args.before.now c.args.after.now c.loop-i.flags.items c.is_changed.result c.loop-i.i c.loop-i.invariant c.is_changed.ensures)
