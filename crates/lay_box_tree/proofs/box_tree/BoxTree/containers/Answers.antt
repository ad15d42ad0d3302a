use Rattle.std.proofs.Common.{rules, ◌≡◌, ◌++◌, ◌∷◌, []}
use Rattle.lay_box_tree.proofs.NearestContainers.{one_more}
use Rattle.lay_box_tree.proofs.box_tree.BoxTree.containers.Goals as goal

pub loop-place-preserved : goal.loop-place-preserved
loop-place-preserved c =
    let boxes = c.as_slice-boxes.result.now in
    let cs = c.loop-place.containers.items in
    let place = c.loop-place.place in
    let pushed : c.push.new.self.items ≡ cs ++ c.container-container.result ∷ [] = search rules in
    rw pushed (one_more boxes cs place c.container-container.result c.loop-place.invariant c.container-container.ensures)
