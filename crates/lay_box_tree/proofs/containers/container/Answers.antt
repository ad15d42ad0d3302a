use Rattle.std.proofs.Common.{rules, ◌≡◌, slice_index, true, false, arith}
use Rattle.lay_box_tree.specs.Containers.{counts, box_parent, further}
use Rattle.lay_box_tree.proofs.NearestContainers.{own_or_parent, parent_before}
use Rattle.lay_box_tree.proofs.containers.container.Goals as goal

pub returns-then-counts : goal.returns-then-counts
returns-then-counts c =
    let boxes = c.args.boxes.now in
    let yes : counts boxes (box_parent boxes c.args.place) ≡ true = search rules in
    let is : c.box_parent-parent.result ≡ box_parent boxes c.args.place = search rules in
    rw is (own_or_parent boxes c.requires.tree c.args.place yes)

pub place_at-requires : goal.place_at-requires
place_at-requires c =
    let boxes = c.args.boxes.now in
    let not : counts boxes (box_parent boxes c.args.place) ≡ false = search rules in
    let before = parent_before boxes c.requires.tree c.args.place c.requires.there not in
    let is : c.box_parent-parent.result ≡ box_parent boxes c.args.place = search rules in
    omega (arith, is, before.1, c.requires.count)

pub returns : goal.returns
returns c =
    let boxes = c.args.boxes.now in
    let place = c.args.place in
    let not : counts boxes (box_parent boxes place) ≡ false = search rules in
    let before = parent_before boxes c.requires.tree place c.requires.there not in
    let is : c.place_at.result ≡ slice_index c.args.containers.now (box_parent boxes place) = search rules in
    rw is (further place (slice_index c.args.containers.now (box_parent boxes place)) before.0 not (c.requires.known (box_parent boxes place) before.1))
