use Rattle.std.proofs.Common.{rules, ◌≡◌, slice_index, true, false, arith}
use Rattle.lay_box_tree.specs.Containers.{box_parent}
use Rattle.lay_contexts.specs.Homes.{further, is_root}
use Rattle.lay_contexts.proofs.NearestRoots.{own_or_parent, parent_before}
use Rattle.lay_contexts.proofs.homes.home.Goals as goal

pub returns-then-is_root : goal.returns-then-is_root
returns-then-is_root c =
    let boxes = c.args.boxes.now in
    let yes : is_root boxes (box_parent boxes c.args.k) ≡ true = search rules in
    let is : c.box_parent-parent.result ≡ box_parent boxes c.args.k = search rules in
    rw is (own_or_parent boxes c.requires.are.tree c.args.k yes)

pub place_at-requires : goal.place_at-requires
place_at-requires c =
    let boxes = c.args.boxes.now in
    let not : is_root boxes (box_parent boxes c.args.k) ≡ false = search rules in
    let before = parent_before boxes c.requires.are.tree c.args.k c.requires.there not in
    let is : c.box_parent-parent.result ≡ box_parent boxes c.args.k = search rules in
    omega (arith, is, before.1, c.requires.count)

pub returns : goal.returns
returns c =
    let boxes = c.args.boxes.now in
    let k = c.args.k in
    let not : is_root boxes (box_parent boxes k) ≡ false = search rules in
    let before = parent_before boxes c.requires.are.tree k c.requires.there not in
    let is : c.place_at.result ≡ slice_index c.args.homes.now (box_parent boxes k) = search rules in
    rw is (further k (slice_index c.args.homes.now (box_parent boxes k)) before.0 not (c.requires.known (box_parent boxes k) before.1))
