use Rattle.std.proofs.Common.{◌≡◌, true, false, rules, arith}
use Rattle.std.specs.Prelude.{Some, None}
use Rattle.lay_box_tree.specs.Containers.{box_parent}
use Rattle.lay_positioned.specs.Holders.{further, is_holder_at, none, parent}
use Rattle.lay_positioned.proofs.ParentSteps.{parent_before}
use Rattle.lay_positioned.proofs.holders.nearest_holder.Goals as goal

pub returns-then-is_holder_at-clause-holder : goal.returns-then-is_holder_at-clause-holder
returns-then-is_holder_at-clause-holder c =
    let boxes = c.args.boxes.now in
    let at = c.loop-at.at in
    let yes : is_holder_at boxes (box_parent boxes at) ≡ true = search rules in
    let is : c.box_parent-parent.result ≡ box_parent boxes at = search rules in
    rw is (c.loop-at.invariant.nearest (Some (box_parent boxes at)) (parent at (omega arith) yes))

pub loop-at-preserved : goal.loop-at-preserved
loop-at-preserved c =
    let boxes = c.args.boxes.now in
    let at = c.loop-at.at in
    let no : is_holder_at boxes (box_parent boxes at) ≡ false = search rules in
    let is : c.box_parent-parent.result ≡ box_parent boxes at = search rules in
    record {
      within = omega (arith, is, parent_before boxes c.as_slice-nodes.ensures.are.tree at (omega arith) c.loop-at.invariant.within);
      nearest = λ holder h. c.loop-at.invariant.nearest holder (further at holder (omega arith) no (rw is at h));
    }

pub returns-clause-holder : goal.returns-clause-holder
returns-clause-holder c =
    let boxes = c.args.boxes.now in
    let e : c.loop-at.at ≡ 0 = omega arith in
    c.loop-at.invariant.nearest None (rw e none)
