use Rattle.std.proofs.Common.{rules, ◌≡◌, ◌+◌, ◌++◌, get_or, drop, sym, ap, ◌∙◌, arith, slice_get}
use Rattle.lay_box_tree.specs.Containers.{box_parent}
use Rattle.lay_box_tree.specs.Roles.{role_of}
use Rattle.lay_box_tree.specs.declared.box_role.Role.{Role}
use Rattle.lay_box_tree.specs.declared.box_tree.BoxNode.{BoxNode}
use Rattle.lay_measure.specs.Children.{child_as}
use Rattle.lay_measure.specs.declared.preferred_widths.PreferredWidths.{PreferredWidths}
use Rattle.lay_measure.specs.ChildTotals.{totals_of}
use Rattle.lay_measure.specs.PreferredWidths.{as_measured_child, children}
use Rattle.lay_measure.proofs.ChildrenBefore.{known_further, one_value, parent_at}
use Rattle.lay_measure.proofs.measuring.put_child.Goals as goal

pub returns-clause-known : goal.returns-clause-known
returns-clause-known c =
    let m = c.args.of.now in
    let k = c.args.k in
    let b = c.index-boxes-k.result in
    let rest = drop (k + 1) m.boxes in
    let parent = c.parent_of-parent.result in
    let old = c.args.totals.now in
    let is : b ≡ get_or m.boxes k b = search rules in
    let before : parent ≡ box_parent m.boxes k = search rules in
    let at : (get_or m.boxes k b).parent ≡ parent = sym (parent_at m.boxes k b c.requires.inside) ∙ sym before in
    let less = c.parent_of-parent.ensures.before in
    let cs = children m k (k + 1) rest in
    let ds = children m parent (k + 1) rest in
    let inside = one_value (slice_get old k) c.totals_at-inside.result (totals_of cs) c.totals_at-inside.ensures (c.requires.known k (omega arith)) in
    let behind = one_value (slice_get old parent) c.totals_at-behind.result (totals_of ds) c.totals_at-behind.ensures (c.requires.known parent (omega (arith, less))) in
    let widths = c.in_ok-widths.ensures cs inside in
    let value = c.in_ok-with_child.ensures ds behind in
    let role = ap (λ (r : Role). totals_of (child_as r c.in_ok-widths.widths ++ ds)) c.role.ensures in
    let whole = value ∙ role ∙ ap (λ (w : PreferredWidths). totals_of (child_as (role_of b) w ++ ds)) widths ∙ ap (λ (x : BoxNode). totals_of (as_measured_child m k x cs ++ ds)) is in
    known_further m k b parent old c.put_totals.new.totals c.in_ok-with_child.with_child c.requires.inside at c.put_totals.ensures.here c.put_totals.ensures.others c.requires.known whole
