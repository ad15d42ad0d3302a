use Rattle.std.proofs.Common.{rules, ◌≡◌, ◌<◌, IsTrue, false, length, slice_index, arith, subst, sym}
use Rattle.lay_doc.specs.Document.{parents_of}
use Rattle.lay_doc.proofs.NodeColumns.{length-parents}
use Rattle.lay_boxgen.specs.Contexts.{box_at, has_box, keeps, below}
use Rattle.lay_boxgen.proofs.Above.{kept_by, parent_generates, root_has, from_root}
use Rattle.lay_boxgen.proofs.contexts.generates_box.Goals as goal

pub returns-then-not-keeps : goal.returns-then-not-keeps
returns-then-not-keeps c =
    let nodes = c.args.nodes.now in
    let styles = c.args.styles.now in
    let at = c.loop-at.at in
    let high : 0 < at = search rules in
    let not : keeps (box_at nodes styles (slice_index (parents_of nodes) at)) (box_at nodes styles at) ≡ false = search rules in
    (λ x. cc, λ g. subst IsTrue not (kept_by nodes styles at (c.loop-at.invariant.1.1 g) high))

pub loop-at-preserved : goal.loop-at-preserved
loop-at-preserved c =
    let nodes = c.args.nodes.now in
    let styles = c.args.styles.now in
    let at = c.loop-at.at in
    let high : 0 < at = search rules in
    let up : c.parent_at-parent.result ≡ slice_index (parents_of nodes) at = search rules in
    let kept : IsTrue (keeps (box_at nodes styles (slice_index (parents_of nodes) at)) (box_at nodes styles at)) = search rules in
    let within : at < length (parents_of nodes) = omega (arith, length-parents nodes, c.loop-at.invariant.0) in
    let less = c.requires.tree.before at high within in
    rw up (
      omega (arith, less, c.loop-at.invariant.0),
      (λ g. c.loop-at.invariant.1.0 (below at high kept g), λ g. parent_generates nodes styles at (c.loop-at.invariant.1.1 g) high),
    )

pub returns : goal.returns
returns c =
    let nodes = c.args.nodes.now in
    let styles = c.args.styles.now in
    let low : c.loop-at.at ≡ 0 = omega (arith, c.loop-at-test.false) in
    let has : c.is_some.result ≡ has_box (box_at nodes styles 0) = search rules in (
      λ x. c.loop-at.invariant.1.0 (from_root nodes styles c.loop-at.at low (subst IsTrue has x)),
      λ g. subst IsTrue (sym has) (root_has nodes styles c.loop-at.at (c.loop-at.invariant.1.1 g) low),
    )
