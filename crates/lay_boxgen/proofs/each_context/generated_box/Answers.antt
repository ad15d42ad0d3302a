use Rattle.std.proofs.Common.{◌≡◌, ◌<◌, None, true, false, arith, length, slice_index, slice_index_or, sym, ◌∙◌}
use Rattle.lay_doc.specs.Document.{parents_of}
use Rattle.lay_doc.proofs.NodeColumns.{length-parents}
use Rattle.lay_boxgen.specs.Contexts.{keeps}
use Rattle.lay_boxgen.specs.GeneratedBoxes.{IsGenerated}
use Rattle.lay_boxgen.proofs.ContextFlags.{kept_box, lost_box, root_box}
use Rattle.lay_boxgen.proofs.each_context.generated_box.Goals as goal

pub returns-then-k-eq0 : goal.returns-then-k-eq0
returns-then-k-eq0 c = root_box c.args.nodes.now c.args.styles.now c.args.k c.box_at-facts.result c.box_at-facts.ensures (omega (arith, c.if-k-eq0.true))

pub returns-then-keeps : goal.returns-then-keeps
returns-then-keeps c =
    let nodes = c.args.nodes.now in
    let styles = c.args.styles.now in
    let k = c.args.k in
    let high : 0 < k = omega (arith, c.if-k-eq0.false) in
    let up : c.parent_at.result ≡ slice_index (parents_of nodes) k = c.parent_at.ensures in
    let within : k < length (parents_of nodes) = omega (arith, length-parents nodes, c.requires.place) in
    let less : c.parent_at.result < k = omega (arith, up, c.requires.tree.before k high within) in
    let around = slice_index_or c.args.generated.now c.parent_at.result None in
    let known : IsGenerated nodes styles (slice_index (parents_of nodes) k) around = rw (sym up) (c.requires.known.each c.parent_at.result less) in
    let kept : keeps around c.box_at-facts.result ≡ true = sym c.keeps.ensures ∙ c.if-keeps.true in
    kept_box nodes styles k high around known c.box_at-facts.result c.box_at-facts.ensures kept

pub returns : goal.returns
returns c =
    let nodes = c.args.nodes.now in
    let styles = c.args.styles.now in
    let k = c.args.k in
    let high : 0 < k = omega (arith, c.if-k-eq0.false) in
    let up : c.parent_at.result ≡ slice_index (parents_of nodes) k = c.parent_at.ensures in
    let within : k < length (parents_of nodes) = omega (arith, length-parents nodes, c.requires.place) in
    let less : c.parent_at.result < k = omega (arith, up, c.requires.tree.before k high within) in
    let around = slice_index_or c.args.generated.now c.parent_at.result None in
    let known : IsGenerated nodes styles (slice_index (parents_of nodes) k) around = rw (sym up) (c.requires.known.each c.parent_at.result less) in
    let lost : keeps around c.box_at-facts.result ≡ false = sym c.keeps.ensures ∙ c.if-keeps.false in
    lost_box nodes styles k high around known c.box_at-facts.result c.box_at-facts.ensures lost
