use Rattle.std.proofs.Common.{◌≡◌, ap, ◌∙◌}
use Rattle.std.proofs.lemmas.Result.{IfOk-weaker}
use Rattle.lay_box_tree.specs.BoxColumns.{IsBoxTree}
use Rattle.lay_boxgen.specs.CutTrees.{generated_cut}
use Rattle.lay_boxgen.specs.Listing.{listed_part}
use Rattle.lay_boxgen.specs.NodeTrees.{tree_at}
use Rattle.lay_boxgen.specs.Parts.{part, put_list, nothing}
use Rattle.lay_boxgen.proofs.CutParts.{part-cut}
use Rattle.lay_boxgen.proofs.ListedLeaves.{listed_box_tree}
use Rattle.lay_boxgen.proofs.context_boxes.boxes_of_tree.Goals as goal

pub returns-clause-boxes : goal.returns-clause-boxes
returns-clause-boxes c =
    let nodes = c.args.sources.nodes.now in
    let styles = c.args.sources.styles.now in
    let place = c.args.place in
    let made = c.in_ok-trees.ensures {u = tt} ∙ ap generated_cut c.requires in
    let own : put_list nothing c.deref.result.now ≡ part nodes styles place = ap (put_list nothing) (c.deref.ensures.value ∙ made) ∙ part-cut (tree_at nodes styles place) in
    IfOk-weaker c.listed_part.result (λ v. v.items ≡ listed_part nodes styles (put_list nothing c.deref.result.now)) (λ v. v.items ≡ listed_part nodes styles (part nodes styles place))
    (λ v e. e ∙ ap (listed_part nodes styles) own) c.listed_part.ensures

pub returns-clause-tree : goal.returns-clause-tree
returns-clause-tree c =
    let nodes = c.args.sources.nodes.now in
    let styles = c.args.sources.styles.now in
    let place = c.args.place in
    let made = c.in_ok-trees.ensures {u = tt} ∙ ap generated_cut c.requires in
    let own : put_list nothing c.deref.result.now ≡ part nodes styles place = ap (put_list nothing) (c.deref.ensures.value ∙ made) ∙ part-cut (tree_at nodes styles place) in
    IfOk-weaker c.listed_part.result (λ v. v.items ≡ listed_part nodes styles (put_list nothing c.deref.result.now)) (λ v. IsBoxTree v.items)
    (λ v e. rw (e, own) (listed_box_tree nodes styles place)) c.listed_part.ensures
