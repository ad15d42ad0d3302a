-- The parts of all contexts together are the document's boxes.
use Rattle.std.proofs.Common.{◌≡◌, true, false, List, [], ◌∷◌, refl, ap, sym, ◌∙◌, Option, None, Some}
use Rattle.lay_style.specs.declared.style.Style.{Style}
use Rattle.lay_doc.specs.declared.node.Node.{Node}
use Rattle.lay_boxgen.specs.Boxes.{Tree, Trees, tree, no_trees, also, trees_of}
use Rattle.lay_boxgen.specs.Forms.{is_absolute, is_inline, is_in_flow, is_white}
use Rattle.lay_boxgen.specs.Generation.{generated}
use Rattle.lay_boxgen.specs.Laws.{inside, trees_below, inner_boxes, PartsAreWhole, ContextIsOneBox, AnchorsHoldBoxes}
use Rattle.lay_boxgen.specs.NodeTrees.{as_own, anchor_facts, tree_at}
use Rattle.lay_boxgen.specs.Parts.{put_list, nothing, generated_of}
use Rattle.lay_boxgen.specs.declared.facts.Facts.{Facts}
use Rattle.lay_box_tree.specs.declared.box_tree.Flow.{Flow}
use Rattle.lay_box_tree.specs.declared.box_tree.Flow.TheVariants as flow
use Rattle.lay_boxgen.proofs.Inside.{generates_inside, stays_one, list_put-put}
use Rattle.lay_boxgen.proofs.Settled.{IsSettledTree, tree-settled, below-own, below-anchor}

whole_by : (nodes : List Node) (styles : List Style) (o : Option Tree) → IsSettledTree nodes styles o
    → generated_of o ≡ put_list (inner_boxes nodes styles) (put_list nothing (generated_of o))
whole_by nodes styles None s = refl
whole_by nodes styles (Some (tree f us)) s =
    let g = trees_below nodes styles in
    let t = tree (as_own f) us in
    ap (λ r. generated (tree (as_own f) r)) (sym s.inner)
    ∙ (generates_inside g t ∙ sym (list_put-put (inner_boxes nodes styles) nothing (generated t)))

pub parts_are_whole : PartsAreWhole
parts_are_whole nodes styles k = whole_by nodes styles (tree_at nodes styles k) (tree-settled nodes styles k (tree_at nodes styles k) refl)

pub context_is_one_box : ContextIsOneBox
context_is_one_box nodes styles k f us h i =
    let s = tree-settled nodes styles k (Some (tree f us)) h in
    ap generated_of h
    ∙ ((stays_one (as_own f) false us i).0
    ∙ ap (λ r. tree (as_own f) r ∷ []) ((stays_one f false us i).1 ∙ ap (inside f) (sym (below-own nodes styles f us s))))

pub no_flow : (f : Flow) → is_absolute f ≡ true → is_in_flow f ≡ false
no_flow flow.InFlow h = cc
no_flow flow.Floating h = cc
no_flow flow.Absolute h = refl

anchor_inside : (f : Facts) (us : Trees) → is_absolute f.flow ≡ true → is_white f.form ≡ false → is_inline f.form ≡ false
    → inside (anchor_facts f) (also (tree (as_own f) us) no_trees) ≡ trees_of (generated (tree (as_own f) us))
anchor_inside f us a w i = simp (no_flow f.flow a, w, i) refl

pub anchors_hold_boxes : AnchorsHoldBoxes
anchors_hold_boxes nodes styles k f us h a =
    let s = tree-settled nodes styles k (Some (tree f us)) h in
    let n = s.no_inline a in
    ap (inside (anchor_facts f)) (below-anchor nodes styles f us s)
    ∙ (anchor_inside f us a n.0 n.1 ∙ ap (λ o. trees_of (generated_of o)) (sym h))
