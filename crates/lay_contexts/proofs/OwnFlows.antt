-- The own box of a context has the flow of its element's box.
use Rattle.std.proofs.Common.{◌≡◌, List, [], ◌∷◌, refl, ap, subst, ◌∙◌, Bool, true, false, IsTrue, Option, Some}
use Rattle.lay_boxgen.specs.Boxes.{Tree, Trees, tree, trees_of}
use Rattle.lay_boxgen.specs.Contexts.{is_marked}
use Rattle.lay_boxgen.specs.Laws.{inner_boxes}
use Rattle.lay_boxgen.specs.Listing.{listed_part}
use Rattle.lay_boxgen.specs.NodeTrees.{as_own, box_with, tree_at}
use Rattle.lay_boxgen.specs.Parts.{nothing, put_list}
use Rattle.lay_boxgen.specs.declared.facts.Facts.{Facts}
use Rattle.lay_contexts.proofs.Cited.{context_is_one_box}
use Rattle.lay_contexts.specs.FlowLaws.{OwnBoxesKeepFlow, flow_at}
use Rattle.lay_contexts.specs.NodeTreeLaws.{child_trees, children_places}
use Rattle.lay_contexts.proofs.ChildTrees.{children_stand_in_order}
use Rattle.lay_contexts.proofs.NodeFacts.{box_within, of_node}

is_true : (b : Bool) → IsTrue b → b ≡ true
is_true true h = refl
is_true false h = cc

pub own_flows : OwnBoxesKeepFlow
own_flows d styles k f doc same context e =
    let n = of_node d.nodes styles k f e in
    let marked : f.inner ≡ true = is_true f.inner (subst (λ (o : Option Facts). IsTrue (is_marked o)) e context.establishes) in
    let lt = box_within d.nodes styles k f e in
    let cs : List Tree = child_trees d.nodes styles (children_places d.nodes k) in
    let mine : tree_at d.nodes styles k ≡ Some (tree f (trees_of cs)) = children_stand_in_order d styles k doc same lt ∙ ap (λ (o : Option Facts). box_with o cs) e in
    let one = context_is_one_box d.nodes styles k f (trees_of cs) mine (n.no_inline marked) in
    ap (λ (ts : List Tree). flow_at (listed_part d.nodes styles (put_list nothing ts)) 0) one ∙ first (inner_boxes d.nodes styles f)
  where
    first : (us : Trees) → flow_at (listed_part d.nodes styles (put_list nothing (tree (as_own f) us ∷ []))) 0 ≡ f.flow
    first us = refl
