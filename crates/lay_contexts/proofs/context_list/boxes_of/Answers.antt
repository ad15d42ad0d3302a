use Rattle.std.proofs.Common.{◌≡◌, ◌∙◌, ℕ, suc, ◌+◌, ◌<◌, ◌++◌, ◌∷◌, [], List, ap, arith, drop, length, refl, reverse, slice_index, sym, take}
use Rattle.std.proofs.Math.Seq.{drop-cons}
use Rattle.std.proofs.lemmas.List.{map-append, reverse-append, take_more}
use Rattle.lay_box_tree.specs.declared.box_tree.BoxNode.{BoxNode}
use Rattle.lay_style.specs.declared.style.Style.{Style}
use Rattle.lay_doc.specs.declared.node.Node.{Node}
use Rattle.lay_contexts.specs.ContextTree.{boxes_of_place}
use Rattle.lay_contexts.specs.ListedContexts.{boxes_of_places}
use Rattle.lay_contexts.proofs.ListedSteps.{context_within}
use Rattle.lay_contexts.proofs.SpotOrder.{context_boxes}
use Rattle.lay_contexts.proofs.context_list.boxes_of.Goals as goal

-- the next one of what is left, and the rest
next_is : (x y : List BoxNode) (xs ys : List (List BoxNode)) → x ∷ xs ≡ y ∷ ys → x ≡ y
next_is x y xs ys e = cc

rest_is : (x y : List BoxNode) (xs ys : List (List BoxNode)) → x ∷ xs ≡ y ∷ ys → xs ≡ ys
rest_is x y xs ys e = cc

module _ (nodes : List Node) (styles : List Style) (places : List ℕ) (n : ℕ) (lt : n < length places) (trees rest : List (List BoxNode)) (tree : List BoxNode)
    (popped : trees ≡ rest ++ tree ∷ []) (left : reverse trees ≡ boxes_of_places nodes styles (drop n places)) where
  split : tree ∷ reverse rest ≡ boxes_of_place nodes styles (slice_index places n) ∷ boxes_of_places nodes styles (drop (n + 1) places)
  split =
      let q : suc n ≡ n + 1 = omega arith in
      sym (ap reverse popped ∙ reverse-append rest (tree ∷ [])) ∙ left
      ∙ ap (boxes_of_places nodes styles) (drop-cons places n 0 lt ∙ ap (λ (m : ℕ). slice_index places n ∷ drop m places) q)

  tree_is : tree ≡ boxes_of_place nodes styles (slice_index places n)
  tree_is = next_is tree (boxes_of_place nodes styles (slice_index places n)) (reverse rest) (boxes_of_places nodes styles (drop (n + 1) places)) split

  left_is : reverse rest ≡ boxes_of_places nodes styles (drop (n + 1) places)
  left_is = rest_is tree (boxes_of_place nodes styles (slice_index places n)) (reverse rest) (boxes_of_places nodes styles (drop (n + 1) places)) split

  taken_is : (all : List (List BoxNode)) (boxes : List BoxNode) → boxes ≡ tree → all ≡ boxes_of_places nodes styles (take n places) → all ++ boxes ∷ [] ≡ boxes_of_places nodes styles (take (n + 1) places)
  taken_is all boxes is taken =
      let t = take_more places n 0 lt in
      rw (is, tree_is, taken, t, map-append (boxes_of_place nodes styles) (take n places) (slice_index places n ∷ [])) refl

pub boxes_of_contexts-requires-clause-within : goal.boxes_of_contexts-requires-clause-within
boxes_of_contexts-requires-clause-within c j lt = context_within c.args.doc.now.nodes c.args.computed.now (slice_index c.args.places.now j) (c.requires.places.are j lt)

pub boxes_of_contexts-requires-clause-contexts : goal.boxes_of_contexts-requires-clause-contexts
boxes_of_contexts-requires-clause-contexts c j lt = c.requires.places.are j lt

pub new-requires : goal.new-requires
new-requires c =
    let nodes = c.args.doc.now.nodes in
    let styles = c.args.computed.now in
    let places = c.args.places.now in
    let n = c.loop.counter in
    let lt : n < length places = omega (arith, c.loop-test.true) in
    let popped : c.loop.trees.items ≡ c.pop.new.self.items ++ c.in-Some.tree ∷ [] = rw c.in-Some.is at c.pop.ensures.items in
    rw (tree_is nodes styles places n lt c.loop.trees.items c.pop.new.self.items c.in-Some.tree popped c.loop.invariant.1)
    (context_boxes c.args.doc.now styles c.nodes.ensures.valid c.requires.styles (slice_index places n) (c.requires.places.are n lt))

pub loop-preserved : goal.loop-preserved
loop-preserved c =
    let nodes = c.args.doc.now.nodes in
    let styles = c.args.computed.now in
    let places = c.args.places.now in
    let n = c.loop.counter in
    let lt : n < length places = omega (arith, c.loop-test.true) in
    let popped : c.loop.trees.items ≡ c.pop.new.self.items ++ c.in-Some.tree ∷ [] = rw c.in-Some.is at c.pop.ensures.items in
    let pushed : c.push.new.self.items ≡ c.loop.all.items ++ c.in_ok-boxes.boxes ∷ [] = (c.in_ok-push.ensures {u = tt}).items in (
      rw pushed (taken_is nodes styles places n lt c.loop.trees.items c.pop.new.self.items c.in-Some.tree popped c.loop.invariant.1 c.loop.all.items c.in_ok-boxes.boxes (c.in_ok-boxes.ensures {u = tt}) c.loop.invariant.0),
      left_is nodes styles places n lt c.loop.trees.items c.pop.new.self.items c.in-Some.tree popped c.loop.invariant.1,
    )
