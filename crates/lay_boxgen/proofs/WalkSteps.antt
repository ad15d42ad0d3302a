-- One step of the walk over the nodes of a document.
use Rattle.std.proofs.Common.{◌≡◌, ℕ, suc, ◌+◌, ◌-◌, ◌<◌, ◌≤◌, ◌==◌, Bool, true, false, List, [], ◌∷◌, ◌++◌, Option, None, Some, arith, drop, get_or, inl, inr, length, option_map, refl, reverse, ap, slice_get, slice_index, subst, sym, IsTrue, ◌∙◌, if◌then◌else◌}
use Rattle.std.proofs.Math.Seq.{drop-cons}
use Rattle.std.proofs.lemmas.Bool.{cases_lt}
use Rattle.std.proofs.lemmas.List.{reverse-append}
use Rattle.std.proofs.lemmas.Grind.{elements}
use Rattle.lay_style.specs.ComputedStyle.{style_at}
use Rattle.lay_style.specs.InitialStyle.{initial_style}
use Rattle.lay_style.specs.declared.style.Style.{Style}
use Rattle.lay_doc.specs.declared.node.Node.{Node}
use Rattle.lay_boxgen.specs.Boxes.{Tree}
use Rattle.lay_boxgen.specs.declared.facts.Facts.{Facts}
use Rattle.lay_box_tree.specs.declared.box_tree.BoxNode.{BoxNode}
use Rattle.lay_boxgen.specs.Contexts.{IsContextAt, box_at, box_of_node, is_marked}
use Rattle.lay_boxgen.specs.ContextWalk.{Rise, as_leaves, boxes_at_places, is_context_tree}
use Rattle.lay_boxgen.specs.CutTrees.{as_leaf, cut_tree_at}
use Rattle.lay_boxgen.specs.Listing.{listed_part}
use Rattle.lay_boxgen.specs.NodeBoxes.{node_box}
use Rattle.lay_boxgen.specs.NodeTrees.{and_child, box_with, children_of, first_tree, node_trees, others_than_children, tree_at, with_node_tree}
use Rattle.lay_boxgen.specs.Parts.{own_tree, part}
use Rattle.lay_boxgen.specs.declared.node_trees.NodeTree.{NodeTree}
use Rattle.lay_boxgen.proofs.CutNodes.{tree-cut}
use Rattle.lay_boxgen.proofs.NodeForms.{IsNodeBox, is-node_box}
use Rattle.lay_boxgen.proofs.SplitNodes.{own-cut}

abbrev same : Tree → Tree
same t = t

and_leaf : (o : Option Tree) (ts us : List Tree) → ts ≡ us → and_child as_leaf o ts ≡ and_child same (option_map as_leaf o) us
and_leaf None ts us h = h
and_leaf (Some t) ts us h = ap (λ r. as_leaf t ∷ r) h

-- the children of a node are seen of the leaves alone
children_leaf : (k : ℕ) (ns : List NodeTree) → children_of as_leaf k ns ≡ children_of same k (as_leaves ns)
children_leaf k [] = refl
children_leaf k (n ∷ ns) = ap (λ (ts : List Tree). if n.parent == k then ts else []) (and_leaf n.tree (children_of as_leaf k ns) (children_of same k (as_leaves ns)) (children_leaf k ns))

others_by : (n : NodeTree) (k : ℕ) (ns : List NodeTree) → as_leaves (others_than_children k ns) ≡ others_than_children k (as_leaves ns) → (b : Bool)
    → as_leaves (if b then others_than_children k ns else n ∷ ns) ≡ (if b then others_than_children k (as_leaves ns) else as_leaves (n ∷ ns))
others_by n k ns ih true = ih
others_by n k ns ih false = refl

others_leaf : (k : ℕ) (ns : List NodeTree) → as_leaves (others_than_children k ns) ≡ others_than_children k (as_leaves ns)
others_leaf k [] = refl
others_leaf k (n ∷ ns) = others_by n k ns (others_leaf k ns) (n.parent == k)

module _ (k : ℕ) (n : Node) (s : Style) (xs ys : List NodeTree) (alike : as_leaves xs ≡ as_leaves ys) where
  same_children : children_of as_leaf k xs ≡ children_of as_leaf k ys
  same_children = children_leaf k xs ∙ ap (children_of same k) alike ∙ sym (children_leaf k ys)

  same_first : first_tree (with_node_tree as_leaf k n s xs) ≡ first_tree (with_node_tree as_leaf k n s ys)
  same_first = ap (box_with (node_box k n s)) same_children

  same_others : as_leaves (others_than_children k xs) ≡ as_leaves (others_than_children k ys)
  same_others = others_leaf k xs ∙ ap (others_than_children k) alike ∙ sym (others_leaf k ys)

  same_leaves : as_leaves (with_node_tree as_leaf k n s xs) ≡ as_leaves (with_node_tree as_leaf k n s ys)
  same_leaves =
      ap (λ (t : Option Tree). record { parent = n.parent; tree = option_map as_leaf t } ∷ as_leaves (others_than_children k xs)) same_first
      ∙ ap (λ (r : List NodeTree). record { parent = n.parent; tree = option_map as_leaf (first_tree (with_node_tree as_leaf k n s ys)) } ∷ r) same_others

-- the box of a context is no inline box, so that its tree is that of a context
closed_by : (k : ℕ) (n : Node) (o : Option Facts) (cs : List Tree) → IsNodeBox k n o → IsTrue (is_marked o) → is_context_tree (box_with o cs) ≡ true
closed_by k n None cs box marked = absurd cc
closed_by k n (Some f) cs box marked = (let inner : f.inner ≡ true = marked in rw (inner, box.context inner) refl)

module _ (nodes : List Node) (styles : List Style) (n : ℕ) (node : Node) (style : Style) (is : node ≡ get_or nodes n node) (styled : style ≡ style_at styles n) (lt : n < length nodes) where
  node_there : slice_get nodes n ≡ Some node
  node_there = grind (arith, elements, is, lt)

  box_there : box_at nodes styles n ≡ node_box n node style
  box_there = ap (λ (o : Option Node). box_of_node n o (style_at styles n)) node_there ∙ ap (node_box n node) (sym styled)

  -- the node that is put there is a context
  pub next_context : (xs ws : List NodeTree) → ws ≡ with_node_tree as_leaf n node style xs → IsContextAt nodes styles n → is_context_tree (first_tree ws) ≡ true
  next_context xs ws put context =
      ap (λ (ts : List NodeTree). is_context_tree (first_tree ts)) put
      ∙ closed_by n node (node_box n node style) (children_of as_leaf n xs) (is-node_box n node style) (subst (λ (o : Option Facts). IsTrue (is_marked o)) box_there context.establishes)

module _ (nodes : List Node) (styles : List Style) (n : ℕ) (node : Node) (style : Style) (is : node ≡ get_or nodes n node) (styled : style ≡ style_at styles n)
    (lt : n < length nodes) (count : length styles ≡ length nodes) where
  next_trees : node_trees as_leaf n (drop n nodes) (drop n styles) ≡ with_node_tree as_leaf n node style (node_trees as_leaf (n + 1) (drop (n + 1) nodes) (drop (n + 1) styles))
  next_trees =
      let q : suc n ≡ n + 1 = omega arith in
      let ns : drop n nodes ≡ node ∷ drop (n + 1) nodes = drop-cons nodes n node lt ∙ ap (λ (x : Node). x ∷ drop (suc n) nodes) (sym is) ∙ ap (λ (m : ℕ). node ∷ drop m nodes) q in
      let ss : drop n styles ≡ style ∷ drop (n + 1) styles = drop-cons styles n initial_style (omega (arith, lt, count)) ∙ ap (λ (x : Style). x ∷ drop (suc n) styles) (sym styled) ∙ ap (λ (m : ℕ). style ∷ drop m styles) q in
      ap (λ (xs : List Node). node_trees as_leaf n xs (drop n styles)) ns ∙ ap (node_trees as_leaf n (node ∷ drop (n + 1) nodes)) ss

  module _ (xs ws : List NodeTree) (alike : as_leaves xs ≡ as_leaves (node_trees as_leaf (n + 1) (drop (n + 1) nodes) (drop (n + 1) styles))) (put : ws ≡ with_node_tree as_leaf n node style xs) where
    pub next_leaves : as_leaves ws ≡ as_leaves (node_trees as_leaf n (drop n nodes) (drop n styles))
    next_leaves = ap as_leaves put ∙ same_leaves n node style xs (node_trees as_leaf (n + 1) (drop (n + 1) nodes) (drop (n + 1) styles)) alike ∙ ap as_leaves (sym next_trees)

    -- the first of them, seen from inside, is the tree of the context
    pub next_tree : option_map own_tree (first_tree ws) ≡ cut_tree_at nodes styles n
    next_tree =
        ap (λ (ts : List NodeTree). option_map own_tree (first_tree ts)) put
        ∙ ap (option_map own_tree) (same_first n node style xs (node_trees as_leaf (n + 1) (drop (n + 1) nodes) (drop (n + 1) styles)) alike ∙ ap first_tree (sym next_trees)
        ∙ tree-cut nodes styles n (drop n nodes) (drop n styles) refl) ∙ own-cut (tree_at nodes styles n)

-- the places
module _ (places : List ℕ) (rising : Rise places) (at left : ℕ) (few : left ≤ length places) (before : (j : ℕ) → j < left → slice_index places j < at + 1) where
  pub none_next : (0 < left → slice_index places (left - 1) ≡ at → ⊥) → (j : ℕ) → j < left → slice_index places j < at
  none_next other j lt = elim (cases_lt (slice_index places j) at) [
    | inl low ↦ low
    | inr high ↦ (let b = before j lt in elim (cases_lt j (left - 1)) [
      | inl less ↦ (let r = rising j (left - 1) less (omega (arith, few, lt)) in let l = before (left - 1) (omega (arith, lt)) in absurd (omega (arith, r, l, high)))
      | inr last ↦ (let q : j ≡ left - 1 = omega (arith, last, lt) in
          let e = ap (slice_index places) q in
          absurd (other (omega (arith, lt)) (omega (arith, e, b, high))))
    ])
  ]

  pub one_next : 0 < left → slice_index places (left - 1) ≡ at → (j : ℕ) → j < left - 1 → slice_index places j < at
  one_next some is j lt = (let r = rising j (left - 1) lt (omega (arith, few, some)) in omega (arith, r, is))

  pub one_made : (nodes : List Node) (styles : List Style) (all : List (List BoxNode)) (bs : List BoxNode) → 0 < left → slice_index places (left - 1) ≡ at
      → bs ≡ listed_part nodes styles (part nodes styles at) → reverse all ≡ boxes_at_places nodes styles (drop left places)
      → reverse (all ++ bs ∷ []) ≡ boxes_at_places nodes styles (drop (left - 1) places)
  one_made nodes styles all bs some is boxes made =
      let q : suc (left - 1) ≡ left = omega (arith, some) in
      let d : drop (left - 1) places ≡ at ∷ drop left places = drop-cons places (left - 1) 0 (omega (arith, few, some)) ∙ ap (λ (k : ℕ). k ∷ drop (suc (left - 1)) places) is ∙ ap (λ (m : ℕ). at ∷ drop m places) q in
      reverse-append all (bs ∷ []) ∙ ap (λ (r : List (List BoxNode)). bs ∷ r) made ∙ ap (λ (b : List BoxNode). b ∷ boxes_at_places nodes styles (drop left places)) boxes
      ∙ ap (boxes_at_places nodes styles) (sym d)
