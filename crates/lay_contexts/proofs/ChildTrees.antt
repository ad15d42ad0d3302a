-- The tree of a node has the trees of its children in document order.
use Rattle.std.proofs.Common.{◌≡◌, inl, inr, ℕ, zero, suc, ◌+◌, ◌-◌, ◌<◌, ◌≤◌, ◌==◌, nat_lt, true, false, List, [], ◌∷◌, length, map, filter, drop, slice_get, slice_index, slice_index_or, refl, ap, sym, ◌∙◌, arith, Option, None, Some}
use Rattle.std.proofs.lemmas.Bool.{cases_lt, cases_eq}
use Rattle.std.proofs.lemmas.List.{drop_all}
use Rattle.lay_style.specs.declared.style.Style.{Style}
use Rattle.lay_style.specs.ComputedStyle.{style_at}
use Rattle.lay_style.specs.InitialStyle.{initial_style}
use Rattle.lay_doc.specs.declared.node.Node.{Node}
use Rattle.lay_doc.specs.Document.{parents_of}
use Rattle.lay_doc.specs.Tree.{IsTree}
use Rattle.lay_doc.proofs.NodeColumns.{length-parents}
use Rattle.lay_boxgen.specs.Contexts.{box_at, box_of_node}
use Rattle.lay_boxgen.specs.NodeBoxes.{node_box}
use Rattle.lay_boxgen.specs.NodeTrees.{and_child, as_child, box_with, children_of, first_tree, node_trees, others_than_children, tree_at}
use Rattle.lay_boxgen.specs.declared.node_trees.NodeTree.{NodeTree}
use Rattle.lay_contexts.specs.NodeTreeLaws.{ChildrenStandInOrder, child_trees, children_places, places_from}

-- What stands at a place of a list.
record IsAt {X : Type 0} (xs : List X) (k : ℕ) : Type 0 where
  item : X
  from : drop k xs ≡ item ∷ drop (k + 1) xs
  get : slice_get xs k ≡ Some item
  read : (d : X) → slice_index_or xs k d ≡ item

at : {X : Type 0} (xs : List X) (k : ℕ) → k < length xs → IsAt xs k
at [] k lt = absurd (omega (arith, lt))
at (x ∷ xs) zero lt = record { item = x; from = refl; get = refl; read = λ d. refl }
at (x ∷ xs) (suc k) lt =
    let h = at xs k (omega (arith, lt)) in
    record {
      item = h.item;
      from = h.from ∙ ap (λ n. h.item ∷ drop n (x ∷ xs)) (let e : suc (k + 1) ≡ suc k + 1 = omega arith in e);
      get = h.get;
      read = h.read;
    }

parent-at : (xs : List Node) (k : ℕ) (n : Node) → slice_get xs k ≡ Some n → slice_index (parents_of xs) k ≡ n.parent
parent-at [] zero n h = cc
parent-at [] (suc k) n h = cc
parent-at (x ∷ xs) zero n h = ap (λ o. (unwrap x o).parent) h
  where
    unwrap : Node → Option Node → Node
    unwrap y None = y
    unwrap y (Some w) = w
parent-at (x ∷ xs) (suc k) n h = parent-at xs k n h

module _ (nodes : List Node) (styles : List Style) (is_tree : IsTree (parents_of nodes)) (same : length styles ≡ length nodes) where
  abbrev up : ℕ → ℕ
  up r = slice_index (parents_of nodes) r

  abbrev entry : ℕ → NodeTree
  entry r = record { parent = up r; tree = tree_at nodes styles r }

  forest : ℕ → List NodeTree
  forest m = node_trees as_child m (drop m nodes) (drop m styles)

  -- those of these nodes that have their parent before m, and those whose parent is the one at m
  abbrev roots : ℕ → List ℕ → List ℕ
  roots m rs = filter (λ r. nat_lt (up r) m) rs

  abbrev children : ℕ → List ℕ → List ℕ
  children m rs = filter (λ r. up r == m) rs

  below-false : (a b : ℕ) → b ≤ a → nat_lt a b ≡ false
  below-false a b le = grind (arith, le)

  below-true : (a b : ℕ) → a < b → nat_lt a b ≡ true
  below-true a b lt = grind (arith, lt)

  is-false : (a b : ℕ) → (a ≡ b → ⊥) → (a == b) ≡ false
  is-false a b ne = grind (arith, ne)

  is-true : (a b : ℕ) → a ≡ b → (a == b) ≡ true
  is-true a b e = grind (arith, e)

  -- behind a node whose parent is before m there is no child of m
  module _ (m r : ℕ) (behind : m < r) (before : up r < m) where
    ended : (d at : ℕ) → r < at → at + d ≡ length nodes → (roots (m + 1) (places_from at d) ≡ roots m (places_from at d)) × (children m (places_from at d) ≡ [])
    ended zero at lt e = (refl, refl)
    ended (suc d) at lt e =
        let h = ended d (at + 1) (omega (arith, lt)) (omega (arith, e)) in
        let other : up at ≡ m → ⊥ = λ is. (let t = is_tree.together r at lt (let l = length-parents nodes in omega (arith, e, l)) (omega (arith, is, behind)) in omega (arith, t, is, before)) in
        elim (cases_lt (up at) m) [
          | inl low ↦ (
            (let x = below-true (up at) (m + 1) (omega (arith, low)) in let y = below-true (up at) m low in simp (x, y) (ap (λ rs. at ∷ rs) h.0)),
            (let z = is-false (up at) m other in simp z h.1),
          )
          | inr high ↦ (
            (let more : m + 1 ≤ up at = omega (arith, high, other) in let x = below-false (up at) (m + 1) more in let y = below-false (up at) m high in simp (x, y) h.0),
            (let z = is-false (up at) m other in simp z h.1),
          )
        ]

  abbrev Splits : ℕ → List ℕ → Type 0
  Splits m rs =
      (others_than_children m (map entry (roots (m + 1) rs)) ≡ map entry (roots m rs))
      × (children_of as_child m (map entry (roots (m + 1) rs)) ≡ child_trees nodes styles (children m rs))

  splits : (m d at : ℕ) → m < at → at + d ≡ length nodes → Splits m (places_from at d)
  splits m zero at lt e = (refl, refl)
  splits m (suc d) at lt e =
      let h = splits m d (at + 1) (omega (arith, lt)) (omega (arith, e)) in
      elim (cases_eq (up at) m) [
        | inl is ↦ (
            let x = below-true (up at) (m + 1) (omega (arith, is)) in
            let y = below-false (up at) m (omega (arith, is)) in
            let z = is-true (up at) m is in (
              simp (x, y, z) h.0,
              simp (x, z) (ap (and_child as_child (tree_at nodes styles at)) h.1),
            ))
        | inr other ↦ elim (cases_lt (up at) m) [
          | inl low ↦ (
              let x = below-true (up at) (m + 1) (omega (arith, low)) in
              let y = below-true (up at) m low in
              let z = is-false (up at) m other in
              let w = ended m at lt low d (at + 1) (omega arith) (omega (arith, e)) in (
                simp (x, y, z) (ap (λ rs. entry at ∷ map entry rs) w.0),
                simp (x, z) (ap (child_trees nodes styles) (sym w.1)),
              ))
          | inr high ↦ (
              let more : m + 1 ≤ up at = omega (arith, high, other) in
              let x = below-false (up at) (m + 1) more in
              let y = below-false (up at) m high in
              let z = is-false (up at) m other in (
                simp (x, y) h.0,
                simp (x, z) h.1,
              ))
        ]
      ]

  -- the trees of the nodes from m on that have their parent before m
  forest-is : (d m : ℕ) → m + d ≡ length nodes → 0 < m → forest m ≡ map entry (roots m (places_from m d))
  unfolding forest
  forest-is zero m e positive =
      let none : drop m nodes ≡ [] = drop_all m nodes (omega (arith, e)) in
      ap (λ r. node_trees as_child m r (drop m styles)) none
  forest-is (suc d) m e positive =
      let n = at nodes m (omega (arith, e)) in
      let s = at styles m (omega (arith, e, same)) in
      let rest = forest-is d (m + 1) (omega (arith, e)) (omega arith) in
      let sp = splits m d (m + 1) (omega arith) (omega (arith, e)) in
      let first : forest m ≡ record { parent = n.item.parent; tree = box_with (node_box m n.item s.item) (children_of as_child m (forest (m + 1))) } ∷ others_than_children m (forest (m + 1)) =
      ap (λ r. node_trees as_child m r (drop m styles)) n.from ∙ ap (node_trees as_child m (n.item ∷ drop (m + 1) nodes)) s.from in
      let own : forest m ≡ record { parent = n.item.parent; tree = tree_at nodes styles m } ∷ others_than_children m (forest (m + 1)) =
      first ∙ ap (λ t. record { parent = n.item.parent; tree = t } ∷ others_than_children m (forest (m + 1))) (sym (ap first_tree first)) in
      let low = is_tree.before m positive (let l = length-parents nodes in omega (arith, e, l)) in
      let kept = below-true (up m) m low in
      own
      ∙ (ap (λ p. record { parent = p; tree = tree_at nodes styles m } ∷ others_than_children m (forest (m + 1))) (sym (parent-at nodes m n.item n.get))
      ∙ (ap (λ ns. entry m ∷ others_than_children m ns) rest
      ∙ (ap (λ ns. entry m ∷ ns) sp.0 ∙ sym (simp kept refl))))

  pub in-order : (k : ℕ) → k < length nodes → tree_at nodes styles k ≡ box_with (box_at nodes styles k) (child_trees nodes styles (children_places nodes k))
  unfolding forest
  in-order k lt =
      let n = at nodes k lt in
      let s = at styles k (omega (arith, lt, same)) in
      let d = length nodes - (k + 1) in
      let is = forest-is d (k + 1) (omega (arith, lt)) (omega arith) in
      let sp = splits k d (k + 1) (omega arith) (omega (arith, lt)) in
      let mine : tree_at nodes styles k ≡ box_with (node_box k n.item s.item) (children_of as_child k (forest (k + 1))) =
      ap (λ r. first_tree (node_trees as_child k r (drop k styles))) n.from ∙ ap (λ r. first_tree (node_trees as_child k (n.item ∷ drop (k + 1) nodes) r)) s.from in
      let box : box_at nodes styles k ≡ node_box k n.item s.item = ap (λ o. box_of_node k o (style_at styles k)) n.get ∙ ap (node_box k n.item) (s.read initial_style) in
      mine
      ∙ (ap (λ ns. box_with (node_box k n.item s.item) (children_of as_child k ns)) is
      ∙ (ap (box_with (node_box k n.item s.item)) sp.1 ∙ ap (λ o. box_with o (child_trees nodes styles (children_places nodes k))) (sym box)))

pub children_stand_in_order : ChildrenStandInOrder
children_stand_in_order d styles k doc same lt = in-order d.nodes styles doc.tree same k lt
