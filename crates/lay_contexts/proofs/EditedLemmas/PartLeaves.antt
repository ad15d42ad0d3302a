-- The tree of a node as the part of the context around has it: a leaf where it is an inner context's, and else with what its children
-- give.
use Rattle.std.proofs.Common.{◌≡◌, ℕ, suc, ◌+◌, ◌-◌, ◌<◌, ◌≤◌, ◌==◌, Bool, true, false, List, ◌∷◌, length, refl, ap, sym, subst, ◌∙◌, arith, if◌then◌else◌, Option, None, Some, option_map, slice_index}
use Rattle.lay_style.specs.declared.style.Style.{Style}
use Rattle.lay_doc.specs.declared.node.Node.{Node}
use Rattle.lay_doc.specs.Document.{parents_of}
use Rattle.lay_doc.specs.Tree.{IsTree}
use Rattle.lay_boxgen.specs.Boxes.{Tree, tree, no_trees, also, trees_of}
use Rattle.lay_boxgen.specs.Forms.{is_absolute, is_inline}
use Rattle.lay_boxgen.specs.declared.facts.Facts.{Facts}
use Rattle.lay_boxgen.specs.declared.facts.Form.{Form}
use Rattle.lay_boxgen.specs.Contexts.{box_at, box_of_node}
use Rattle.lay_boxgen.specs.CutTrees.{cut_own, cut_tree_at}
use Rattle.lay_boxgen.specs.NodeBoxes.{facts_with, form_of}
use Rattle.lay_boxgen.specs.NodeTrees.{and_child, anchor_facts, as_child, as_own, box_with, tree_at}
use Rattle.lay_boxgen.specs.Parts.{is_closed, nothing, put, put_list}
use Rattle.lay_contexts.proofs.Cited.{is-node_box, IsBoxOf, IsNodeBox, put-trees_of}
use Rattle.lay_contexts.specs.NodeTreeLaws.{child_trees, children_places}
use Rattle.lay_contexts.proofs.ChildTrees.{in-order}
use Rattle.lay_contexts.proofs.RisingLists.{Has, from-has}

-- A node's tree, as a part has it: a leaf where it is an inner context's, and else with what its children give.
abbrev pub and_tree : Option Tree → List Tree → List Tree
and_tree None ts = ts
and_tree (Some t) ts = t ∷ ts

abbrev pub as_part : Tree → Tree
as_part t = put nothing (as_child t)

pub put-and : (o : Option Tree) (ts : List Tree) → put_list nothing (and_child as_child o ts) ≡ and_tree (option_map as_part o) (put_list nothing ts)
put-and None ts = refl
put-and (Some t) ts = refl

abbrev pub leaf_of : Facts → List Tree → Tree
leaf_of f ts = if is_absolute f.flow then tree (anchor_facts f) no_trees else tree f (if is_closed f then no_trees else trees_of ts)

abbrev pub leaf_with : Option Facts → List Tree → Option Tree
leaf_with None ts = None
leaf_with (Some f) ts = Some (leaf_of f ts)

pub part-leaf : (o : Option Facts) (ts : List Tree) → option_map as_part (box_with o ts) ≡ leaf_with o (put_list nothing ts)
part-leaf None ts = refl
part-leaf (Some f) ts = ap Some (by (is_absolute f.flow))
  where
    by : (b : Bool) → put nothing (if b then tree (anchor_facts f) (also (tree (as_own f) (trees_of ts)) no_trees) else tree f (trees_of ts))
        ≡ (if b then tree (anchor_facts f) no_trees else tree f (if is_closed f then no_trees else trees_of (put_list nothing ts)))
    by true = refl
    by false = ap (λ us. tree f (if is_closed f then no_trees else us)) (put-trees_of nothing ts)

abbrev pub own_with : Option Facts → List Tree → Option Tree
own_with None ts = None
own_with (Some f) ts = Some (tree (as_own f) (trees_of ts))

pub own-cut : (o : Option Facts) (ts : List Tree) → option_map cut_own (box_with o ts) ≡ own_with o (put_list nothing ts)
own-cut None ts = refl
own-cut (Some f) ts = ap (λ us. Some (tree (as_own f) us)) (put-trees_of nothing ts)

-- What the box of a node is.
place-by : (k : ℕ) (n : Node) (s : Style) (o : Option Form) (f : Facts) → option_map (facts_with k n s) o ≡ Some f → f.place ≡ k
place-by k n s None f e = absurd cc
place-by k n s (Some x) f e = let h : facts_with k n s x ≡ f = cc in sym (ap (λ (g : Facts). g.place) h)

pub place-of : (k : ℕ) (o : Option Node) (s : Style) (f : Facts) → box_of_node k o s ≡ Some f → f.place ≡ k
place-of k None s f e = absurd cc
place-of k (Some n) s f e = place-by k n s (form_of (k == 0) n.kind n.text s) f e

pub no-inline : (k : ℕ) (o : Option Node) (s : Style) (f : Facts) → box_of_node k o s ≡ Some f → f.inner ≡ true → is_inline f.form ≡ false
no-inline k None s f e h = absurd cc
no-inline k (Some n) s f e h = let b : IsNodeBox k n (Some f) = subst (IsNodeBox k n) e (is-node_box k n s) in let c : IsBoxOf k n f = b in c.context h

module _ (nodes : List Node) (is_tree : IsTree (parents_of nodes)) where
  abbrev pub below : List Style → ℕ → List Tree
  below ss k = put_list nothing (child_trees nodes ss (children_places nodes k))

  abbrev pub leaf : List Style → ℕ → Option Tree
  leaf ss k = option_map as_part (tree_at nodes ss k)

  pub leaf-is : (ss : List Style) → length ss ≡ length nodes → (k : ℕ) → k < length nodes → leaf ss k ≡ leaf_with (box_at nodes ss k) (below ss k)
  leaf-is ss same k lt = ap (option_map as_part) (in-order nodes ss is_tree same k lt) ∙ part-leaf (box_at nodes ss k) (child_trees nodes ss (children_places nodes k))

  pub cut-is : (ss : List Style) → length ss ≡ length nodes → (k : ℕ) → k < length nodes → cut_tree_at nodes ss k ≡ own_with (box_at nodes ss k) (below ss k)
  cut-is ss same k lt = ap (option_map cut_own) (in-order nodes ss is_tree same k lt) ∙ own-cut (box_at nodes ss k) (child_trees nodes ss (children_places nodes k))

  pub behind : (k c turns : ℕ) → length nodes ≤ k + suc turns → Has (children_places nodes k) c → (length nodes ≤ c + turns) × (c < length nodes)
  behind k c turns enough h =
      let r = from-has (λ c. slice_index (parents_of nodes) c == k) c (k + 1) (length nodes - (k + 1)) h in
      let low = r.0 in
      let high = r.1 in
      (omega (arith, low, enough), omega (arith, low, high))
