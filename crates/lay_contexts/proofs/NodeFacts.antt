-- A fact of the boxes of all nodes, and of the anchors of absolute ones, holds of all boxes that generation starts from.
use Rattle.std.proofs.Common.{◌≡◌, ℕ, zero, suc, ◌+◌, ◌-◌, ◌<◌, ◌≤◌, ◌==◌, Bool, true, false, List, [], ◌∷◌, length, filter, drop, slice_get, slice_index, refl, ap, sym, subst, ◌∙◌, arith, inl, inr, if◌then◌else◌, Option, None, Some, option_map}
use Rattle.std.proofs.lemmas.Bool.{cases_lt}
use Rattle.std.proofs.lemmas.List.{drop_all}
use Rattle.lay_style.specs.declared.style.Style.{Style}
use Rattle.lay_style.specs.ComputedStyle.{style_at}
use Rattle.lay_doc.specs.declared.node.Node.{Node}
use Rattle.lay_doc.specs.Document.{Document, IsDocument, ids_of, parents_of}
use Rattle.lay_boxgen.specs.Boxes.{Tree, Trees, tree, no_trees, also, trees_of}
use Rattle.lay_boxgen.specs.Contexts.{box_at, box_of_node}
use Rattle.lay_boxgen.specs.Forms.{is_absolute, is_anchor, is_inline}
use Rattle.lay_boxgen.specs.InnerBoxes.{AllBoxes, AllIn, AllOf}
use Rattle.lay_boxgen.specs.NodeBoxes.{facts_with, form_of, node_box}
use Rattle.lay_boxgen.specs.NodeTrees.{anchor_facts, and_child, as_child, as_own, box_with, first_tree, node_trees, tree_at}
use Rattle.lay_boxgen.specs.declared.facts.Facts.{Facts}
use Rattle.lay_boxgen.specs.declared.facts.Form.{Form}
use Rattle.lay_contexts.proofs.Cited.{is-node_box, IsNodeBox}
use Rattle.lay_contexts.specs.NodeTreeLaws.{child_trees, children_places, places_from}
use Rattle.lay_contexts.proofs.ChildTrees.{children_stand_in_order}

-- the box of a node
pub record IsOfNode (nodes : List Node) (styles : List Style) (f : Facts) : Type 0 where
  pub within : f.place < length nodes
  pub node : slice_index (ids_of nodes) f.place ≡ f.node.0
  pub there : box_at nodes styles f.place ≡ Some f
  pub no_anchor : is_anchor f.form ≡ false
  pub plain : f.anonymous ≡ false
  pub no_inline : f.inner ≡ true → is_inline f.form ≡ false

get_less : (xs : List Node) (k : ℕ) (x : Node) → slice_get xs k ≡ Some x → k < length xs
get_less [] zero x h = cc
get_less [] (suc k) x h = cc
get_less (y ∷ ys) zero x h = omega arith
get_less (y ∷ ys) (suc k) x h = (let lt = get_less ys k x h in omega (arith, lt))

get_id : (xs : List Node) (k : ℕ) (x : Node) → slice_get xs k ≡ Some x → slice_index (ids_of xs) k ≡ x.id.0
get_id [] zero x h = cc
get_id [] (suc k) x h = cc
get_id (y ∷ ys) zero x h = ap (λ (o : Option Node). (unwrap o).id.0) h
  where
    unwrap : Option Node → Node
    unwrap None = y
    unwrap (Some z) = z
get_id (y ∷ ys) (suc k) x h = get_id ys k x h

not_anonymous : (k : ℕ) (n : Node) (s : Style) (o : Option Form) (f : Facts) → option_map (facts_with k n s) o ≡ Some f → f.anonymous ≡ false
not_anonymous k n s None f e = cc
not_anonymous k n s (Some x) f e = ap (λ (o : Option Facts). (unwrap o).anonymous) (sym e)
  where
    unwrap : Option Facts → Facts
    unwrap None = f
    unwrap (Some g) = g

-- where the node at k has one
module _ (nodes : List Node) (styles : List Style) (k : ℕ) (f : Facts) (e : box_at nodes styles k ≡ Some f) where
  of_some : (n : Node) → slice_get nodes k ≡ Some n → IsOfNode nodes styles f
  of_some n get =
      let s : Style = style_at styles k in
      let here : node_box k n s ≡ Some f = sym (ap (λ (o : Option Node). box_of_node k o s) get) ∙ e in
      let b = subst (IsNodeBox k n) here (is-node_box k n s) in
      let lt = get_less nodes k n get in
      record {
        within = omega (arith, b.place, lt);
        node = ap (slice_index (ids_of nodes)) b.place ∙ (get_id nodes k n get ∙ ap (λ i. i.0) (sym b.node));
        there = ap (box_at nodes styles) b.place ∙ e;
        no_anchor = b.no_anchor;
        plain = not_anonymous k n s (form_of (k == 0) n.kind n.text s) f here;
        no_inline = b.context;
      }

  of_get : (o : Option Node) → slice_get nodes k ≡ o → IsOfNode nodes styles f
  of_get None get = absurd (let never : None ≡ Some f = sym (ap (λ (o : Option Node). box_of_node k o (style_at styles k)) get) ∙ e in cc)
  of_get (Some n) get = of_some n get

  pub box_within : k < length nodes
  box_within = within_by (slice_get nodes k) refl
    where
      within_by : (o : Option Node) → slice_get nodes k ≡ o → k < length nodes
      within_by None get = absurd (let never : None ≡ Some f = sym (ap (λ (o : Option Node). box_of_node k o (style_at styles k)) get) ∙ e in cc)
      within_by (Some n) get = get_less nodes k n get

  pub of_node : IsOfNode nodes styles f
  of_node = of_get (slice_get nodes k) refl

-- a tree, if there is one, of a node's box, with this fact of all boxes in it
abbrev pub IsNodeTree : List Node → List Style → (Facts → Type 0) → Option Tree → Type 0
IsNodeTree nodes styles P None = Unit {0}
IsNodeTree nodes styles P (Some (tree f us)) = IsOfNode nodes styles f × AllIn P us

in_list : (P : Facts → Type 0) (ts : List Tree) → AllOf P ts → AllIn P (trees_of ts)
in_list P [] h = tt
in_list P (t ∷ ts) h = (h.0, in_list P ts h.1)

module _ (d : Document) (styles : List Style) (doc : IsDocument d) (same : length styles ≡ length d.nodes) (P : Facts → Type 0)
    (child : (f : Facts) → IsOfNode d.nodes styles f → is_absolute f.flow ≡ false → P f)
    (anchor : (f : Facts) → IsOfNode d.nodes styles f → is_absolute f.flow ≡ true → P (anchor_facts f))
    (inside : (f : Facts) → IsOfNode d.nodes styles f → P (as_own f)) where
  child_by : (f : Facts) (us : Trees) → IsOfNode d.nodes styles f × AllIn P us → (b : Bool) → is_absolute f.flow ≡ b
      → AllBoxes P (if b then tree (anchor_facts f) (also (tree (as_own f) us) no_trees) else tree f us)
  child_by f us h true e = (anchor f h.0 e, ((inside f h.0, h.1), tt))
  child_by f us h false e = (child f h.0 e, h.1)

  with_child : (o : Option Tree) (ts : List Tree) → IsNodeTree d.nodes styles P o → AllOf P ts → AllOf P (and_child as_child o ts)
  with_child None ts h g = g
  with_child (Some (tree f us)) ts h g = (child_by f us h (is_absolute f.flow) refl, g)

  children_by : (c : ℕ) (cs : List ℕ) → IsNodeTree d.nodes styles P (tree_at d.nodes styles c) → AllOf P (child_trees d.nodes styles cs) → (b : Bool)
      → AllOf P (child_trees d.nodes styles (if b then c ∷ cs else cs))
  children_by c cs h g true = with_child (tree_at d.nodes styles c) (child_trees d.nodes styles cs) h g
  children_by c cs h g false = g

  abbrev is_child : ℕ → ℕ → Bool
  is_child k c = slice_index (parents_of d.nodes) c == k

  children : (k : ℕ) → ((c : ℕ) → k < c → IsNodeTree d.nodes styles P (tree_at d.nodes styles c)) → (n at : ℕ) → k < at
      → AllOf P (child_trees d.nodes styles (filter (is_child k) (places_from at n)))
  children k below zero at lt = tt
  children k below (suc n) at lt =
      children_by at (filter (is_child k) (places_from (at + 1) n)) (below at lt) (children k below n (at + 1) (omega (arith, lt))) (is_child k at)

  with_box : (k : ℕ) (cs : List Tree) → AllOf P cs → (o : Option Facts) → box_at d.nodes styles k ≡ o → IsNodeTree d.nodes styles P (box_with o cs)
  with_box k cs h None e = tt
  with_box k cs h (Some f) e = (of_node d.nodes styles k f e, in_list P cs h)

  past : (k : ℕ) → length d.nodes ≤ k → IsNodeTree d.nodes styles P (tree_at d.nodes styles k)
  past k le = subst (λ (ns : List Node). IsNodeTree d.nodes styles P (first_tree (node_trees as_child k ns (drop k styles)))) (sym (drop_all k d.nodes le)) tt

  trees : (fuel k : ℕ) → length d.nodes ≤ fuel + k → IsNodeTree d.nodes styles P (tree_at d.nodes styles k)
  trees zero k le = past k (omega (arith, le))
  trees (suc fuel) k le = elim (cases_lt k (length d.nodes)) [
    | inl lt ↦ subst (IsNodeTree d.nodes styles P) (sym (children_stand_in_order d styles k doc same lt))
        (with_box k (child_trees d.nodes styles (children_places d.nodes k))
        (children k (λ c less. trees fuel c (omega (arith, le, less))) (length d.nodes - (k + 1)) (k + 1) (omega arith)) (box_at d.nodes styles k) refl)
    | inr high ↦ past k high
  ]

  pub node_tree : (k : ℕ) → IsNodeTree d.nodes styles P (tree_at d.nodes styles k)
  node_tree k = trees (length d.nodes) k (omega arith)
