-- The boxes of a context depend on its own nodes alone.
use Rattle.std.proofs.Common.{◌≡◌, inl, inr, ℕ, zero, suc, ◌+◌, ◌-◌, ◌<◌, ◌≤◌, ◌==◌, nat_lt, Bool, true, false, ◌&&◌, not, List, [], ◌∷◌, length, map, refl, ap, sym, subst, ◌∙◌, arith, if◌then◌else◌, slice_index, slice_index_or, Option, None, Some, option_map}
use Rattle.std.proofs.lemmas.Bool.{cases_lt}
use Rattle.std.proofs.lemmas.Option.{slice_get_within as there}
use Rattle.lay_style.specs.declared.style.Style.{Style}
use Rattle.lay_style.specs.ComputedStyle.{style_at}
use Rattle.lay_doc.specs.declared.node.Kind.{Kind}
use Rattle.lay_doc.specs.declared.node.Node.{Node}
use Rattle.lay_doc.specs.declared.node.NodeId.{NodeId}
use Rattle.lay_doc.specs.Document.{parents_of}
use Rattle.lay_doc.specs.Tree.{IsTree}
use Rattle.lay_boxgen.specs.Boxes.{Tree, tree, no_trees, also, trees_of}
use Rattle.lay_boxgen.specs.Contexts.{box_at, box_of_node, is_marked}
use Rattle.lay_boxgen.specs.CutTrees.{cut_own, cut_tree_at, generated_cut}
use Rattle.lay_boxgen.specs.Forms.{is_absolute, is_inline}
use Rattle.lay_boxgen.specs.Listing.{listed_part, text_at, text_of}
use Rattle.lay_boxgen.specs.NodeBoxes.{establishes_context, form_of, node_flow}
use Rattle.lay_boxgen.specs.NodeTrees.{anchor_facts, and_child, as_child, as_own, box_with, tree_at}
use Rattle.lay_boxgen.specs.Parts.{is_closed, nothing, part, put, put_list}
use Rattle.lay_boxgen.specs.declared.facts.Facts.{Facts}
use Rattle.lay_boxgen.specs.declared.facts.Form.{Form}
use Rattle.lay_contexts.proofs.Cited.{is-node_box, IsBoxOf, IsNodeBox, part-cut, put-trees_of}
use Rattle.lay_contexts.specs.NodeTreeLaws.{child_trees, children_places}
use Rattle.lay_contexts.proofs.ChildTrees.{in-order}
use Rattle.lay_contexts.specs.OwnNodes.{AreOwnNodes, IsOwnNode, OwnNode, OwnNodesDecide, own_at}
use Rattle.lay_contexts.proofs.OneStand.{marked-true}
use Rattle.lay_contexts.proofs.OwnChildren.{IsOpen, children-are, numbers, place, place-is}
use Rattle.lay_contexts.proofs.Relabeled.{generated_along, put_at, relabel, relabel_list, trees}
use Rattle.lay_contexts.proofs.RelabeledLists.{list-put-relabel, part-same}
use Rattle.lay_contexts.proofs.RisingLists.{Has, from-has}

-- the box of an own node by itself, where it stands at a place
abbrev own_facts : ℕ → OwnNode → Form → Facts
own_facts p o x = record {
  node = o.id;
  place = p;
  form = x;
  anonymous = false;
  flow = node_flow o.kind o.style;
  inner = establishes_context o.is_root (node_flow o.kind o.style) x o.style.overflow;
}

abbrev own_box : ℕ → OwnNode → Option Facts
own_box p o = option_map (own_facts p o) (form_of o.is_root o.kind o.text o.style)

own-moved : (to : ℕ → ℕ) (i p : ℕ) (o : OwnNode) → to i ≡ p → own_box p o ≡ option_map (put_at to) (own_box i o)
own-moved to i p o e = ap (λ (q : ℕ). own_box q o) (sym e) ∙ by (form_of o.is_root o.kind o.text o.style)
  where
    by : (x : Option Form) → option_map (own_facts (to i) o) x ≡ option_map (put_at to) (option_map (own_facts i o) x)
    by None = refl
    by (Some x) = refl

-- the same with what a node has
abbrev box_of : ℕ → NodeId → Kind → List ℕ → Style → Bool → Option Facts
box_of p id kind text style is_root = own_box p (record { id = id; kind = kind; text = text; style = style; is_root = is_root; parent = 0 })

module _ (nodes : List Node) (styles : List Style) (p : ℕ) (o : OwnNode) (h : IsOwnNode nodes styles p o) where
  box-is : box_at nodes styles p ≡ own_box p o
  box-is =
      ap (λ n. box_of_node p n (style_at styles p)) h.there
      ∙ (ap (λ (i : NodeId). box_of p i h.node.kind h.node.text (style_at styles p) (p == 0)) (sym h.id)
      ∙ (ap (λ (k : Kind). box_of p o.id k h.node.text (style_at styles p) (p == 0)) (sym h.kind)
      ∙ (ap (λ (t : List ℕ). box_of p o.id o.kind t (style_at styles p) (p == 0)) (sym h.text)
      ∙ (ap (λ (s : Style). box_of p o.id o.kind o.text s (p == 0)) (sym h.style)
      ∙ ap (λ (r : Bool). box_of p o.id o.kind o.text o.style r) (sym h.root)))))

  text-is : text_at nodes p ≡ o.text
  text-is = ap text_of h.there ∙ sym h.text

-- a box that is no inner context's is no inline box where it is marked
no-inline : (nodes : List Node) (styles : List Style) (p : ℕ) (o : OwnNode) → IsOwnNode nodes styles p o → (f : Facts) → own_box p o ≡ Some f → f.inner ≡ true → is_inline f.form ≡ false
no-inline nodes styles p o h f e =
    let b : IsNodeBox p h.node (own_box p o) = subst (IsNodeBox p h.node) (ap (λ n. box_of_node p n (style_at styles p)) (sym h.there) ∙ box-is nodes styles p o h) (is-node_box p h.node (style_at styles p)) in
    let c : IsBoxOf p h.node f = subst (IsNodeBox p h.node) e b in
    c.context

-- trees, as a part has them
abbrev and_tree : Option Tree → List Tree → List Tree
and_tree None ts = ts
and_tree (Some t) ts = t ∷ ts

as_part : Tree → Tree
as_part t = put nothing (as_child t)

put-and : (o : Option Tree) (ts : List Tree) → put_list nothing (and_child as_child o ts) ≡ and_tree (option_map as_part o) (put_list nothing ts)
unfolding as_part
put-and None ts = refl
put-and (Some t) ts = refl

relabel-and : (to : ℕ → ℕ) (o : Option Tree) (ts : List Tree) → relabel_list to (and_tree o ts) ≡ and_tree (option_map (relabel to) o) (relabel_list to ts)
relabel-and to None ts = refl
relabel-and to (Some t) ts = refl

-- a node's tree as a part has it: a leaf where it is an inner context's, and else with what its children give
abbrev leaf_of : Facts → List Tree → Tree
leaf_of f ts = if is_absolute f.flow then tree (anchor_facts f) no_trees else tree f (if is_closed f then no_trees else trees_of ts)

abbrev leaf_with : Option Facts → List Tree → Option Tree
leaf_with None ts = None
leaf_with (Some f) ts = Some (leaf_of f ts)

part-leaf : (o : Option Facts) (ts : List Tree) → option_map as_part (box_with o ts) ≡ leaf_with o (put_list nothing ts)
unfolding as_part
part-leaf None ts = refl
part-leaf (Some f) ts = ap Some (by (is_absolute f.flow))
  where
    by : (b : Bool) → put nothing (if b then tree (anchor_facts f) (also (tree (as_own f) (trees_of ts)) no_trees) else tree f (trees_of ts))
        ≡ (if b then tree (anchor_facts f) no_trees else tree f (if is_closed f then no_trees else trees_of (put_list nothing ts)))
    by true = refl
    by false = ap (λ us. tree f (if is_closed f then no_trees else us)) (put-trees_of nothing ts)

relabel-leaf : (to : ℕ → ℕ) (o : Option Facts) (ts : List Tree) → option_map (relabel to) (leaf_with o ts) ≡ leaf_with (option_map (put_at to) o) (relabel_list to ts)
relabel-leaf to None ts = refl
relabel-leaf to (Some f) ts = ap Some (by (is_absolute f.flow) (is_closed f))
  where
    by : (b c : Bool) → relabel to (if b then tree (anchor_facts f) no_trees else tree f (if c then no_trees else trees_of ts))
        ≡ (if b then tree (anchor_facts (put_at to f)) no_trees else tree (put_at to f) (if c then no_trees else trees_of (relabel_list to ts)))
    by true c = refl
    by false true = refl
    by false false = ap (tree (put_at to f)) (trees to ts)

-- nothing is inside a leaf
leaf-alone : (o : Option Facts) (xs ys : List Tree) → ((f : Facts) → o ≡ Some f → is_absolute f.flow ≡ false → is_closed f ≡ false → xs ≡ ys) → leaf_with o xs ≡ leaf_with o ys
leaf-alone None xs ys h = refl
leaf-alone (Some f) xs ys h = ap Some (by (is_absolute f.flow) refl (is_closed f) refl)
  where
    by : (b : Bool) → is_absolute f.flow ≡ b → (c : Bool) → is_closed f ≡ c
        → (if b then tree (anchor_facts f) no_trees else tree f (if c then no_trees else trees_of xs)) ≡ (if b then tree (anchor_facts f) no_trees else tree f (if c then no_trees else trees_of ys))
    by true e c g = refl
    by false e true g = refl
    by false e false g = ap (λ ts. tree f (trees_of ts)) (h f refl e g)

-- What stands inside the own nodes' boxes, with their numbers in place of their places.
abbrev insides : List OwnNode → (ℕ → List Tree) → List ℕ → List Tree
insides own inside [] = []
insides own inside (j ∷ js) = and_tree (leaf_with (own_box j (own_at own j)) (inside j)) (insides own inside js)

abbrev inside_of : List OwnNode → (n turns i : ℕ) → List Tree
inside_of own n zero i = []
inside_of own n (suc turns) i = insides own (inside_of own n turns) (numbers own n i)

abbrev own_whole : List OwnNode → ℕ → Option Tree
own_whole own n = option_map (λ f. tree (as_own f) (trees_of (inside_of own n n 0))) (own_box 0 (own_at own 0))

abbrev own_part : List OwnNode → ℕ → List Tree
own_part own n = put_list nothing (generated_cut (own_whole own n))

-- the number of an own node, for any number
abbrev pick : (n m : ℕ) → ℕ
pick n m = if nat_lt m n then m else 0

pick-within : (n m : ℕ) → 0 < n → pick n m < n
pick-within n m some = elim (cases_lt m n) [
  | inl low ↦ (let e : nat_lt m n ≡ true = grind (arith, low) in rw e low)
  | inr high ↦ (let e : nat_lt m n ≡ false = grind (arith, high) in rw e some)
]

or-end : (xs : List ℕ) (m d : ℕ) → length xs ≤ m → slice_index_or xs m d ≡ d
or-end [] m d le = refl
or-end (x ∷ xs) zero d le = absurd (omega (arith, le))
or-end (x ∷ xs) (suc m) d le = or-end xs m d (omega (arith, le))

module _ (nodes : List Node) (styles : List Style) (is_tree : IsTree (parents_of nodes)) (same : length styles ≡ length nodes) (a : ℕ) (marked : is_marked (box_at nodes styles a) ≡ true)
    (places : List ℕ) (own : List OwnNode) (are : AreOwnNodes nodes styles a places own) where
  abbrev n : ℕ
  n = length places

  abbrev to : ℕ → ℕ
  to = place nodes styles is_tree a marked places own are

  abbrev open_at : ℕ → Type 0
  open_at i = IsOpen nodes styles is_tree a marked places own are i

  to-is : (i : ℕ) → i < n → to i ≡ slice_index places i
  to-is i lt = place-is nodes styles is_tree a marked places own are i lt

  own-there : (i : ℕ) → i < n → IsOwnNode nodes styles (to i) (own_at own i)
  own-there i lt = subst (λ (p : ℕ). IsOwnNode nodes styles p (own_at own i)) (sym (to-is i lt)) (are.each i lt)

  in-nodes : (i : ℕ) → i < n → to i < length nodes
  in-nodes i lt = let h = own-there i lt in there nodes (to i) h.node h.there

  box-there : (i : ℕ) → i < n → box_at nodes styles (to i) ≡ option_map (put_at to) (own_box i (own_at own i))
  box-there i lt = box-is nodes styles (to i) (own_at own i) (own-there i lt) ∙ own-moved to i (to i) (own_at own i) refl

  abbrev below : ℕ → List Tree
  below i = child_trees nodes styles (children_places nodes (to i))

  -- a node that gives a box with something in it in the part is no inner context
  is-open : (j : ℕ) → j < n → (f : Facts) → option_map (put_at to) (own_box j (own_at own j)) ≡ Some f → is_closed f ≡ false → open_at j
  is-open j lt f e c = inr (ap is_marked (box-there j lt ∙ e) ∙ by f.inner refl)
    where
      never : (b l : Bool) → b ≡ true → l ≡ false → (b && not l) ≡ false → ⊥
      never true true h z g = cc
      never true false h z g = cc
      never false l h z g = cc

      by : (b : Bool) → f.inner ≡ b → f.inner ≡ false
      by true h =
          let mine : own_box (to j) (own_at own j) ≡ Some f = own-moved to j (to j) (own_at own j) refl ∙ e in
          absurd (never f.inner (is_inline f.form) h (no-inline nodes styles (to j) (own_at own j) (own-there j lt) f mine h) c)
      by false h = h

  -- each of these children
  one-leaf : (inside : ℕ → List Tree) (j : ℕ) → j < n → (open_at j → put_list nothing (below j) ≡ relabel_list to (inside j))
      → option_map as_part (tree_at nodes styles (to j)) ≡ option_map (relabel to) (leaf_with (own_box j (own_at own j)) (inside j))
  one-leaf inside j lt rest =
      let box = option_map (put_at to) (own_box j (own_at own j)) in
      ap (option_map as_part) (in-order nodes styles is_tree same (to j) (in-nodes j lt))
      ∙ (part-leaf (box_at nodes styles (to j)) (below j)
      ∙ (ap (λ o. leaf_with o (put_list nothing (below j))) (box-there j lt)
      ∙ (leaf-alone box (put_list nothing (below j)) (relabel_list to (inside j)) (λ f e absolute closed. rest (is-open j lt f e closed))
      ∙ sym (relabel-leaf to (own_box j (own_at own j)) (inside j)))))

  all-leaves : (inside : ℕ → List Tree) (js : List ℕ) → ((j : ℕ) → Has js j → (j < n) × (open_at j → put_list nothing (below j) ≡ relabel_list to (inside j)))
      → put_list nothing (child_trees nodes styles (map to js)) ≡ relabel_list to (insides own inside js)
  all-leaves inside [] h = refl
  all-leaves inside (j ∷ js) h =
      let this = h j (inl refl) in
      put-and (tree_at nodes styles (to j)) (child_trees nodes styles (map to js))
      ∙ (ap (λ o. and_tree o (put_list nothing (child_trees nodes styles (map to js)))) (one-leaf inside j this.0 this.1)
      ∙ (ap (and_tree (option_map (relabel to) (leaf_with (own_box j (own_at own j)) (inside j)))) (all-leaves inside js (λ k m. h k (inr m)))
      ∙ sym (relabel-and to (leaf_with (own_box j (own_at own j)) (inside j)) (insides own inside js))))

  inside-is : (turns i : ℕ) → n ≤ i + turns → i < n → open_at i → put_list nothing (below i) ≡ relabel_list to (inside_of own n turns i)
  inside-is zero i enough lt unshut = absurd (omega (arith, enough, lt))
  inside-is (suc turns) i enough lt unshut =
      ap (λ ps. put_list nothing (child_trees nodes styles ps)) (children-are nodes styles is_tree a marked places own are i lt unshut)
      ∙ all-leaves (inside_of own n turns) (numbers own n i)
      (λ j m. (let r = from-has (λ j. (own_at own j).parent == i) j (i + 1) (n - (i + 1)) m in
      let low = r.0 in
      let high = r.1 in
      (omega (arith, low, high), λ o. inside-is turns j (omega (arith, low, enough)) (omega (arith, low, high)) o)))

  at-first : to 0 ≡ a
  at-first = to-is 0 are.some ∙ are.first

  whole-by : (o : Option Facts) (cs : List Tree) → put_list nothing cs ≡ relabel_list to (inside_of own n n 0)
      → option_map cut_own (box_with (option_map (put_at to) o) cs) ≡ option_map (relabel to) (option_map (λ f. tree (as_own f) (trees_of (inside_of own n n 0))) o)
  whole-by None cs e = refl
  whole-by (Some f) cs e =
      ap (λ us. Some (tree (as_own (put_at to f)) us)) (put-trees_of nothing cs ∙ (ap trees_of e ∙ sym (trees to (inside_of own n n 0))))

  whole-is : cut_tree_at nodes styles a ≡ option_map (relabel to) (own_whole own n)
  whole-is =
      let lt = in-nodes 0 are.some in
      ap (λ (p : ℕ). cut_tree_at nodes styles p) (sym at-first)
      ∙ (ap (option_map cut_own) (in-order nodes styles is_tree same (to 0) lt)
      ∙ (ap (λ o. option_map cut_own (box_with o (below 0))) (box-there 0 are.some)
      ∙ whole-by (own_box 0 (own_at own 0)) (below 0) (inside-is n 0 (omega arith) are.some (inl refl))))

  generated-relabel : (o : Option Tree) → generated_cut (option_map (relabel to) o) ≡ relabel_list to (generated_cut o)
  generated-relabel None = refl
  generated-relabel (Some t) = sym (generated_along to t)

  pub part-is : part nodes styles a ≡ relabel_list to (own_part own n)
  part-is =
      sym (part-cut (tree_at nodes styles a))
      ∙ (ap (λ o. put_list nothing (generated_cut o)) whole-is
      ∙ (ap (put_list nothing) (generated-relabel (own_whole own n)) ∙ list-put-relabel to (generated_cut (own_whole own n))))

  -- what stands at the place of any number
  to-pick : (m : ℕ) → to m ≡ to (pick n m)
  to-pick m = elim (cases_lt m n) [
    | inl low ↦ (let e : nat_lt m n ≡ true = grind (arith, low) in rw e refl)
    | inr high ↦ (let e : nat_lt m n ≡ false = grind (arith, high) in rw e (or-end places m a high ∙ sym at-first))
  ]

  pub text-there : (m : ℕ) → text_at nodes (to m) ≡ (own_at own (pick n m)).text
  text-there m = ap (text_at nodes) (to-pick m) ∙ text-is nodes styles (to (pick n m)) (own_at own (pick n m)) (own-there (pick n m) (pick-within n m are.some))

  pub style-there : (m : ℕ) → style_at styles (to m) ≡ (own_at own (pick n m)).style
  style-there m = ap (style_at styles) (to-pick m) ∙ sym (own-there (pick n m) (pick-within n m are.some)).style

pub own_nodes_decide : OwnNodesDecide
own_nodes_decide d e styles others a b places elsewhere own doc same context are other_doc other_same other_context other_are =
    let marked = marked-true (is_marked (box_at d.nodes styles a)) context.establishes in
    let other_marked = marked-true (is_marked (box_at e.nodes others b)) other_context.establishes in
    let to = place d.nodes styles doc.tree a marked places own are in
    let from = place e.nodes others other_doc.tree b other_marked elsewhere own other_are in
    let counts : length places ≡ length elsewhere = sym are.count ∙ other_are.count in
    let mine = part-is d.nodes styles doc.tree same a marked places own are in
    let theirs = part-is e.nodes others other_doc.tree other_same b other_marked elsewhere own other_are in
    ap (listed_part d.nodes styles) mine
    ∙ (part-same d.nodes e.nodes styles others to from
    (λ m. text-there d.nodes styles doc.tree same a marked places own are m
    ∙ (ap (λ (n : ℕ). (own_at own (pick n m)).text) counts ∙ sym (text-there e.nodes others other_doc.tree other_same b other_marked elsewhere own other_are m)))
    (λ m. style-there d.nodes styles doc.tree same a marked places own are m
    ∙ (ap (λ (n : ℕ). (own_at own (pick n m)).style) counts ∙ sym (style-there e.nodes others other_doc.tree other_same b other_marked elsewhere own other_are m)))
    (own_part own (length places))
    ∙ (ap (λ (n : ℕ). listed_part e.nodes others (relabel_list from (own_part own n))) counts ∙ ap (listed_part e.nodes others) (sym theirs)))
