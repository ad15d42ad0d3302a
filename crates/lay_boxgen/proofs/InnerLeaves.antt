-- No box of an inner context is an inline box, so that nothing is inside one in a context's part.
use Rattle.std.proofs.Common.{◌≡◌, ℕ, ◌+◌, ◌==◌, Bool, true, false, List, [], ◌∷◌, refl, if◌then◌else◌, Option, None, Some, drop}
use Rattle.lay_style.specs.declared.style.Style.{Style}
use Rattle.lay_doc.specs.declared.node.Node.{Node}
use Rattle.lay_boxgen.specs.Boxes.{Tree, Trees, tree, no_trees, also, trees_of, remade, in_box}
use Rattle.lay_boxgen.specs.Forms.{is_absolute, is_inline}
use Rattle.lay_boxgen.specs.InnerBoxes.{AllBoxes, AllIn, AllOf}
use Rattle.lay_boxgen.specs.Irrelevant.{relevant}
use Rattle.lay_boxgen.specs.NodeBoxes.{node_box}
use Rattle.lay_boxgen.specs.NodeTrees.{as_own, anchor_facts, as_child, and_child, children_of, others_than_children, box_with, node_trees, first_tree, tree_at}
use Rattle.lay_boxgen.specs.Parts.{is_closed, put, all_put, put_list, nothing, generated_of, whole, part}
use Rattle.lay_boxgen.specs.declared.facts.Facts.{Facts}
use Rattle.lay_boxgen.specs.declared.node_trees.NodeTree.{NodeTree}
use Rattle.lay_boxgen.proofs.EveryBox.{every-in, every-kept, every-relevant, every-remade, every-in_box, every-generated}
use Rattle.lay_boxgen.proofs.NodeForms.{IsNodeBox, is-node_box}

-- the box of an inner context is no inline box
abbrev IsNoInline : Facts → Type 0
IsNoInline f = f.inner ≡ true → is_inline f.form ≡ false

opened : (f : Facts) → f.inner ≡ false → IsNoInline f
opened f h = λ e. cc

-- The boxes of a document's nodes.
abbrev AllOfTree : Option Tree → Type 0
AllOfTree None = Unit {0}
AllOfTree (Some t) = AllBoxes IsNoInline t

abbrev AllOfNodes : List NodeTree → Type 0
AllOfNodes [] = Unit {0}
AllOfNodes (n ∷ ns) = AllOfTree n.tree × AllOfNodes ns

child_by : (f : Facts) (us : Trees) → AllBoxes IsNoInline (tree f us) → (b : Bool)
    → AllBoxes IsNoInline (if b then tree (anchor_facts f) (also (tree (as_own f) us) no_trees) else tree f us)
child_by f us h true = (λ e. refl, ((opened (as_own f) refl, h.1), tt))
child_by f us h false = h

and-child : (o : Option Tree) (ts : List Tree) → AllOfTree o → AllOf IsNoInline ts → AllOf IsNoInline (and_child as_child o ts)
and-child None ts h g = g
and-child (Some (tree f us)) ts h g = (child_by f us h (is_absolute f.flow), g)

children_by : (o : Option Tree) (ts : List Tree) → AllOfTree o → AllOf IsNoInline ts → (b : Bool) → AllOf IsNoInline (if b then and_child as_child o ts else [])
children_by o ts h g true = and-child o ts h g
children_by o ts h g false = tt

all-children : (k : ℕ) (ns : List NodeTree) → AllOfNodes ns → AllOf IsNoInline (children_of as_child k ns)
all-children k [] h = tt
all-children k (n ∷ ns) h = children_by n.tree (children_of as_child k ns) h.0 (all-children k ns h.1) (n.parent == k)

others_by : (n : NodeTree) (ns ms : List NodeTree) → AllOfNodes ms → AllOfNodes (n ∷ ns) → (b : Bool) → AllOfNodes (if b then ms else n ∷ ns)
others_by n ns ms h g true = h
others_by n ns ms h g false = g

all-others : (k : ℕ) (ns : List NodeTree) → AllOfNodes ns → AllOfNodes (others_than_children k ns)
all-others k [] h = tt
all-others k (n ∷ ns) h = others_by n ns (others_than_children k ns) (all-others k ns h.1) h (n.parent == k)

all-box_with : (k : ℕ) (n : Node) (o : Option Facts) (cs : List Tree) → IsNodeBox k n o → AllOf IsNoInline cs → AllOfTree (box_with o cs)
all-box_with k n None cs b h = tt
all-box_with k n (Some f) cs b h = (b.context, every-in IsNoInline opened cs h)

all-nodes : (k : ℕ) (ns : List Node) (ss : List Style) → AllOfNodes (node_trees as_child k ns ss)
all-nodes k [] ss = tt
all-nodes k (n ∷ ns) [] = tt
all-nodes k (n ∷ ns) (s ∷ ss) =
    let after = node_trees as_child (k + 1) ns ss in
    let rest = all-nodes (k + 1) ns ss in
    (all-box_with k n (node_box k n s) (children_of as_child k after) (is-node_box k n s) (all-children k after rest), all-others k after rest)

all-first : (ns : List NodeTree) → AllOfNodes ns → AllOfTree (first_tree ns)
all-first [] h = tt
all-first (n ∷ ns) h = h.0

-- The boxes that are generated of them.
all-relevant : (f : Facts) (ts : List Tree) → AllOf IsNoInline ts → AllOf IsNoInline (relevant f ts)
all-relevant f ts h = every-relevant IsNoInline opened f ts (every-kept IsNoInline opened f.form ts h)

all-generated : (o : Option Tree) → AllOfTree o → AllOf IsNoInline (generated_of o)
all-generated None h = tt
all-generated (Some (tree f us)) h =
    every-generated IsNoInline opened (remade (in_box relevant) (tree (as_own f) us))
    (every-remade IsNoInline opened (in_box relevant) (every-in_box IsNoInline opened relevant all-relevant) (tree (as_own f) us) (opened (as_own f) refl, h.1))

all-whole : (nodes : List Node) (styles : List Style) (k : ℕ) → AllOf IsNoInline (whole nodes styles k)
all-whole nodes styles k =
    all-generated (tree_at nodes styles k) (all-first (node_trees as_child k (drop k nodes) (drop k styles)) (all-nodes k (drop k nodes) (drop k styles)))

-- A box that has any inside isn't that of an inner context.
abbrev pub IsOver : Facts → Trees → Type 0
IsOver f no_trees = Unit {0}
IsOver f (also t ts) = f.inner ≡ false

abbrev mutual
  pub HasLeaves : Tree → Type 0
  HasLeaves (tree f us) = IsOver f us × AllHaveLeaves us

  pub AllHaveLeaves : Trees → Type 0
  AllHaveLeaves no_trees = Unit {0}
  AllHaveLeaves (also t ts) = HasLeaves t × AllHaveLeaves ts

is-over : (f : Facts) (us : Trees) → f.inner ≡ false → IsOver f us
is-over f no_trees h = tt
is-over f (also t ts) h = h

open_by : (f : Facts) → IsNoInline f → is_closed f ≡ false → (b : Bool) → f.inner ≡ b → f.inner ≡ false
open_by f p h true e = absurd (let never : true ≡ false = simp (e, p e) at h in cc)
open_by f p h false e = e

leaf_by : (f : Facts) (us : Trees) → IsNoInline f → AllHaveLeaves (all_put nothing us) → (b : Bool) → is_closed f ≡ b
    → HasLeaves (tree f (if b then no_trees else all_put nothing us))
leaf_by f us p h true e = (tt, tt)
leaf_by f us p h false e = (is-over f (all_put nothing us) (open_by f p e f.inner refl), h)

mutual
  leaves-in-part : (t : Tree) → AllBoxes IsNoInline t → HasLeaves (put nothing t)
  leaves-in-part (tree f us) h = leaf_by f us h.0 (all-leaves-in-part us h.1) (is_closed f) refl

  all-leaves-in-part : (us : Trees) → AllIn IsNoInline us → AllHaveLeaves (all_put nothing us)
  all-leaves-in-part no_trees h = tt
  all-leaves-in-part (also t ts) h = (leaves-in-part t h.0, all-leaves-in-part ts h.1)

list-leaves : (ts : List Tree) → AllOf IsNoInline ts → AllHaveLeaves (trees_of (put_list nothing ts))
list-leaves [] h = tt
list-leaves (t ∷ ts) h = (leaves-in-part t h.0, list-leaves ts h.1)

pub part_has_leaves : (nodes : List Node) (styles : List Style) (k : ℕ) → AllHaveLeaves (trees_of (part nodes styles k))
part_has_leaves nodes styles k = list-leaves (whole nodes styles k) (all-whole nodes styles k)
