-- The parts of all contexts together are the boxes of the whole document.
use Rattle.std.specs.Prelude.{◌≡◌, ℕ, Bool, true, false, List, [], ◌∷◌, if◌then◌else◌, Option, None, Some}
use Rattle.lay_style.specs.declared.style.Style.{Style}
use Rattle.lay_doc.specs.declared.node.Node.{Node}
use Rattle.lay_boxgen.specs.Boxes.{Tree, Trees, tree, no_trees, also, trees_of, all_remade, in_box}
use Rattle.lay_boxgen.specs.Forms.{is_inline, is_anchor, is_absolute}
use Rattle.lay_boxgen.specs.Irrelevant.{relevant}
use Rattle.lay_boxgen.specs.MissingChildren.{child_wrapped}
use Rattle.lay_boxgen.specs.MissingParents.{parented}
use Rattle.lay_boxgen.specs.TableWrappers.{in_wrapper}
use Rattle.lay_boxgen.specs.BrokenInlines.{broken}
use Rattle.lay_boxgen.specs.InlineRuns.{run_wrapped}
use Rattle.lay_boxgen.specs.Generation.{generated}
use Rattle.lay_boxgen.specs.NodeTrees.{as_own, anchor_facts, tree_at}
use Rattle.lay_boxgen.specs.Parts.{put, put_list, nothing, own_tree, whole, part}
use Rattle.lay_boxgen.specs.declared.facts.Facts.{Facts}

-- what a box that is no inline box has inside in the end, where it has this inside before any rule
abbrev pub inside : Facts → Trees → Trees
inside f children =
    let k1 = relevant f (all_remade (in_box relevant) children) in
    let k2 = child_wrapped f (all_remade (in_box child_wrapped) (trees_of k1)) in
    let k3 = parented f (all_remade (in_box parented) (trees_of k2)) in
    let k4 = in_wrapper f (all_remade (in_box in_wrapper) (trees_of k3)) in
    let k5 = all_remade broken (trees_of k4) in
    trees_of (run_wrapped f (all_remade (in_box run_wrapped) (trees_of k5)))

-- such a box stays one box, and whether it is marked as an inner context's changes nothing in it
abbrev pub StaysOne : Type 0
StaysOne = (f : Facts) (b : Bool) (children : Trees) → is_inline f.form ≡ false
    → (generated (tree f children) ≡ tree f (inside f children) ∷ []) × (inside (record f { inner = b }) children ≡ inside f children)

-- what is generated of a part is the part of what is generated of the whole
abbrev pub PartsAgree : Type 0
PartsAgree = (t : Tree) → put_list nothing (generated (put nothing t)) ≡ put_list nothing (generated t)

-- What is generated with this inside the boxes of inner contexts is what is generated without, with what is
-- generated of it inside them.
abbrev pub GeneratesInside : Type 0
GeneratesInside = (g : Facts → Trees) (t : Tree) → generated (put g t) ≡ put_list (λ f. inside f (g f)) (generated t)

abbrev pub children_in : Option Tree → Trees
children_in None = no_trees
children_in (Some (tree f children)) = children

abbrev pub alone : Option Tree → Trees
alone None = no_trees
alone (Some t) = also (own_tree t) no_trees

-- what stands in the box with these facts before any rule: the box of its node in an anchor, and else the
-- boxes of its node's children
abbrev pub trees_below : List Node → List Style → Facts → Trees
trees_below nodes styles f = if is_anchor f.form then alone (tree_at nodes styles f.place) else children_in (tree_at nodes styles f.place)

-- what is generated in the box of an inner context
abbrev pub inner_boxes : List Node → List Style → Facts → Trees
inner_boxes nodes styles f = inside f (trees_below nodes styles f)

-- The boxes of a node and all below it are the part of its context, with what is generated in the box of each
-- inner context inside that. The two laws that follow say that these are the boxes of the inner contexts, so
-- the parts of all contexts together are the document's boxes.
abbrev pub PartsAreWhole : Type 0
PartsAreWhole = (nodes : List Node) (styles : List Style) (k : ℕ)
    → whole nodes styles k ≡ put_list (inner_boxes nodes styles) (part nodes styles k)

-- A node whose box is no inline box has one box in the end, with what is generated in it inside.
abbrev pub ContextIsOneBox : Type 0
ContextIsOneBox = (nodes : List Node) (styles : List Style) (k : ℕ) (f : Facts) (children : Trees)
    → tree_at nodes styles k ≡ Some (tree f children) → is_inline f.form ≡ false
    → whole nodes styles k ≡ tree (as_own f) (inner_boxes nodes styles f) ∷ []

-- An anchor has the boxes of its absolute or fixed element in it.
abbrev pub AnchorsHoldBoxes : Type 0
AnchorsHoldBoxes = (nodes : List Node) (styles : List Style) (k : ℕ) (f : Facts) (children : Trees)
    → tree_at nodes styles k ≡ Some (tree f children) → is_absolute f.flow ≡ true
    → inner_boxes nodes styles (anchor_facts f) ≡ trees_of (whole nodes styles k)
