-- A fact of all boxes that are generated is one of the boxes in the list of a context.
use Rattle.std.proofs.Common.{ℕ, zero, suc, ◌+◌, Bool, true, false, All, List, [], ◌∷◌, ◌++◌, length, arith, if◌then◌else◌}
use Rattle.lay_style.specs.declared.style.Style.{Style}
use Rattle.lay_doc.specs.declared.node.Node.{Node}
use Rattle.lay_boxgen.specs.Boxes.{Tree, Trees, tree, no_trees, also, trees_of, facts_of}
use Rattle.lay_boxgen.specs.InnerBoxes.{AllBoxes, AllIn, AllOf}
use Rattle.lay_boxgen.specs.Listing.{all_listed, box_node, listed, listed_part}
use Rattle.lay_boxgen.specs.Parts.{all_put, is_closed, nothing, part, put, put_list, whole}
use Rattle.lay_box_tree.specs.declared.box_tree.BoxNode.{BoxNode}
use Rattle.lay_boxgen.specs.declared.facts.Facts.{Facts}

-- a fact of each box, one by one
abbrev Each : (BoxNode → Type 0) → List BoxNode → Type 0
Each Q [] = Unit {0}
Each Q (b ∷ bs) = Q b × Each Q bs

each_all : (Q : BoxNode → Type 0) (bs : List BoxNode) → Each Q bs → All Q bs
each_all Q [] h k d less = absurd (omega (arith, less))
each_all Q (b ∷ bs) h zero d less = h.0
each_all Q (b ∷ bs) h (suc k) d less = each_all Q bs h.1 k d (omega (arith, less))

each_append : (Q : BoxNode → Type 0) (bs cs : List BoxNode) → Each Q bs → Each Q cs → Each Q (bs ++ cs)
each_append Q [] cs h g = g
each_append Q (b ∷ bs) cs h g = (h.0, each_append Q bs cs h.1 g)

module _ (P : Facts → Type 0) where
  part_by : (us : Trees) → AllIn P (all_put nothing us) → (b : Bool) → AllIn P (if b then no_trees else all_put nothing us)
  part_by us h true = tt
  part_by us h false = h

  mutual
    in_part : (t : Tree) → AllBoxes P t → AllBoxes P (put nothing t)
    in_part (tree f us) h = (h.0, part_by us (all_in_part us h.1) (is_closed f))

    all_in_part : (us : Trees) → AllIn P us → AllIn P (all_put nothing us)
    all_in_part no_trees h = tt
    all_in_part (also t ts) h = (in_part t h.0, all_in_part ts h.1)

  list_in_part : (ts : List Tree) → AllOf P ts → AllOf P (put_list nothing ts)
  list_in_part [] h = tt
  list_in_part (t ∷ ts) h = (in_part t h.0, list_in_part ts h.1)

  in_list : (ts : List Tree) → AllOf P ts → AllIn P (trees_of ts)
  in_list [] h = tt
  in_list (t ∷ ts) h = (h.0, in_list ts h.1)

module _ (nodes : List Node) (styles : List Style) (P : Facts → Type 0) (Q : BoxNode → Type 0)
    (says : (above : Facts) (parent : ℕ) (f : Facts) → P f → Q (box_node nodes styles above parent f)) where
  mutual
    tree_listed : (above : Facts) (parent here : ℕ) (t : Tree) → AllBoxes P t → Each Q (listed nodes styles above parent here t)
    tree_listed above parent here (tree f us) h = (says above parent f h.0, trees_listed f here (here + 1) us h.1)

    trees_listed : (above : Facts) (parent here : ℕ) (us : Trees) → AllIn P us → Each Q (all_listed nodes styles above parent here us)
    trees_listed above parent here no_trees h = tt
    trees_listed above parent here (also t ts) h =
        each_append Q (listed nodes styles above parent here t)
        (all_listed nodes styles above parent (here + length (listed nodes styles above parent here t)) ts)
        (tree_listed above parent here t h.0)
        (trees_listed above parent (here + length (listed nodes styles above parent here t)) ts h.1)

  part_listed : (ts : List Tree) → AllOf P ts → Each Q (listed_part nodes styles ts)
  part_listed [] h = tt
  part_listed (t ∷ ts) h = trees_listed (facts_of t) 0 0 (trees_of (t ∷ ts)) (in_list P (t ∷ ts) h)

  pub all_boxes : (k : ℕ) → AllOf P (whole nodes styles k) → All Q (listed_part nodes styles (part nodes styles k))
  all_boxes k h = each_all Q (listed_part nodes styles (part nodes styles k)) (part_listed (part nodes styles k) (list_in_part P (whole nodes styles k) h))
