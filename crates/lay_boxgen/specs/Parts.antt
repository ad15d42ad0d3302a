-- The boxes of a document, and the part of them that is a context's.
--
-- In the tree of boxes of the whole document the boxes of contexts are marked as inner. What is in them is
-- theirs, and an anchor has the box of its absolute or fixed element in it. The part of a context is what is
-- left when nothing is put inside the boxes of inner contexts.
use Rattle.std.specs.Prelude.{ℕ, Bool, ◌&&◌, not, List, [], ◌∷◌, if◌then◌else◌, Option, None, Some}
use Rattle.lay_style.specs.declared.style.Style.{Style}
use Rattle.lay_doc.specs.declared.node.Node.{Node}
use Rattle.lay_boxgen.specs.Boxes.{Tree, Trees, tree, no_trees, also}
use Rattle.lay_boxgen.specs.Forms.{is_inline}
use Rattle.lay_boxgen.specs.Generation.{generated}
use Rattle.lay_boxgen.specs.NodeTrees.{as_own, tree_at}
use Rattle.lay_boxgen.specs.declared.facts.Facts.{Facts}

-- the box of an inner context, which is no inline box
abbrev pub is_closed : Facts → Bool
is_closed f = f.inner && not (is_inline f.form)

-- a tree with this inside the boxes of inner contexts
abbrev mutual
  pub put : (Facts → Trees) → Tree → Tree
  put g (tree f children) = tree f (if is_closed f then g f else all_put g children)

  pub all_put : (Facts → Trees) → Trees → Trees
  all_put g no_trees = no_trees
  all_put g (also t ts) = also (put g t) (all_put g ts)

abbrev pub put_list : (Facts → Trees) → List Tree → List Tree
put_list g [] = []
put_list g (t ∷ ts) = put g t ∷ put_list g ts

abbrev pub nothing : Facts → Trees
nothing f = no_trees

abbrev pub own_tree : Tree → Tree
own_tree (tree f children) = tree (as_own f) children

abbrev pub generated_of : Option Tree → List Tree
generated_of None = []
generated_of (Some t) = generated (own_tree t)

-- The boxes of the node at k and all below it. With k = 0 they are those of the document.
abbrev pub whole : List Node → List Style → ℕ → List Tree
whole nodes styles k = generated_of (tree_at nodes styles k)

-- the part of the context of the node at k
abbrev pub part : List Node → List Style → ℕ → List Tree
part nodes styles k = put_list nothing (whole nodes styles k)
