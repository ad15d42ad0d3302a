-- A tree of boxes: a box, with the trees of its children in order.
use Rattle.std.specs.Prelude.{ℕ, ◌+◌, List, [], ◌∷◌, ◌++◌}
use Rattle.lay_boxgen.specs.declared.facts.Facts.{Facts}

mutual
  pub data Tree : Type 0 where
    tree : Facts → Trees → Tree

  pub data Trees : Type 0 where
    no_trees : Trees
    also : Tree → Trees → Trees

abbrev pub trees_of : List Tree → Trees
trees_of [] = no_trees
trees_of (t ∷ ts) = also t (trees_of ts)

abbrev pub facts_of : Tree → Facts
facts_of (tree f children) = f

-- the number of boxes
abbrev mutual
  pub weight : Tree → ℕ
  weight (tree f children) = 1 + weights children

  pub weights : Trees → ℕ
  weights no_trees = 0
  weights (also t ts) = weight t + weights ts

-- All boxes made anew, from the inside out: `make` says which boxes stand for a box, of what its children
-- became. Every rule of box generation is such a `make`. Most of them leave one box of each and look at its children
-- alone, and for these the order in which boxes are taken makes no difference. The breaking of inline boxes makes
-- several boxes of one, and there an inner box must be taken first, so that a block in it breaks the outer one too.
abbrev mutual
  pub remade : (Facts → List Tree → List Tree) → Tree → List Tree
  remade make (tree f children) = make f (all_remade make children)

  pub all_remade : (Facts → List Tree → List Tree) → Trees → List Tree
  all_remade make no_trees = []
  all_remade make (also t ts) = remade make t ++ all_remade make ts

-- a rule that changes the children of a box and leaves the box
abbrev pub in_box : (Facts → List Tree → List Tree) → Facts → List Tree → List Tree
in_box change f children = tree f (trees_of (change f children)) ∷ []
