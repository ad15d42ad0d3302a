-- How a proof stores a tree of boxes, and that it gets it back: as marks, each box by its facts where it
-- begins and by None where it ends. Nothing else speaks of this.
use Rattle.std.specs.Prelude.{◌≡◌, ◌≤◌, ◌+◌, List, [], ◌∷◌, refl, Option, None, Some}
use Rattle.std.proofs.Common.{arith, ap, ◌∙◌}
use Rattle.lay_boxgen.specs.declared.facts.Facts.{Facts}
use Rattle.lay_boxgen.specs.Boxes.{Tree, Trees, tree, no_trees, also, trees_of, weight, weights}
use denote.Param.Weighed.{most}

-- no child is larger than all of them together
pub most_le-weights : (children : List Tree) → most (λ t. weight t + 1) children ≤ weights (trees_of children) + 1
most_le-weights [] = omega arith
most_le-weights (t ∷ ts) = omega (arith, most_le-weights ts)

pub most_le-weight : (children : List Tree) → most (λ t. weight t + 1) children ≤ 1 + weights (trees_of children)
most_le-weight children = omega (arith, most_le-weights children)

abbrev mutual
  pub marks : Tree → List (Option Facts) → List (Option Facts)
  marks (tree f ts) rest = Some f ∷ all_marks ts (None ∷ rest)

  pub all_marks : Trees → List (Option Facts) → List (Option Facts)
  all_marks no_trees rest = rest
  all_marks (also t ts) rest = marks t (all_marks ts rest)

abbrev pub box_begun : Facts → List Trees → List Trees
box_begun f (children ∷ (after ∷ more)) = also (tree f children) after ∷ more
box_begun f (children ∷ []) = children ∷ []
box_begun f [] = []

abbrev pub trees_grown : List (Option Facts) → List Trees
trees_grown [] = no_trees ∷ []
trees_grown (None ∷ xs) = no_trees ∷ trees_grown xs
trees_grown (Some f ∷ xs) = box_begun f (trees_grown xs)

abbrev pub joined : Trees → Trees → Trees
joined no_trees us = us
joined (also t ts) us = also t (joined ts us)

pub joined-none : (ts : Trees) → joined ts no_trees ≡ ts
joined-none no_trees = refl
joined-none (also t ts) = ap (also t) (joined-none ts)

mutual
  pub grown-marks : (t : Tree) (rest : List (Option Facts)) (s : Trees) (more : List Trees)
      → trees_grown rest ≡ s ∷ more → trees_grown (marks t rest) ≡ also t s ∷ more
  grown-marks (tree f ts) rest s more h =
      ap (box_begun f)
      (grown-all_marks ts (None ∷ rest) no_trees (s ∷ more) (ap (λ r. no_trees ∷ r) h) ∙ ap (λ k. k ∷ (s ∷ more)) (joined-none ts))

  pub grown-all_marks : (ts : Trees) (rest : List (Option Facts)) (s : Trees) (more : List Trees)
      → trees_grown rest ≡ s ∷ more → trees_grown (all_marks ts rest) ≡ joined ts s ∷ more
  grown-all_marks no_trees rest s more h = h
  grown-all_marks (also t ts) rest s more h = grown-marks t (all_marks ts rest) (joined ts s) more (grown-all_marks ts rest s more h)

abbrev pub first_grown : List Trees → Trees
first_grown [] = no_trees
first_grown (ts ∷ more) = ts

abbrev pub stored : Tree → Facts × List (Option Facts)
stored (tree f ts) = (f, all_marks ts [])

abbrev pub restored : Facts × List (Option Facts) → Tree
restored p = tree p.0 (first_grown (trees_grown p.1))

pub restored-stored : (t : Tree) → restored (stored t) ≡ t
restored-stored (tree f ts) = ap (tree f) (ap first_grown (grown-all_marks ts [] no_trees [] refl) ∙ joined-none ts)
