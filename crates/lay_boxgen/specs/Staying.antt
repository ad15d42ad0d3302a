-- Trees that no rule of box generation changes, each rule by itself.
use Rattle.std.specs.Prelude.{◌≡◌, [], ◌∷◌, List}
use Rattle.lay_boxgen.specs.declared.facts.Facts.{Facts}
use Rattle.lay_boxgen.specs.Boxes.{Tree, tree, trees_of, all_remade, in_box}
use Rattle.lay_boxgen.specs.Irrelevant.{relevant}
use Rattle.lay_boxgen.specs.MissingChildren.{child_wrapped}
use Rattle.lay_boxgen.specs.MissingParents.{parented}
use Rattle.lay_boxgen.specs.TableWrappers.{in_wrapper}
use Rattle.lay_boxgen.specs.BrokenInlines.{broken}
use Rattle.lay_boxgen.specs.InlineRuns.{run_wrapped}

-- a box with these children stands for itself
pub record KeepsChildren (f : Facts) (below : List Tree) : Type 0 where
  pub relevant : in_box relevant f below ≡ tree f (trees_of below) ∷ []
  pub children : in_box child_wrapped f below ≡ tree f (trees_of below) ∷ []
  pub parents : in_box parented f below ≡ tree f (trees_of below) ∷ []
  pub wrappers : in_box in_wrapper f below ≡ tree f (trees_of below) ∷ []
  pub inlines : broken f below ≡ tree f (trees_of below) ∷ []
  pub runs : in_box run_wrapped f below ≡ tree f (trees_of below) ∷ []

-- these trees stay as they are
pub record StayTheSame (trees : List Tree) : Type 0 where
  pub relevant : all_remade (in_box relevant) (trees_of trees) ≡ trees
  pub children : all_remade (in_box child_wrapped) (trees_of trees) ≡ trees
  pub parents : all_remade (in_box parented) (trees_of trees) ≡ trees
  pub wrappers : all_remade (in_box in_wrapper) (trees_of trees) ≡ trees
  pub inlines : all_remade broken (trees_of trees) ≡ trees
  pub runs : all_remade (in_box run_wrapped) (trees_of trees) ≡ trees
