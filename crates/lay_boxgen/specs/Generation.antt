-- Box generation (9.2 and 17.2.1): the three stages of the table rules, the wrappers of tables, the breaking
-- of inline boxes, and the wrapping of inline runs, each over the whole tree and one after the other.
use Rattle.std.specs.Prelude.{List}
use Rattle.lay_boxgen.specs.Boxes.{Tree, trees_of, remade, all_remade, in_box}
use Rattle.lay_boxgen.specs.Irrelevant.{relevant}
use Rattle.lay_boxgen.specs.MissingChildren.{child_wrapped}
use Rattle.lay_boxgen.specs.MissingParents.{parented}
use Rattle.lay_boxgen.specs.TableWrappers.{in_wrapper}
use Rattle.lay_boxgen.specs.BrokenInlines.{broken}
use Rattle.lay_boxgen.specs.InlineRuns.{run_wrapped}

-- The boxes that stand for a tree of boxes in the end. Only an inline box can come to be several.
abbrev pub generated : Tree → List Tree
generated t =
    all_remade (in_box run_wrapped) (trees_of
    (all_remade broken (trees_of
    (all_remade (in_box in_wrapper) (trees_of
    (all_remade (in_box parented) (trees_of
    (all_remade (in_box child_wrapped) (trees_of
    (remade (in_box relevant) t))))))))))
