-- Where an edit leaves a document's contexts but for the styles and texts of their boxes (CSS 2.2, 9.4.1), it leaves the shape of their
-- cells: which there are, in which order, and what each depends on.
use Rattle.std.specs.Prelude.{◌≡◌, Bool, List}
use Rattle.lay_contexts.specs.Contexts.{Context}
use Rattle.lay_after_edits.specs.Contexts.Links.{AreRestyled}
use Rattle.lay_shape.specs.Shapes.{shape_of}

abbrev pub ShapesStay : Type 0
ShapesStay = (contexts later : List Context) (made : List Bool) → AreRestyled contexts later made → shape_of later ≡ shape_of contexts
