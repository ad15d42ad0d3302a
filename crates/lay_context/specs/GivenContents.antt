-- Content of lines that is made for a task, or shared by it with others (`SharedContents`).
use Rattle.std.specs.Prelude.{⊤}
use Rattle.lay_line_items.specs.InlineContents.{AreContents, KeptSegments}
use Rattle.lay_context.specs.declared.input.Input.{Input}
use Rattle.lay_context.specs.declared.input.Input.TheVariants as input

-- it is the content of lines of the boxes that a task is given, in its face
abbrev pub AreContentsOf : Input → KeptSegments → Type 0
AreContentsOf (input.Measure i) kept = AreContents i.face i.boxes kept
AreContentsOf (input.Place i at) kept = AreContents i.face i.boxes kept
AreContentsOf _ kept = ⊤
