-- The root element of a document always establishes a context (CSS 2.2, 9.4.1), and no edit puts a node before it or takes it out. So the
-- first context before an edit and the first one after it are of one node, and no other one is of that node.
use Rattle.std.specs.Prelude.{ℕ, ◌≡◌, ◌<◌, ◌↔◌, List, length}
use Rattle.lay_style.specs.declared.style.Style.{Style}
use Rattle.lay_doc.specs.declared.edit.Edit.{Edit}
use Rattle.lay_doc.specs.Document.{Document}
use Rattle.lay_doc.specs.Edits.{after}
use Rattle.lay_contexts.specs.Contexts.{Context}
use Rattle.lay_contexts.specs.ContextList.{AreContextsOf}
use Rattle.lay_contexts.specs.Edited.Touched.{Edits}
use Rattle.lay_shape.specs.Keys.{node_of}

-- of contexts of one node, before the edit and after it, both are the first or neither is
abbrev pub RootStaysFirst : Type 0
RootStaysFirst = (d : Document) (edit : Edit) (styles others : List Style) (contexts later : List Context) (i j : ℕ)
    → Edits d edit styles others
    → AreContextsOf d.nodes styles contexts → AreContextsOf (after d edit).nodes others later
    → i < length contexts → j < length later → node_of contexts i ≡ node_of later j → (i ≡ 0) ↔ (j ≡ 0)
