-- What a document with its cells keeps beside what contracts see: what it is laid out on, its computed styles, and its contexts.
use Rattle.std.specs.Prelude.{ℕ, ◌≡◌, ◌≤◌, Bool, true, false, IfSome, List, length, Option, None, Some}
use Rattle.lay_style.specs.declared.style.Style.{Style}
use Rattle.lay_cells.specs.Progress.Grants.{laid_of_all}
use Rattle.lay_cell_work.specs.CellLaws.DocumentCells.{AreDocumentCells}
use Rattle.lay_shape.specs.Touched.ContextFlags.{ContextLists}
use Rattle.lay_context.specs.Medium.{Medium}
use Rattle.lay_context.specs.Solves.{medium_of}
use Rattle.lay_kept_cells.specs.Settled.Since.{IsSince, Since, either}
use Rattle.lay_document_cells.specs.State.{AreStyledLists, State}

-- the styles of a document and its contexts
pub record TableValue : Type 0 where
  pub styles : List Style
  pub lists : ContextLists

pub record IsKept (s : State) (medium : Medium) (table : TableValue) : Type 0 where
  pub medium_is : medium ≡ medium_of s.document s.face
  pub lists_are : AreStyledLists s.document table.styles table.lists
  pub cells : AreDocumentCells s.document s.face table.lists.contexts table.lists.formatting_contexts s.cells
  pub counted : laid_of_all s.cells.rows ≤ s.laid
  pub drawn : s.laid ≤ s.cells.draws

-- and what may be known of the cells since all of them were clean
pub record IsKeptWith (s : State) (medium : Medium) (table : TableValue) (since : Option Since) : Type 0 where
  pub kept : IsKept s medium table
  pub known : IfSome since (IsSince medium table.lists.contexts s.cells)

-- what is known after an edit, where this was known before it, all cells were clean then or not, so many numbers were drawn, and the boxes
-- of these contexts may have changed, if the cells keep their shape
abbrev pub since_edit : Option Since → Bool → ℕ → Option (List Bool) → Option Since
since_edit was clean draws None = None
since_edit was true draws (Some made) = Some record { number = draws; changed = made }
since_edit None false draws (Some made) = None
since_edit (Some since) false draws (Some made) = Some record { number = since.number; changed = either since.changed made }

-- the flags are of as many contexts
abbrev pub HaveCount : Option Since → Option (List Bool) → Type 0
HaveCount was made = IfSome was (λ since. IfSome made (λ flags. length flags ≡ length since.changed))
