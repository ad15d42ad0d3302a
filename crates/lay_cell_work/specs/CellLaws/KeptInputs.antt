-- What a cell is given stays what it was, from one table of contexts to another, where its context is the same and the cells that it
-- depends on keep the same values. Which cells these are is said by `needs_in` of lay_shape, and cells of two tables are the same one
-- where they have the same key: numbers of contexts may differ.
use Rattle.std.specs.Prelude.{ℕ, ◌≡◌, ◌<◌, length}
use Rattle.lay_cells.specs.Shapes.{IsIn}
use Rattle.lay_contexts.specs.FormattingContextList.{first_number}
use Rattle.lay_context.specs.declared.task.Phase.{Phase}
use Rattle.lay_context.specs.declared.task.Phase.TheVariants.{Measure}
use Rattle.lay_context.specs.Measured.{is_measured}
use Rattle.lay_context.specs.Medium.{Medium}
use Rattle.lay_shape.specs.Dependencies.{in_phase, needs_in, needs_of}
use Rattle.lay_cell_work.specs.PresentInputs.{key_of}
use Rattle.lay_cell_work.specs.CellLaws.SameContexts.{IsSameContext, IsTable, Table, input_in}

-- the context c of one and the context e of the other are the same to a phase: they have the same boxes, and to be measured they count
-- for as much (CSS 2.2, 10.3.5)
pub record IsSameTo (phase : Phase) (a b : Table) (c e : ℕ) : Type 0 where
  pub own : IsSameContext a b c e
  pub measured : phase ≡ Measure
      → is_measured a.formatting_contexts (first_number a.contexts c) ≡ is_measured b.formatting_contexts (first_number b.contexts e)

-- the cell of this phase of the context x of one is that of the context y of the other, of the same context, and keeps the same
pub record IsSameCell (a b : Table) (x y : ℕ) (phase : Phase) : Type 0 where
  pub own : IsSameContext a b x y
  pub kept : a.kept x phase ≡ b.kept y phase

-- each cell that the one of the context c depends on in this phase is the same in both
abbrev pub AreNeedsKept : (a b : Table) (c : ℕ) → Phase → Type 0
AreNeedsKept a b c phase = (x y : ℕ) (needed : Phase) → x < length a.contexts → y < length b.contexts
    → IsIn (needs_in a.contexts (in_phase phase c)) (in_phase needed x)
    → key_of a.contexts x needed ≡ key_of b.contexts y needed
    → IsSameCell a b x y needed

abbrev pub InputsAreKept : Type 0
InputsAreKept = (medium : Medium) (a b : Table) (c e : ℕ) (phase : Phase) → IsTable a → IsTable b → IsSameTo phase a b c e
    → needs_of a.contexts (in_phase phase c) ≡ needs_of b.contexts (in_phase phase e)
    → AreNeedsKept a b c phase
    → input_in medium a c phase ≡ input_in medium b e phase
