-- Cells that are all clean were granted three times for each context.
use Rattle.std.proofs.Common.{◌≡◌, ◌⊎◌, inl, inr, ⊎_elim, ℕ, ◌+◌, ◌-◌, ◌*◌, ◌≤◌, ◌<◌, List, length, refl, arith, ap, sym, subst, ◌∙◌}
use Rattle.std.proofs.lemmas.Bool.{cases_lt}
use Rattle.lay_document_cells.proofs.Cited.{length-parents}
use Rattle.lay_cells.specs.Reads.{AllClean}
use Rattle.lay_cells.specs.Shapes.{IsIn}
use Rattle.lay_contexts.specs.Contexts.{Context}
use Rattle.lay_context.specs.declared.task.Phase.{Phase}
use Rattle.lay_context.specs.declared.task.Phase.TheVariants as phase
use Rattle.lay_shape.specs.Keys.{AreOfOwnNodes}
use Rattle.lay_shape.specs.Laws.{ContextsAreOfOwnNodes}
use Rattle.lay_shape.specs.declared.cell_key.CellKey.{CellKey}
use Rattle.lay_cells.specs.Progress.Grants.{CleanCellsCount, laid_of_all}
use Rattle.lay_cell_work.specs.CellInputs.{CellInput}
use Rattle.lay_cell_work.specs.CellLocal.{IsCellLocal}
use Rattle.lay_cell_work.specs.CellValues.{CellValue}
use Rattle.lay_cell_work.specs.PresentInputs.{key_of}
use Rattle.lay_cell_work.specs.CellLaws.SoundCells.{CellRow, IsCellOf}
use Rattle.lay_document_cells.specs.Laws.{CleanCellsAreCounted}
use Rattle.lay_document_cells.specs.State.{IsOfDocument, State}
use Rattle.lay_document_cells.proofs.Pigeonhole.{pigeonhole}

abbrev rank_of : Phase → ℕ
rank_of phase.Measure = 0
rank_of phase.Size = 1
rank_of phase.Place = 2

-- the row is that of a cell with the number i, where the cells of each phase stand together
record IsNumbered (contexts : List Context) (i : ℕ) (r : CellRow) : Type 0 where
  context : ℕ
  phase_is : Phase
  within : context < length contexts
  number : i ≡ rank_of phase_is * length contexts + context
  key : r.key ≡ key_of contexts context phase_is

module _ (contexts : List Context) (apart : AreOfOwnNodes contexts) where
  one_number : (i j : ℕ) (r : CellRow) → IsNumbered contexts i r → IsNumbered contexts j r → i ≡ j
  one_number i j r a b =
      let keys : key_of contexts a.context a.phase_is ≡ key_of contexts b.context b.phase_is = sym a.key ∙ b.key in
      let same : a.context ≡ b.context = apart a.context b.context a.within b.within (ap (λ (k : CellKey). k.node) keys) in
      let phases : a.phase_is ≡ b.phase_is = ap (λ (k : CellKey). k.phase) keys in
      let ranks = ap (λ p. rank_of p * length contexts) phases in
      a.number ∙ (omega (arith, same, ranks)) ∙ sym b.number

  module _ (rows : List CellRow) (cell : (c : ℕ) (p : Phase) → c < length contexts → (r : CellRow) × IsCellOf rows contexts c p r) where
    numbered : (c : ℕ) (p : Phase) (i : ℕ) → c < length contexts → i ≡ rank_of p * length contexts + c → (r : CellRow) × IsIn rows r × IsNumbered contexts i r
    numbered c p i lt is =
        let h = cell c p lt in
        (h.0, h.1.there, record { context = c; phase_is = p; within = lt; number = is; key = h.1.key })

    there : (i : ℕ) → i < 3 * length contexts → (r : CellRow) × IsIn rows r × IsNumbered contexts i r
    there i lt =
        ⊎_elim
        (λ (low : i < length contexts). numbered i phase.Measure i low (omega arith))
        (λ high. ⊎_elim
        (λ (mid : i < 2 * length contexts). numbered (i - length contexts) phase.Size i (omega (arith, mid, high)) (omega (arith, mid, high)))
        (λ last. numbered (i - 2 * length contexts) phase.Place i (omega (arith, lt, last)) (omega (arith, last)))
        (cases_lt i (2 * length contexts)))
        (cases_lt i (length contexts))

    pub three_each : 3 * length contexts ≤ length rows
    three_each = pigeonhole (IsNumbered contexts) one_number (3 * length contexts) rows there

pub clean_cells_are_counted_lem : CleanCellsCount CellKey CellInput CellValue IsCellLocal → ContextsAreOfOwnNodes → CleanCellsAreCounted
clean_cells_are_counted_lem count own s of clean =
    let styles_count = of.cells.has_styles.length_is ∙ length-parents s.document.nodes in
    let apart = own s.document of.cells.styles of.lists.contexts of.cells.is_document styles_count of.cells.are_contexts in
    let three = three_each of.lists.contexts apart s.cells.rows of.cells.cells.has_cells in
    let paid = count s.cells of.cells.cells.sound clean in
    omega (arith, three, paid, of.counted)
