-- What the cell at a place is given now.
use Rattle.std.proofs.Common.{◌≡◌, ◌<◌, ℕ, List, length, slice_get, Some, option_map, ap, sym, subst, ◌∙◌, arith}
use Rattle.std.proofs.lemmas.Option.{slice_get_within}
use Rattle.lay_cells.specs.Looks.{Looks}
use Rattle.lay_cells.specs.Places.{AtPlace}
use Rattle.lay_cells.specs.declared.answers.Look.TheVariants as look
use Rattle.lay_context.specs.Medium.{Medium}
use Rattle.lay_shape.specs.declared.cell_key.CellKey.{CellKey}
use Rattle.lay_shape.specs.declared.context_phase.ContextPhase.{ContextPhase}
use Rattle.lay_shape.specs.Keys.{key_of}
use Rattle.lay_shape.specs.Shapes.{cells_of}
use Rattle.lay_cell_work.specs.CellInputs.{CellInput, RootInput}
use Rattle.lay_cell_work.specs.CellLaws.SoundCells.{CellRow, CellState, input_now}
use Rattle.lay_kept_cells.specs.Steps.ReadyCells.{ReadyToInput}
use Rattle.lay_shape.specs.Touched.ContextFlags.{ContextLists}
use Rattle.lay_kept_cells.specs.Table.TableCells.{AreCellsOn, HaveNeeds, IsGivenBy, input_at}
use Rattle.lay_kept_cells.proofs.TableLemmas.KeptReads.{key_there, rows_counted}

pub same_input : (medium : Medium) (t : ContextLists) (rows : List CellRow) (cell : ContextPhase) (key : CellKey) (roots : List RootInput) → key ≡ key_of t.contexts cell
    → roots ≡ (input_now medium t.contexts t.formatting_contexts rows cell.context cell.phase).roots
    → record { key = key; roots = roots } ≡ input_now medium t.contexts t.formatting_contexts rows cell.context cell.phase
same_input medium t rows cell key roots e f =
    ap (λ (k : CellKey). record { key = k; roots = roots }) e ∙ ap (λ (rs : List RootInput). record { key = key_of t.contexts cell; roots = rs }) f

module _ (medium : Medium) (t : ContextLists) (s : CellState) (on : AreCellsOn medium t s) (place : ℕ) where
  pub place_there : (P : CellRow → Type 0) → AtPlace s.rows place P → place < length (cells_of t.contexts)
  place_there P at = (let low = slice_get_within s.rows place at.0 at.1 in let count = rows_counted s.rows t.contexts on.cells.shaped in omega (arith, low, count))

  module _ (cell : ContextPhase) (is : slice_get (cells_of t.contexts) place ≡ Some cell) (within : cell.context < length t.contexts) where
    pub has_needs : ReadyToInput → AtPlace s.rows place (λ r. Looks s.rows r.key look.Ready) → HaveNeeds t s.rows cell
    has_needs ready at r few own =
        let key = key_there s.rows t.contexts on.cells.shaped cell place at.0 is at.1 in
        ready on.document on.face t.contexts t.formatting_contexts s cell.context r cell.phase on.cells within few own (subst (λ (k : CellKey). Looks s.rows k look.Ready) key at.2)

    pub given_at : (input : CellInput) → input ≡ input_now medium t.contexts t.formatting_contexts s.rows cell.context cell.phase → input_at medium t s.rows place ≡ Some input
    given_at input e =
        ap (option_map (λ (c : ContextPhase). input_now medium t.contexts t.formatting_contexts s.rows c.context c.phase)) is ∙ ap Some (sym e)

    pub given_of : (P : CellRow → Type 0) → AtPlace s.rows place P → (input : CellInput) → input ≡ input_now medium t.contexts t.formatting_contexts s.rows cell.context cell.phase
        → AtPlace s.rows place (λ r. IsGivenBy medium t s.rows r.key input)
    given_of P at input e = (
      at.0,
      at.1,
      record {
        context = cell.context;
        phase = cell.phase;
        within = within;
        key_is = key_there s.rows t.contexts on.cells.shaped cell place at.0 is at.1;
        input_is = e;
      },
    )
