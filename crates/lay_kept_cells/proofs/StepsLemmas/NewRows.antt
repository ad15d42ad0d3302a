-- Cells that are made anew are none of them clean, and have no claims.
use Rattle.std.proofs.Common.{⊎_elim, [], sym, ◌∙◌}
use Rattle.std.proofs.lemmas.Bool.{false≢true}
use Rattle.lay_kept_cells.proofs.Cited.{are_contexts, length-parents}
use Rattle.lay_cells.specs.Shapes.{IsIn}
use Rattle.lay_shape.specs.Shapes.{shape_of}
use Rattle.lay_cell_work.specs.CellLaws.SoundCells.{CellRow}
use Rattle.lay_kept_cells.specs.Steps.CellSteps.{NewCellsAreSound}
use Rattle.lay_kept_cells.proofs.StepsLemmas.CarriedRows.{IsIdle, rebuilt_entries, rebuilt_rows}
use Rattle.lay_kept_cells.proofs.StepsLemmas.RowsOfContexts.{cell_there}

none_in : (z : CellRow) → IsIn [] z → ⊥
none_in z there = absurd (let e = there.1 in cc)

pub new_cells_are_sound_lem : NewCellsAreSound
new_cells_are_sound_lem d face styles contexts all draws fresh t is has are of reshapes sound =
    let are_in_order = are_contexts d styles contexts is (has.length_is ∙ length-parents d.nodes) are in
    let shaped = rebuilt_entries [] (IsIn fresh) t.rows draws (shape_of contexts) t.rows t.draws reshapes in
    let idle : (z : CellRow) → IsIn t.rows z → IsIdle z =
    λ z there. ⊎_elim (λ (i : IsIdle z). i) (λ (old : IsIn [] z). absurd (none_in z old)) (rebuilt_rows [] (IsIn fresh) t.rows draws (shape_of contexts) t.rows t.draws reshapes there.0 z there.1) in
    record {
      is_document = is;
      styles = styles;
      has_styles = has;
      are_contexts = are;
      are_formatting_contexts = of;
      shaped = shaped;
      cells = record {
        sound = sound;
        has_cells = λ c p lt. cell_there contexts are_in_order t.rows shaped c p lt;
        present = λ c p z lt cell clean. absurd (false≢true (sym clean ∙ (idle z cell.there).dirty));
        open_present = λ c p z lt cell opened. absurd ((idle z cell.there).fresh opened);
      };
    }
