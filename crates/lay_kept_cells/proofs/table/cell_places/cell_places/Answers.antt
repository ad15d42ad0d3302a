use Rattle.std.proofs.Common.{◌∙◌, List, length, ap, subst, arith}
use Rattle.lay_shape.specs.declared.context_phase.ContextPhase.{ContextPhase}
use Rattle.lay_kept_cells.specs.Table.CellPlaces.{ArePlacesTo}
use Rattle.lay_kept_cells.proofs.TableLemmas.PlaceSteps.{all_noted, noted_count, place_noted}
use Rattle.lay_kept_cells.proofs.table.cell_places.cell_places.Goals as goal

pub loop-k-preserved : goal.loop-k-preserved
loop-k-preserved c =
    let within = c.cell_in.ensures.within in
    let count = c.loop-k.invariant.count in
    record {
      count = rw c.note_place.ensures (noted_count c.loop-k.places.items _ _ ∙ count);
      noted = rw c.note_place.ensures (place_noted c.args.cells.now c.loop-k.places.items c.cell_in.result c.loop-k.k c.cell_in.ensures.cell (omega (arith, within, count)) c.loop-k.invariant.noted);
    }

pub returns : goal.returns
returns c =
    let count = ap (λ (xs : List ContextPhase). length xs) c.requires in
    all_noted c.args.contexts.now c.loop-k.places.items c.loop-k.k c.cells_stand_once.ensures c.len.ensures.are (omega (arith, count, c.loop-k-test.false, c.loop-k.auto.k-end)) c.loop-k.invariant.count
    (subst (λ (xs : List ContextPhase). ArePlacesTo xs c.loop-k.places.items c.loop-k.k) c.requires c.loop-k.invariant.noted)
