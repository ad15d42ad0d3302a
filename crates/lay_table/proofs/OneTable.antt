-- A table has one placement: each of its workings has one value beside the ones before it.
use Rattle.std.proofs.Common.{◌≡◌, sym, ap, ◌∙◌, subst}
use Rattle.lay_flow.proofs.BlocksLemmas.OneContextFlow.{one_flow_of_lem}
use Rattle.lay_flow.specs.Blocks.FlowPlaces.{IsFlowOf}
use Rattle.lay_table.specs.TableInputs.{TableInput}
use Rattle.lay_table.specs.TableRows.{TableRows}
use Rattle.lay_table.proofs.OneTableRows.{one_table_rows_lem}
use Rattle.lay_table.specs.Laws.{OneTablePlacement}
use Rattle.lay_table.specs.TablePlacements.{placement_of_table}
use Rattle.lay_table.specs.TableStandings.{HasTablePlaces, TablePlaces, table_content_corner}
use Rattle.lay_table.specs.WrapperFlow.{boxes_in_wrapper}
use Rattle.lay_table.proofs.WrapperBoxes.{is_wrapper_tree}

one_places : (i : TableInput) (p q : TablePlaces) → HasTablePlaces i p → HasTablePlaces i q → p ≡ q
one_places i p q a b =
    let rows = one_table_rows_lem i p.rows q.rows a.rows b.rows in
    let there : IsFlowOf (boxes_in_wrapper i p.rows.tracks) q.flow =
    subst (λ (r : TableRows). IsFlowOf (boxes_in_wrapper i r.tracks) q.flow) (sym rows) b.flow in
    let flow = one_flow_of_lem (boxes_in_wrapper i p.rows.tracks) p.flow q.flow (is_wrapper_tree i p.rows.tracks) a.flow there in
    let content = a.content ∙ ap (table_content_corner i) flow ∙ sym b.content in
    λ j. record { rows = rows j; columns = (a.columns ∙ sym b.columns) j; flow = flow j; content = content j }

pub one_table_placement_lem : OneTablePlacement
one_table_placement_lem i p q a b =
    a.answer_is ∙ ap (placement_of_table i) (one_places i a.places b.places a.has_places b.has_places) ∙ sym b.answer_is
