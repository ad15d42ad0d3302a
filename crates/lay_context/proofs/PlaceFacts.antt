-- A placement is that of boxes in block flow, or of a table.
use Rattle.std.proofs.Common.{◌≡◌, ℕ, zero, suc, Bool, true, false, [], ◌∷◌, length, length-append, refl, ap, subst, ◌∙◌, arith, Option, None, Some, option_map}
use Rattle.lay_context_sizes.specs.MeasuredContexts.{MeasuredContext}
use Rattle.lay_placements.specs.Placements.{Placement}
use Rattle.lay_flow_boxes.specs.PlaceInputs.{PlaceInput}
use Rattle.lay_placement.specs.ContextPlacements.{IsPlacement}
use Rattle.lay_context.proofs.Cited.{length_standings, one_own_place_lem}
use Rattle.lay_table.specs.TableInputs.{TableInput}
use Rattle.lay_table.specs.TablePlacements.{IsTablePlacement, table_standings_to}
use Rattle.lay_table.specs.TableStandings.{TablePlaces, standing_of}
use Rattle.lay_table_sizes.specs.TableSizesValue.{TableSizesValue}
use Rattle.lay_context.specs.declared.value.Value.TheVariants as value
use Rattle.lay_sizes.specs.declared.own_boxes.OwnBox.{OwnBox}
use Rattle.lay_placements.specs.declared.corner.Corner.{Corner}
use Rattle.lay_context_sizes.specs.ContextSizes.{SizedContext}
use Rattle.lay_context_sizes.specs.Inputs.{MeasureInput}
use Rattle.lay_abspos.specs.OwnOffsets.{IsOwnOffset, StandInput}
use Rattle.lay_context.specs.PlacedContexts.{PlacedContext}
use Rattle.lay_context.specs.Local.{IsLocal, measure_as, place_as}

pub measured_not_sized : (b : Bool) (i : MeasureInput) (sized : SizedContext) → IsLocal (measure_as b i) (value.Size sized) → ⊥
measured_not_sized true i sized local = local
measured_not_sized false i sized local = local

pub measured_not_placed : (b : Bool) (i : MeasureInput) (placed : PlacedContext) → IsLocal (measure_as b i) (value.Place placed) → ⊥
measured_not_placed true i placed local = local
measured_not_placed false i placed local = local

pub not_measured : (flow : PlaceInput) (table : Option TableInput) (at : StandInput) (widths : MeasuredContext) → IsLocal (place_as flow table at) (value.Measure widths) → ⊥
not_measured flow None at widths local = local
not_measured flow (Some table) at widths local = local

pub not_sized : (flow : PlaceInput) (table : Option TableInput) (at : StandInput) (sized : SizedContext) → IsLocal (place_as flow table at) (value.Size sized) → ⊥
not_sized flow None at sized local = local
not_sized flow (Some table) at sized local = local

table_count : (i : TableInput) (p : TablePlaces) (n : ℕ) → length (table_standings_to i p n) ≡ n
table_count i p zero = refl
table_count i p (suc n) =
    let rest = table_count i p n in omega (arith, rest, length-append (table_standings_to i p n) (standing_of i p n ∷ []))

flow_stands : (i : PlaceInput) (p : Placement) → IsPlacement i p → length p.standings ≡ length i.boxes
flow_stands i p is = ap (λ (a : Placement). length a.standings) is.answer_is ∙ length_standings i is.places (length i.boxes)

table_stands : (i : TableInput) (p : Placement) → IsTablePlacement i p → length p.standings ≡ length i.boxes
table_stands i p is = ap (λ (a : Placement). length a.standings) is.answer_is ∙ table_count i is.places (length i.boxes)

abbrev placed_as : Placement → Corner → PlacedContext
placed_as placement offset = record { placement = placement; offset = offset }

-- there is one offset beside a placement
pub same_placed : (at : StandInput) (p q : PlacedContext) → p.placement ≡ q.placement → IsOwnOffset at p.placement.own p.offset → IsOwnOffset at q.placement.own q.offset → p ≡ q
same_placed at p q e a b =
    let own : p.placement.own ≡ q.placement.own = ap (λ (x : Placement). x.own) e in
    let offset : p.offset ≡ q.offset = one_own_place_lem at q.placement.own p.offset q.offset (subst (λ (o : OwnBox). IsOwnOffset at o p.offset) own a) b in
    let r : placed_as p.placement p.offset ≡ placed_as q.placement q.offset = rw (e, offset) refl in
    r

module _ (flow : PlaceInput) (at : StandInput) (of : TableSizesValue → TableInput) (same : (t : TableSizesValue) → (of t).boxes ≡ flow.boxes) where
  -- each box has its standing
  pub stands : (o : Option TableSizesValue) (p : PlacedContext) → IsLocal (place_as flow (option_map of o) at) (value.Place p) → length p.placement.standings ≡ length flow.boxes
  stands None p local = flow_stands flow p.placement local.1
  stands (Some t) p local = rw (← same t) (table_stands (of t) p.placement local.0)
