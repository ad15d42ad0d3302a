-- The values of the roots of a context, one root after another: from the last one to the first where roots are given something by those in
-- them, and from the first one to the last where they are by the one around.
use Rattle.std.proofs.Common.{◌≡◌, ◌≢◌, ◌<◌, ◌≤◌, ◌+◌, ℕ, Bool, true, false, List, [], ◌∷◌, ◌++◌, length, slice_get, slice_index_or, slice_set, Option, None, Some, ap, sym, subst, ◌∙◌, arith, inl, inr}
use Rattle.std.proofs.lemmas.Bool.{cases_eq, cases_lt}
use Rattle.std.proofs.lemmas.Grind.{elements}
use Rattle.std.proofs.lemmas.Option.{get_or_from_slice_get, slice_get-get_or}
use Rattle.lay_context_sizes.specs.MeasuredContexts.{MeasuredContext, not_measured}
use Rattle.lay_sizes.specs.declared.sizing.BoxSizes.{BoxSizes}
use Rattle.lay_units.specs.declared.length.Unit.{Unit as Length}
use Rattle.lay_table_sizes.specs.TableSizesValue.{TableSizesValue}
use Rattle.lay_context_sizes.specs.ContextSizes.{IsSizedAs, SizedContext, not_sized}
use Rattle.lay_context_sizes.specs.Inputs.{SizeInput}
use Rattle.lay_context_sizes.specs.TableContexts.{is_table}
use Rattle.lay_context.specs.declared.input.Input.{Input}
use Rattle.lay_context.specs.declared.input.Input.TheVariants as input
use Rattle.lay_context.specs.declared.value.Value.{Value}
use Rattle.lay_context.specs.declared.value.Value.TheVariants as value
use Rattle.lay_context.specs.DocumentLayout.{widths_in}
use Rattle.lay_context.specs.Local.{IsLocal}
use Rattle.lay_context.specs.PlacedContexts.{PlacedContext, not_placed, placed_in}
use Rattle.lay_context.specs.Settings.{sizes_in}
use Rattle.lay_cell_work.specs.declared.root_spot.RootSpot.{RootSpot}
use Rattle.lay_cell_work.specs.CellInputFits.{CellInputFits}
use Rattle.lay_cell_work.specs.CellInputs.{CellInput, RootInput}
use Rattle.lay_cell_work.specs.CellLocal.{filled_input, sized_boxes, whole_input}
use Rattle.lay_cell_work.specs.CellValues.{CellValue, Places, Sizes, Widths, root_value}
use Rattle.lay_cell_work.specs.SizedSpots.{IsSpotSized}
use Rattle.lay_cell_work.proofs.SameFilled.{AreSame, map_at, places_alike, same_whole, sizes_alike, widths_alike}

set_here : {X : Type 0} (xs : List X) (k : ℕ) (x d : X) → k < length xs → slice_index_or (slice_set xs k x) k d ≡ x
set_here xs k x d lt = grind (arith, elements, lt)

set_other : {X : Type 0} (xs : List X) (k j : ℕ) (x d : X) → k ≢ j → slice_index_or (slice_set xs k x) j d ≡ slice_index_or xs j d
set_other xs k j x d other = grind (arith, elements, other)

read_before : {X : Type 0} (xs : List X) (x d : X) (k : ℕ) → k < length xs → slice_index_or (xs ++ x ∷ []) k d ≡ slice_index_or xs k d
read_before xs x d k lt = grind (arith, elements, lt)

read_last : {X : Type 0} (xs : List X) (x d : X) (k : ℕ) → k ≡ length xs → slice_index_or (xs ++ x ∷ []) k d ≡ x
read_last xs x d k e = grind (arith, elements, e)

pub set_count : {X : Type 0} (xs : List X) (k : ℕ) (x : X) → length (slice_set xs k x) ≡ length xs
set_count xs k x = grind (arith, elements)

-- a root is read as itself
pub root_is : (roots : List RootInput) (r : ℕ) (x y : RootInput) → x ≡ slice_index_or roots r x → slice_get roots r ≡ Some y → x ≡ y
root_is roots r x y is there = is ∙ get_or_from_slice_get roots r y x there

pub root_there : (roots : List RootInput) (r : ℕ) (x : RootInput) → x ≡ slice_index_or roots r x → r < length roots → slice_get roots r ≡ Some x
root_there roots r x is lt = slice_get-get_or roots r x lt ∙ ap Some (sym is)

abbrev no_root : RootInput
no_root = record { given = input.Unmeasured; links = []; around = None }

-- the values of the roots from this one on are right beside what these are given, and so are those of the roots before this one
abbrev pub AreRightFrom : List RootInput → CellValue → ℕ → Type 0
AreRightFrom roots v from = (s : ℕ) (x : RootInput) → slice_get roots s ≡ Some x → from ≤ s → IsLocal (whole_input roots v x) (root_value v s)

abbrev pub AreRightTo : List RootInput → CellValue → ℕ → Type 0
AreRightTo roots v to = (s : ℕ) (x : RootInput) → slice_get roots s ≡ Some x → s < to → IsLocal (whole_input roots v x) (root_value v s)

-- this value of the root r is
abbrev pub IsRightAt : List RootInput → CellValue → ℕ → Value → Type 0
IsRightAt roots v r a = (x : RootInput) → slice_get roots r ≡ Some x → IsLocal (whole_input roots v x) a

carried : (roots : List RootInput) (v w : CellValue) (x : RootInput) (a b : Value) → AreSame roots v w x.links x.around → a ≡ b → IsLocal (whole_input roots v x) a → IsLocal (whole_input roots w x) b
carried roots v w x a b same e local =
    subst (λ (g : Input). IsLocal g b) (same_whole roots v w x.links x.around x.given same) (subst (λ (u : Value). IsLocal (whole_input roots v x) u) e local)

-- the sizes of a root are of its boxes
sized_as : (b : Bool) (i : SizeInput) (sizes : List BoxSizes) (table : Option TableSizesValue) (left : Length) → IsSizedAs b i sizes table left → length sizes ≡ length i.boxes
sized_as true i sizes (Some table) left sized = sized.0.count
sized_as true i sizes None left sized = absurd sized
sized_as false i sizes None left sized = sized.inside.count
sized_as false i sizes (Some table) left sized = absurd sized

sized_of : (roots : List RootInput) (zs : List SizedContext) (links : List (Option ℕ)) (around : Option RootSpot) (given : Input) (z : SizedContext)
    → IsLocal (filled_input roots (Sizes zs) links around given) (value.Size z) → length z.boxes ≡ length (sized_boxes given)
sized_of roots zs links around (input.Size i) z local = sized_as (is_table i.boxes) _ z.boxes z.table z.left local.1.boxes
sized_of roots zs links around (input.Measure i) z local = absurd local
sized_of roots zs links around input.Unmeasured z local = absurd local
sized_of roots zs links around (input.Place i at) z local = absurd local
sized_of roots zs links around (input.PlaceTable i at) z local = absurd local

module _ (i : CellInput) (fits : CellInputFits i) (r : ℕ) (lt : r < length i.roots) where
  pub one_more_widths : (ws : List MeasuredContext) (w : MeasuredContext) → length ws ≡ length i.roots → IsRightAt i.roots (Widths ws) r (value.Measure w)
      → AreRightFrom i.roots (Widths ws) (r + 1) → AreRightFrom i.roots (Widths (slice_set ws r w)) r
  one_more_widths ws w count local right s y is le =
      let us : List MeasuredContext = slice_set ws r w in
      let alike : AreSame i.roots (Widths ws) (Widths us) y.links y.around =
      widths_alike i.roots y.links y.around ws us (λ k l e. sym (set_other ws r l w not_measured (let more = fits.inward.links s k l y is e in λ same. absurd (omega (arith, more, le, same))))) in
      elim (cases_eq r s) [
        | inl same ↦ carried i.roots (Widths ws) (Widths us) y (value.Measure w) (value.Measure (widths_in us s)) alike
            (ap value.Measure (sym (set_here ws r w not_measured (omega (arith, lt, count))) ∙ ap (widths_in us) same)) (local y (ap (slice_get i.roots) same ∙ is))
        | inr other ↦ carried i.roots (Widths ws) (Widths us) y (value.Measure (widths_in ws s)) (value.Measure (widths_in us s)) alike
            (ap value.Measure (sym (set_other ws r s w not_measured other))) (right s y is (omega (arith, le, other)))
      ]

  pub one_more_places : (ps : List PlacedContext) (p : PlacedContext) → length ps ≡ length i.roots → IsRightAt i.roots (Places ps) r (value.Place p)
      → AreRightFrom i.roots (Places ps) (r + 1) → AreRightFrom i.roots (Places (slice_set ps r p)) r
  one_more_places ps p count local right s y is le =
      let qs : List PlacedContext = slice_set ps r p in
      let alike : AreSame i.roots (Places ps) (Places qs) y.links y.around =
      places_alike i.roots y.links y.around ps qs (λ k l e. sym (set_other ps r l p not_placed (let more = fits.inward.links s k l y is e in λ same. absurd (omega (arith, more, le, same))))) in
      elim (cases_eq r s) [
        | inl same ↦ carried i.roots (Places ps) (Places qs) y (value.Place p) (value.Place (placed_in qs s)) alike
            (ap value.Place (sym (set_here ps r p not_placed (omega (arith, lt, count))) ∙ ap (placed_in qs) same)) (local y (ap (slice_get i.roots) same ∙ is))
        | inr other ↦ carried i.roots (Places ps) (Places qs) y (value.Place (placed_in ps s)) (value.Place (placed_in qs s)) alike
            (ap value.Place (sym (set_other ps r s p not_placed other))) (right s y is (omega (arith, le, other)))
      ]

  module _ (zs : List SizedContext) (count : length zs ≡ r) (right : AreRightTo i.roots (Sizes zs) r) where
    pub one_more_sizes : (z : SizedContext) → IsRightAt i.roots (Sizes zs) r (value.Size z) → AreRightTo i.roots (Sizes (zs ++ z ∷ [])) (r + 1)
    one_more_sizes z local s y is low =
        let ys : List SizedContext = zs ++ z ∷ [] in
        let alike : AreSame i.roots (Sizes zs) (Sizes ys) y.links y.around =
        sizes_alike i.roots y.links y.around zs ys (λ spot e. sym (read_before zs z not_sized spot.root (let less = fits.inward.around s y spot is e in omega (arith, less, low, count)))) in
        elim (cases_lt s r) [
          | inl before ↦ carried i.roots (Sizes zs) (Sizes ys) y (value.Size (sizes_in zs s)) (value.Size (sizes_in ys s)) alike
              (ap value.Size (sym (read_before zs z not_sized s (omega (arith, before, count))))) (right s y is before)
          | inr last ↦ (let same : r ≡ s = omega (arith, last, low) in
              carried i.roots (Sizes zs) (Sizes ys) y (value.Size z) (value.Size (sizes_in ys s)) alike
              (ap value.Size (sym (read_last zs z not_sized s (omega (arith, same, count))))) (local y (ap (slice_get i.roots) same ∙ is)))
        ]

    -- the root around the next one is sized
    pub spot_sized : (x : RootInput) → slice_get i.roots r ≡ Some x → (spot : RootSpot) → x.around ≡ Some spot → IsSpotSized i.roots zs spot
    spot_sized x is spot e =
        let less = fits.inward.around r x spot is e in
        let there : spot.root < length i.roots = omega (arith, less, lt) in
        let y : RootInput = slice_index_or i.roots spot.root no_root in
        let local = right spot.root y (slice_get-get_or i.roots spot.root no_root there) less in
        record {
          there = there;
          sized = omega (arith, less, count);
          place = fits.spots r x spot is e;
          count = sized_of i.roots zs y.links y.around y.given (sizes_in zs spot.root) local ∙ sym (ap length (map_at (λ (x : RootInput). sized_boxes x.given) i.roots spot.root no_root));
        }
