-- Beside what it is given a cell has one value: root by root, from the last one to the first where roots are given something by those in
-- them, and from the first one to the last where they are by the one around.
use Rattle.std.proofs.Common.{◌≡◌, ◌<◌, ◌≤◌, ◌+◌, ℕ, zero, suc, List, [], ◌∷◌, length, slice_get, slice_index_or, None, Some, refl, ap, sym, subst, ◌∙◌, arith, inl, inr}
use Rattle.std.proofs.lemmas.Bool.{cases_lt}
use Rattle.std.proofs.lemmas.Option.{slice_get-get_or}
use Rattle.std.proofs.lemmas.List.{ext_get_or}
use Rattle.lay_context_sizes.specs.MeasuredContexts.{MeasuredContext, not_measured}
use Rattle.lay_context_sizes.specs.ContextSizes.{SizedContext, not_sized}
use Rattle.lay_context.specs.declared.input.Input.{Input}
use Rattle.lay_context.specs.declared.input.Input.TheVariants as input
use Rattle.lay_context.specs.DocumentLayout.{widths_in}
use Rattle.lay_context.specs.Laws.{OneLocal}
use Rattle.lay_context.specs.Local.{IsLocal}
use Rattle.lay_context.specs.PlacedContexts.{PlacedContext, not_placed, placed_in}
use Rattle.lay_context.specs.Settings.{sizes_in}
use Rattle.lay_cell_work.proofs.Cited.{place_value, size_value, width_value}
use Rattle.lay_cell_work.specs.CellInputFits.{LeadsInward}
use Rattle.lay_cell_work.specs.CellInputs.{CellInput, RootInput}
use Rattle.lay_cell_work.specs.CellLocal.{IsCellLocal, whole_input}
use Rattle.lay_cell_work.specs.CellValues.{CellValue, Places, Sizes, Widths, phase_of, root_value}
use Rattle.lay_cell_work.proofs.SameFilled.{AreSame, places_alike, same_whole, sizes_alike, widths_alike}
use Rattle.lay_cell_work.specs.CellLaws.Laws.{OneCellLocal}

past : {X : Type 0} (xs : List X) (r : ℕ) (d : X) → length xs ≤ r → slice_index_or xs r d ≡ d
past [] zero d le = refl
past [] (suc r) d le = refl
past (x ∷ xs) zero d le = absurd (omega (arith, le))
past (x ∷ xs) (suc r) d le = past xs r d (omega (arith, le))

no_root : RootInput
no_root = record { given = input.Unmeasured; links = []; around = None }

module _ (one : OneLocal) (i : CellInput) (leads : LeadsInward i) where
  one_at : (v w : CellValue) (r : ℕ) → IsCellLocal i v → IsCellLocal i w → r < length i.roots → ((x : RootInput) → slice_get i.roots r ≡ Some x → AreSame i.roots v w x.links x.around) → root_value v r ≡ root_value w r
  one_at v w r a b lt same =
      let x : RootInput = slice_index_or i.roots r no_root in
      let there : slice_get i.roots r ≡ Some x = slice_get-get_or i.roots r no_root lt in
      let e : whole_input i.roots v x ≡ whole_input i.roots w x = same_whole i.roots v w x.links x.around x.given (same x there) in
      one (whole_input i.roots v x) (root_value v r) (root_value w r) (a.each r x there) (subst (λ (g : Input). IsLocal g (root_value w r)) (sym e) (b.each r x there))

  module _ (ws us : List MeasuredContext) (a : IsCellLocal i (Widths ws)) (b : IsCellLocal i (Widths us)) where
    widths_same : (d r : ℕ) → length i.roots ≤ r + d → widths_in ws r ≡ widths_in us r
    widths_same zero r le = past ws r not_measured (let c = a.count in omega (arith, c, le)) ∙ sym (past us r not_measured (let c = b.count in omega (arith, c, le)))
    widths_same (suc d) r le = elim (cases_lt r (length i.roots)) [
      | inl lt ↦ width_value (widths_in ws r) (widths_in us r) (one_at (Widths ws) (Widths us) r a b lt (λ x there. widths_alike i.roots x.links x.around ws us (λ k l e.
          widths_same d l (let more = leads.links r k l x there e in omega (arith, le, more)))))
      | inr high ↦ past ws r not_measured (let c = a.count in omega (arith, c, high)) ∙ sym (past us r not_measured (let c = b.count in omega (arith, c, high)))
    ]

  module _ (ps qs : List PlacedContext) (a : IsCellLocal i (Places ps)) (b : IsCellLocal i (Places qs)) where
    places_same : (d r : ℕ) → length i.roots ≤ r + d → placed_in ps r ≡ placed_in qs r
    places_same zero r le = past ps r not_placed (let c = a.count in omega (arith, c, le)) ∙ sym (past qs r not_placed (let c = b.count in omega (arith, c, le)))
    places_same (suc d) r le = elim (cases_lt r (length i.roots)) [
      | inl lt ↦ place_value (placed_in ps r) (placed_in qs r) (one_at (Places ps) (Places qs) r a b lt (λ x there. places_alike i.roots x.links x.around ps qs (λ k l e.
          places_same d l (let more = leads.links r k l x there e in omega (arith, le, more)))))
      | inr high ↦ past ps r not_placed (let c = a.count in omega (arith, c, high)) ∙ sym (past qs r not_placed (let c = b.count in omega (arith, c, high)))
    ]

  module _ (zs ys : List SizedContext) (a : IsCellLocal i (Sizes zs)) (b : IsCellLocal i (Sizes ys)) where
    sizes_same : (d r : ℕ) → r < d → sizes_in zs r ≡ sizes_in ys r
    sizes_same zero r lt = absurd (omega (arith, lt))
    sizes_same (suc d) r lt = elim (cases_lt r (length i.roots)) [
      | inl there ↦ size_value (sizes_in zs r) (sizes_in ys r) (one_at (Sizes zs) (Sizes ys) r a b there (λ x is. sizes_alike i.roots x.links x.around zs ys (λ spot e.
          sizes_same d spot.root (let less = leads.around r x spot is e in omega (arith, lt, less)))))
      | inr high ↦ past zs r not_sized (let c = a.count in omega (arith, c, high)) ∙ sym (past ys r not_sized (let c = b.count in omega (arith, c, high)))
    ]

  one_value : (v w : CellValue) → IsCellLocal i v → IsCellLocal i w → phase_of v ≡ phase_of w → v ≡ w
  one_value (Widths ws) (Widths us) a b e = ap Widths (ext_get_or not_measured ws us (a.count ∙ sym b.count) (λ r lt. widths_same ws us a b (length i.roots) r (omega arith)))
  one_value (Sizes zs) (Sizes ys) a b e = ap Sizes (ext_get_or not_sized zs ys (a.count ∙ sym b.count) (λ r lt. sizes_same zs ys a b (suc r) r (omega arith)))
  one_value (Places ps) (Places qs) a b e = ap Places (ext_get_or not_placed ps qs (a.count ∙ sym b.count) (λ r lt. places_same ps qs a b (length i.roots) r (omega arith)))
  one_value (Widths ws) (Sizes ys) a b e = absurd cc
  one_value (Widths ws) (Places qs) a b e = absurd cc
  one_value (Sizes zs) (Widths us) a b e = absurd cc
  one_value (Sizes zs) (Places qs) a b e = absurd cc
  one_value (Places ps) (Widths us) a b e = absurd cc
  one_value (Places ps) (Sizes ys) a b e = absurd cc

pub one_cell_local_lem : OneLocal → OneCellLocal
one_cell_local_lem one i v w leads a b = one_value one i leads v w a b (a.phase ∙ sym b.phase)
