-- What a cell is given is kept where its context is the same and what it depends on is kept.
use Rattle.std.proofs.Common.{◌≡◌, ◌<◌, ℕ, zero, suc, true, false, List, [], ◌∷◌, length, map, slice_index, Option, None, refl, ap, sym, ◌∙◌, arith}
use Rattle.lay_box_tree.specs.declared.box_tree.BoxNode.{BoxNode}
use Rattle.lay_frag.specs.declared.frag.Frag.{Frag}
use Rattle.lay_measure.specs.MeasureInValue.{no_widths}
use Rattle.lay_measure.specs.declared.preferred_widths.PreferredWidths.{PreferredWidths}
use Rattle.lay_sizes.specs.declared.own_boxes.OwnBox.{OwnBox}
use Rattle.lay_sizes.specs.OwnBoxes.{no_own_box}
use Rattle.lay_sizes.specs.declared.sizing.ContainingBlock.{ContainingBlock}
use Rattle.lay_contexts.specs.Contexts.{boxes_in, context_at}
use Rattle.lay_contexts.specs.FormattingBoxes.{boxes_of_root, rank}
use Rattle.lay_contexts.specs.FormattingContexts.{FormattingContext, boxes_in as boxes_of, formatting_context_at}
use Rattle.lay_contexts.specs.FormattingContextList.{first_number, homes_in, number_at, number_of, rank_at, roots_before, spot_of}
use Rattle.lay_contexts.specs.Homes.{OneHome, is_root}
use Rattle.lay_cell_work.proofs.Cited.{home_root, home_there, Numbered}
use Rattle.lay_abspos.specs.declared.own_place.OwnPlace.TheVariants as own_place
use Rattle.lay_positioned.specs.Absolute.{is_absolute}
use Rattle.lay_positioned.specs.Settings.{absolute_setting}
use Rattle.lay_context_sizes.specs.ContextSizes.{SizedContext}
use Rattle.lay_context_sizes.specs.declared.setting.Setting.{Setting}
use Rattle.lay_context_sizes.specs.declared.setting.Setting.TheVariants.{Absolute}
use Rattle.lay_context.specs.declared.task.Phase.TheVariants as phase
use Rattle.lay_context.specs.DocumentLayout.{widths_in}
use Rattle.lay_context.specs.Laws.{MeasuredWhereShrunk}
use Rattle.lay_context.specs.Measured.{is_measured}
use Rattle.lay_context.specs.Medium.{Medium}
use Rattle.lay_context.specs.PlacedContexts.{placed_in}
use Rattle.lay_context.specs.Settings.{flow_place, flow_setting, laid, own_place_of, setting_in, setting_of, sizes_in}
use Rattle.lay_cell_work.specs.declared.root_spot.RootSpot.{RootSpot}
use Rattle.lay_cell_work.specs.CellColumns.{links_or_none}
use Rattle.lay_cell_work.specs.CellLocal.{masked_setting}
use Rattle.lay_cell_work.specs.CellValues.{CellValue, own_measured, own_sizes, own_places}
use Rattle.lay_cell_work.specs.PresentInputs.{spot_in}
use Rattle.lay_cell_work.specs.CellLaws.SameContexts.{AreSameInside, IsSameAround, IsSameContext, IsSameToMeasure, IsTable, MeasureInputsAreKept, Table, input_in, is_context_out_of_flow, workings_in}
use Rattle.lay_cell_work.proofs.CellLawsLemmas.InputForms.{measure_cell, measure_form, measured_root_same, own_widths_form, place_cell, place_form, placed_root_same, sized_root_same, sizes_form, table_are, table_calm, table_keeps}
use Rattle.lay_cell_work.proofs.CellLawsLemmas.InnerContexts.{none_same}
use Rattle.lay_cell_work.proofs.CellLawsLemmas.OuterBoxes.{outer_boxes_same}
use Rattle.lay_cell_work.proofs.CellLawsLemmas.RootForms.{boxes_are, given_at, link_at, members, number_within, other, own_absolute, own_is, own_some, positive}
use Rattle.lay_cell_work.proofs.CellLawsLemmas.RootsOfContexts.{anonymous_flows, anonymous_some}
use Rattle.lay_cell_work.proofs.CellLawsLemmas.SameRoots.{anonymous_form, boxes_same, column_same, homes_same, inside_same, links_same, measured_same, ordinals_same, root_boxes_same, root_same, roots_same, spot_form, spot_is, spots_same}
use Rattle.lay_cell_work.proofs.CellLawsLemmas.WholeInputs.{flow_some, setting_by}

pub inner_place_of : (viewport : ContainingBlock) (m : ℕ) → 0 < m → flow_place viewport m ≡ own_place.Inner
inner_place_of viewport zero some = absurd (omega (arith, some))
inner_place_of viewport (suc m) some = refl

-- where the box of a context stands that isn't the root's
pub spot_around : (t : Table) (c : ℕ) → 0 < c → spot_of t.contexts c 0 ≡ record { context = (context_at t.contexts c).outer; place = (context_at t.contexts c).outer_box }
spot_around t zero some = absurd (omega (arith, some))
spot_around t (suc c) some = refl

module _ (one_home : OneHome) (where_shrunk : MeasuredWhereShrunk) (medium : Medium) (a b : Table) (is_a : IsTable a) (is_b : IsTable b) (c e : ℕ) where
  measure_kept : IsSameToMeasure a b c e → input_in medium a c phase.Measure ≡ input_in medium b e phase.Measure
  measure_kept to =
      let same = to.own in
      let inside = to.inside in
      roots_same one_home a b is_a is_b c e same medium phase.Measure (λ r within root.
      (let HA : List ℕ = homes_in is_a.are_formatting_contexts.homes c in
      let HB : List ℕ = homes_in is_b.are_formatting_contexts.homes e in
      let BA : List BoxNode = boxes_in a.contexts c in
      let BB : List BoxNode = boxes_in b.contexts e in
      let IA : List ℕ = (context_at a.contexts c).inner in
      let IB : List ℕ = (context_at b.contexts e).inner in
      let column = column_same one_home a b is_a is_b c e same no_widths (measure_cell a) (measure_cell b) (none_same a b is_a is_b c e same)
      (λ k lt some anchor. ap (λ (v : CellValue). (widths_in (own_measured v) 0).widths) (inside k lt some anchor)) r in
      measure_form a is_a c same.within r within root medium
      ∙ measured_root_same (is_measured a.formatting_contexts (number_of a.contexts c r)) (is_measured b.formatting_contexts (number_of b.contexts e r)) (boxes_of_root BA HA r) (boxes_of_root BB HB r)
      (no_widths ∷ map (given_at no_widths (measure_cell a) BA IA) (members BA HA r)) (no_widths ∷ map (given_at no_widths (measure_cell b) BB IB) (members BB HB r))
      (links_or_none (None ∷ map (link_at BA) (members BA HA r))) (links_or_none (None ∷ map (link_at BB) (members BB HB r))) medium
      (measured_same one_home where_shrunk a b is_a is_b c e same to.measured r within root) (root_boxes_same one_home a b is_a is_b c e same r)
      (ap (λ (ws : List PreferredWidths). no_widths ∷ ws) column) (links_same one_home a b is_a is_b c e same r)
      ∙ sym (measure_form b is_b e same.there r (inside_same one_home a b is_a is_b c e same r within) (root_same one_home a b is_a is_b c e same r root) medium)))

  module _ (same : IsSameContext a b c e) where
    setting_by_spot : (r : ℕ) (x y : Option RootSpot) (s t : Setting) → x ≡ spot_form (boxes_in a.contexts c) (homes_in is_a.are_formatting_contexts.homes c) r
        → y ≡ spot_form (boxes_in b.contexts e) (homes_in is_b.are_formatting_contexts.homes e) r → (r ≡ 0 → s ≡ t) → masked_setting x s ≡ masked_setting y t
    setting_by_spot zero x y s t p q first = rw (p, q) (first refl)
    setting_by_spot (suc r) x y s t p q first = rw (p, q) refl

    -- sizes, where the own box is in the same setting
    pub size_kept : a.kept c phase.Measure ≡ b.kept e phase.Measure
        → setting_of medium.viewport a.formatting_contexts (workings_in a) (number_of a.contexts c 0) ≡ setting_of medium.viewport b.formatting_contexts (workings_in b) (number_of b.contexts e 0)
        → input_in medium a c phase.Size ≡ input_in medium b e phase.Size
    size_kept widths setting = roots_same one_home a b is_a is_b c e same medium phase.Size (λ r within root.
        (let m : ℕ = number_of a.contexts c r in
        let n : ℕ = number_of b.contexts e r in
        let within_b = inside_same one_home a b is_a is_b c e same r within in
        let root_b = root_same one_home a b is_a is_b c e same r root in
        let x = spot_is a is_a c same.within r within root in
        let y = spot_is b is_b e same.there r within_b root_b in
        let own : widths_in (workings_in a).widths m ≡ widths_in (workings_in b).widths n =
        own_widths_form a is_a c same.within r within root ∙ ap (λ (v : CellValue). widths_in (own_measured v) (roots_before (boxes_in a.contexts c) r)) widths
        ∙ ap (widths_in (own_measured (b.kept e phase.Measure))) (ordinals_same one_home a b is_a is_b c e same r) ∙ sym (own_widths_form b is_b e same.there r within_b root_b) in
        let spots = x ∙ spots_same one_home a b is_a is_b c e same r ∙ sym y in
        let settings = setting_by_spot r (spot_in a.formatting_contexts (first_number a.contexts c) m) (spot_in b.formatting_contexts (first_number b.contexts e) n)
        (setting_of medium.viewport a.formatting_contexts (workings_in a) m) (setting_of medium.viewport b.formatting_contexts (workings_in b) n) x y
        (λ zeroed. ap (λ (s : ℕ). setting_of medium.viewport a.formatting_contexts (workings_in a) (number_of a.contexts c s)) zeroed ∙ setting
        ∙ ap (λ (s : ℕ). setting_of medium.viewport b.formatting_contexts (workings_in b) (number_of b.contexts e s)) (sym zeroed)) in
        sized_root_same (boxes_of a.formatting_contexts m) (boxes_of b.formatting_contexts n) (widths_in (workings_in a).widths m) (widths_in (workings_in b).widths n)
        (masked_setting (spot_in a.formatting_contexts (first_number a.contexts c) m) (setting_of medium.viewport a.formatting_contexts (workings_in a) m))
        (masked_setting (spot_in b.formatting_contexts (first_number b.contexts e) n) (setting_of medium.viewport b.formatting_contexts (workings_in b) n))
        (spot_in a.formatting_contexts (first_number a.contexts c) m) (spot_in b.formatting_contexts (first_number b.contexts e) n)
        (boxes_same one_home a b is_a is_b c e same r within root) own settings spots))

    place_of_anonymous : (t : Table) (is : IsTable t) (x r : ℕ) → x < length t.contexts → suc r < length (boxes_in t.contexts x) → is_root (boxes_in t.contexts x) (suc r) ≡ true
        → own_place_of medium.viewport t.formatting_contexts (workings_in t) (number_of t.contexts x (suc r)) ≡ own_place.Inner
    place_of_anonymous t is x r lt within root =
        let m : ℕ = number_of t.contexts x (suc r) in
        let there = number_within t.contexts t.formatting_contexts (table_are t is) is.are_formatting_contexts (table_calm t is) (table_keeps t is) x (suc r) lt within root in
        let n : Numbered t.contexts (length t.contexts) m = record { context = x; place = suc r; before = lt; inside = within; root = root; number = refl } in
        let anonymous = anonymous_form t is x lt (suc r) within root ∙ positive (suc r) (omega arith) in
        let flows = anonymous_flows t.contexts t.formatting_contexts (table_are t is) is.are_formatting_contexts (table_calm t is) m there n anonymous in
        let some = anonymous_some t.contexts t.formatting_contexts (table_are t is) is.are_formatting_contexts m there n anonymous in
        other (is_absolute t.formatting_contexts m) (own_place.Absolute (absolute_setting medium.viewport t.formatting_contexts (laid (workings_in t)) m)) (flow_place medium.viewport m) flows
        ∙ inner_place_of medium.viewport m some

    position_same : (r : ℕ) → r < length (boxes_in a.contexts c) → is_root (boxes_in a.contexts c) r ≡ true
        → own_place_of medium.viewport a.formatting_contexts (workings_in a) (number_of a.contexts c 0) ≡ own_place_of medium.viewport b.formatting_contexts (workings_in b) (number_of b.contexts e 0)
        → own_place_of medium.viewport a.formatting_contexts (workings_in a) (number_of a.contexts c r) ≡ own_place_of medium.viewport b.formatting_contexts (workings_in b) (number_of b.contexts e r)
    position_same zero within root first = first
    position_same (suc r) within root first =
        place_of_anonymous a is_a c r same.within within root
        ∙ sym (place_of_anonymous b is_b e r same.there (inside_same one_home a b is_a is_b c e same (suc r) within) (root_same one_home a b is_a is_b c e same (suc r) root))

    -- places, where the own box has the same place
    pub place_kept : a.kept c phase.Size ≡ b.kept e phase.Size → AreSameInside a b c e phase.Place
        → own_place_of medium.viewport a.formatting_contexts (workings_in a) (number_of a.contexts c 0) ≡ own_place_of medium.viewport b.formatting_contexts (workings_in b) (number_of b.contexts e 0)
        → input_in medium a c phase.Place ≡ input_in medium b e phase.Place
    place_kept sizes inside position = roots_same one_home a b is_a is_b c e same medium phase.Place (λ r within root.
        (let m : ℕ = number_of a.contexts c r in
        let n : ℕ = number_of b.contexts e r in
        let HA : List ℕ = homes_in is_a.are_formatting_contexts.homes c in
        let HB : List ℕ = homes_in is_b.are_formatting_contexts.homes e in
        let BA : List BoxNode = boxes_in a.contexts c in
        let BB : List BoxNode = boxes_in b.contexts e in
        let IA : List ℕ = (context_at a.contexts c).inner in
        let IB : List ℕ = (context_at b.contexts e).inner in
        let within_b = inside_same one_home a b is_a is_b c e same r within in
        let root_b = root_same one_home a b is_a is_b c e same r root in
        let boxes_column = column_same one_home a b is_a is_b c e same no_own_box (place_cell a) (place_cell b) (none_same a b is_a is_b c e same)
        (λ k lt some anchor. ap (λ (v : CellValue). (placed_in (own_places v) 0).placement.own) (inside k lt some anchor)) r in
        let nothing : ℕ → List Frag = λ p. [] in
        let pieces_column = column_same one_home a b is_a is_b c e same [] nothing nothing (none_same a b is_a is_b c e same) (λ k lt some anchor. refl) r in
        let sized : sizes_in (own_sizes (a.kept c phase.Size)) (roots_before BA r) ≡ sizes_in (own_sizes (b.kept e phase.Size)) (roots_before BB r) =
        ap (λ (v : CellValue). sizes_in (own_sizes v) (roots_before BA r)) sizes ∙ ap (sizes_in (own_sizes (b.kept e phase.Size))) (ordinals_same one_home a b is_a is_b c e same r) in
        place_form a is_a c same.within r within root medium
        ∙ placed_root_same (boxes_of_root BA HA r) (boxes_of_root BB HB r) (sizes_in (own_sizes (a.kept c phase.Size)) (roots_before BA r)) (sizes_in (own_sizes (b.kept e phase.Size)) (roots_before BB r))
        (no_own_box ∷ map (given_at no_own_box (place_cell a) BA IA) (members BA HA r)) (no_own_box ∷ map (given_at no_own_box (place_cell b) BB IB) (members BB HB r))
        ([] ∷ map (given_at [] nothing BA IA) (members BA HA r)) ([] ∷ map (given_at [] nothing BB IB) (members BB HB r))
        (links_or_none (None ∷ map (link_at BA) (members BA HA r))) (links_or_none (None ∷ map (link_at BB) (members BB HB r)))
        (own_place_of medium.viewport a.formatting_contexts (workings_in a) m) (own_place_of medium.viewport b.formatting_contexts (workings_in b) n) medium
        (root_boxes_same one_home a b is_a is_b c e same r) sized (ap (λ (xs : List OwnBox). no_own_box ∷ xs) boxes_column) (ap (λ (xs : List (List Frag)). [] ∷ xs) pieces_column)
        (links_same one_home a b is_a is_b c e same r) (position_same r within root position)
        ∙ sym (place_form b is_b e same.there r within_b root_b medium)))

-- one in flow or floating
module _ (medium : Medium) (t : Table) (is : IsTable t) (c : ℕ) (lt : c < length t.contexts) (in_flow : is_context_out_of_flow t c ≡ false) where
  no_absolute : is_absolute t.formatting_contexts (first_number t.contexts c) ≡ false
  no_absolute = own_absolute t.contexts t.formatting_contexts (table_are t is) is.are_formatting_contexts (table_calm t is) (table_keeps t is) c lt ∙ in_flow

  pub first_is : number_of t.contexts c 0 ≡ first_number t.contexts c
  first_is = omega arith

  pub flow_place_is : own_place_of medium.viewport t.formatting_contexts (workings_in t) (number_of t.contexts c 0) ≡ flow_place medium.viewport (first_number t.contexts c)
  flow_place_is =
      ap (own_place_of medium.viewport t.formatting_contexts (workings_in t)) first_is
      ∙ other (is_absolute t.formatting_contexts (first_number t.contexts c)) (own_place.Absolute (absolute_setting medium.viewport t.formatting_contexts (laid (workings_in t)) (first_number t.contexts c)))
      (flow_place medium.viewport (first_number t.contexts c)) no_absolute

  flow_setting_is : setting_of medium.viewport t.formatting_contexts (workings_in t) (number_of t.contexts c 0) ≡ flow_setting medium.viewport t.formatting_contexts (workings_in t).sizes (first_number t.contexts c)
  flow_setting_is =
      ap (setting_of medium.viewport t.formatting_contexts (workings_in t)) first_is
      ∙ setting_by (is_absolute t.formatting_contexts (first_number t.contexts c)) (Absolute (absolute_setting medium.viewport t.formatting_contexts (laid (workings_in t)) (first_number t.contexts c)))
      (flow_setting medium.viewport t.formatting_contexts (workings_in t).sizes (first_number t.contexts c)) no_absolute

  -- by what is around it
  setting_around : 0 < c
      → (let p : ℕ = (context_at t.contexts c).outer in let k : ℕ = (context_at t.contexts c).outer_box in
      let H : List ℕ = homes_in is.are_formatting_contexts.homes p in let B : List BoxNode = boxes_in t.contexts p in
      setting_of medium.viewport t.formatting_contexts (workings_in t) (number_of t.contexts c 0)
      ≡ setting_in (boxes_of_root B H (slice_index H k)) (sizes_in (own_sizes (t.kept p phase.Size)) (roots_before B (slice_index H k))) (rank H k))
  setting_around some =
      let p : ℕ = (context_at t.contexts c).outer in
      let k : ℕ = (context_at t.contexts c).outer_box in
      let H : List ℕ = homes_in is.are_formatting_contexts.homes p in
      let B : List BoxNode = boxes_in t.contexts p in
      let h : ℕ = slice_index H k in
      let are = table_are t is in
      let m : ℕ = first_number t.contexts c in
      let before = are.outer c some lt in
      let within : p < length t.contexts = omega (arith, before, lt) in
      let inside = are.outer_box c some lt in
      let there = home_there t.contexts is.are_formatting_contexts.homes are is.are_formatting_contexts.homes_are p k within inside in
      let root = home_root t.contexts is.are_formatting_contexts.homes are is.are_formatting_contexts.homes_are p k within inside in
      let own = own_is t.contexts t.formatting_contexts are is.are_formatting_contexts (table_calm t is) (table_keeps t is) c lt in
      let outer : (formatting_context_at t.formatting_contexts m).outer ≡ number_of t.contexts p h = ap (λ (f : FormattingContext). f.outer) own ∙ ap (number_at t.contexts is.are_formatting_contexts.homes) (spot_around t c some) in
      let outer_box : (formatting_context_at t.formatting_contexts m).outer_box ≡ rank H k = ap (λ (f : FormattingContext). f.outer_box) own ∙ ap (rank_at is.are_formatting_contexts.homes) (spot_around t c some) in
      let boxes = boxes_are t.contexts t.formatting_contexts are is.are_formatting_contexts (table_calm t is) (table_keeps t is) p h within there root in
      let sizes = sizes_form t is p within h there root in
      let positive = own_some t.contexts t.formatting_contexts are is.are_formatting_contexts (table_calm t is) (table_keeps t is) c some lt in
      flow_setting_is ∙ flow_some medium.viewport t.formatting_contexts (workings_in t).sizes m positive
      ∙ ap (λ (o : ℕ). setting_in (boxes_of t.formatting_contexts o) (sizes_in (workings_in t).sizes o) (formatting_context_at t.formatting_contexts m).outer_box) outer
      ∙ ap (λ (x : List BoxNode). setting_in x (sizes_in (workings_in t).sizes (number_of t.contexts p h)) (formatting_context_at t.formatting_contexts m).outer_box) boxes
      ∙ ap (λ (z : SizedContext). setting_in (boxes_of_root B H h) z (formatting_context_at t.formatting_contexts m).outer_box) sizes
      ∙ ap (λ (o : ℕ). setting_in (boxes_of_root B H h) (sizes_in (own_sizes (t.kept p phase.Size)) (roots_before B h)) o) outer_box

module _ (one_home : OneHome) (medium : Medium) (a b : Table) (is_a : IsTable a) (is_b : IsTable b) where
  pub flow_place_same : (c e : ℕ) → IsSameContext a b c e → flow_place medium.viewport (first_number a.contexts c) ≡ flow_place medium.viewport (first_number b.contexts e)
  flow_place_same zero zero same = refl
  flow_place_same zero (suc e) same = absurd (let z = same.root.0 refl in omega (arith, z))
  flow_place_same (suc c) zero same = absurd (let z = same.root.1 refl in omega (arith, z))
  flow_place_same (suc c) (suc e) same =
      let x = own_some a.contexts a.formatting_contexts (table_are a is_a) is_a.are_formatting_contexts (table_calm a is_a) (table_keeps a is_a) (suc c) (omega arith) same.within in
      let y = own_some b.contexts b.formatting_contexts (table_are b is_b) is_b.are_formatting_contexts (table_calm b is_b) (table_keeps b is_b) (suc e) (omega arith) same.there in
      inner_place_of medium.viewport (first_number a.contexts (suc c)) x ∙ sym (inner_place_of medium.viewport (first_number b.contexts (suc e)) y)

  around_same : (p q : ℕ) (x y : CellValue) (k l : ℕ) (same : IsSameContext a b p q) → x ≡ y → k ≡ l
      → (let HA : List ℕ = homes_in is_a.are_formatting_contexts.homes p in let HB : List ℕ = homes_in is_b.are_formatting_contexts.homes q in
      let BA : List BoxNode = boxes_in a.contexts p in let BB : List BoxNode = boxes_in b.contexts q in
      setting_in (boxes_of_root BA HA (slice_index HA k)) (sizes_in (own_sizes x) (roots_before BA (slice_index HA k))) (rank HA k)
      ≡ setting_in (boxes_of_root BB HB (slice_index HB l)) (sizes_in (own_sizes y) (roots_before BB (slice_index HB l))) (rank HB l))
  around_same p q x y k l same sizes place =
      let HA : List ℕ = homes_in is_a.are_formatting_contexts.homes p in
      let form : List BoxNode → List ℕ → CellValue → ℕ → Setting = λ B H v k. setting_in (boxes_of_root B H (slice_index H k)) (sizes_in (own_sizes v) (roots_before B (slice_index H k))) (rank H k) in
      ap (λ (B : List BoxNode). form B HA x k) same.boxes ∙ ap (λ (H : List ℕ). form (boxes_in b.contexts q) H x k) (homes_same one_home a b is_a is_b p q same)
      ∙ ap (λ (v : CellValue). form (boxes_in b.contexts q) (homes_in is_b.are_formatting_contexts.homes q) v k) sizes
      ∙ ap (form (boxes_in b.contexts q) (homes_in is_b.are_formatting_contexts.homes q) y) place

  pub flow_setting_same : (c e : ℕ) → IsSameContext a b c e → is_context_out_of_flow a c ≡ false → is_context_out_of_flow b e ≡ false → (0 < c → IsSameAround a b c e)
      → setting_of medium.viewport a.formatting_contexts (workings_in a) (number_of a.contexts c 0) ≡ setting_of medium.viewport b.formatting_contexts (workings_in b) (number_of b.contexts e 0)
  flow_setting_same zero zero same fa fb around = flow_setting_is medium a is_a zero same.within fa ∙ sym (flow_setting_is medium b is_b zero same.there fb)
  flow_setting_same zero (suc e) same fa fb around = absurd (let z = same.root.0 refl in omega (arith, z))
  flow_setting_same (suc c) zero same fa fb around = absurd (let z = same.root.1 refl in omega (arith, z))
  flow_setting_same (suc c) (suc e) same fa fb around =
      let r = around (omega arith) in
      let p : ℕ = (context_at a.contexts (suc c)).outer in
      let q : ℕ = (context_at b.contexts (suc e)).outer in
      setting_around medium a is_a (suc c) same.within fa (omega arith)
      ∙ around_same p q (a.kept p phase.Size) (b.kept q phase.Size) (context_at a.contexts (suc c)).outer_box (context_at b.contexts (suc e)).outer_box r.around r.sizes
      (outer_boxes_same a b is_a is_b (suc c) (suc e) (omega arith) (omega arith) same r.around)
      ∙ sym (setting_around medium b is_b (suc e) same.there fb (omega arith))

pub measure_inputs_are_kept_lem : OneHome → MeasuredWhereShrunk → MeasureInputsAreKept
measure_inputs_are_kept_lem one_home where_shrunk medium a b c e is_a is_b to = measure_kept one_home where_shrunk medium a b is_a is_b c e to
