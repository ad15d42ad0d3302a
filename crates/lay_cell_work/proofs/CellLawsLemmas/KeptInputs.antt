-- What the cells of contexts are given for sizes and places is kept, in flow by what is around them, and out of flow by their way out.
use Rattle.std.proofs.Common.{◌≡◌, ◌<◌, ℕ, zero, suc, Bool, true, false, List, [], ◌∷◌, length, slice_index, None, Some, refl, ap, sym, subst, ◌∙◌, arith, inl, inr}
use Rattle.std.proofs.lemmas.Bool.{cases_lt}
use Rattle.lay_boxgen.specs.Forms as forms
use Rattle.lay_box_tree.specs.declared.box_tree.BoxNode.{BoxNode}
use Rattle.lay_sizes.specs.declared.sizing.ContainingBlock.{ContainingBlock}
use Rattle.lay_contexts.specs.Contexts.{boxes_in, context_at}
use Rattle.lay_contexts.specs.FlowLaws.{flow_at}
use Rattle.lay_contexts.specs.FormattingBoxes.{boxes_of_root, rank}
use Rattle.lay_contexts.specs.FormattingContexts.{AreFormattingContexts, FormattingContext, boxes_in as boxes_of, formatting_context_at}
use Rattle.lay_contexts.specs.FormattingContextList.{first_number, homes_in, number_at, number_of, rank_at}
use Rattle.lay_contexts.specs.Homes.{OneHome}
use Rattle.lay_cell_work.proofs.Cited.{in_order}
use Rattle.lay_placements.specs.Standings.{standing_at}
use Rattle.lay_abspos.specs.declared.own_place.OwnPlace.TheVariants as own_place
use Rattle.lay_abspos.specs.declared.setting.AbsoluteSetting.{AbsoluteSetting}
use Rattle.lay_positioned.specs.Absolute.{is_absolute, is_fixed, is_own_fixed}
use Rattle.lay_positioned.specs.ContainingRects.{IsContainingRect}
use Rattle.lay_positioned.specs.Holders.{IsHolderFor}
use Rattle.lay_positioned.specs.Laws.{OneNearestHolder, SettingsAreValues, SettingsComeOfWays}
use Rattle.lay_positioned.specs.Layouts.{Layout, standing_of}
use Rattle.lay_positioned.specs.Settings.{IsInnerSetting, IsSetting, absolute_setting, setting_beside}
use Rattle.lay_context_sizes.specs.declared.setting.Setting.TheVariants.{Absolute}
use Rattle.lay_context.specs.Laws.{MeasuredWhereShrunk}
use Rattle.lay_context.specs.Medium.{Medium}
use Rattle.lay_context.specs.Settings.{flow_place, flow_setting, laid, own_place_of, setting_of}
use Rattle.lay_cell_work.specs.CellLaws.SameContexts.{IsSameAround, IsSameContext, IsSameOut, IsTable, PlaceInputsAreKept, SizeInputsAreKept, Table, is_context_out_of_flow, workings_in}
use Rattle.lay_cell_work.proofs.CellLawsLemmas.CarriedRects as carried
use Rattle.lay_cell_work.proofs.CellLawsLemmas.InputForms.{table_are, table_calm, table_keeps}
use Rattle.lay_cell_work.proofs.CellLawsLemmas.OuterBoxes.{outer_boxes_same}
use Rattle.lay_cell_work.proofs.CellLawsLemmas.RootForms.{number_within, own_absolute, own_is, own_some, chosen}
use Rattle.lay_cell_work.proofs.CellLawsLemmas.SameInputs.{flow_place_is, flow_place_same, flow_setting_same, place_kept, size_kept, spot_around}
use Rattle.lay_cell_work.proofs.CellLawsLemmas.SameRoots.{boxes_same, homes_same}
use Rattle.lay_cell_work.proofs.CellLawsLemmas.SameWays.{moved, positive_other, way_from, way_laid}

-- a holder is found or none is
apart : OneNearestHolder → (f : Bool) (boxes : List BoxNode) (k h : ℕ) → IsHolderFor f boxes k (Some h) → IsHolderFor f boxes k None → ⊥
apart one true boxes k h some none = cc
apart one false boxes k h some none = (let e = one boxes k (Some h) None some none in cc)

inner_setting : (viewport : ContainingBlock) (contexts : List FormattingContext) (v : ℕ → Layout) (i : ℕ) (s : AbsoluteSetting) → 0 < i → IsSetting viewport contexts v i s → IsInnerSetting viewport contexts v i s
inner_setting viewport contexts v zero s some is = absurd (omega (arith, some))
inner_setting viewport contexts v (suc i) s some is = is

setting_of_inner : (viewport : ContainingBlock) (contexts : List FormattingContext) (v : ℕ → Layout) (i : ℕ) (s : AbsoluteSetting) → 0 < i → IsInnerSetting viewport contexts v i s → IsSetting viewport contexts v i s
setting_of_inner viewport contexts v zero s some is = absurd (omega (arith, some))
setting_of_inner viewport contexts v (suc i) s some is = is

-- a formatting context is given one setting
one_setting : SettingsComeOfWays → (viewport : ContainingBlock) (contexts : List FormattingContext) (v : ℕ → Layout) (i : ℕ) (s t : AbsoluteSetting) → IsSetting viewport contexts v i s → IsSetting viewport contexts v i t → s ≡ t
one_setting come viewport contexts v i s t x y =
    come viewport contexts contexts v v i s t (record { boxes = refl; outer = λ some. refl; outer_box = λ some. refl }) (λ j on. (record { boxes = refl; outer = λ some. refl; outer_box = λ some. refl }, refl)) x y

-- what is carried from one list to another
module _ (viewport : ContainingBlock) (one_nearest : OneNearestHolder) (come : SettingsComeOfWays) (values : SettingsAreValues)
    (contexts others : List FormattingContext) (v w : ℕ → Layout) (are : AreFormattingContexts contexts) (are_others : AreFormattingContexts others) (i j : ℕ) where
  carried_setting : 0 < i → 0 < j → i < length contexts → j < length others → boxes_of contexts i ≡ boxes_of others j → (formatting_context_at contexts i).outer_box ≡ (formatting_context_at others j).outer_box
      → carried.IsSameWay (is_fixed contexts i) contexts others v w (formatting_context_at contexts i).outer (formatting_context_at others j).outer (formatting_context_at contexts i).outer_box
      → absolute_setting viewport contexts v i ≡ absolute_setting viewport others w j
  carried_setting some_i some_j in_i in_j boxes box way =
      let f : Bool = is_fixed contexts i in
      let o : ℕ = (formatting_context_at contexts i).outer in
      let u : ℕ = (formatting_context_at others j).outer in
      let k : ℕ = (formatting_context_at contexts i).outer_box in
      let s = inner_setting viewport contexts v i (absolute_setting viewport contexts v i) some_i (values viewport contexts v i are in_i) in
      let here = carried.here viewport f contexts others v w o u k way in
      let rect = carried.carried viewport f contexts others v w (λ m n h x y. apart one_nearest f m n h x y) o u k s.rect way s.containing in
      let at_box : IsContainingRect viewport f others w u (formatting_context_at others j).outer_box s.rect = subst (λ (n : ℕ). IsContainingRect viewport f others w u n s.rect) box rect in
      let fixed : f ≡ is_fixed others j = ap is_own_fixed boxes in
      let there : IsContainingRect viewport (is_fixed others j) others w u (formatting_context_at others j).outer_box s.rect =
      subst (λ (b : Bool). IsContainingRect viewport b others w u (formatting_context_at others j).outer_box s.rect) fixed at_box in
      let corner : (standing_of contexts v i).corner ≡ (standing_of others w j).corner =
      ap (λ (l : Layout). (standing_at l.standings k).corner) here.laid ∙ ap (λ (n : ℕ). (standing_at (w u).standings n).corner) box in
      let other : IsInnerSetting viewport others w j (setting_beside s.rect (standing_of others w j).corner) = record { rect = s.rect; containing = there; setting_is = refl } in
      let one = one_setting come viewport others w j (setting_beside s.rect (standing_of others w j).corner) (absolute_setting viewport others w j)
      (setting_of_inner viewport others w j (setting_beside s.rect (standing_of others w j).corner) some_j other) (values viewport others w j are_others in_j) in
      s.setting_is ∙ ap (setting_beside s.rect) corner ∙ one

module _ (one_home : OneHome) (where_shrunk : MeasuredWhereShrunk) (one_nearest : OneNearestHolder) (come : SettingsComeOfWays) (values : SettingsAreValues) (medium : Medium)
    (a b : Table) (is_a : IsTable a) (is_b : IsTable b) (c e : ℕ) (same : IsSameContext a b c e) where
  abbrev I : ℕ
  I = first_number a.contexts c

  abbrev J : ℕ
  J = first_number b.contexts e

  order : (t : Table) → IsTable t → AreFormattingContexts t.formatting_contexts
  order t is = in_order t.contexts t.formatting_contexts (table_are t is) is.are_formatting_contexts

  within : (t : Table) (is : IsTable t) (x : ℕ) → x < length t.contexts → first_number t.contexts x < length t.formatting_contexts
  within t is x lt =
      let n = number_within t.contexts t.formatting_contexts (table_are t is) is.are_formatting_contexts (table_calm t is) (table_keeps t is) x 0 lt ((table_are t is).boxes x lt).some refl in
      let first : number_of t.contexts x 0 ≡ first_number t.contexts x = omega arith in
      omega (arith, n, first)

  absolute_same : 0 < c → IsSameOut a b c e → absolute_setting medium.viewport a.formatting_contexts (laid (workings_in a)) I ≡ absolute_setting medium.viewport b.formatting_contexts (laid (workings_in b)) J
  absolute_same some out =
      let some_b : 0 < e = positive_other e (λ z. (let y = same.root.1 z in omega (arith, some, y))) in
      let p : ℕ = (context_at a.contexts c).outer in
      let q : ℕ = (context_at b.contexts e).outer in
      let k : ℕ = (context_at a.contexts c).outer_box in
      let fixed : Bool = is_own_fixed (boxes_in a.contexts c) in
      let HP : List ℕ = homes_in is_a.are_formatting_contexts.homes p in
      let HQ : List ℕ = homes_in is_b.are_formatting_contexts.homes q in
      let l = way_laid fixed a b p q k out in
      let box = outer_boxes_same a b is_a is_b c e some some_b same l.own in
      let homes = homes_same one_home a b is_a is_b p q l.own in
      let inside = (table_are a is_a).outer_box c some same.within in
      let from = way_from one_home fixed a b is_a is_b p q k out inside in
      let own_a = own_is a.contexts a.formatting_contexts (table_are a is_a) is_a.are_formatting_contexts (table_calm a is_a) (table_keeps a is_a) c same.within in
      let own_b = own_is b.contexts b.formatting_contexts (table_are b is_b) is_b.are_formatting_contexts (table_calm b is_b) (table_keeps b is_b) e same.there in
      let outer_a : (formatting_context_at a.formatting_contexts I).outer ≡ number_of a.contexts p (slice_index HP k) =
      ap (λ (f : FormattingContext). f.outer) own_a ∙ ap (number_at a.contexts is_a.are_formatting_contexts.homes) (spot_around a c some) in
      let outer_b : (formatting_context_at b.formatting_contexts J).outer ≡ number_of b.contexts q (slice_index HP k) =
      ap (λ (f : FormattingContext). f.outer) own_b ∙ ap (number_at b.contexts is_b.are_formatting_contexts.homes) (spot_around b e some_b)
      ∙ ap (λ (m : ℕ). number_of b.contexts q (slice_index HQ m)) (sym box) ∙ ap (λ (hs : List ℕ). number_of b.contexts q (slice_index hs k)) (sym homes) in
      let box_a : (formatting_context_at a.formatting_contexts I).outer_box ≡ rank HP k =
      ap (λ (f : FormattingContext). f.outer_box) own_a ∙ ap (rank_at is_a.are_formatting_contexts.homes) (spot_around a c some) in
      let box_b : (formatting_context_at b.formatting_contexts J).outer_box ≡ rank HP k =
      ap (λ (f : FormattingContext). f.outer_box) own_b ∙ ap (rank_at is_b.are_formatting_contexts.homes) (spot_around b e some_b)
      ∙ ap (rank HQ) (sym box) ∙ ap (λ (hs : List ℕ). rank hs k) (sym homes) in
      let first_a : number_of a.contexts c 0 ≡ I = omega arith in
      let first_b : number_of b.contexts e 0 ≡ J = omega arith in
      let some_boxes = ((table_are a is_a).boxes c same.within).some in
      let boxes : boxes_of a.formatting_contexts I ≡ boxes_of b.formatting_contexts J =
      ap (boxes_of a.formatting_contexts) (sym first_a) ∙ boxes_same one_home a b is_a is_b c e same 0 some_boxes refl ∙ ap (boxes_of b.formatting_contexts) first_b in
      let own_fixed : fixed ≡ is_fixed a.formatting_contexts I = sym (fixed_is a is_a c same.within) in
      let way = moved one_home fixed a b is_a is_b (formatting_context_at a.formatting_contexts I).outer (formatting_context_at b.formatting_contexts J).outer (formatting_context_at a.formatting_contexts I).outer_box
      (number_of a.contexts p (slice_index HP k)) (number_of b.contexts q (slice_index HP k)) (rank HP k) outer_a outer_b box_a from in
      let way_fixed = subst (λ (f : Bool). carried.IsSameWay f a.formatting_contexts b.formatting_contexts (laid (workings_in a)) (laid (workings_in b))
      (formatting_context_at a.formatting_contexts I).outer (formatting_context_at b.formatting_contexts J).outer (formatting_context_at a.formatting_contexts I).outer_box) own_fixed way in
      carried_setting medium.viewport one_nearest come values a.formatting_contexts b.formatting_contexts (laid (workings_in a)) (laid (workings_in b)) (order a is_a) (order b is_b) I J
      (own_some a.contexts a.formatting_contexts (table_are a is_a) is_a.are_formatting_contexts (table_calm a is_a) (table_keeps a is_a) c some same.within)
      (own_some b.contexts b.formatting_contexts (table_are b is_b) is_b.are_formatting_contexts (table_calm b is_b) (table_keeps b is_b) e some_b same.there)
      (within a is_a c same.within) (within b is_b e same.there) boxes (box_a ∙ sym box_b) way_fixed
    where
      fixed_of : (boxes : List BoxNode) (homes : List ℕ) → is_own_fixed (boxes_of_root boxes homes 0) ≡ is_own_fixed boxes
      fixed_of [] homes = refl
      fixed_of (b ∷ boxes) homes = refl

      fixed_is : (t : Table) (is : IsTable t) (x : ℕ) → x < length t.contexts → is_fixed t.formatting_contexts (first_number t.contexts x) ≡ is_own_fixed (boxes_in t.contexts x)
      fixed_is t is x lt =
          ap (λ (f : FormattingContext). is_own_fixed f.boxes) (own_is t.contexts t.formatting_contexts (table_are t is) is.are_formatting_contexts (table_calm t is) (table_keeps t is) x lt)
          ∙ fixed_of (boxes_in t.contexts x) (homes_in is.are_formatting_contexts.homes x)

  -- the own boxes are out of flow alike
  flag_same : is_context_out_of_flow a c ≡ is_context_out_of_flow b e
  flag_same = ap (λ (boxes : List BoxNode). forms.is_absolute (flow_at boxes 0)) same.boxes

  absolute_there : (t : Table) (is : IsTable t) (x : ℕ) → x < length t.contexts → is_context_out_of_flow t x ≡ true → is_absolute t.formatting_contexts (first_number t.contexts x) ≡ true
  absolute_there t is x lt out = own_absolute t.contexts t.formatting_contexts (table_are t is) is.are_formatting_contexts (table_calm t is) (table_keeps t is) x lt ∙ out

  root_absolute : c ≡ 0 → absolute_setting medium.viewport a.formatting_contexts (laid (workings_in a)) I ≡ absolute_setting medium.viewport b.formatting_contexts (laid (workings_in b)) J
  root_absolute z =
      let y = same.root.0 z in
      ap (λ (n : ℕ). absolute_setting medium.viewport a.formatting_contexts (laid (workings_in a)) (first_number a.contexts n)) z
      ∙ sym (ap (λ (n : ℕ). absolute_setting medium.viewport b.formatting_contexts (laid (workings_in b)) (first_number b.contexts n)) y)

  absolute_by : (0 < c → IsSameOut a b c e) → absolute_setting medium.viewport a.formatting_contexts (laid (workings_in a)) I ≡ absolute_setting medium.viewport b.formatting_contexts (laid (workings_in b)) J
  absolute_by out = elim (cases_lt 0 c) [
    | inl some ↦ absolute_same some (out some)
    | inr high ↦ root_absolute (omega (arith, high))
  ]

  absolute_setting_is : (t : Table) (is : IsTable t) (x : ℕ) → x < length t.contexts → is_context_out_of_flow t x ≡ true
      → setting_of medium.viewport t.formatting_contexts (workings_in t) (number_of t.contexts x 0) ≡ Absolute (absolute_setting medium.viewport t.formatting_contexts (laid (workings_in t)) (first_number t.contexts x))
  absolute_setting_is t is x lt out =
      let m : ℕ = first_number t.contexts x in
      let first : number_of t.contexts x 0 ≡ m = omega arith in
      ap (setting_of medium.viewport t.formatting_contexts (workings_in t)) first
      ∙ chosen (is_absolute t.formatting_contexts m) (Absolute (absolute_setting medium.viewport t.formatting_contexts (laid (workings_in t)) m)) (flow_setting medium.viewport t.formatting_contexts (workings_in t).sizes m)
      (absolute_there t is x lt out)

  absolute_place_is : (t : Table) (is : IsTable t) (x : ℕ) → x < length t.contexts → is_context_out_of_flow t x ≡ true
      → own_place_of medium.viewport t.formatting_contexts (workings_in t) (number_of t.contexts x 0) ≡ own_place.Absolute (absolute_setting medium.viewport t.formatting_contexts (laid (workings_in t)) (first_number t.contexts x))
  absolute_place_is t is x lt out =
      let m : ℕ = first_number t.contexts x in
      let first : number_of t.contexts x 0 ≡ m = omega arith in
      ap (own_place_of medium.viewport t.formatting_contexts (workings_in t)) first
      ∙ chosen (is_absolute t.formatting_contexts m) (own_place.Absolute (absolute_setting medium.viewport t.formatting_contexts (laid (workings_in t)) m)) (flow_place medium.viewport m) (absolute_there t is x lt out)

  setting_by_flow : (f : Bool) → is_context_out_of_flow a c ≡ f → (0 < c → is_context_out_of_flow a c ≡ false → IsSameAround a b c e) → (0 < c → is_context_out_of_flow a c ≡ true → IsSameOut a b c e)
      → setting_of medium.viewport a.formatting_contexts (workings_in a) (number_of a.contexts c 0) ≡ setting_of medium.viewport b.formatting_contexts (workings_in b) (number_of b.contexts e 0)
  setting_by_flow true is around out =
      absolute_setting_is a is_a c same.within is ∙ ap Absolute (absolute_by (λ some. out some is)) ∙ sym (absolute_setting_is b is_b e same.there (sym flag_same ∙ is))
  setting_by_flow false is around out =
      flow_setting_same one_home medium a b is_a is_b c e same is (sym flag_same ∙ is) (λ some. around some is)

  place_by_flow : (f : Bool) → is_context_out_of_flow a c ≡ f → (0 < c → is_context_out_of_flow a c ≡ true → IsSameOut a b c e)
      → own_place_of medium.viewport a.formatting_contexts (workings_in a) (number_of a.contexts c 0) ≡ own_place_of medium.viewport b.formatting_contexts (workings_in b) (number_of b.contexts e 0)
  place_by_flow true is out =
      absolute_place_is a is_a c same.within is ∙ ap own_place.Absolute (absolute_by (λ some. out some is)) ∙ sym (absolute_place_is b is_b e same.there (sym flag_same ∙ is))
  place_by_flow false is out =
      flow_place_is medium a is_a c same.within is ∙ flow_place_same one_home medium a b is_a is_b c e same ∙ sym (flow_place_is medium b is_b e same.there (sym flag_same ∙ is))

pub size_inputs_are_kept_lem : OneHome → MeasuredWhereShrunk → OneNearestHolder → SettingsComeOfWays → SettingsAreValues → SizeInputsAreKept
size_inputs_are_kept_lem one_home where_shrunk one_nearest come values medium a b c e is_a is_b to =
    size_kept one_home where_shrunk medium a b is_a is_b c e to.own to.widths
    (setting_by_flow one_home where_shrunk one_nearest come values medium a b is_a is_b c e to.own (is_context_out_of_flow a c) refl to.around to.out)

pub place_inputs_are_kept_lem : OneHome → MeasuredWhereShrunk → OneNearestHolder → SettingsComeOfWays → SettingsAreValues → PlaceInputsAreKept
place_inputs_are_kept_lem one_home where_shrunk one_nearest come values medium a b c e is_a is_b to =
    place_kept one_home where_shrunk medium a b is_a is_b c e to.own to.sizes to.inside
    (place_by_flow one_home where_shrunk one_nearest come values medium a b is_a is_b c e to.own (is_context_out_of_flow a c) refl to.out)
