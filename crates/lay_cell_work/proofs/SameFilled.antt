-- What a root is given in all is the same beside two values of its cell that have the same for what is linked in it and for the one around.
use Rattle.std.proofs.Common.{◌≡◌, ℕ, zero, suc, List, [], ◌∷◌, map, slice_get, slice_index_or, Option, None, Some, refl, ap, sym, ◌∙◌}
use Rattle.lay_frag.specs.declared.frag.Frag.{Frag}
use Rattle.lay_measure.specs.MeasureInValue.{no_widths}
use Rattle.lay_measure.specs.declared.preferred_widths.PreferredWidths.{PreferredWidths}
use Rattle.lay_sizes.specs.declared.own_boxes.OwnBox.{OwnBox}
use Rattle.lay_sizes.specs.OwnBoxes.{no_own_box}
use Rattle.lay_context_sizes.specs.ContextSizes.{SizedContext}
use Rattle.lay_context_sizes.specs.MeasuredContexts.{MeasuredContext, not_measured}
use Rattle.lay_context_sizes.specs.declared.setting.Setting.{Setting}
use Rattle.lay_context.specs.declared.input.Input.{Input}
use Rattle.lay_context.specs.declared.input.Input.TheVariants as input
use Rattle.lay_context.specs.DocumentLayout.{widths_in}
use Rattle.lay_context.specs.PlacedContexts.{PlacedContext, not_placed, placed_in}
use Rattle.lay_context.specs.Settings.{setting_in, sizes_in}
use Rattle.lay_cell_work.specs.declared.root_spot.RootSpot.{RootSpot}
use Rattle.lay_cell_work.specs.CellColumns.{filled}
use Rattle.lay_cell_work.specs.CellInputs.{RootInput}
use Rattle.lay_cell_work.specs.CellLocal.{boxes_given, filled_input, filled_setting}
use Rattle.lay_cell_work.specs.CellValues.{CellValue, Places, Sizes, Widths, own_boxes, own_pieces, own_widths}

-- columns are filled alike where what is linked is the same
pub filled_same : {X : Type 0} (nothing : X) (xs ys : List X) (links : List (Option ℕ)) (given : List X)
    → ((k l : ℕ) → slice_get links k ≡ Some (Some l) → slice_index_or xs l nothing ≡ slice_index_or ys l nothing) → filled nothing xs links given ≡ filled nothing ys links given
filled_same nothing xs ys [] given same = refl
filled_same nothing xs ys (None ∷ links) [] same = refl
filled_same nothing xs ys (Some l ∷ links) [] same = refl
filled_same {X} nothing xs ys (None ∷ links) (x ∷ given) same = ap (λ (zs : List X). x ∷ zs) (filled_same nothing xs ys links given (λ k l e. same (suc k) l e))
filled_same nothing xs ys (Some l ∷ links) (x ∷ given) same =
    let here : slice_index_or xs l nothing ≡ slice_index_or ys l nothing = same 0 l refl in
    let rest : filled nothing xs links given ≡ filled nothing ys links given = filled_same nothing xs ys links given (λ k m e. same (suc k) m e) in
    rw (here, rest) refl

-- what roots are given in all
module _ (roots : List RootInput) (v w : CellValue) (links : List (Option ℕ)) (around : Option RootSpot) where
  pub record AreSame : Type 0 where
    pub widths : (given : List PreferredWidths) → filled no_widths (own_widths v) links given ≡ filled no_widths (own_widths w) links given
    pub boxes : (given : List OwnBox) → filled no_own_box (own_boxes v) links given ≡ filled no_own_box (own_boxes w) links given
    pub pieces : (given : List (List Frag)) → filled [] (own_pieces v) links given ≡ filled [] (own_pieces w) links given
    pub settings : (given : Setting) → filled_setting roots v around given ≡ filled_setting roots w around given

  pub same_whole : (given : Input) → AreSame → filled_input roots v links around given ≡ filled_input roots w links around given
  same_whole (input.Measure i) same = ap (λ (inner : List PreferredWidths). input.Measure (record i { inner = inner })) (same.widths i.inner)
  same_whole input.Unmeasured same = refl
  same_whole (input.Size i) same = ap (λ (setting : Setting). input.Size (record i { setting = setting })) (same.settings i.setting)
  same_whole (input.Place i at) same =
      let put : List OwnBox → List (List Frag) → Input = λ inner pieces. input.Place (record i { inner = inner; pieces = pieces }) at in
      ap (λ (inner : List OwnBox). put inner (filled [] (own_pieces v) links i.pieces)) (same.boxes i.inner) ∙ ap (put (filled no_own_box (own_boxes w) links i.inner)) (same.pieces i.pieces)
  same_whole (input.PlaceTable i at) same =
      let put : List OwnBox → List (List Frag) → Input = λ inner pieces. input.PlaceTable (record i { inner = inner; pieces = pieces }) at in
      ap (λ (inner : List OwnBox). put inner (filled [] (own_pieces v) links i.pieces)) (same.boxes i.inner) ∙ ap (put (filled no_own_box (own_boxes w) links i.inner)) (same.pieces i.pieces)

-- settings come of sizes alone
pub widths_set : (roots : List RootInput) (ws us : List MeasuredContext) (around : Option RootSpot) (given : Setting) → filled_setting roots (Widths ws) around given ≡ filled_setting roots (Widths us) around given
widths_set roots ws us None given = refl
widths_set roots ws us (Some spot) given = refl

pub places_set : (roots : List RootInput) (ps qs : List PlacedContext) (around : Option RootSpot) (given : Setting) → filled_setting roots (Places ps) around given ≡ filled_setting roots (Places qs) around given
places_set roots ps qs None given = refl
places_set roots ps qs (Some spot) given = refl

pub sizes_set : (roots : List RootInput) (zs ys : List SizedContext) (around : Option RootSpot) (given : Setting)
    → ((spot : RootSpot) → around ≡ Some spot → sizes_in zs spot.root ≡ sizes_in ys spot.root) → filled_setting roots (Sizes zs) around given ≡ filled_setting roots (Sizes ys) around given
sizes_set roots zs ys None given same = refl
sizes_set roots zs ys (Some spot) given same = ap (λ (sized : SizedContext). setting_in (boxes_given roots spot.root) sized spot.place) (same spot refl)

pub map_at : {X Y : Type 0} (f : X → Y) (xs : List X) (r : ℕ) (d : X) → slice_index_or (map f xs) r (f d) ≡ f (slice_index_or xs r d)
map_at f [] zero d = refl
map_at f [] (suc r) d = refl
map_at f (x ∷ xs) zero d = refl
map_at f (x ∷ xs) (suc r) d = map_at f xs r d

abbrev own_of : PlacedContext → OwnBox
own_of p = p.placement.own

abbrev widths_of : MeasuredContext → PreferredWidths
widths_of m = m.widths

abbrev pieces_of : PlacedContext → List Frag
pieces_of p = p.placement.pieces

-- all of it is the same where the values of the roots are that it comes of
module _ (roots : List RootInput) (links : List (Option ℕ)) (around : Option RootSpot) where
  pub widths_alike : (ws us : List MeasuredContext) → ((k l : ℕ) → slice_get links k ≡ Some (Some l) → widths_in ws l ≡ widths_in us l) → AreSame roots (Widths ws) (Widths us) links around
  widths_alike ws us linked = record {
    widths = λ given. filled_same no_widths (own_widths (Widths ws)) (own_widths (Widths us)) links given (λ k l e. map_at widths_of ws l not_measured ∙ ap widths_of (linked k l e) ∙ sym (map_at widths_of us l not_measured));
    boxes = λ given. refl;
    pieces = λ given. refl;
    settings = λ given. widths_set roots ws us around given;
  }

  pub places_alike : (ps qs : List PlacedContext) → ((k l : ℕ) → slice_get links k ≡ Some (Some l) → placed_in ps l ≡ placed_in qs l) → AreSame roots (Places ps) (Places qs) links around
  places_alike ps qs linked = record {
    widths = λ given. refl;
    boxes = λ given. filled_same no_own_box (own_boxes (Places ps)) (own_boxes (Places qs)) links given (λ k l e. map_at own_of ps l not_placed ∙ ap own_of (linked k l e) ∙ sym (map_at own_of qs l not_placed));
    pieces = λ given. filled_same [] (own_pieces (Places ps)) (own_pieces (Places qs)) links given (λ k l e. map_at pieces_of ps l not_placed ∙ ap pieces_of (linked k l e) ∙ sym (map_at pieces_of qs l not_placed));
    settings = λ given. places_set roots ps qs around given;
  }

  pub sizes_alike : (zs ys : List SizedContext) → ((spot : RootSpot) → around ≡ Some spot → sizes_in zs spot.root ≡ sizes_in ys spot.root) → AreSame roots (Sizes zs) (Sizes ys) links around
  sizes_alike zs ys same = record {
    widths = λ given. refl;
    boxes = λ given. refl;
    pieces = λ given. refl;
    settings = λ given. sizes_set roots zs ys around given same;
  }
