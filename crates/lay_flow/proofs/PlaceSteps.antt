-- One more box is placed: a float, a solid box, or another.
use Rattle.std.proofs.Common.{◌≡◌, ℕ, suc, ◌+◌, ◌*◌, ◌<◌, ◌≤◌, true, false, ℤ, pos, ◌+ℤ◌, ◌-ℤ◌, ◌≤ℤ◌, List, [], ◌∷◌, ◌++◌, length, All, get_or, slice_get, refl, sym, ap, ◌∙◌, arith, inl, inr, Option, Some, None, subst, IfSome}
use Rattle.std.proofs.lemmas.Bool.{cases_lt}
use Rattle.std.proofs.lemmas.Int.{ints, clamps}
use Rattle.std.specs.Int.{int_max}
use Rattle.lay_units.specs.Units.{IsPosition}
use Rattle.std.proofs.lemmas.Grind.{elements}
use Rattle.std.proofs.lemmas.List.Elements.{All-nil, All-push, All-same, All-weaker}
use Rattle.std.proofs.lemmas.List.{append-nil}
use Rattle.lay_flow.specs.declared.blocks.flow_box.FlowBox.{FlowBox}
use Rattle.lay_units.specs.declared.length.Unit.{Unit as Length}
use Rattle.lay_floats.specs.declared.placed.Placed.{Placed}
use Rattle.lay_floats.specs.declared.requests.Side.{Side}
use Rattle.lay_floats.specs.declared.requests.Place.{Place}
use Rattle.lay_floats.specs.declared.requests.SolidReq.{SolidReq}
use Rattle.lay_floats.specs.declared.requests.Clear.{Clear}
use Rattle.lay_floats.specs.ClearEdge.{IsClearEdge}
use Rattle.lay_floats.specs.Standing.{IsNext}
use Rattle.lay_floats.specs.Room.{LeftBounds}
use Rattle.lay_floats.specs.Fits.{BoxFits, RequestFits, SolidFits}
use Rattle.lay_floats.specs.FloatPlace.{IsFloatPlace, placed_at}
use Rattle.lay_floats.specs.SolidPlace.{IsSolidPlace}
use Rattle.lay_floats.specs.Within.{IsWithin, BoxWithin, RequestWithin}
use Rattle.lay_flow.proofs.Cited.{place_within_lem}
use Rattle.lay_flow.specs.declared.blocks.shape.Shape.{Shape}
use Rattle.lay_flow.specs.Blocks.Lengths.{length_at}
use Rattle.lay_flow.specs.Blocks.MarginRuns.{block_at}
use Rattle.lay_flow.specs.Blocks.BlockPositions.{is_lines, is_placed, is_solid}
use Rattle.lay_flow.specs.Blocks.Boxes.{box_at}
use Rattle.lay_flow.specs.Blocks.Weights.{weight}
use Rattle.lay_flow.specs.declared.blocks.block.Inside.{Inside}
use Rattle.lay_flow.specs.declared.blocks.block.Inside.TheVariants.{Blocks as blocks_inside, Lines as lines_inside, Solid as solid_inside}
use Rattle.lay_lines.specs.Lines.{LinesValue, AreLines, LinesWithin, RowWithin, NodePlaceWithin}
use Rattle.lay_flow.specs.Blocks.BlockFloats.{AreLinesAt, Spot, spot_at, no_spot, shape_at, place_at, no_place, lines_at, no_lines, line_content_of, content_of, float_with_shape, floats_after, floats_before, float_request, solid_request, ceiling}
use Rattle.lay_flow.specs.Blocks.Clearance.{lower_of}
use Rattle.lay_flow.specs.Pass.Bounds.{reach, IsMarkNear, IsEdgeNear}
use Rattle.lay_flow.specs.Pass.Placed.{IsPlaceNear, Placing, PlacesTo, IsCeilingNear}
use Rattle.lay_flow.specs.Blocks.BlockSizes.{ShapeFits}
use Rattle.lay_flow.proofs.SoFar.{Wrote}
use Rattle.lay_flow.proofs.BlocksLemmas.BlockKinds.{placed_none, lines_placed, lines_not_solid, solid_not_lines}
use Rattle.lay_flow.proofs.BlocksLemmas.FlowBoxFacts.{placed_flows}
use Rattle.lay_flow.proofs.BlocksLemmas.Truths.{true_false}
use Rattle.lay_flow.proofs.BlocksLemmas.WeightFacts.{weight_up, weight_one_more}
use Rattle.lay_flow.proofs.BlocksLemmas.FloatLists.{floats_same}

-- an element of which all have a property
all_at : (P : Placed → Type 0) (floats : List Placed) (i : ℕ) (f : Placed) → All P floats → slice_get floats i ≡ Some f → P f
all_at P floats i f all e = grind (arith, elements, all, e)

-- one more spot
pub old_place : (places : List Spot) (p : Spot) (j : ℕ) → j < length places → get_or (places ++ p ∷ []) j no_spot ≡ get_or places j no_spot
old_place places p j lt = grind (arith, elements, lt)

new_place : (places : List Spot) (p : Spot) (k : ℕ) → length places ≡ k → get_or (places ++ p ∷ []) k no_spot ≡ p
new_place places p k e = grind (arith, elements, e)

one_longer : (places : List Spot) (p : Spot) → length (places ++ p ∷ []) ≡ length places + 1
one_longer places p = grind (arith, elements)

reach_up : (n m : ℕ) → n ≤ m → reach n ≤ℤ reach m
reach_up n m le = omega (arith, ints, le)

request_within : (n : ℕ) (s : Shape) (side : Side) (top : ℤ) → ShapeFits s → IsCeilingNear n top → RequestWithin (pos (2251799813685248 + 68719476736 * n + 17179869184)) (pos 17179869184) (float_request s side top)
request_within n s side top fits near =
    let l = fits.left in let r = fits.right in
    record {
      width = fits.width;
      height = fits.height;
      left = (omega (arith, ints, l), omega (arith, ints, l));
      right = (omega (arith, ints, r), omega (arith, ints, r));
      ceiling = near;
    }

pub request_fits : (n : ℕ) (s : Shape) (side : Side) (top : ℤ) → n ≤ 16711680 → ShapeFits s → IsCeilingNear n top → RequestFits (float_request s side top)
request_fits n s side top few fits near =
    let w = fits.width in let h = fits.height in let l = fits.left in let r = fits.right in
    record {
      width = (omega (arith, ints, w), omega (arith, ints, w));
      height = (omega (arith, ints, h), omega (arith, ints, h));
      left = (omega (arith, ints, l), omega (arith, ints, l));
      right = (omega (arith, ints, r), omega (arith, ints, r));
      ceiling = (omega (arith, ints, near, few), omega (arith, ints, near, few));
    }

pub wider : (m n : ℤ) (f : Placed) → m ≤ℤ n → BoxWithin m f → BoxWithin n f
wider m n f le b =
    let l = b.left in let e = b.right in let t = b.top in let d = b.bottom in
    record {
      left = (omega (arith, ints, l, le), omega (arith, ints, l, le));
      right = (omega (arith, ints, e, le), omega (arith, ints, e, le));
      top = (omega (arith, ints, t, le), omega (arith, ints, t, le));
      bottom = (omega (arith, ints, d, le), omega (arith, ints, d, le));
    }

-- the float that is placed within the reach of one more
pub put_within : (n : ℕ) (floats : List Placed) (s : Shape) (side : Side) (top x y : ℤ) → ShapeFits s → IsCeilingNear n top → All (BoxWithin (reach n)) floats → IsFloatPlace floats (float_request s side top) x y
    → BoxWithin (reach (n + 1)) (placed_at (float_request s side top) x y)
put_within n floats s side top x y fits near all place =
    let m : ℤ = pos (2251799813685248 + 68719476736 * n + 17179869184) in
    let all' : All (BoxWithin m) floats = All-weaker (BoxWithin (reach n)) (BoxWithin m) (λ f b. wider (reach n) m f (omega (arith, ints)) b) floats all in
    wider (m +ℤ pos 17179869184) (reach (n + 1)) _ (omega (arith, ints)) (place_within_lem m (pos 17179869184) floats (float_request s side top) x y all' (request_within n s side top fits near) place)

pub box_fits : (n : ℕ) (floats : List Placed) (s : Shape) (side : Side) (top x y : ℤ) → n ≤ 16711680 → ShapeFits s → IsCeilingNear n top → All (BoxWithin (reach n)) floats → IsFloatPlace floats (float_request s side top) x y
    → BoxFits (placed_at (float_request s side top) x y)
box_fits n floats s side top x y few fits near all place =
    let b = put_within n floats s side top x y fits near all place in
    let w = fits.width in let h = fits.height in let l = b.left in let e = b.right in let t = b.top in let d = b.bottom in
    record {
      width = (omega (arith, ints, w), omega (arith, ints, w));
      height = (omega (arith, ints, h), omega (arith, ints, h));
      left = (omega (arith, ints, l, few), omega (arith, ints, l, few));
      right = (omega (arith, ints, e, few), omega (arith, ints, e, few));
      top = (omega (arith, ints, t, few), omega (arith, ints, t, few));
      bottom = (omega (arith, ints, d, few), omega (arith, ints, d, few));
    }

pub solid_fits : (n : ℕ) (s : Shape) (mark : ℤ) → n ≤ 16711680 → ShapeFits s → IsMarkNear n mark → SolidFits (solid_request s mark)
solid_fits n s mark few fits near =
    let w = fits.width in let h = fits.height in let l = fits.x in let r = fits.right in let a = near.0 in let b = near.1 in
    record {
      x = (omega (arith, ints, l), omega (arith, ints, l));
      width = (omega (arith, ints, w), omega (arith, ints, w));
      height = (omega (arith, ints, h), omega (arith, ints, h));
      right = (omega (arith, ints, r), omega (arith, ints, r));
      top = (omega (arith, ints, a, few), omega (arith, ints, b, few));
    }

-- below all floats no float is next to a box, so that a solid box stands there at the lowest
solid_low : (m : ℤ) (floats : List Placed) (r : SolidReq) (x y : ℤ) → All (BoxWithin m) floats → r.top.0 ≤ℤ m → IsSolidPlace floats r x y → y ≤ℤ m
solid_low m floats r x y all top place = place.first r.x.0 m (record {
  below_mark = top;
  left_is = record {
    one_of = inl refl;
    most = λ u is. by_bound u is;
  };
  fits = inr (λ i f e next. apart i f e next);
})
  where
    apart : (i : ℕ) (f : Placed) → slice_get floats i ≡ Some f → IsNext m r.height.0 f → ⊥
    apart i f e next =
        let within = all_at (BoxWithin m) floats i f all e in
        let b = within.bottom in let low = b.1 in let below = next.2 in
        omega (arith, ints, low, below)

    by_bound : (u : ℤ) → LeftBounds floats m r.height.0 r.x.0 u → u ≤ℤ r.x.0
    by_bound u (inl e) = omega (arith, ints, e)
    by_bound u (inr next) = absurd (apart next.0 next.1 next.2 next.3.1)

pub solid_near : (n : ℕ) (floats : List Placed) (s : Shape) (mark x y : ℤ) → ShapeFits s → IsMarkNear n mark → All (BoxWithin (reach n)) floats → IsSolidPlace floats (solid_request s mark) x y → IsMarkNear n y
solid_near n floats s mark x y fits near all place =
    let m : ℤ = pos (2251799813685248 + 68719476736 * n + 6442450944) in
    let all' : All (BoxWithin m) floats = All-weaker (BoxWithin (reach n)) (BoxWithin m) (λ f b. wider (reach n) m f (omega (arith, ints)) b) floats all in
    let low = solid_low m floats (solid_request s mark) x y all' near.1 place in
    let below = place.stands.below_mark in
    let a = near.0 in
    (omega (arith, ints, a, below), low)

-- its left edge is its own, or that of a float
pub solid_beside : (n : ℕ) (floats : List Placed) (s : Shape) (mark x y : ℤ) → ShapeFits s → All (BoxWithin (reach n)) floats → IsSolidPlace floats (solid_request s mark) x y → IsWithin (reach (n + 1)) x
solid_beside n floats s mark x y fits all place = go place.stands.left_is.one_of
  where
    go : LeftBounds floats y s.height.0 s.x.0 x → IsWithin (reach (n + 1)) x
    go (inl e) = let f = fits.x in let a = f.0 in let b = f.1 in (omega (arith, ints, a, e), omega (arith, ints, b, e))
    go (inr next) =
        let w = (all_at (BoxWithin (reach n)) floats next.0 next.1 all next.2).right in
        let a = w.0 in let b = w.1 in let e = next.3.2 in
        (omega (arith, ints, a, e), omega (arith, ints, b, e))

within_up : (m n : ℤ) (v : ℤ) → m ≤ℤ n → IsWithin m v → IsWithin n v
within_up m n v le w = let a = w.0 in let b = w.1 in (omega (arith, ints, a, le), omega (arith, ints, b, le))

-- lines within some distance are within a greater one
pub lines_wider : (m n : ℤ) (v : LinesValue) → m ≤ℤ n → LinesWithin m v → LinesWithin n v
lines_wider m n v le w = record {
  rows = All-weaker (RowWithin m) (RowWithin n) (λ e r. record {
    top = within_up m n e.top.0 le r.top;
    start = within_up m n e.reach.start.0 le r.start;
    end = within_up m n e.reach.end.0 le r.end;
    above = r.above;
    below = r.below;
    shifts = r.shifts;
    to = within_up m n e.to.0 le r.to;
  }) v.rows w.rows;
  places = All-weaker (NodePlaceWithin m) (NodePlaceWithin n) (λ p r. record { x = within_up m n p.place.x.0 le r.x; y = within_up m n p.place.y.0 le r.y }) v.places w.places;
  end = within_up m n v.end.0 le w.end;
  floats = All-weaker (BoxWithin m) (BoxWithin n) (λ f b. wider m n f le b) v.floats w.floats;
}

no_lines_within : (n : ℕ) → LinesWithin (reach n) no_lines
no_lines_within n = record {
  rows = All-nil (RowWithin (reach n));
  places = All-nil (NodePlaceWithin (reach n));
  end = (omega (arith, ints), omega (arith, ints));
  floats = All-nil (BoxWithin (reach n));
}

pub no_spot_near : (n : ℕ) → IsPlaceNear n no_spot
no_spot_near n = record { x = (omega (arith, ints), omega (arith, ints)); y = (omega (arith, ints), omega (arith, ints)); lines = no_lines_within n }

module _ (boxes : List FlowBox) (marks : List Length) (now : Placing) (k : ℕ) (p : Spot) where
  -- what holds of one more box that is placed
  pub record IsAdded (extents : List Length) (floats : List Placed) : Type 0 where
    pub extents_length : length extents ≡ length boxes
    pub earlier : (j : ℕ) → j < k → length_at extents j ≡ length_at now.extents j
    pub floats_are : floats ≡ floats_after now.floats (block_at boxes k).inside (shape_at boxes k) p
    pub within : All (BoxWithin (reach (weight boxes (k + 1)))) floats
    pub near : IsPlaceNear (weight boxes (k + 1)) p
    pub root : k ≡ 0 → p.place ≡ no_place
    pub float : (side : Side) → 0 < k → (shape_at boxes k).float ≡ Some side → IsFloatPlace now.floats (float_request (shape_at boxes k) side (ceiling boxes marks k)) p.place.x.0 p.place.y.0
    pub solid : 0 < k → is_solid (block_at boxes k).inside ≡ true → IsSolidPlace now.floats (solid_request (shape_at boxes k) (length_at marks k)) p.place.x.0 p.place.y.0
    pub extent : 0 < k → is_solid (block_at boxes k).inside ≡ true → length_at extents k ≡ p.place.y.0 -ℤ length_at marks k +ℤ (shape_at boxes k).height.0
    pub low : 0 < k → is_solid (block_at boxes k).inside ≡ true → IsWithin (reach (weight boxes (k + 1))) (length_at marks k +ℤ length_at extents k)
    pub other : 0 < k → (shape_at boxes k).float ≡ None → is_solid (block_at boxes k).inside ≡ false → p.place ≡ no_place
    pub lines : is_lines (block_at boxes k).inside ≡ true → AreLines (line_content_of (box_at boxes k).kind) (content_of (box_at boxes k).kind).left (content_of (box_at boxes k).kind).right (length_at marks k +ℤ (block_at boxes k).edge_top.0) now.floats p.lines
    pub lines_extent : is_lines (block_at boxes k).inside ≡ true → length_at extents k ≡ p.lines.end.0 -ℤ (length_at marks k +ℤ (block_at boxes k).edge_top.0)
    pub no_lines_else : is_lines (block_at boxes k).inside ≡ false → p.lines ≡ no_lines

module _ (boxes : List FlowBox) (marks : List Length) (now : Placing) (k : ℕ) (was : PlacesTo boxes marks now k) (p : Spot) where
  same_before : (n : ℕ) → n ≤ k → floats_before boxes (now.places ++ p ∷ []) n ≡ floats_before boxes now.places n
  same_before n le = floats_same boxes (now.places ++ p ∷ []) now.places n (λ j lt. let l = was.places_length in old_place now.places p j (omega (arith, l, lt, le)))

  here : spot_at (now.places ++ p ∷ []) k ≡ p
  here = new_place now.places p k was.places_length

  longer : length (now.places ++ p ∷ []) ≡ k + 1
  longer = let l = was.places_length in one_longer now.places p ∙ ap (λ (n : ℕ). n + 1) l

  old_at : (j : ℕ) → j < k → spot_at (now.places ++ p ∷ []) j ≡ spot_at now.places j
  old_at j lt = let l = was.places_length in old_place now.places p j (omega (arith, l, lt))

  place_here : place_at (now.places ++ p ∷ []) k ≡ p.place
  place_here = ap (λ (q : Spot). q.place) here

  higher : reach (weight boxes k) ≤ℤ reach (weight boxes (k + 1))
  higher = reach_up (weight boxes k) (weight boxes (k + 1)) (weight_up boxes k (k + 1) (omega arith))

  near_up : (q : Spot) → IsPlaceNear (weight boxes k) q → IsPlaceNear (weight boxes (k + 1)) q
  near_up q w = record {
    x = within_up (reach (weight boxes k)) (reach (weight boxes (k + 1))) q.place.x.0 higher w.x;
    y = within_up (reach (weight boxes k)) (reach (weight boxes (k + 1))) q.place.y.0 higher w.y;
    lines = lines_wider (reach (weight boxes k)) (reach (weight boxes (k + 1))) q.lines higher w.lines;
  }

  pub still_within : All (BoxWithin (reach (weight boxes (k + 1)))) now.floats
  still_within = All-weaker (BoxWithin (reach (weight boxes k))) (BoxWithin (reach (weight boxes (k + 1)))) (λ f b. wider (reach (weight boxes k)) (reach (weight boxes (k + 1))) f higher b) now.floats was.within

  -- what holds of the earlier boxes and of the one at k
  both : (P : ℕ → Type 0) → ((j : ℕ) → j < k → P j) → P k → (j : ℕ) → j < k + 1 → P j
  both P old new j lt = elim (cases_lt j k) [
    | inl low ↦ old j low
    | inr high ↦ (let same : j ≡ k = omega (arith, lt, high) in subst P (sym same) new)
  ]

  lines_here : lines_at (now.places ++ p ∷ []) k ≡ p.lines
  lines_here = ap (λ (q : Spot). q.lines) here

  old_place_at : (j : ℕ) → j < k → place_at (now.places ++ p ∷ []) j ≡ place_at now.places j
  old_place_at j lt = ap (λ (q : Spot). q.place) (old_at j lt)

  old_lines_at : (j : ℕ) → j < k → lines_at (now.places ++ p ∷ []) j ≡ lines_at now.places j
  old_lines_at j lt = ap (λ (q : Spot). q.lines) (old_at j lt)

  pub adds : (extents : List Length) (floats : List Placed) → IsAdded boxes marks now k p extents floats → PlacesTo boxes marks (record { extents = extents; floats = floats; places = now.places ++ p ∷ [] }) (k + 1)
  adds extents floats is = record {
    places_length = longer;
    extents_length = is.extents_length;
    floats_are = is.floats_are ∙ sym step ∙ ap (floats_before boxes more) (sym one);
    within = is.within;
    near = both (λ (j : ℕ). IsPlaceNear (weight boxes (k + 1)) (spot_at more j)) (λ j low. let g = old_at j low in rw g (near_up (spot_at now.places j) (was.near j low))) (let h = here in rw h is.near);
    root = λ some. elim (cases_lt 0 k) [
      | inl low ↦ (let g = old_place_at 0 low in rw g (was.root low))
      | inr ge ↦ (let zero_is : k ≡ 0 = omega (arith, ge) in ap (λ (j : ℕ). place_at more j) (sym zero_is) ∙ place_here ∙ is.root zero_is)
    ];
    float = λ j side low lt e. both (λ (j : ℕ). 0 < j → (shape_at boxes j).float ≡ Some side
        → IsFloatPlace (floats_before boxes more j) (float_request (shape_at boxes j) side (ceiling boxes marks j)) (place_at more j).x.0 (place_at more j).y.0)
        (λ j lt low e. let f = same_before j (omega (arith, lt)) in let g = old_place_at j lt in rw (f, g) (was.float j side low lt e))
        (λ low e. let f = floats_here in let h = place_here in rw (f, h) (is.float side low e)) j lt low e;
    solid = λ j low lt e. both (λ (j : ℕ). 0 < j → is_solid (block_at boxes j).inside ≡ true
        → IsSolidPlace (floats_before boxes more j) (solid_request (shape_at boxes j) (length_at marks j)) (place_at more j).x.0 (place_at more j).y.0)
        (λ j lt low e. let f = same_before j (omega (arith, lt)) in let g = old_place_at j lt in rw (f, g) (was.solid j low lt e))
        (λ low e. let f = floats_here in let h = place_here in rw (f, h) (is.solid low e)) j lt low e;
    extent = λ j low lt e. both (λ (j : ℕ). 0 < j → is_solid (block_at boxes j).inside ≡ true → length_at extents j ≡ (place_at more j).y.0 -ℤ length_at marks j +ℤ (shape_at boxes j).height.0)
        (λ j lt low e. let g = old_place_at j lt in rw g (is.earlier j lt ∙ was.extent j low lt e))
        (λ low e. let h = place_here in rw h (is.extent low e)) j lt low e;
    low = λ j low lt e. both (λ (j : ℕ). 0 < j → is_solid (block_at boxes j).inside ≡ true → IsWithin (reach (weight boxes (k + 1))) (length_at marks j +ℤ length_at extents j))
        (λ j lt low e. let g = is.earlier j lt in rw g (within_up (reach (weight boxes k)) (reach (weight boxes (k + 1))) (length_at marks j +ℤ length_at now.extents j) higher (was.low j low lt e)))
        (λ low e. is.low low e) j lt low e;
    other = λ j low lt e s. both (λ (j : ℕ). 0 < j → (shape_at boxes j).float ≡ None → is_solid (block_at boxes j).inside ≡ false → place_at more j ≡ no_place)
        (λ j lt low e s. let g = old_place_at j lt in rw g (was.other j low lt e s))
        (λ low e s. let h = place_here in rw h (is.other low e s)) j lt low e s;
    lines = both (λ (j : ℕ). is_lines (block_at boxes j).inside ≡ true → AreLinesAt boxes marks more j)
        (λ j lt e. let f = same_before j (omega (arith, lt)) in let g = old_lines_at j lt in rw (f, g) (was.lines j lt e))
        (λ e. let f = floats_here in let h = lines_here in rw (f, h) (is.lines e));
    lines_extent = both (λ (j : ℕ). is_lines (block_at boxes j).inside ≡ true → length_at extents j ≡ (lines_at more j).end.0 -ℤ (length_at marks j +ℤ (block_at boxes j).edge_top.0))
        (λ j lt e. let g = old_lines_at j lt in rw g (is.earlier j lt ∙ was.lines_extent j lt e))
        (λ e. let h = lines_here in rw h (is.lines_extent e));
    no_lines_else = both (λ (j : ℕ). is_lines (block_at boxes j).inside ≡ false → lines_at more j ≡ no_lines)
        (λ j lt e. let g = old_lines_at j lt in rw g (was.no_lines_else j lt e))
        (λ e. let h = lines_here in rw h (is.no_lines_else e));
  }
    where
      more : List Spot
      more = now.places ++ p ∷ []

      one : k + 1 ≡ suc k
      one = omega arith

      floats_here : floats_before boxes more k ≡ now.floats
      floats_here = same_before k (omega arith) ∙ sym was.floats_are

      step : floats_before boxes more (suc k) ≡ floats_after now.floats (block_at boxes k).inside (shape_at boxes k) p
      step = let f = floats_here in let h = here in rw (f, h) refl

  not_both : (o : Option Side) (side : Side) → o ≡ None → o ≡ Some side → ⊥
  not_both o side e f = grind (arith, e, f)

  -- the floats after a box without lines
  floats_go : (inside : Inside) (s : Shape) (more : List Placed) → is_lines inside ≡ false → float_with_shape s p.place ≡ more → now.floats ++ more ≡ floats_after now.floats inside s p
  floats_go blocks_inside s more e f = ap (λ (fs : List Placed). now.floats ++ fs) (sym f)
  floats_go lines_inside s more e f = absurd (true_false true refl e)
  floats_go solid_inside s more e f = ap (λ (fs : List Placed). now.floats ++ fs) (sym f)

  no_more : (shape_at boxes k).float ≡ None → is_lines (block_at boxes k).inside ≡ false → now.floats ≡ floats_after now.floats (block_at boxes k).inside (shape_at boxes k) p
  no_more none flows = sym (append-nil now.floats) ∙ floats_go (block_at boxes k).inside (shape_at boxes k) [] flows (rw none refl)

  pub knows_other : (shape_at boxes k).float ≡ None → is_placed (block_at boxes k).inside ≡ false → p ≡ no_spot → PlacesTo boxes marks (record { extents = now.extents; floats = now.floats; places = now.places ++ p ∷ [] }) (k + 1)
  knows_other none blocks is =
      let none_of = placed_none (block_at boxes k).inside blocks in
      let flows = none_of.0 in
      let flow = none_of.1 in
      adds now.extents now.floats (record {
        extents_length = was.extents_length;
        earlier = λ j lt. refl;
        floats_are = no_more none flows;
        within = still_within;
        near = subst (IsPlaceNear (weight boxes (k + 1))) (sym is) (no_spot_near (weight boxes (k + 1)));
        root = λ e. ap (λ (q : Spot). q.place) is;
        float = λ side low e. absurd (not_both (shape_at boxes k).float side none e);
        solid = λ low e. absurd (true_false (is_solid (block_at boxes k).inside) e flow);
        extent = λ low e. absurd (true_false (is_solid (block_at boxes k).inside) e flow);
        low = λ low e. absurd (true_false (is_solid (block_at boxes k).inside) e flow);
        other = λ low e s. ap (λ (q : Spot). q.place) is;
        lines = λ e. absurd (true_false (is_lines (block_at boxes k).inside) e flows);
        lines_extent = λ e. absurd (true_false (is_lines (block_at boxes k).inside) e flows);
        no_lines_else = λ e. ap (λ (q : Spot). q.lines) is;
      })

  pub knows_float : (side : Side) (floats : List Placed) → 0 < k → (shape_at boxes k).float ≡ Some side → is_placed (block_at boxes k).inside ≡ false → ShapeFits (shape_at boxes k) → IsCeilingNear (weight boxes k) (ceiling boxes marks k)
      → IsFloatPlace now.floats (float_request (shape_at boxes k) side (ceiling boxes marks k)) p.place.x.0 p.place.y.0
      → floats ≡ now.floats ++ placed_at (float_request (shape_at boxes k) side (ceiling boxes marks k)) p.place.x.0 p.place.y.0 ∷ []
      → p.lines ≡ no_lines
      → PlacesTo boxes marks (record { extents = now.extents; floats = floats; places = now.places ++ p ∷ [] }) (k + 1)
  knows_float side floats low some blocks fits near place is bare =
      let r = float_request (shape_at boxes k) side (ceiling boxes marks k) in
      let none_of = placed_none (block_at boxes k).inside blocks in
      let flows = none_of.0 in
      let flow = none_of.1 in
      let b = wider (reach (weight boxes k + 1)) (reach (weight boxes (k + 1))) _ (reach_up (weight boxes k + 1) (weight boxes (k + 1)) (weight_one_more boxes k))
      (put_within (weight boxes k) now.floats (shape_at boxes k) side (ceiling boxes marks k) p.place.x.0 p.place.y.0 fits near was.within place) in
      adds now.extents floats (record {
        extents_length = was.extents_length;
        earlier = λ j lt. refl;
        floats_are = is ∙ floats_go (block_at boxes k).inside (shape_at boxes k) (placed_at r p.place.x.0 p.place.y.0 ∷ []) flows (rw some refl);
        within = All-same (BoxWithin (reach (weight boxes (k + 1)))) _ _ is (All-push (BoxWithin (reach (weight boxes (k + 1)))) _ _ still_within b);
        near = record { x = b.left; y = b.top; lines = subst (LinesWithin (reach (weight boxes (k + 1)))) (sym bare) (no_lines_within (weight boxes (k + 1))) };
        root = λ e. absurd (omega (arith, low, e));
        float = λ side' low e. subst (λ (s : Side). IsFloatPlace now.floats (float_request (shape_at boxes k) s (ceiling boxes marks k)) p.place.x.0 p.place.y.0) (some_same side side' (sym some ∙ e)) place;
        solid = λ low e. absurd (true_false (is_solid (block_at boxes k).inside) e flow);
        extent = λ low e. absurd (true_false (is_solid (block_at boxes k).inside) e flow);
        low = λ low e. absurd (true_false (is_solid (block_at boxes k).inside) e flow);
        other = λ low e s. absurd (not_both (shape_at boxes k).float side e some);
        lines = λ e. absurd (true_false (is_lines (block_at boxes k).inside) e flows);
        lines_extent = λ e. absurd (true_false (is_lines (block_at boxes k).inside) e flows);
        no_lines_else = λ e. bare;
      })
    where
      some_same : (a b : Side) → Some a ≡ Some b → a ≡ b
      some_same a b e = grind (arith, e)

  pub knows_solid : (extents : List Length) → 0 < k → (shape_at boxes k).float ≡ None → is_solid (block_at boxes k).inside ≡ true → ShapeFits (shape_at boxes k) → IsMarkNear (weight boxes k) (length_at marks k)
      → IsSolidPlace now.floats (solid_request (shape_at boxes k) (length_at marks k)) p.place.x.0 p.place.y.0
      → Wrote length_at now.extents extents k (p.place.y.0 -ℤ length_at marks k +ℤ (shape_at boxes k).height.0)
      → p.lines ≡ no_lines
      → PlacesTo boxes marks (record { extents = extents; floats = now.floats; places = now.places ++ p ∷ [] }) (k + 1)
  knows_solid extents low none solid fits near place wrote bare =
      let flows = solid_not_lines (block_at boxes k).inside solid in
      let w : ℕ = weight boxes k in
      let v : ℕ = weight boxes (k + 1) in
      let n = solid_near w now.floats (shape_at boxes k) (length_at marks k) p.place.x.0 p.place.y.0 fits near was.within place in
      let a = n.0 in let b = n.1 in let h = fits.height in let e = wrote.here in
      let more = weight_one_more boxes k in
      adds extents now.floats (record {
        extents_length = wrote.length_is ∙ was.extents_length;
        earlier = λ j lt. wrote.other j (λ same. omega (arith, same, lt));
        floats_are = no_more none flows;
        within = still_within;
        near = record {
          x = within_up (reach (w + 1)) (reach v) p.place.x.0 (reach_up (w + 1) v more) (solid_beside w now.floats (shape_at boxes k) (length_at marks k) p.place.x.0 p.place.y.0 fits was.within place);
          y = (omega (arith, ints, a, more), omega (arith, ints, b, more));
          lines = subst (LinesWithin (reach v)) (sym bare) (no_lines_within v);
        };
        root = λ e. absurd (omega (arith, low, e));
        float = λ side low e. absurd (not_both (shape_at boxes k).float side none e);
        solid = λ low e. place;
        extent = λ low e. wrote.here;
        low = λ low s. (omega (arith, ints, a, h, e, more), omega (arith, ints, b, h, e, more));
        other = λ low e s. absurd (true_false (is_solid (block_at boxes k).inside) solid s);
        lines = λ e. absurd (true_false (is_lines (block_at boxes k).inside) e flows);
        lines_extent = λ e. absurd (true_false (is_lines (block_at boxes k).inside) e flows);
        no_lines_else = λ e. bare;
      })

  pub knows_lines : (extents : List Length) (floats : List Placed) → is_lines (block_at boxes k).inside ≡ true → LinesWithin (reach (weight boxes (k + 1))) p.lines
      → AreLines (line_content_of (box_at boxes k).kind) (content_of (box_at boxes k).kind).left (content_of (box_at boxes k).kind).right (length_at marks k +ℤ (block_at boxes k).edge_top.0) now.floats p.lines
      → Wrote length_at now.extents extents k (p.lines.end.0 -ℤ (length_at marks k +ℤ (block_at boxes k).edge_top.0))
      → p.place ≡ no_place → floats ≡ p.lines.floats
      → PlacesTo boxes marks (record { extents = extents; floats = floats; places = now.places ++ p ∷ [] }) (k + 1)
  knows_lines extents floats lines near are wrote nowhere is =
      let flow = lines_not_solid (block_at boxes k).inside lines in
      let none = placed_flows boxes k (lines_placed (block_at boxes k).inside lines) in
      adds extents floats (record {
        extents_length = wrote.length_is ∙ was.extents_length;
        earlier = λ j lt. wrote.other j (λ same. omega (arith, same, lt));
        floats_are = is ∙ floats_left (block_at boxes k).inside lines;
        within = All-same (BoxWithin (reach (weight boxes (k + 1)))) _ _ is near.floats;
        near = record {
          x = subst (λ (q : Place). IsWithin (reach (weight boxes (k + 1))) q.x.0) (sym nowhere) zero_within.x;
          y = subst (λ (q : Place). IsWithin (reach (weight boxes (k + 1))) q.y.0) (sym nowhere) zero_within.y;
          lines = near;
        };
        root = λ e. nowhere;
        float = λ side low e. absurd (not_both (shape_at boxes k).float side none e);
        solid = λ low e. absurd (true_false (is_solid (block_at boxes k).inside) e flow);
        extent = λ low e. absurd (true_false (is_solid (block_at boxes k).inside) e flow);
        low = λ low e. absurd (true_false (is_solid (block_at boxes k).inside) e flow);
        other = λ low e s. nowhere;
        lines = λ e. are;
        lines_extent = λ e. wrote.here;
        no_lines_else = λ e. absurd (true_false (is_lines (block_at boxes k).inside) lines e);
      })
    where
      zero_within : IsPlaceNear (weight boxes (k + 1)) no_spot
      zero_within = no_spot_near (weight boxes (k + 1))

      floats_left : (inside : Inside) → is_lines inside ≡ true → p.lines.floats ≡ floats_after now.floats inside (shape_at boxes k) p
      floats_left blocks_inside e = absurd (true_false false e refl)
      floats_left lines_inside e = refl
      floats_left solid_inside e = absurd (true_false false e refl)

-- the ceiling of a float is near
pub ceiling_near : (k parent : ℕ) (mark over edge top : ℤ) → parent ≤ k → IsMarkNear k mark → IsMarkNear parent over → pos 0 ≤ℤ edge → edge ≤ℤ pos 4294967296 → top ≡ int_max mark (over +ℤ edge) → IsCeilingNear k top
ceiling_near k parent mark over edge top le near above least most e =
    let a = near.0 in let b = near.1 in let c = above.0 in let d = above.1 in
    (omega (arith, ints, clamps, a, b, c, d, least, most, le, e), omega (arith, ints, clamps, a, b, c, d, least, most, le, e))

pub mark_is_position : (k : ℕ) (v : ℤ) → k ≤ 16711680 → IsMarkNear k v → IsPosition v
mark_is_position k v few near = let a = near.0 in let b = near.1 in (omega (arith, ints, few, a), omega (arith, ints, few, b))

-- the lowest bottom of floats is near
pub clear_edge_position : (n : ℕ) (floats : List Placed) (clear : Clear) (bottom : Option Length) → n ≤ 16711680 → All (BoxWithin (reach n)) floats → IsClearEdge floats clear bottom → IfSome bottom (λ v. IsPosition v.0)
clear_edge_position n floats clear None few all is = tt
clear_edge_position n floats clear (Some v) few all is =
    let w = is.one_of in
    let b = (all_at (BoxWithin (reach n)) floats w.0 w.1 all w.2).bottom in
    let least = b.0 in let most = b.1 in let e = w.3.1 in
    (omega (arith, ints, few, least, e), omega (arith, ints, few, most, e))

-- the clear edge of a box is near
pub lower_near : (n : ℕ) (floats : List Placed) (clear : Clear) (bottom : Option Length) (hypothetical : ℤ) → All (BoxWithin (reach n)) floats → IsClearEdge floats clear bottom → IsEdgeNear n hypothetical → IsEdgeNear n (lower_of bottom hypothetical)
lower_near n floats clear None hypothetical all is near = near
lower_near n floats clear (Some v) hypothetical all is near =
    let w = is.one_of in
    let b = (all_at (BoxWithin (reach n)) floats w.0 w.1 all w.2).bottom in
    let least = b.0 in let most = b.1 in let e = w.3.1 in let c = near.0 in let d = near.1 in
    (omega (arith, ints, clamps, least, e, c), omega (arith, ints, clamps, most, e, d))
