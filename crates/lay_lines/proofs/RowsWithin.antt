-- How far the lines of a container can stand, and that all that they can give is so within bounds.
use Rattle.std.proofs.Common.{◌≡◌, ◌∙◌, ℕ, zero, suc, ◌+◌, ◌*◌, ◌<◌, ◌≤◌, ◌^◌, ℤ, pos, ◌+ℤ◌, Bool, true, false, if◌then◌else◌, List, [], ◌∷◌, ◌++◌, length, drop, map, slice_get, Option, Some, None, All, sym, ap, subst, arith}
use Rattle.std.proofs.lemmas.Int.{ints}
use Rattle.std.proofs.lemmas.List.Elements.{All-push, All-weaker, All-drop}
use Rattle.std.proofs.lemmas.Option.{slice_get_within}
use Rattle.lay_units.specs.Units.{IsUsed, IsPosition}
use Rattle.lay_valign.specs.declared.parts.LineShape.{LineShape}
use Rattle.lay_valign.specs.LineShape.{IsShape}
use Rattle.lay_valign.specs.PartsFit.{PartsFit}
use Rattle.lay_floats.specs.Within.{IsWithin, PlaceWithin}
use Rattle.lay_lines.specs.declared.content.content.LineFloat.{LineFloat}
use Rattle.lay_lines.specs.declared.content.content.Stretch.{Stretch}
use Rattle.lay_lines.specs.declared.content.frame.Frame.{Frame}
use Rattle.lay_lines.specs.Content.Extents.{reading_to, shape_of, height_of}
use Rattle.lay_lines.specs.Content.LineContents.{total, spread_of_parts, spread_of, hulls_of, weight_of_stretch, weight_of, AreNested, InlineStartWithin, StretchWithin}
use Rattle.lay_lines.proofs.ContentLemmas.LineLevels.{ReadingLevels, open_to, nested_drop, to_levels}
use Rattle.lay_lines.proofs.ContentLemmas.LineParts.{strut_part, stretch_boxes, Counted, to_counted}
use Rattle.lay_lines.proofs.ContentLemmas.LineReaches.{ReadingReaches, stretch_hulls, to_reaches}
use Rattle.lay_lines.proofs.ContentLemmas.PartShapes.{ShapeWithin, parts_fit, height_near, shape_within}
use Rattle.lay_lines.proofs.ContentLemmas.PensWithin.{wider, position}
use Rattle.lay_lines.proofs.ContentLemmas.Totals.{part_of, total_to, total_to_most, total_split, drop_less}
use Rattle.lay_lines.specs.declared.row.Ended.{Ended}
use Rattle.lay_lines.specs.Meeting.{State, Meets, CanMeetAll, RoomsFit, FrameFits}
use Rattle.lay_lines.specs.Filling.{IsTop, CanFill}
use Rattle.lay_lines.specs.Rows.{Position, Row, Laid, parts_of, emptied, IsFilled, IsRow, next_frame, after_row, AddsRow, RowsTo, CanRow, CanLay, ended_of}
use Rattle.lay_lines.specs.Lines.{RowWithin}
use Rattle.lay_lines.proofs.LineLists.{map_append_one}
use Rattle.lay_lines.proofs.Steps.{none_waits, takes_some, top_fits}
use Rattle.lay_lines.proofs.FloatsWithin.{at_of, StateWithin, state_wider, FrameWithin, further, meets_within, can_meet_all, top_within, floats_to, fills_within, can_fill, room_start, room_end, rooms_fit}

-- where a line begins, with all that stands at most m units from the origin
pub record PositionWithin (m : ℕ) (p : Position) : Type 0 where
  pub least : 1125899906842624 ≤ m
  pub frame : FrameWithin p.frame
  pub from : IsWithin (pos m) p.from
  pub open_boxes : All InlineStartWithin p.open_boxes
  pub nested : AreNested (length p.open_boxes) p.rest
  pub hulls : total stretch_hulls p.rest ≤ 558446353793941504
  pub boxes : length p.open_boxes + total stretch_boxes p.rest ≤ 2147483648
  pub rest : All StretchWithin p.rest
  pub spread : spread_of p.frame.tab.0 p.rest ≤ 2 ^ 58
  pub state : StateWithin m p.state
  pub none : length p.state.put_off ≡ 0

-- how far the lines from here can reach: nine times 2^36 units for each line and each float, and what atomic boxes do
abbrev pub reach_from : ℕ → List Stretch → ℕ
reach_from m ss = m + 618475290624 * weight_of ss + hulls_of ss

abbrev weight_to : List Stretch → ℕ → ℕ
weight_to ss k = total_to weight_of_stretch ss k

abbrev hulls_to : List Stretch → ℕ → ℕ
hulls_to ss k = total_to stretch_hulls ss k

-- and a line that takes the first k of these
abbrev pub reach_to : ℕ → List Stretch → ℕ → ℕ
reach_to m ss k = m + 618475290624 * weight_to ss k + hulls_to ss k

-- the floats before the first stretch, those in the first n, and a line, are no more than these weigh
counted : (ss : List Stretch) (first : Stretch) (n : ℕ) → 0 < n → slice_get ss 0 ≡ Some first → ((length first.heads + floats_to ss n) + 1) ≤ weight_to ss n
counted ss first zero some is = absurd (omega (arith, some))
counted ss first (suc zero) some is =
    let a = ap (λ (o : Option Stretch). part_of weight_of_stretch o) is in
    let b = ap (λ (o : Option Stretch). part_of (λ (s : Stretch). length s.floats) o) is in
    omega (arith, a, b)
counted ss first (suc (suc n)) some is =
    let so_far = counted ss first (suc n) (omega arith) is in
    let more = step (slice_get ss (suc n)) in
    omega (arith, so_far, more)
  where
    step : (o : Option Stretch) → part_of (λ (s : Stretch). length s.floats) o ≤ part_of weight_of_stretch o
    step None = omega arith
    step (Some s) = omega arith

floats_in : (ss : List Stretch) → total (λ (s : Stretch). length s.floats) ss ≤ weight_of ss
floats_in [] = omega arith
floats_in (s ∷ ss) = let so_far = floats_in ss in omega (arith, so_far)

floats_counted : (ss : List Stretch) (first : Stretch) → slice_get ss 0 ≡ Some first → ((length first.heads + total (λ (s : Stretch). length s.floats) ss) + 1) ≤ weight_of ss
floats_counted [] first is = absurd (let w = slice_get_within {A = Stretch} [] 0 first is in omega (arith, w))
floats_counted (s ∷ ss) first is =
    let rest = floats_in ss in
    let e = ap (λ (o : Option Stretch). part_of (λ (t : Stretch). length t.heads) o) is in
    omega (arith, rest, e)

end_within : (b : Bool) (m h : ℕ) (top height from to : ℤ) → IsWithin (pos m) top → IsWithin (pos h) height → IsWithin (pos m) from → to ≡ (if b then (top +ℤ height) else from) → IsWithin (pos (m + h)) to
end_within true m h top height from to a b f e = let a0 = a.0 in let a1 = a.1 in let h0 = b.0 in let h1 = b.1 in (omega (arith, ints, e, a0, h0), omega (arith, ints, e, a1, h1))
end_within false m h top height from to a b f e = let f0 = f.0 in let f1 = f.1 in (omega (arith, ints, e, f0), omega (arith, ints, e, f1))

frame_fits : (fr : Frame) → FrameWithin fr → FrameFits fr
frame_fits fr w =
    let a0 = w.strut.above.0 in
    let a1 = w.strut.above.1 in
    let b0 = w.strut.below.0 in
    let b1 = w.strut.below.1 in
    record {
      left = position 1125899906842624 _ (omega arith) w.left;
      right = position 1125899906842624 _ (omega arith) w.right;
      above = (omega (arith, ints, a0), omega (arith, ints, a1));
      below = (omega (arith, ints, b0), omega (arith, ints, b1));
      height = (omega (arith, ints, a0, b0), omega (arith, ints, a1, b1));
      indent = position 2147483648 _ (omega arith) w.indent;
    }

module _ (law : PlaceWithin) (m : ℕ) (p : Position) (w : PositionWithin m p) (reach_most : reach_from m p.rest ≤ 2305843009213693952) where
  -- the parts of a line
  abbrev boxes_to : ℕ → ℕ
  boxes_to count = length p.open_boxes + total_to stretch_boxes p.rest count

  headed_within : (first : Stretch) (headed : State) → slice_get p.rest 0 ≡ Some first → Meets p.frame p.from p.rest 0 first.heads p.state headed
      → StateWithin (further m (length first.heads)) headed × (length headed.put_off ≤ length first.heads)
  headed_within first headed is meets =
      let here = at_of StretchWithin p.rest 0 first w.rest is in
      let a = meets_within law m p.frame p.from p.rest 0 first.heads p.state headed (length first.heads) w.least w.from here.heads w.state meets in
      let few = a.1 in
      let none = w.none in
      (a.0, omega (arith, few, none))

  heads_can : (first : Stretch) → slice_get p.rest 0 ≡ Some first → CanMeetAll p.frame p.from p.rest 0 first.heads p.state
  heads_can first is =
      let here = at_of StretchWithin p.rest 0 first w.rest is in
      let few = floats_counted p.rest first is in
      can_meet_all law m p.frame p.from p.rest 0 first.heads p.state w.least (omega (arith, few, reach_most)) w.spread w.frame w.from here.heads w.state

  line_within : (first : Stretch) (headed : State) (top : ℤ) → slice_get p.rest 0 ≡ Some first → Meets p.frame p.from p.rest 0 first.heads p.state headed → IsTop p.frame p.from p.rest headed.floats top
      → IsWithin (pos (further m (length first.heads))) top
  line_within first headed top is meets top_is =
      top_within (further m (length first.heads)) p.frame p.from p.rest headed.floats top (headed_within first headed is meets).0.floats (wider m (further m (length first.heads)) p.from (omega arith) w.from) top_is

  rooms_can : (first : Stretch) (headed : State) → slice_get p.rest 0 ≡ Some first → Meets p.frame p.from p.rest 0 first.heads p.state headed → RoomsFit p.frame headed.floats p.rest
  rooms_can first headed is meets =
      let few = floats_counted p.rest first is in
      let least = w.least in
      rooms_fit (further m (length first.heads)) p.frame headed.floats p.rest (omega (arith, least)) (omega (arith, few, reach_most)) w.spread w.frame (headed_within first headed is meets).0.floats

  fills_can : (first : Stretch) (headed : State) (top : ℤ) → slice_get p.rest 0 ≡ Some first → Meets p.frame p.from p.rest 0 first.heads p.state headed → IsTop p.frame p.from p.rest headed.floats top
      → CanFill p.frame top p.rest headed
  fills_can first headed top is meets top_is =
      let few = floats_counted p.rest first is in
      let least = w.least in
      can_fill law (further m (length first.heads)) p.frame top p.rest headed (omega (arith, least)) (omega (arith, few, reach_most)) w.spread w.frame (line_within first headed top is meets top_is) w.rest
      (headed_within first headed is meets).0

  few_hulls : (count : ℕ) → hulls_to p.rest count ≤ 558446353793941504
  few_hulls count = let a = w.hulls in let b = total_to_most stretch_hulls p.rest count in omega (arith, a, b)

  few_boxes : (count : ℕ) → boxes_to count ≤ 2147483648
  few_boxes count = let a = w.boxes in let b = total_to_most stretch_boxes p.rest count in omega (arith, a, b)

  line_of : (count : ℕ) → Counted (strut_part p.frame.strut) (boxes_to count) (reading_to p.frame p.open_boxes p.rest count).line
  line_of count = (to_counted p.frame p.open_boxes p.rest count).line

  levels_of : (count : ℕ) → ReadingLevels (strut_part p.frame.strut) (open_to (length p.open_boxes) p.rest count) (reading_to p.frame p.open_boxes p.rest count)
  levels_of count = to_levels p.frame p.open_boxes p.rest count w.nested

  reaches_of : (count : ℕ) → ReadingReaches (hulls_to p.rest count) (reading_to p.frame p.open_boxes p.rest count)
  reaches_of count = to_reaches p.frame p.open_boxes p.rest count w.open_boxes w.rest

  low_of : (count : ℕ) → (reaches_of count).up + (reaches_of count).down ≤ 558446353793941504
  low_of count = let a = few_hulls count in let e = (reaches_of count).sum in omega (arith, a, e)

  parts_can : (count : ℕ) → PartsFit (parts_of p count)
  parts_can count = parts_fit p.frame.strut w.frame.strut (boxes_to count) _ _ _ _ (line_of count) (levels_of count).line (reaches_of count).line (low_of count) (few_boxes count)

  shape_can : (count : ℕ) (shape : LineShape) → IsShape (parts_of p count) shape → ShapeWithin shape
  shape_can count shape is = shape_within p.frame.strut w.frame.strut (boxes_to count) _ _ _ _ (line_of count) (levels_of count).line (reaches_of count).line (low_of count) shape is

  abbrev tall : ℕ → ℕ
  tall count = 618475290624 + hulls_to p.rest count

  height_can : (count : ℕ) (shape : LineShape) → IsShape (parts_of p count) shape → IsWithin (pos (tall count)) (shape.above.0 +ℤ shape.below.0)
  height_can count shape is =
      wider (618475290624 + ((reaches_of count).up + (reaches_of count).down)) (tall count) _ (let e = (reaches_of count).sum in omega (arith, e))
      (height_near p.frame.strut w.frame.strut (boxes_to count) _ _ _ _ (line_of count) (levels_of count).line (reaches_of count).line shape is)

  ends_within : (r : Row) (f : IsFilled p r) → IsWithin (pos (further m (length f.first.heads) + tall r.reach.count)) r.to
  ends_within r f =
      let far = further m (length f.first.heads) in
      end_within r.seen far (tall r.reach.count) r.top (height_of r.extent) p.from r.to (line_within f.first r.headed r.top f.is f.heads f.top_is) (height_can r.reach.count (shape_of r.shifts r.extent) f.shape_is)
      (wider m far p.from (omega arith) w.from) f.to_is

  filled_within : (r : Row) (f : IsFilled p r)
      → StateWithin (further (further m (length f.first.heads)) (floats_to p.rest r.reach.count)) r.filled × (length r.filled.put_off ≤ length f.first.heads + floats_to p.rest r.reach.count)
  filled_within r f =
      let far = further m (length f.first.heads) in
      let headed = headed_within f.first r.headed f.is f.heads in
      let least = w.least in
      let a = fills_within law far p.frame r.top p.rest r.headed r.filled r.reach.count (omega (arith, least)) (line_within f.first r.headed r.top f.is f.heads f.top_is) w.rest headed.0 f.filled_is in
      let few = headed.1 in
      let more = a.1 in
      (a.0, omega (arith, few, more))

  some_taken : (r : Row) → IsFilled p r → 0 < r.reach.count
  some_taken r f =
      let within = slice_get_within p.rest 0 f.first f.is in
      takes_some p.frame r.top p.rest r.headed r.reach.count within (top_fits p.frame r.top p.rest r.headed.floats f.top_is.begins) f.count_is

  -- where a line ends, with all that it met and the line itself
  abbrev under : (r : Row) → IsFilled p r → ℕ
  under r f = further (further m (length f.first.heads)) (floats_to p.rest r.reach.count) + tall r.reach.count

  few_wait : (r : Row) (f : IsFilled p r) → further (under r f) (length r.filled.put_off) ≤ reach_to m p.rest r.reach.count
  few_wait r f =
      let few = (filled_within r f).1 in
      let weigh = counted p.rest f.first r.reach.count (some_taken r f) f.is in
      omega (arith, few, weigh)

  under_least : (r : Row) (f : IsFilled p r) → 1125899906842624 ≤ under r f
  under_least r f = let least = w.least in omega (arith, least)

  under_state : (r : Row) (f : IsFilled p r) → StateWithin (under r f) (emptied r.filled)
  under_state r f =
      let a = state_wider (further (further m (length f.first.heads)) (floats_to p.rest r.reach.count)) (under r f) r.filled (omega arith) (filled_within r f).0 in
      record { floats = a.floats; places = a.places; put_off = λ k d lt. absurd (omega (arith, lt)) }

  under_end : (r : Row) (f : IsFilled p r) → IsWithin (pos (under r f)) r.to
  under_end r f = wider (further m (length f.first.heads) + tall r.reach.count) (under r f) r.to (omega arith) (ends_within r f)

  weight_most : (n : ℕ) → reach_to m p.rest n ≤ 2305843009213693952
  weight_most n =
      let weight = total_to_most weight_of_stretch p.rest n in
      let hulls = total_to_most stretch_hulls p.rest n in
      omega (arith, weight, hulls, reach_most)

  later_can : (r : Row) (f : IsFilled p r) → CanMeetAll p.frame r.to p.rest 0 r.filled.put_off (emptied r.filled)
  later_can r f =
      let wait = few_wait r f in
      let few = weight_most r.reach.count in
      can_meet_all law (under r f) p.frame r.to p.rest 0 r.filled.put_off (emptied r.filled) (under_least r f) (omega (arith, wait, few)) w.spread w.frame (under_end r f) (filled_within r f).0.put_off (under_state r f)

  to_fits : (r : Row) (f : IsFilled p r) → IsPosition r.to
  to_fits r f =
      let wait = few_wait r f in
      let few = weight_most r.reach.count in
      position (under r f) r.to (omega (arith, wait, few)) (under_end r f)

  pub can_row : CanRow p
  can_row = record {
    frame = frame_fits p.frame w.frame;
    from = position m p.from (omega (arith, reach_most)) w.from;
    heads = λ first is. heads_can first is;
    rooms = λ first headed is meets. rooms_can first headed is meets;
    fills = λ first headed top is meets top_is. fills_can first headed top is meets top_is;
    parts = λ count. parts_can count;
    height = λ count shape is. position (tall count) _ (let low = few_hulls count in omega (arith, low)) (height_can count shape is);
    to = λ r f. to_fits r f;
    later = λ r f. later_can r f;
  }

  later_within : (r : Row) → IsRow p r → StateWithin (reach_to m p.rest r.reach.count) r.after
  later_within r row =
      let f = row.filled in
      let a = meets_within law (under r f) p.frame r.to p.rest 0 r.filled.put_off (emptied r.filled) r.after (length r.filled.put_off) (under_least r f) (under_end r f) (filled_within r f).0.put_off (under_state r f) row.later in
      state_wider (further (under r f) (length r.filled.put_off)) (reach_to m p.rest r.reach.count) r.after (few_wait r f) a.0

  pub row_within : (r : Row) → IsRow p r → RowWithin (pos (reach_to m p.rest r.reach.count)) (ended_of r)
  row_within r row =
      let f = row.filled in
      let h = length f.first.heads in
      let far = reach_to m p.rest r.reach.count in
      let wait = few_wait r f in
      let least = w.least in
      let filled = filled_within r f in
      let reach = further (further m h) (floats_to p.rest r.reach.count) in
      let shape = shape_can r.reach.count (shape_of r.shifts r.extent) f.shape_is in
      record {
        top = wider (further m h) far r.top (omega (arith, wait)) (line_within f.first r.headed r.top f.is f.heads f.top_is);
        start = wider reach far _ (omega (arith, wait)) (room_start reach p.frame r.top r.filled.floats _ _ (omega (arith, least)) w.frame filled.0.floats f.room_is);
        end = wider reach far _ (omega (arith, wait)) (room_end reach p.frame r.top r.filled.floats _ _ (omega (arith, least)) w.frame filled.0.floats f.room_is);
        above = shape.above;
        below = shape.below;
        shifts = shape.shifts;
        to = wider (under r f) far r.to (omega (arith, wait)) (under_end r f);
      }

  indent_used : (seen : Bool) → IsUsed (next_frame p.frame seen).indent.0
  indent_used true = (omega (arith, ints), omega (arith, ints))
  indent_used false = w.frame.indent

  pub next_within : (r : Row) → IsRow p r → PositionWithin (reach_to m p.rest r.reach.count) (after_row p r)
  next_within r row =
      let far = reach_to m p.rest r.reach.count in
      let least = w.least in
      let spread = w.spread in
      let less = drop_less (λ (s : Stretch). spread_of_parts p.frame.tab.0 s.parts) p.rest r.reach.count in
      record {
        least = omega (arith, least);
        frame = record { left = w.frame.left; right = w.frame.right; strut = w.frame.strut; indent = indent_used r.seen };
        from = (row_within r row).to;
        open_boxes = (reaches_of r.reach.count).open_boxes;
        nested = subst (λ (n : ℕ). AreNested n (drop r.reach.count p.rest)) (sym (levels_of r.reach.count).count) (nested_drop (length p.open_boxes) p.rest r.reach.count w.nested);
        hulls = (let less = drop_less stretch_hulls p.rest r.reach.count in let a = w.hulls in omega (arith, less, a));
        boxes = (let a = (to_counted p.frame p.open_boxes p.rest r.reach.count).open_count in let b = total_split stretch_boxes p.rest r.reach.count in let c = w.boxes in omega (arith, a, b, c));
        rest = All-drop StretchWithin r.reach.count p.rest w.rest;
        spread = omega (arith, spread, less);
        state = later_within r row;
        none = ap (λ (fs : List LineFloat). length fs) (none_waits p.frame r.to p.rest r.filled.put_off (length r.filled.put_off) (emptied r.filled) r.after row.later);
      }

-- what stands after some lines
pub record LaidWithin (m : ℕ) (l : Laid) : Type 0 where
  pub position : PositionWithin m l.position
  pub rows : All (RowWithin (pos m)) (map ended_of l.rows)

pub row_wider : (n m : ℕ) → n ≤ m → (e : Ended) → RowWithin (pos n) e → RowWithin (pos m) e
row_wider n m le e is = record { top = wider n m _ le is.top; start = wider n m _ le is.start; end = wider n m _ le is.end; above = is.above; below = is.below; shifts = is.shifts; to = wider n m _ le is.to }

abbrev laid_with : List Row → Row → Position → Laid
laid_with rows r p = record { rows = rows ++ r ∷ []; position = after_row p r }

module _ (law : PlaceWithin) where
  added_within : (m : ℕ) (a b : Laid) (k : ℕ) → LaidWithin m a → reach_from m a.position.rest ≤ 2305843009213693952 → AddsRow k a b
      → (n : ℕ) × LaidWithin n b × (reach_from n b.position.rest ≡ reach_from m a.position.rest)
  added_within m a b k is most s =
      let p = a.position in
      let r = s.row in
      let n = reach_to m p.rest r.reach.count in
      let next = next_within law m p is.position most r s.is in
      let older = All-weaker (RowWithin (pos m)) (RowWithin (pos n)) (row_wider m n (omega arith)) (map ended_of a.rows) is.rows in
      let rows = All-push (RowWithin (pos n)) (map ended_of a.rows) (ended_of r) older (row_within law m p is.position most r s.is) in
      let all : LaidWithin n (laid_with a.rows r p) = record { position = next; rows = subst (All (RowWithin (pos n))) (sym (map_append_one a.rows r)) rows } in
      let weight = total_split weight_of_stretch p.rest r.reach.count in
      let hulls = total_split stretch_hulls p.rest r.reach.count in
      let e : reach_from n (drop r.reach.count p.rest) ≡ reach_from m p.rest = omega (arith, weight, hulls) in
      (n, subst (LaidWithin n) (sym s.after) all, ap (λ (l : Laid). reach_from n l.position.rest) s.after ∙ e)

  pub rows_within : (m n : ℕ) (a b : Laid) → LaidWithin m a → reach_from m a.position.rest ≤ 2305843009213693952 → RowsTo n a b
      → (k : ℕ) × LaidWithin k b × (reach_from k b.position.rest ≡ reach_from m a.position.rest)
  rows_within m zero a b is most c = (m, subst (LaidWithin m) (sym c) is, ap (λ (l : Laid). reach_from m l.position.rest) c)
  rows_within m (suc n) a b is most c =
      let before = rows_within m n a c.0 is most c.1 in
      let e = before.2 in
      let after = added_within before.0 c.0 b n before.1 (omega (arith, e, most)) c.2 in
      (after.0, after.1, after.2 ∙ before.2)

  -- all that the lines of a container can give is within bounds
  pub can_lay : (m : ℕ) (p : Position) → PositionWithin m p → reach_from m p.rest ≤ 2305843009213693952 → CanLay p
  can_lay m p is most n mid rows some =
      let w = rows_within m n (record { rows = []; position = p }) mid (record { position = is; rows = λ k d lt. absurd (omega (arith, lt)) }) most rows in
      let e = w.2 in
      can_row law w.0 mid.position w.1.position (omega (arith, e, most))
