-- The lines of a container are within bounds, as callers see them.
use Rattle.std.proofs.Common.{ℕ, ◌+◌, ◌*◌, ◌/◌, ◌≤◌, ◌^◌, ℤ, pos, List, [], All, subst, arith}
use Rattle.std.proofs.lemmas.List.Elements.{All-weaker}
use Rattle.lay_units.specs.declared.length.Unit.{Unit}
use Rattle.lay_floats.specs.declared.placed.Placed.{Placed}
use Rattle.lay_floats.specs.Within.{IsWithin, BoxWithin, PlaceWithin}
use Rattle.lay_lines.specs.Content.LineContents.{LineContentValue, IsLineContent, hulls_of, weight_of}
use Rattle.lay_lines.proofs.ContentLemmas.PensWithin.{wider}
use Rattle.lay_lines.specs.Lines.{RowWithin, NodePlaceWithin, first_position, growth}
use Rattle.lay_lines.specs.Laws.{LinesAreNear}
use Rattle.lay_lines.specs.Rows.{CanLay}
use Rattle.lay_lines.proofs.FloatsWithin.{box_wider, place_wider}
use Rattle.lay_lines.proofs.RowsWithin.{PositionWithin, LaidWithin, reach_from, rows_within, row_wider, can_lay}

-- the lines begin within bounds
first_within : (c : LineContentValue) (left right : Unit) (top : ℤ) (before : List Placed) (r : ℕ) → IsLineContent c → IsWithin (pos (2 ^ 50)) left.0 → IsWithin (pos (2 ^ 50)) right.0 → 2 ^ 50 ≤ r
    → IsWithin (pos r) top → All (BoxWithin (pos r)) before → PositionWithin r (first_position c left right top before)
first_within c left right top before r is l e least w all = record {
  least = least;
  frame = record { left = l; right = e; strut = is.strut; indent = is.indent };
  from = w;
  open_boxes = λ k d lt. absurd (omega (arith, lt));
  nested = is.nested;
  hulls = is.hulls;
  boxes = (let few = is.boxes in omega (arith, few));
  rest = is.stretches;
  spread = is.spread;
  state = record { floats = all; places = λ k d lt. absurd (omega (arith, lt)); put_off = λ k d lt. absurd (omega (arith, lt)) };
  none = omega arith;
}

-- what lines and floats, and atomic boxes add
few_by : (w h r : ℕ) → 9 * w + h / 68719476736 + 1 ≤ 16711680 → r ≤ 1152921504606846976 → r + 618475290624 * w + h ≤ 2305843009213693952
few_by w h r few most = omega (arith, few, most)

few_lines : (c : LineContentValue) (r : ℕ) → IsLineContent c → r ≤ 2 ^ 60 → reach_from r c.stretches ≤ 2305843009213693952
few_lines c r is most = few_by (weight_of c.stretches) (hulls_of c.stretches) r is.weight most

grown_by : (w h r m : ℕ) → m ≤ r + 618475290624 * w + h → m ≤ r + 68719476736 * (9 * w + h / 68719476736 + 1)
grown_by w h r m le = omega (arith, le)

pub can_lay_lines : PlaceWithin → (c : LineContentValue) (left right : Unit) (top : ℤ) (before : List Placed) (r : ℕ) → IsLineContent c → IsWithin (pos (2 ^ 50)) left.0 → IsWithin (pos (2 ^ 50)) right.0 → 2 ^ 50 ≤ r
    → r ≤ 2 ^ 60 → IsWithin (pos r) top → All (BoxWithin (pos r)) before → CanLay (first_position c left right top before)
can_lay_lines law c left right top before r is l e least most w all =
    can_lay law r (first_position c left right top before) (first_within c left right top before r is l e least w all) (few_lines c r is most)

pub lines_are_near_lem : PlaceWithin → LinesAreNear
lines_are_near_lem law c left right top before v r is l e least most w all lines =
    let p = first_position c left right top before in
    let start : LaidWithin r (record { rows = []; position = p }) = record { position = first_within c left right top before r is l e least w all; rows = λ k d lt. absurd (omega (arith, lt)) } in
    let end = rows_within law r lines.are.count (record { rows = []; position = p }) lines.laid start (few_lines c r is most) lines.are.rows in
    let m = end.0 in
    let same = end.2 in
    let far = r + growth c in
    let le : m ≤ far = grown_by (weight_of c.stretches) (hulls_of c.stretches) r m (omega (arith, same)) in
    record {
      rows = All-weaker (RowWithin (pos m)) (RowWithin (pos far)) (row_wider m far le) v.rows (subst (All (RowWithin (pos m))) lines.rows end.1.rows);
      places = All-weaker (NodePlaceWithin (pos m)) (NodePlaceWithin (pos far)) (place_wider m far le) v.places (subst (All (NodePlaceWithin (pos m))) lines.places end.1.position.state.places);
      end = wider m far v.end.0 le (subst (IsWithin (pos m)) lines.end end.1.position.from);
      floats = All-weaker (BoxWithin (pos m)) (BoxWithin (pos far)) (box_wider m far le) v.floats (subst (All (BoxWithin (pos m))) lines.floats end.1.position.state.floats);
    }
