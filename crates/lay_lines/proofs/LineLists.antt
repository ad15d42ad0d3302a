-- A container has one list of lines.
use Rattle.std.proofs.Common.{◌≡◌, ◌∙◌, inl, inr, ℕ, ◌+◌, ◌<◌, ℤ, ◌+ℤ◌, List, [], ◌∷◌, ◌++◌, length, map, slice_get, Some, Bool, if◌then◌else◌, refl, sym, ap, subst, arith}
use Rattle.std.proofs.lemmas.Int.{ints}
use Rattle.std.proofs.lemmas.Bool.{cases_lt}
use Rattle.std.proofs.lemmas.Option.{same_Some, slice_get_within}
use Rattle.lay_units.specs.declared.length.Unit.{Unit}
use Rattle.lay_valign.specs.declared.parts.LineShape.{LineShape}
use Rattle.lay_valign.specs.LineShape.{IsShape}
use Rattle.lay_valign.proofs.OneShape.{one_shape_lem}
use Rattle.lay_floats.specs.Laws.{OneFloatPlace, OneRoom}
use Rattle.lay_floats.specs.declared.placed.Placed.{Placed}
use Rattle.lay_lines.specs.declared.content.frame.Frame.{Frame}
use Rattle.lay_lines.specs.declared.content.content.InlineStart.{InlineStart}
use Rattle.lay_lines.specs.declared.content.content.Stretch.{Stretch}
use Rattle.lay_lines.specs.declared.content.frame.Extent.{Extent}
use Rattle.lay_lines.specs.Content.Extents.{shape_of, height_of}
use Rattle.lay_lines.proofs.ContentLemmas.LineParts.{are_parts}
use Rattle.lay_lines.specs.declared.reach.Reach.{Reach}
use Rattle.lay_lines.specs.declared.row.Ended.{Ended}
use Rattle.lay_lines.specs.Meeting.{State, IsFront, Meets}
use Rattle.lay_lines.specs.Filling.{TakesNext, Fills, IsLongest, Takes, IsTop}
use Rattle.lay_lines.specs.Rows.{Position, Row, Laid, is_seen, parts_of, emptied, IsFilled, IsRow, after_row, AddsRow, RowsTo, AreRows, position_of, ended_of}
use Rattle.lay_lines.specs.Laws.{OneListOfRows}
use Rattle.lay_lines.specs.Reaching.{IsReach}
use Rattle.lay_lines.proofs.Chains.{chain_more, chain_one, chain_front, chain_keeps, chain_cut, front_trans}
use Rattle.lay_lines.proofs.Steps.{one_meets, one_takes_next}
use Rattle.lay_lines.proofs.Fronts.{floats_of, taken_front, meets_front}

one_longest : (Can Fit : ℕ → Type 0) (n m : ℕ) → IsLongest Can Fit n → IsLongest Can Fit m → n ≡ m
one_longest Can Fit n m a b = elim (cases_lt n m) [
  | inl less ↦ absurd (a.most m less b.can b.fits)
  | inr more ↦ elim (cases_lt m n) [
    | inl less ↦ absurd (b.most n less a.can a.fits)
    | inr least ↦ omega arith
  ]
]

pub one_top : (fr : Frame) (from : ℤ) (ss : List Stretch) (floats : List Placed) (y z : ℤ) → IsTop fr from ss floats y → IsTop fr from ss floats z → y ≡ z
one_top fr from ss floats y z a b =
    let p = a.least z b.low b.begins in
    let q = b.least y a.low a.begins in omega (arith, ints, p, q)

-- where a float stands, and the room that floats leave, is one
pub record FloatLaws : Type 0 where
  pub place : OneFloatPlace
  pub room : OneRoom

-- what a line takes, and what it meets by then, is one
pub record SameTaken (r : Row) (headed : State) (top : ℤ) (count : ℕ) (filled : State) : Type 0 where
  pub headed_is : r.headed ≡ headed
  pub top_is : r.top ≡ top
  pub count_is : r.reach.count ≡ count
  pub filled_is : r.filled ≡ filled

pub one_taken : FloatLaws → (p : Position) (r : Row) (s : Stretch) (headed : State) (top : ℤ) (count : ℕ) (filled : State) → IsFilled p r → slice_get p.rest 0 ≡ Some s
    → Meets p.frame p.from p.rest 0 s.heads p.state headed → IsTop p.frame p.from p.rest headed.floats top → Takes p.frame top p.rest headed count → Fills p.frame top p.rest count headed filled
    → SameTaken r headed top count filled
one_taken one p r s headed top count filled f is heads top_is takes fills =
    let es : s ≡ f.first = same_Some _ _ (sym is ∙ f.is) in
    let eh : r.headed ≡ headed = one_meets one.place p.frame p.from p.rest 0 f.first.heads p.state r.headed headed f.heads
    (subst (λ (t : Stretch). Meets p.frame p.from p.rest 0 t.heads p.state headed) es heads) in
    let et : r.top ≡ top = one_top p.frame p.from p.rest r.headed.floats r.top top f.top_is (subst (λ (t : State). IsTop p.frame p.from p.rest t.floats top) (sym eh) top_is) in
    let ec : r.reach.count ≡ count = one_longest _ _ r.reach.count count f.count_is (rw (et, eh) takes) in
    let eg : r.filled ≡ filled = chain_one (TakesNext p.frame r.top p.rest) (one_takes_next one.place p.frame r.top p.rest) r.reach.count r.headed r.filled filled f.filled_is (rw (et, eh, ec) fills) in
    record { headed_is = eh; top_is = et; count_is = ec; filled_is = eg }

-- what two readings of a line agree on
pub record SameFilled (r q : Row) : Type 0 where
  pub headed : r.headed ≡ q.headed
  pub top : r.top ≡ q.top
  pub reach : r.reach ≡ q.reach
  pub filled : r.filled ≡ q.filled
  pub shifts : r.shifts ≡ q.shifts
  pub extent : r.extent ≡ q.extent
  pub seen : r.seen ≡ q.seen
  pub to : r.to ≡ q.to

same_reach : (a b : Reach) → a.count ≡ b.count → a.start.0 ≡ b.start.0 → a.end.0 ≡ b.end.0 → a.pen ≡ b.pen → a ≡ b
same_reach a b c s e p = λ i. record { count = c i; start = record { 0 = s i }; end = record { 0 = e i }; pen = p i }

abbrev extent_in : LineShape → Extent
extent_in s = record { above = s.above; below = s.below }

pub one_filled : FloatLaws → (p : Position) (r q : Row) → IsFilled p r → IsFilled p q → SameFilled r q
one_filled one p r q f g =
    let taken = one_taken one p r g.first q.headed q.top q.reach.count q.filled f g.is g.heads g.top_is g.count_is g.filled_is in
    let et = taken.top_is in
    let ec = taken.count_is in
    let eg = taken.filled_is in
    let rooms = one.room _ _ _ _ _ _ _ _ _ f.room_is (rw (et, eg) g.room_is) in
    let ea = rooms.0 in
    let ep : r.reach.pen ≡ q.reach.pen = f.pen_is ∙ rw (ea, ec) refl ∙ sym g.pen_is in
    let es : shape_of r.shifts r.extent ≡ shape_of q.shifts q.extent = one_shape_lem (parts_of p r.reach.count) _ _ (are_parts p.frame p.open_boxes p.rest r.reach.count) f.shape_is
    (subst (λ (n : ℕ). IsShape (parts_of p n) (shape_of q.shifts q.extent)) (sym ec) g.shape_is) in
    let ex : r.extent ≡ q.extent = ap extent_in es in
    let en : r.seen ≡ q.seen = f.seen_is ∙ rw ec refl ∙ sym g.seen_is in
    record { headed = taken.headed_is; top = et; reach = same_reach r.reach q.reach ec ea rooms.1 ep; filled = eg; shifts = ap (λ (s : LineShape). s.shifts) es; extent = ex; seen = en; to = f.to_is ∙ rw (et, ex, en) refl ∙ sym g.to_is }

pub one_row : FloatLaws → (p : Position) (r q : Row) → IsRow p r → IsRow p q → r ≡ q
one_row one p r q a b =
    let e = one_filled one p r q a.filled b.filled in
    let eh = e.headed in
    let et = e.top in
    let er = e.reach in
    let eg = e.filled in
    let eb = e.shifts in
    let ex = e.extent in
    let en = e.seen in
    let ed = e.to in
    let ea : r.after ≡ q.after = one_meets one.place p.frame r.to p.rest 0 r.filled.put_off (emptied r.filled) r.after q.after a.later (rw (ed, eg) b.later) in
    λ i. record { headed = eh i; top = et i; reach = er i; filled = eg i; shifts = eb i; extent = ex i; seen = en i; to = ed i; after = ea i }

-- a line comes after what stood at its start
pub filled_front : (p : Position) (r : Row) → IsFilled p r → IsFront r.headed.floats r.filled.floats
filled_front p r f = chain_keeps floats_of (TakesNext p.frame r.top p.rest) (taken_front p.frame r.top p.rest) r.reach.count r.headed r.filled f.filled_is

pub row_front : (p : Position) (r : Row) → IsRow p r → IsFront r.filled.floats r.after.floats
row_front p r a = meets_front p.frame r.to p.rest 0 r.filled.put_off (emptied r.filled) r.after a.later

one_adds_row : FloatLaws → (k : ℕ) (a b c : Laid) → AddsRow k a b → AddsRow k a c → b ≡ c
one_adds_row one k a b c p q =
    let e = one_row one a.position p.row q.row p.is q.is in
    p.after ∙ ap (λ (r : Row). record { rows = a.rows ++ r ∷ []; position = after_row a.position r }) e ∙ sym q.after

-- no line is added where nothing is left
ended : (k : ℕ) (a b : Laid) → a.position.rest ≡ [] → AddsRow k a b → ⊥
ended k a b none p =
    let f = p.is.filled in
    let w = slice_get_within a.position.rest 0 f.first f.is in
    let e = ap length none in
    omega (arith, w, e)

no_further : FloatLaws → (start a b : Laid) (n m : ℕ) → RowsTo n start a → a.position.rest ≡ [] → n < m → RowsTo m start b → ⊥
no_further one start a b n m p none lt q =
    let front = chain_front AddsRow m n start b lt q in
    let e = chain_one AddsRow (one_adds_row one) n start front.0 a front.2 p in
    ended n front.0 front.1 (ap (λ (l : Laid). l.position.rest) e ∙ none) front.3

pub one_list_of_rows_lem : FloatLaws → OneListOfRows
one_list_of_rows_lem one start a b p q =
    let first : Laid = record { rows = []; position = start } in
    let e : p.count ≡ q.count = elim (cases_lt p.count q.count) [
      | inl less ↦ absurd (no_further one first a b p.count q.count p.rows p.all less q.rows)
      | inr more ↦ elim (cases_lt q.count p.count) [
        | inl less ↦ absurd (no_further one first b a q.count p.count q.rows q.all less p.rows)
        | inr least ↦ omega arith
      ]
    ] in
    chain_one AddsRow (one_adds_row one) p.count first a b p.rows (subst (λ (n : ℕ). RowsTo n first b) (sym e) q.rows)

abbrev pub floats_at : Laid → List Placed
floats_at l = l.position.state.floats

adds_front : (k : ℕ) (a b : Laid) → AddsRow k a b → IsFront (floats_at a) (floats_at b)
adds_front k a b s =
    let p = a.position in
    let f = s.is.filled in
    let heads = meets_front p.frame p.from p.rest 0 f.first.heads p.state s.row.headed f.heads in
    let all = front_trans _ _ _ (front_trans _ _ _ heads (filled_front p s.row f)) (row_front p s.row s.is) in
    subst (λ (l : Laid). IsFront (floats_at a) (floats_at l)) (sym s.after) all

-- where a line isn't finished, the floats that stand are a front of those that all lines would make
pub rows_stopped : FloatLaws → (start : Position) (now laid : Laid) (m : ℕ) (left : List Placed) → RowsTo m (record { rows = []; position = start }) now → 0 < length now.position.rest
    → ((r : Row) → IsRow now.position r → IsFront left r.after.floats) → AreRows start laid → IsFront left (floats_at laid)
rows_stopped one start now laid m left so_far some stopped all =
    let first : Laid = record { rows = []; position = start } in
    let less : m < all.count = elim (cases_lt m all.count) [
      | inl low ↦ low
      | inr high ↦ elim (cases_lt all.count m) [
        | inl further ↦ absurd (no_further one first laid now all.count m all.rows all.all further so_far)
        | inr least ↦ (let same : all.count ≡ m = omega arith in
            let e = chain_one AddsRow (one_adds_row one) m first laid now (subst (λ (n : ℕ). RowsTo n first laid) same all.rows) so_far in
            let none = ap (λ (l : Laid). length l.position.rest) (sym e) ∙ ap (λ (ss : List Stretch). length ss) all.all in
            absurd (omega (arith, some, none)))
      ]
    ] in
    let w = chain_cut floats_at AddsRow adds_front all.count m first laid less all.rows in
    let e = chain_one AddsRow (one_adds_row one) m first w.0 now w.2 so_far in
    let step = subst (λ (l : Laid). AddsRow m l w.1) e w.3 in
    let next = subst (λ (l : Laid). IsFront left (floats_at l)) (sym step.after) (stopped step.row step.is) in
    front_trans _ _ _ next w.4

-- one line more
pub row_more : (k : ℕ) (start : Laid) (rows : List Row) (p : Position) (r : Row) → RowsTo k start (record { rows = rows; position = p }) → IsRow p r
    → RowsTo (k + 1) start (record { rows = rows ++ r ∷ []; position = after_row p r })
row_more k start rows p r so_far is =
    chain_more AddsRow k start (record { rows = rows; position = p }) (record { rows = rows ++ r ∷ []; position = after_row p r }) so_far record { row = r; is = is; after = refl }

abbrev pub laid_at : List Row → Frame → ℤ → List InlineStart → List Stretch → State → Laid
laid_at rows fr from bs ss st = record { rows = rows; position = position_of fr from bs ss st }

pub same_laid : (rows : List Row) (st : State) (fr fr' : Frame) (from from' : ℤ) (bs bs' : List InlineStart) (ss ss' : List Stretch) → fr ≡ fr' → from ≡ from' → bs ≡ bs' → ss ≡ ss'
    → laid_at rows fr from bs ss st ≡ laid_at rows fr' from' bs' ss' st
same_laid rows st fr fr' from from' bs bs' ss ss' a b c d =
    λ i. record { rows = rows; position = record { frame = a i; from = b i; open_boxes = c i; rest = d i; state = st } }

pub filled_by : (p : Position) (s : Stretch) (headed filled after : State) (top : ℤ) (reach : Reach) (shifts : List Unit) (extent : Extent) (seen : Bool) (to : ℤ) → slice_get p.rest 0 ≡ Some s
    → Meets p.frame p.from p.rest 0 s.heads p.state headed → IsTop p.frame p.from p.rest headed.floats top → Takes p.frame top p.rest headed reach.count → Fills p.frame top p.rest reach.count headed filled
    → IsReach p.frame top p.rest filled.floats reach → IsShape (parts_of p reach.count) (shape_of shifts extent) → seen ≡ is_seen p reach.count → to ≡ (if seen then (top +ℤ height_of extent) else p.from)
    → IsFilled p (record { headed = headed; top = top; reach = reach; filled = filled; shifts = shifts; extent = extent; seen = seen; to = to; after = after })
filled_by p s headed filled after top reach shifts extent seen to is heads top_is takes fills reach_is shape_is seen_is to_is = record {
  first = s;
  is = is;
  heads = heads;
  top_is = top_is;
  count_is = takes;
  filled_is = fills;
  room_is = reach_is.room;
  pen_is = reach_is.pen_is.pen;
  shape_is = shape_is;
  seen_is = seen_is;
  to_is = to_is;
}

-- a line that stopped where it took: what stands is a front of what it would have
pub taking_stopped : FloatLaws → (p : Position) (s : Stretch) (headed : State) (top : ℤ) (left : List Placed) (r : Row) → slice_get p.rest 0 ≡ Some s → Meets p.frame p.from p.rest 0 s.heads p.state headed
    → IsTop p.frame p.from p.rest headed.floats top → ((n : ℕ) (after : State) → Takes p.frame top p.rest headed n → Fills p.frame top p.rest n headed after → IsFront left after.floats)
    → IsFilled p r → IsFront left r.filled.floats
taking_stopped one p s headed top left r is heads top_is stopped f =
    let es : f.first ≡ s = same_Some _ _ (sym f.is ∙ is) in
    let eh : r.headed ≡ headed = one_meets one.place p.frame p.from p.rest 0 s.heads p.state r.headed headed (subst (λ (t : Stretch). Meets p.frame p.from p.rest 0 t.heads p.state r.headed) es f.heads) heads in
    let et : r.top ≡ top = one_top p.frame p.from p.rest headed.floats r.top top (subst (λ (z : State). IsTop p.frame p.from p.rest z.floats r.top) eh f.top_is) top_is in
    let takes = subst (λ (z : State). Takes p.frame top p.rest z r.reach.count) eh (subst (λ (v : ℤ). Takes p.frame v p.rest r.headed r.reach.count) et f.count_is) in
    let fills = subst (λ (z : State). Fills p.frame top p.rest r.reach.count z r.filled) eh (subst (λ (v : ℤ). Fills p.frame v p.rest r.reach.count r.headed r.filled) et f.filled_is) in
    stopped r.reach.count r.filled takes fills

pub map_append_one : (xs : List Row) (r : Row) → map ended_of (xs ++ r ∷ []) ≡ map ended_of xs ++ ended_of r ∷ []
map_append_one [] r = refl
map_append_one (x ∷ xs) r = ap (λ (ys : List Ended). ended_of x ∷ ys) (map_append_one xs r)

-- what the code answers of the lines, with one line more
pub listed_more : (rows : List Row) (out : List Ended) (r : Row) (e : Ended) → map ended_of rows ≡ out → ended_of r ≡ e → map ended_of (rows ++ r ∷ []) ≡ out ++ e ∷ []
listed_more rows out r e so_far is = map_append_one rows r ∙ ap (λ (xs : List Ended). xs ++ ended_of r ∷ []) so_far ∙ ap (λ (x : Ended). out ++ x ∷ []) is
