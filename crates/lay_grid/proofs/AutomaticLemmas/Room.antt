-- Cells find room in the columns that they widen.
use Rattle.std.proofs.Common.{◌≡◌, ℕ, zero, suc, ◌+◌, ◌-◌, ◌<◌, ◌≤◌, ℤ, pos, ◌+ℤ◌, ◌-ℤ◌, ◌≤ℤ◌, Bool, true, false, cond, nat_lt, Option, List, [], ◌∷◌, length, refl, sym, ap, ◌∙◌, subst, arith}
use lib.IntN.{negsuc}
use Rattle.std.specs.Int.{int_max}
use Rattle.std.specs.List.{All}
use Rattle.std.proofs.lemmas.Int.{ints, clamps}
use Rattle.std.proofs.lemmas.Bool.{cond_above, lt-ltb}
use Rattle.std.proofs.lemmas.List.Elements.{All-cons, All-head, All-tail}
use Rattle.lay_units.specs.declared.length.Unit.{Unit}
use Rattle.lay_grid.specs.declared.automatic.bounds.Bound.{Bound}
use Rattle.lay_grid.specs.declared.automatic.bounds.GroupSpan.{GroupSpan}
use Rattle.lay_grid.specs.Columns.{from_zero, part_of}
use Rattle.lay_grid.specs.Shares.{own_at, own_width, width_at}
use Rattle.lay_grid.specs.Automatic.Own.{greatest, has_alone}
use Rattle.lay_grid.specs.Automatic.Spread.{AreWidened, IsWidened, added, found_in, lacking, spans, sum_over}
use Rattle.lay_grid.specs.Automatic.Bounds.{ArePaired, AreWidths, max_at, maximum_spans, min_at, minimum_spans}
use Rattle.lay_grid.specs.Automatic.Fit.{SpanFits}
use Rattle.lay_grid.specs.Automatic.Laws.{BoundsHaveRoom, HaveRoom, maximums_of, minimums_of}
use Rattle.lay_grid.proofs.AutomaticLemmas.Fits.{maximums_fit, minimums_fit}
use Rattle.lay_grid.proofs.AutomaticLemmas.Parts.{parts_from, parts_sum}
use Rattle.lay_grid.proofs.AutomaticLemmas.Sums.{same_widths}

-- what a cell adds to the k-th of its columns
pub added_in : (spacing : ℤ) (cell : GroupSpan) (before : List Unit) (k : ℕ) → k < cell.span
    → added spacing cell before (cell.column + k) ≡ part_of (lacking spacing cell before) cell.span k
added_in spacing cell before k less =
    let lack = lacking spacing cell before in
    let n : nat_lt (cell.column + k) (cell.column + cell.span) ≡ true = lt-ltb _ _ (omega (arith, less)) in
    let s : nat_lt (cell.column + k) (cell.column + cell.span) ≡ spans cell (cell.column + k) =
    cond_above {X = Bool} (cell.column + k) cell.column false _ _ (omega arith) refl in
    let e : (cell.column + k) - cell.column ≡ k = omega arith in
    ap (λ (b : Bool). cond b (part_of lack cell.span ((cell.column + k) - cell.column)) 0) (sym s ∙ n) ∙ ap (part_of lack cell.span) e

pub sums_more : (spacing : ℤ) (cell : GroupSpan) (before after : List Unit) → IsWidened spacing cell before after → cell.column + cell.span ≤ length before
    → (k m : ℕ) → k + m ≤ cell.span
    → sum_over after (cell.column + k) m
    ≡ (sum_over before (cell.column + k) m +ℤ pos (parts_from (lacking spacing cell before) cell.span k m))
sums_more spacing cell before after w inside k zero within = omega (arith, ints)
sums_more spacing cell before after w inside k (suc m) within =
    let a = w.each (cell.column + k) (omega (arith, inside, within)) in
    let p = added_in spacing cell before k (omega (arith, within)) in
    let e : (cell.column + k) + 1 ≡ cell.column + (k + 1) = omega arith in
    let x = ap (λ (c : ℕ). sum_over after c m) e in
    let y = ap (λ (c : ℕ). sum_over before c m) e in
    let h = sums_more spacing cell before after w inside (k + 1) m (omega (arith, within)) in
    omega (arith, ints, a, p, x, y, h)

from_zero_least : (z : ℤ) → z ≤ℤ pos (from_zero z)
from_zero_least (pos n) = omega (arith, ints)
from_zero_least (negsuc n) = omega (arith, ints)

-- a cell finds room once it has widened its columns
finds : (spacing : ℤ) (cell : GroupSpan) (before after : List Unit) → IsWidened spacing cell before after → SpanFits (length before) cell
    → cell.width.0 ≤ℤ found_in spacing cell after
finds spacing cell before after w fits =
    let e : cell.column + 0 ≡ cell.column = omega arith in
    let x = ap (λ (c : ℕ). sum_over after c cell.span) e in
    let y = ap (λ (c : ℕ). sum_over before c cell.span) e in
    let h = sums_more spacing cell before after w fits.inside 0 cell.span (omega arith) in
    let p = parts_sum (lacking spacing cell before) cell.span fits.some in
    let l = from_zero_least (cell.width.0 -ℤ found_in spacing cell before) in
    omega (arith, ints, x, y, h, p, l)

-- columns that are nowhere narrower
record AreWider (before after : List Unit) : Type 0 where
  pub as_many : length after ≡ length before
  pub each : (i : ℕ) → i < length before → width_at before i ≤ℤ width_at after i

wider_sum : (before after : List Unit) → AreWider before after → (column n : ℕ) → column + n ≤ length before
    → sum_over before column n ≤ℤ sum_over after column n
wider_sum before after w column zero inside = omega (arith, ints)
wider_sum before after w column (suc n) inside =
    let a = w.each column (omega (arith, inside)) in
    let h = wider_sum before after w (column + 1) n (omega (arith, inside)) in
    omega (arith, ints, a, h)

wider_found : (spacing : ℤ) (cell : GroupSpan) (before after : List Unit) → AreWider before after → SpanFits (length before) cell
    → cell.width.0 ≤ℤ found_in spacing cell before → cell.width.0 ≤ℤ found_in spacing cell after
wider_found spacing cell before after w fits room =
    let h = wider_sum before after w cell.column cell.span fits.inside in
    omega (arith, ints, room, h)

wider_same : (ws : List Unit) → AreWider ws ws
wider_same ws = record { as_many = refl; each = λ i less. omega (arith, ints) }

wider_then : (a b c : List Unit) → AreWider a b → AreWider b c → AreWider a c
wider_then a b c p q = record {
  as_many = q.as_many ∙ p.as_many;
  each = λ i less. let n = p.as_many in let x = p.each i less in let y = q.each i (omega (arith, n, less)) in omega (arith, ints, x, y);
}

wider_once : (spacing : ℤ) (cell : GroupSpan) (before after : List Unit) → IsWidened spacing cell before after → AreWider before after
wider_once spacing cell before after w = record {
  as_many = w.as_many;
  each = λ i less. let a = w.each i less in omega (arith, ints, a);
}

wider_all : (spacing : ℤ) (cells : List GroupSpan) (before after : List Unit) → AreWidened spacing cells before after → AreWider before after
wider_all spacing [] before after w = subst (AreWider before) w (wider_same before)
wider_all spacing (cell ∷ cells) before after w =
    wider_then before w.0 after (wider_once spacing cell before w.0 w.1) (wider_all spacing cells w.0 after w.2)

all_find : (spacing : ℤ) (cells : List GroupSpan) (before after : List Unit) → All (SpanFits (length before)) cells
    → AreWidened spacing cells before after → HaveRoom spacing cells after
all_find spacing [] before after fits w = λ i d less. absurd (omega (arith, less))
all_find spacing (cell ∷ cells) before after fits w =
    let f = All-head (SpanFits (length before)) cell cells fits in
    let n = w.1.as_many in
    let here = wider_found spacing cell w.0 after (wider_all spacing cells w.0 after w.2)
    (subst (λ (k : ℕ). SpanFits k cell) (sym n) f) (finds spacing cell before w.0 w.1 f) in
    All-cons (λ (c : GroupSpan). c.width.0 ≤ℤ found_in spacing c after) cell cells here
    (all_find spacing cells w.0 after (subst (λ (k : ℕ). All (SpanFits k) cells) (sym n) (All-tail (SpanFits (length before)) cell cells fits)) w.2)

all_wider : (spacing : ℤ) (cells : List GroupSpan) (before after : List Unit) → All (SpanFits (length before)) cells
    → AreWider before after → HaveRoom spacing cells before → HaveRoom spacing cells after
all_wider spacing cells before after fits w room = λ i d less. wider_found spacing _ before after w (fits i d less) (room i d less)

greatest_least : (least : ℤ) (cells : List GroupSpan) (i : ℕ) → least ≤ℤ greatest least cells i
greatest_least least [] i = omega (arith, ints)
greatest_least least (cell ∷ cells) i = from (has_alone cell i) (greatest_least least cells i)
  where
    from : (b : Bool) → least ≤ℤ greatest least cells i
        → least ≤ℤ cond b (int_max cell.width.0 (greatest least cells i)) (greatest least cells i)
    from true h = omega (arith, ints, clamps, h)
    from false h = h

-- what stands for the columns of a list of cells
record HaveAll (given : List (Option Unit)) (spacing : ℤ) (cells groups : List GroupSpan) (widths : List Unit) : Type 0 where
  pub as_many : length widths ≡ length given
  pub own : (i : ℕ) → i < length given → own_width (own_at given i) ≤ℤ width_at widths i
  pub cells-find : HaveRoom spacing cells widths
  pub groups-find : HaveRoom spacing groups widths

have_all : (given : List (Option Unit)) (spacing : ℤ) (cells groups : List GroupSpan) (widths : List Unit) → All (SpanFits (length given)) cells
    → All (SpanFits (length given)) groups → AreWidths given spacing cells groups widths → HaveAll given spacing cells groups widths
have_all given spacing cells groups widths fits group-fits are =
    let n = are.are_own.as_many in
    let a = wider_all spacing cells are.own are.by_cells are.after_cells in
    let b = wider_all spacing groups are.by_cells widths are.after_groups in
    let c = wider_then are.own are.by_cells widths a b in
    let m = a.as_many ∙ n in
    record {
      as_many = c.as_many ∙ n;
      own = λ i less. let g = greatest_least (own_width (own_at given i)) cells i in let o = are.are_own.own i less in
          let w = c.each i (omega (arith, n, less)) in omega (arith, ints, g, o, w);
      cells-find = all_wider spacing cells are.by_cells widths (subst (λ (k : ℕ). All (SpanFits k) cells) (sym m) fits) b
          (all_find spacing cells are.own are.by_cells (subst (λ (k : ℕ). All (SpanFits k) cells) (sym n) fits) are.after_cells);
      groups-find = all_find spacing groups are.by_cells widths (subst (λ (k : ℕ). All (SpanFits k) groups) (sym m) group-fits) are.after_groups;
    }

-- bounds as lists of their minimums and maximums
minimums_length : (bounds : List Bound) → length (minimums_of bounds) ≡ length bounds
minimums_length [] = refl
minimums_length (bound ∷ bounds) = let h = minimums_length bounds in omega (arith, h)

maximums_length : (bounds : List Bound) → length (maximums_of bounds) ≡ length bounds
maximums_length [] = refl
maximums_length (bound ∷ bounds) = let h = maximums_length bounds in omega (arith, h)

pub minimums_at : (bounds : List Bound) (i : ℕ) → i < length bounds → width_at (minimums_of bounds) i ≡ min_at bounds i
minimums_at [] i less = absurd (omega (arith, less))
minimums_at (bound ∷ bounds) zero less = refl
minimums_at (bound ∷ bounds) (suc i) less = minimums_at bounds i (omega (arith, less))

maximums_at : (bounds : List Bound) (i : ℕ) → i < length bounds → width_at (maximums_of bounds) i ≡ max_at bounds i
maximums_at [] i less = absurd (omega (arith, less))
maximums_at (bound ∷ bounds) zero less = refl
maximums_at (bound ∷ bounds) (suc i) less = maximums_at bounds i (omega (arith, less))

minimums_same : (minimums maximums : List Unit) (bounds : List Bound) → ArePaired minimums maximums bounds → minimums ≡ minimums_of bounds
minimums_same minimums maximums bounds p =
    let n = p.as_many in
    same_widths minimums (minimums_of bounds) (sym n ∙ sym (minimums_length bounds)) (λ i less. sym (p.min i less) ∙ sym
    (minimums_at bounds i (omega (arith, n, less))))

maximums_wider : (minimums maximums : List Unit) (bounds : List Bound) → length maximums ≡ length minimums → ArePaired minimums maximums bounds
    → AreWider maximums (maximums_of bounds)
maximums_wider minimums maximums bounds e p =
    let n = p.as_many in let l = maximums_length bounds in
    record {
      as_many = omega (arith, l, n, e);
      each = λ i less. let m = p.max i (omega (arith, e, less)) in let a = maximums_at bounds i (omega (arith, n, e, less)) in
          omega (arith, ints, clamps, m, a);
    }

pub bounds_have_room_lem : BoundsHaveRoom
bounds_have_room_lem i bounds fits are =
    let a = have_all i.given i.spacing.0 (minimum_spans i.cells) i.groups are.minimums (minimums_fit (length i.given) i.cells fits.cells) fits.groups
    are.narrow in
    let b = have_all i.given i.spacing.0 (maximum_spans i.cells) [] are.maximums (maximums_fit (length i.given) i.cells fits.cells)
    (λ j d absent. absurd (omega (arith, absent))) are.wide in
    let m = minimums_same are.minimums are.maximums bounds are.paired in
    let na = a.as_many in let nb = b.as_many in
    let w = maximums_wider are.minimums are.maximums bounds (omega (arith, na, nb)) are.paired in
    record {
      given = λ k less. let o = a.own k less in let e = are.paired.min k (omega (arith, na, less)) in omega (arith, ints, o, e);
      order = λ k less. let e = are.paired.min k (omega (arith, na, less)) in let f = are.paired.max k (omega (arith, na, less)) in
          omega (arith, ints, clamps, e, f);
      minimums = subst (HaveRoom i.spacing.0 (minimum_spans i.cells)) m a.cells-find;
      maximums = all_wider i.spacing.0 (maximum_spans i.cells) are.maximums (maximums_of bounds)
          (subst (λ (k : ℕ). All (SpanFits k) (maximum_spans i.cells)) (sym nb) (maximums_fit (length i.given) i.cells fits.cells)) w b.cells-find;
      groups = subst (HaveRoom i.spacing.0 i.groups) m a.groups-find;
    }
