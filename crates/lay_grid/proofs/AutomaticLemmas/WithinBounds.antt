-- Columns of which nothing asks for more than so much have no greater bounds.
use Rattle.std.proofs.Common.{◌≡◌, ◌⊎◌, inl, inr, ℕ, ◌+◌, ◌-◌, ◌^◌, ◌<◌, ◌≤◌, ℤ, pos, ◌+ℤ◌, ◌≤ℤ◌, Bool, true, false, cond, nat_lt, Option, Some, None, List, [], ◌∷◌, length, slice_index_or, refl, sym, ap, ◌∙◌, subst, arith}
use Rattle.std.specs.Int.{int_max}
use Rattle.std.specs.List.{All}
use Rattle.std.proofs.lemmas.Int.{ints, clamps}
use Rattle.std.proofs.lemmas.Bool.{cases_lt, cond_below, cond_above}
use Rattle.std.proofs.lemmas.List.{get_or_default}
use Rattle.std.proofs.lemmas.List.Elements.{All-cons, All-head, All-tail}
use Rattle.lay_units.specs.declared.length.Unit.{Unit}
use Rattle.lay_units.specs.Units.{IsSize}
use Rattle.lay_grid.specs.declared.automatic.bounds.GroupSpan.{GroupSpan}
use Rattle.lay_grid.specs.declared.automatic.bounds.SpanCell.{SpanCell}
use Rattle.lay_grid.specs.Columns.{part_of}
use Rattle.lay_grid.specs.Shares.{own_at, own_width, width_at}
use Rattle.lay_grid.specs.Within.{IsUpTo}
use Rattle.lay_grid.specs.Automatic.Sizes.{AreSizes, MayBeSize}
use Rattle.lay_grid.specs.Automatic.Own.{greatest, has_alone}
use Rattle.lay_grid.specs.Automatic.Spread.{AreWidened, IsWidened, added, lacking, spans}
use Rattle.lay_grid.specs.Automatic.Bounds.{AreWidths, bound_at, maximum_spans, minimum_spans}
use Rattle.lay_grid.specs.Automatic.Fit.{SpanFits}
use Rattle.lay_grid.specs.Automatic.Laws.{AskUpTo, BoundsAreSizes, BoundsAreWithin, IsBoundUpTo}
use Rattle.lay_grid.proofs.AutomaticLemmas.Fits.{maximums_fit, minimums_fit}
use Rattle.lay_grid.proofs.AutomaticLemmas.SpreadSteps.{part_fits}

size_most : (v : ℤ) → IsSize v → v ≤ℤ pos (2 ^ 62 - 1)
size_most v size = let less = size.1 in omega (arith, ints, less)

-- columns that are sizes and no wider than so much
abbrev pub Up : ℕ → List Unit → Type 0
Up most ws = (i : ℕ) → i < length ws → (IsSize (width_at ws i)) × (width_at ws i ≤ℤ pos most)

pub sizes_up : (most : ℕ) (ws : List Unit) → Up most ws → AreSizes ws
sizes_up most ws up i d less = subst (λ (u : Unit). IsSize u.0) (get_or_default ws i _ d less) (up i less).0

-- a cell widens them
widened_up : (most : ℕ) (spacing : ℤ) (cell : GroupSpan) (before after : List Unit) → pos 0 ≤ℤ spacing → SpanFits (length before) cell
    → cell.width.0 ≤ℤ pos most → Up most before → IsWidened spacing cell before after → Up most after
widened_up most spacing cell before after up fits width old w i less =
    let a = w.as_many in
    let before-i : i < length before = omega (arith, a, less) in
    from (old i before-i) (w.each i before-i) (cases_lt i cell.column) (cases_lt i (cell.column + cell.span))
  where
    lack : ℕ
    lack = lacking spacing cell before

    kept : IsSize (width_at before i) × (width_at before i ≤ℤ pos most) → added spacing cell before i ≡ 0
        → width_at after i ≡ (width_at before i +ℤ pos (added spacing cell before i))
        → IsSize (width_at after i) × (width_at after i ≤ℤ pos most)
    kept o z e =
        let o0 = o.0.0 in let o1 = o.0.1 in let o2 = o.1 in
        ((omega (arith, ints, o0, z, e), omega (arith, ints, o1, z, e)), omega (arith, ints, o2, z, e))

    from : IsSize (width_at before i) × (width_at before i ≤ℤ pos most)
        → width_at after i ≡ (width_at before i +ℤ pos (added spacing cell before i))
        → ((i < cell.column) ⊎ (cell.column ≤ i)) → ((i < cell.column + cell.span) ⊎ (cell.column + cell.span ≤ i))
        → IsSize (width_at after i) × (width_at after i ≤ℤ pos most)
    from o e (inl left) end =
        let s : false ≡ spans cell i = cond_below {X = Bool} i cell.column false (nat_lt i (cell.column + cell.span)) left in
        kept o (ap (λ (b : Bool). cond b (part_of lack cell.span (i - cell.column)) 0) (sym s)) e
    from o e (inr not) (inr right) =
        let n : false ≡ nat_lt i (cell.column + cell.span) = cond_above {X = Bool} i (cell.column + cell.span) true false false right refl ∙ same _ in
        let s : nat_lt i (cell.column + cell.span) ≡ spans cell i = cond_above {X = Bool} i cell.column false _ _ not refl in
        kept o (ap (λ (b : Bool). cond b (part_of lack cell.span (i - cell.column)) 0) (sym (n ∙ s))) e
      where
        same : (b : Bool) → cond b true false ≡ b
        same true = refl
        same false = refl
    from o e (inr not) (inl inside) =
        let n : true ≡ nat_lt i (cell.column + cell.span) = cond_below {X = Bool} i (cell.column + cell.span) true false inside ∙ same _ in
        let s : nat_lt i (cell.column + cell.span) ≡ spans cell i = cond_above {X = Bool} i cell.column false _ _ not refl in
        let p : part_of lack cell.span (i - cell.column) ≡ added spacing cell before i =
        ap (λ (b : Bool). cond b (part_of lack cell.span (i - cell.column)) 0) (n ∙ s) in
        let c : width_at before (cell.column + (i - cell.column)) ≡ width_at before i = ap (width_at before) (omega (arith, not)) in
        let o0 = o.0.0 in let o1 = o.0.1 in let o2 = o.1 in let w1 = fits.width.1 in
        let sizes = sizes_up most before old in
        let a = part_fits spacing (pos (2 ^ 62 - 1)) cell before (i - cell.column) lack up sizes fits (omega (arith, not, inside)) refl
        (omega (arith, ints, c, o1)) (omega (arith, ints, w1)) in
        let b = part_fits spacing (pos most) cell before (i - cell.column) lack up sizes fits (omega (arith, not, inside)) refl
        (omega (arith, ints, c, o2)) width in
        ((omega (arith, ints, o0, p, e), omega (arith, ints, a, c, p, e)), omega (arith, ints, b, c, p, e))
      where
        same : (b : Bool) → cond b true false ≡ b
        same true = refl
        same false = refl

all_widened_up : (most : ℕ) (spacing : ℤ) (cells : List GroupSpan) (before after : List Unit) → pos 0 ≤ℤ spacing
    → All (SpanFits (length before)) cells → All (λ (cell : GroupSpan). cell.width.0 ≤ℤ pos most) cells
    → Up most before → AreWidened spacing cells before after → (Up most after) × (length after ≡ length before)
all_widened_up most spacing [] before after up fits widths old w =
    (subst (Up most) w old, ap length (sym w))
all_widened_up most spacing (cell ∷ cells) before after up fits widths old w =
    let n = widened_up most spacing cell before w.0 up (All-head (SpanFits (length before)) cell cells fits)
    (All-head (λ (c : GroupSpan). c.width.0 ≤ℤ pos most) cell cells widths) old w.1 in
    let h = all_widened_up most spacing cells w.0 after up
    (subst (λ (k : ℕ). All (SpanFits k) cells) (sym w.1.as_many) (All-tail (SpanFits (length before)) cell cells fits))
    (All-tail (λ (c : GroupSpan). c.width.0 ≤ℤ pos most) cell cells widths) n w.2 in
    (h.0, h.1 ∙ w.1.as_many)

-- the columns' own widths
greatest_up : (most columns : ℕ) (least : ℤ) (cells : List GroupSpan) (i : ℕ) → IsSize least → least ≤ℤ pos most
    → All (SpanFits columns) cells → All (λ (cell : GroupSpan). cell.width.0 ≤ℤ pos most) cells
    → IsSize (greatest least cells i) × (greatest least cells i ≤ℤ pos most)
greatest_up most columns least [] i size up fits widths = (size, up)
greatest_up most columns least (cell ∷ cells) i size up fits widths = from (greatest_up most columns least cells i size up
    (All-tail (SpanFits columns) cell cells fits) (All-tail (λ (c : GroupSpan). c.width.0 ≤ℤ pos most) cell cells widths)) (has_alone cell i)
  where
    from : IsSize (greatest least cells i) × (greatest least cells i ≤ℤ pos most) → (b : Bool) → IsSize (cond b (int_max cell.width.0 (greatest least cells i)) (greatest least cells i))
        × (cond b (int_max cell.width.0 (greatest least cells i)) (greatest least cells i) ≤ℤ pos most)
    from h false = h
    from h true =
        let f = (All-head (SpanFits columns) cell cells fits).width in let f0 = f.0 in let f1 = f.1 in
        let w = All-head (λ (c : GroupSpan). c.width.0 ≤ℤ pos most) cell cells widths in
        let h0 = h.0.0 in let h1 = h.0.1 in let h2 = h.1 in
        ((omega (arith, ints, clamps, f0, h0), omega (arith, ints, clamps, f1, h1)), omega (arith, ints, clamps, w, h2))

own_size : (own : Option Unit) → MayBeSize own → IsSize (own_width own)
own_size None size = (omega (arith, ints), omega (arith, ints))
own_size (Some width) size = size

-- what the columns of a list of cells come to
pub widths_up : (most : ℕ) (given : List (Option Unit)) (spacing : ℤ) (cells groups : List GroupSpan) (widths : List Unit) → pos 0 ≤ℤ spacing
    → All MayBeSize given → All (λ (own : Option Unit). IsUpTo most (own_width own)) given
    → All (SpanFits (length given)) cells → All (λ (cell : GroupSpan). cell.width.0 ≤ℤ pos most) cells
    → All (SpanFits (length given)) groups → All (λ (cell : GroupSpan). cell.width.0 ≤ℤ pos most) groups
    → AreWidths given spacing cells groups widths → (Up most widths) × (length widths ≡ length given)
widths_up most given spacing cells groups widths up sizes given-up fits cells-up group-fits groups-up are =
    let n = are.are_own.as_many in
    let own : Up most are.own = λ i less.
    let at : i < length given = omega (arith, n, less) in
    let g = greatest_up most (length given) (own_width (own_at given i)) cells i (own_size (own_at given i) (sizes i None at))
    (given-up i None at).1 fits cells-up in
    subst (λ (v : ℤ). IsSize v × (v ≤ℤ pos most)) (sym (are.are_own.own i at)) g in
    let a = all_widened_up most spacing cells are.own are.by_cells up (subst (λ (k : ℕ). All (SpanFits k) cells) (sym n) fits) cells-up own
    are.after_cells in
    let m = a.1 ∙ n in
    let b = all_widened_up most spacing groups are.by_cells widths up (subst (λ (k : ℕ). All (SpanFits k) groups) (sym m) group-fits) groups-up a.0
    are.after_groups in
    (b.0, b.1 ∙ m)

minimums_ask : (most : ℕ) (cells : List SpanCell) → All (λ (cell : SpanCell). cell.min.0 ≤ℤ pos most) cells
    → All (λ (cell : GroupSpan). cell.width.0 ≤ℤ pos most) (minimum_spans cells)
minimums_ask most [] up = λ i d less. absurd (omega (arith, less))
minimums_ask most (cell ∷ cells) up = All-cons (λ (c : GroupSpan). c.width.0 ≤ℤ pos most) _ (minimum_spans cells)
    (All-head (λ (c : SpanCell). c.min.0 ≤ℤ pos most) cell cells up)
    (minimums_ask most cells (All-tail (λ (c : SpanCell). c.min.0 ≤ℤ pos most) cell cells up))

maximums_ask : (most : ℕ) (cells : List SpanCell) → All (λ (cell : SpanCell). cell.max.0 ≤ℤ pos most) cells
    → All (λ (cell : GroupSpan). cell.width.0 ≤ℤ pos most) (maximum_spans cells)
maximums_ask most [] up = λ i d less. absurd (omega (arith, less))
maximums_ask most (cell ∷ cells) up = All-cons (λ (c : GroupSpan). c.width.0 ≤ℤ pos most) _ (maximum_spans cells)
    (All-head (λ (c : SpanCell). c.max.0 ≤ℤ pos most) cell cells up)
    (maximums_ask most cells (All-tail (λ (c : SpanCell). c.max.0 ≤ℤ pos most) cell cells up))

pub bounds_are_within_lem : BoundsAreWithin
bounds_are_within_lem i most bounds fits ask are k d less =
    let mins = widths_up most i.given i.spacing.0 (minimum_spans i.cells) i.groups are.minimums fits.spacing.0 fits.given ask.given
    (minimums_fit (length i.given) i.cells fits.cells) (minimums_ask most i.cells ask.minimums) fits.groups ask.groups are.narrow in
    let maxs = widths_up most i.given i.spacing.0 (maximum_spans i.cells) [] are.maximums fits.spacing.0 fits.given ask.given
    (maximums_fit (length i.given) i.cells fits.cells) (maximums_ask most i.cells ask.maximums) (λ j e absent. absurd (omega (arith, absent)))
    (λ j e absent. absurd (omega (arith, absent))) are.wide in
    let n = are.paired.as_many in let a = mins.1 in let b = maxs.1 in
    let at : k < length are.minimums = omega (arith, n, less) in
    let x = mins.0 k at in let y = maxs.0 k (omega (arith, a, b, at)) in
    let x0 = x.0.0 in let x1 = x.1 in let y1 = y.1 in
    let e = are.paired.min k at in let f = are.paired.max k at in
    let here : IsBoundUpTo most (bound_at bounds k) = record {
      min = omega (arith, ints, e, x0);
      order = omega (arith, ints, clamps, e, f);
      max = omega (arith, ints, clamps, e, f, x1, y1);
    } in
    subst (IsBoundUpTo most) (get_or_default bounds k _ d less) here

-- and so all bounds are sizes
most_up : (given : List (Option Unit)) → All MayBeSize given → All (λ (own : Option Unit). IsUpTo (2 ^ 62 - 1) (own_width own)) given
most_up [] sizes = λ i d less. absurd (omega (arith, less))
most_up (own ∷ given) sizes =
    let here = own_size own (All-head MayBeSize own given sizes) in
    All-cons (λ (o : Option Unit). IsUpTo (2 ^ 62 - 1) (own_width o)) own given (here.0, size_most (own_width own) here)
    (most_up given (All-tail MayBeSize own given sizes))

pub bounds_are_sizes_lem : BoundsAreSizes
bounds_are_sizes_lem i bounds fits are =
    let ask : AskUpTo i (2 ^ 62 - 1) = record {
      given = most_up i.given fits.given;
      minimums = λ k d less. size_most (slice_index_or i.cells k d).min.0 (fits.cells k d less).min;
      maximums = λ k d less. size_most (slice_index_or i.cells k d).max.0 (fits.cells k d less).max;
      groups = λ k d less. size_most (slice_index_or i.groups k d).width.0 (fits.groups k d less).width;
    } in
    let within = bounds_are_within_lem i (2 ^ 62 - 1) bounds fits ask are in
    λ k d less. (let at = within k d less in record {
      min = at.min;
      order = at.order;
      max = (let m = at.max in omega (arith, ints, m));
    })
