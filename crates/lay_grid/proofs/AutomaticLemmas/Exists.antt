-- Columns have bounds and widths.
use Rattle.std.proofs.Common.{◌≡◌, ℕ, zero, suc, ◌+◌, ◌-◌, ◌<◌, min, ℤ, pos, ◌+ℤ◌, ◌-ℤ◌, Option, List, [], ◌∷◌, ◌++◌, length, refl, ap, ◌∙◌, arith}
use Rattle.std.specs.Int.{int_max}
use Rattle.std.proofs.lemmas.Int.{ints, by_lt_z}
use Rattle.lay_units.specs.declared.length.Unit.{Unit}
use Rattle.lay_grid.specs.declared.automatic.bounds.Bound.{Bound}
use Rattle.lay_grid.specs.declared.automatic.bounds.GroupSpan.{GroupSpan}
use Rattle.lay_grid.specs.Columns.{from_zero, part_of}
use Rattle.lay_grid.specs.Shares.{own_at, own_width, width_at}
use Rattle.lay_grid.specs.Automatic.Own.{AreOwn, greatest}
use Rattle.lay_grid.specs.Automatic.Spread.{AreWidened, IsWidened, added}
use Rattle.lay_grid.specs.Automatic.Bounds.{ArePaired, AreWidths, bound_at, max_at, maximum_spans, min_at, minimum_spans}
use Rattle.lay_grid.specs.Automatic.AutoColumns.{AreBeyondMaximums, AreInProportion, beyond_minimums, most_left_over, share_at, sum_max}
use Rattle.lay_grid.specs.Automatic.Laws.{ColumnsHaveBounds, ColumnsHaveWidths}
use Rattle.lay_grid.specs.Automatic.Pass.Steps.{SharedTo, shares_from}
use Rattle.lay_grid.proofs.AutomaticLemmas.ShareSteps.{shared_begin, shared_end, shared_more}

-- n widths by their places, from the k-th on
abbrev listed : (ℕ → ℤ) → ℕ → ℕ → List Unit
listed f k zero = []
listed f k (suc n) = record { 0 = f k } ∷ listed f (k + 1) n

listed_length : (f : ℕ → ℤ) (k n : ℕ) → length (listed f k n) ≡ n
listed_length f k zero = refl
listed_length f k (suc n) = let h = listed_length f (k + 1) n in omega (arith, h)

listed_from : (f : ℕ → ℤ) (k n i : ℕ) → i < n → width_at (listed f k n) i ≡ f (k + i)
listed_from f k zero i less = absurd (omega (arith, less))
listed_from f k (suc n) zero less = let e : k ≡ k + zero = omega arith in ap f e
listed_from f k (suc n) (suc i) less =
    let e : (k + 1) + i ≡ k + suc i = omega arith in listed_from f (k + 1) n i (omega (arith, less)) ∙ ap f e

listed_at : (f : ℕ → ℤ) (n i : ℕ) → i < n → width_at (listed f 0 n) i ≡ f i
listed_at f n i less = let e : 0 + i ≡ i = omega arith in listed_from f 0 n i less ∙ ap f e

own_exists : (given : List (Option Unit)) (cells : List GroupSpan) → (widths : List Unit) × AreOwn given cells widths
own_exists given cells =
    let f : ℕ → ℤ = λ i. greatest (own_width (own_at given i)) cells i in
    (listed f 0 (length given), record { as_many = listed_length f 0 (length given); own = λ i less. listed_at f (length given) i less })

one_exists : (spacing : ℤ) (cell : GroupSpan) (before : List Unit) → (after : List Unit) × IsWidened spacing cell before after
one_exists spacing cell before =
    let f : ℕ → ℤ = λ i. width_at before i +ℤ pos (added spacing cell before i) in
    (listed f 0 (length before), record { as_many = listed_length f 0 (length before); each = λ i less. listed_at f (length before) i less })

all_exist : (spacing : ℤ) (cells : List GroupSpan) (before : List Unit) → (after : List Unit) × AreWidened spacing cells before after
all_exist spacing [] before = (before, refl)
all_exist spacing (cell ∷ cells) before =
    let a = one_exists spacing cell before in let b = all_exist spacing cells a.0 in (b.0, (a.0, a.1, b.1))

widths_exist : (given : List (Option Unit)) (spacing : ℤ) (cells groups : List GroupSpan) → (widths : List Unit)
    × AreWidths given spacing cells groups widths
widths_exist given spacing cells groups =
    let a = own_exists given cells in let b = all_exist spacing cells a.0 in let c = all_exist spacing groups b.0 in
    (c.0, record { own = a.0; by_cells = b.0; are_own = a.1; after_cells = b.1; after_groups = c.1 })

-- n pairs, from the k-th on
abbrev pairs : (ℕ → ℤ) → (ℕ → ℤ) → ℕ → ℕ → List Bound
pairs f g k zero = []
pairs f g k (suc n) = record { min = record { 0 = f k }; max = record { 0 = g k } } ∷ pairs f g (k + 1) n

pairs_length : (f g : ℕ → ℤ) (k n : ℕ) → length (pairs f g k n) ≡ n
pairs_length f g k zero = refl
pairs_length f g k (suc n) = let h = pairs_length f g (k + 1) n in omega (arith, h)

pairs_min : (f g : ℕ → ℤ) (k n i : ℕ) → i < n → min_at (pairs f g k n) i ≡ f (k + i)
pairs_min f g k zero i less = absurd (omega (arith, less))
pairs_min f g k (suc n) zero less = let e : k ≡ k + zero = omega arith in ap f e
pairs_min f g k (suc n) (suc i) less =
    let e : (k + 1) + i ≡ k + suc i = omega arith in pairs_min f g (k + 1) n i (omega (arith, less)) ∙ ap f e

pairs_max : (f g : ℕ → ℤ) (k n i : ℕ) → i < n → max_at (pairs f g k n) i ≡ g (k + i)
pairs_max f g k zero i less = absurd (omega (arith, less))
pairs_max f g k (suc n) zero less = let e : k ≡ k + zero = omega arith in ap g e
pairs_max f g k (suc n) (suc i) less =
    let e : (k + 1) + i ≡ k + suc i = omega arith in pairs_max f g (k + 1) n i (omega (arith, less)) ∙ ap g e

paired_exist : (minimums maximums : List Unit) → (bounds : List Bound) × ArePaired minimums maximums bounds
paired_exist minimums maximums =
    let f : ℕ → ℤ = λ i. width_at minimums i in
    let g : ℕ → ℤ = λ i. int_max (width_at maximums i) (width_at minimums i) in
    let n = length minimums in (
      pairs f g 0 n,
      record {
        as_many = pairs_length f g 0 n;
        min = λ i less. let e : 0 + i ≡ i = omega arith in pairs_min f g 0 n i less ∙ ap f e;
        max = λ i less. let e : 0 + i ≡ i = omega arith in pairs_max f g 0 n i less ∙ ap g e;
      },
    )

pub columns_have_bounds_lem : ColumnsHaveBounds
columns_have_bounds_lem i =
    let a = widths_exist i.given i.spacing.0 (minimum_spans i.cells) i.groups in
    let b = widths_exist i.given i.spacing.0 (maximum_spans i.cells) [] in
    let c = paired_exist a.0 b.0 in
    (c.0, record { minimums = a.0; maximums = b.0; narrow = a.1; wide = b.1; paired = c.1 })

-- the columns that are left have widths too
go_on : (bounds : List Bound) (space : ℤ) (more n m : ℕ) (widths : List Unit) → n + m ≡ length bounds → SharedTo bounds space more n widths
    → (all : List Unit) × AreInProportion bounds space all
go_on bounds space more n zero widths e to = (widths, shared_end bounds space more n widths (omega (arith, e)) (omega (arith, e)) to)
go_on bounds space more n (suc m) widths e to =
    let unit = min more (most_left_over (bound_at bounds n)) in
    let w : Unit = record { 0 = min_at bounds n +ℤ pos (share_at bounds space n + unit) } in
    go_on bounds space (more - unit) (n + 1) m (widths ++ w ∷ []) (omega (arith, e))
    (shared_more bounds space more unit n widths w (omega (arith, e)) refl refl to)

beyond_exist : (bounds : List Bound) (space : ℤ) → (widths : List Unit) × AreBeyondMaximums bounds space widths
beyond_exist bounds space =
    let f : ℕ → ℤ = λ i. max_at bounds i +ℤ pos (part_of (from_zero (space -ℤ sum_max bounds)) (length bounds) i) in
    (listed f 0 (length bounds), record { as_many = listed_length f 0 (length bounds); each = λ i less. listed_at f (length bounds) i less })

pub columns_have_widths_lem : ColumnsHaveWidths
columns_have_widths_lem bounds space least = by_lt_z (sum_max bounds) space
    (λ more. let h = beyond_exist bounds space in
    (h.0, record { within = λ within. absurd (omega (arith, ints, more, within)); beyond = λ again. h.1 }))
    (λ within. let h = go_on bounds space (beyond_minimums bounds space - shares_from bounds space 0) 0 (length bounds) [] (omega arith)
    (shared_begin bounds space least within) in
    (h.0, record { within = λ again. h.1; beyond = λ more. absurd (omega (arith, ints, more, within)) }))
