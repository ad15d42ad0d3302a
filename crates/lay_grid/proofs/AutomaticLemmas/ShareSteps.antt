-- Columns that share in proportion, column by column.
use Rattle.std.proofs.Common.{◌≡◌, ◌⊎◌, inl, inr, ℕ, zero, suc, ◌+◌, ◌-◌, ◌*◌, ◌<◌, ◌≤◌, ◌/◌, min, ℤ, pos, ◌+ℤ◌, ◌-ℤ◌, ◌≤ℤ◌, ◌<ℤ◌, List, [], ◌∷◌, ◌++◌, length, drop, get_or, refl, sym, ap, ◌∙◌, subst, below_more, arith}
use lib.IntN.{negsuc}
use Rattle.std.specs.Int.{int_max}
use Rattle.std.proofs.lemmas.Int.{ints}
use Rattle.std.proofs.lemmas.Bool.{cases_lt, cond_below, cond_above}
use Rattle.std.proofs.lemmas.List.{drop_more, drop_all, get_or_append_left, get_or_push, length_push}
use Rattle.std.proofs.lemmas.List.Elements.{All-head, All-tail}
use Rattle.std.proofs.Math.Nat.{div-zero, mul-div-le, lt-div-mul-add, le_of_mul-le-mul_left}
use Rattle.lay_units.specs.declared.length.Unit.{Unit}
use Rattle.lay_grid.specs.declared.automatic.bounds.Bound.{Bound}
use Rattle.lay_grid.specs.Columns.{from_zero, part_of}
use Rattle.lay_grid.specs.Shares.{sum_of, width_at}
use Rattle.lay_grid.specs.Automatic.Bounds.{bound_at, max_at, min_at}
use Rattle.lay_grid.specs.Automatic.AutoColumns.{AreInProportion, beyond_minimums, left_over_at, most_left_over, most_left_over_at, room, share_of, share_at, sum_max, sum_min, sum_room}
use Rattle.lay_grid.specs.Automatic.Fit.{BoundFits}
use Rattle.lay_grid.specs.Automatic.Pass.Steps.{SharedTo, shares_from, sum_most, sum_shares}
use Rattle.std.specs.List.{All}

pub sum_push : (widths : List Unit) (w : Unit) → sum_of (widths ++ w ∷ []) ≡ (sum_of widths +ℤ w.0)
sum_push [] w = omega (arith, ints)
sum_push (v ∷ widths) w = let h = sum_push widths w in omega (arith, ints, h)

pub at_old : (widths : List Unit) (w : Unit) (i : ℕ) → i < length widths → width_at (widths ++ w ∷ []) i ≡ width_at widths i
at_old widths w i lt = ap (λ (u : Unit). u.0) (get_or_append_left widths (w ∷ []) _ i lt)

pub at_new : (widths : List Unit) (w : Unit) (n : ℕ) → length widths ≡ n → width_at (widths ++ w ∷ []) n ≡ w.0
at_new widths w n e = ap (λ (u : Unit). u.0) (get_or_push widths w _ n e)

-- the room of a column
pub from_zero_is : (z : ℤ) → pos 0 ≤ℤ z → pos (from_zero z) ≡ z
from_zero_is (pos n) up = refl
from_zero_is (negsuc n) up = absurd (omega (arith, ints, up))

pub room_is : (bound : Bound) → BoundFits bound → pos (room bound) ≡ (bound.max.0 -ℤ bound.min.0)
room_is bound fits = let o = fits.order in from_zero_is (bound.max.0 -ℤ bound.min.0) (omega (arith, ints, o))

pub rooms_are : (bounds : List Bound) → All BoundFits bounds → pos (sum_room bounds) ≡ (sum_max bounds -ℤ sum_min bounds)
rooms_are [] fits = omega (arith, ints)
rooms_are (bound ∷ bounds) fits =
    let a = room_is bound (All-head BoundFits bound bounds fits) in
    let h = rooms_are bounds (All-tail BoundFits bound bounds fits) in
    omega (arith, ints, a, h)

pub room_below : (bounds : List Bound) (i : ℕ) (d : Bound) → i < length bounds → room (get_or bounds i d) ≤ sum_room bounds
room_below [] i d less = absurd (omega (arith, less))
room_below (bound ∷ bounds) zero d less = omega arith
room_below (bound ∷ bounds) (suc i) d less = let h = room_below bounds i d (omega (arith, less)) in omega (arith, h)

-- and where a maximum is below its minimum there is no less
pub at_least : (z : ℤ) → z ≤ℤ pos (from_zero z)
at_least (pos n) = omega (arith, ints)
at_least (negsuc n) = omega (arith, ints)

pub rooms_hold : (bounds : List Bound) → (sum_max bounds -ℤ sum_min bounds) ≤ℤ pos (sum_room bounds)
rooms_hold [] = omega (arith, ints)
rooms_hold (bound ∷ bounds) =
    let a = at_least (bound.max.0 -ℤ bound.min.0) in
    let h = rooms_hold bounds in
    omega (arith, ints, a, h)

pub minimums_up : (bounds : List Bound) → All BoundFits bounds → pos 0 ≤ℤ sum_min bounds
minimums_up [] fits = omega (arith, ints)
minimums_up (bound ∷ bounds) fits =
    let a = (All-head BoundFits bound bounds fits).min in
    let h = minimums_up bounds (All-tail BoundFits bound bounds fits) in
    omega (arith, ints, a, h)

pub minimums_up_from : (bounds : List Bound) (n : ℕ) → All BoundFits bounds → pos 0 ≤ℤ sum_min (drop n bounds)
minimums_up_from bounds zero fits = minimums_up bounds fits
minimums_up_from [] (suc n) fits = omega (arith, ints)
minimums_up_from (bound ∷ bounds) (suc n) fits = minimums_up_from bounds n (All-tail BoundFits bound bounds fits)

-- shares together are no more than what is shared
shares_below : (rest rooms : ℕ) (bounds : List Bound) → rooms * sum_shares rest rooms bounds ≤ rest * sum_room bounds
shares_below rest rooms [] = omega arith
shares_below rest rooms (bound ∷ bounds) =
    let h = shares_below rest rooms bounds in
    let a = mul-div-le (rest * room bound) rooms in
    omega (arith, h, a)

no_rooms : (rest rooms : ℕ) (bounds : List Bound) → rooms ≡ 0 → sum_shares rest rooms bounds ≡ 0
no_rooms rest rooms [] e = refl
no_rooms rest rooms (bound ∷ bounds) e =
    let a : share_of rest rooms bound ≡ 0 = ap (λ (d : ℕ). rest * room bound / d) e ∙ div-zero (rest * room bound) in
    let h = no_rooms rest rooms bounds e in
    omega (arith, a, h)

pub shares_most : (rest rooms : ℕ) (bounds : List Bound) → rooms ≡ sum_room bounds → sum_shares rest rooms bounds ≤ rest
shares_most rest rooms bounds e = from (cases_lt 0 rooms)
  where
    from : ((0 < rooms) ⊎ (rooms ≤ 0)) → sum_shares rest rooms bounds ≤ rest
    from (inl some) =
        let h = subst (λ (r : ℕ). rooms * sum_shares rest rooms bounds ≤ rest * r) (sym e) (shares_below rest rooms bounds) in
        let g : rooms * sum_shares rest rooms bounds ≤ rooms * rest = omega (arith, h) in
        le_of_mul-le-mul_left g some
    from (inr none) = let z = no_rooms rest rooms bounds (omega (arith, none)) in omega (arith, z)

-- and what they leave isn't more than a unit for each column with room
one_above : (rest rooms : ℕ) (bound : Bound) → 0 < rooms → rest * room bound ≤ rooms * (share_of rest rooms bound + most_left_over bound)
one_above rest rooms bound some = from (cases_lt 0 (room bound))
  where
    from : ((0 < room bound) ⊎ (room bound ≤ 0)) → rest * room bound ≤ rooms * (share_of rest rooms bound + most_left_over bound)
    from (inl open-up) =
        let m : 1 ≡ most_left_over bound = cond_below {X = ℕ} 0 (room bound) 1 0 open-up in
        let a = lt-div-mul-add {a = rest * room bound} {b = rooms} some in
        subst (λ (u : ℕ). rest * room bound ≤ rooms * (share_of rest rooms bound + u)) m (omega (arith, a))
    from (inr closed) =
        let z : room bound ≡ 0 = omega (arith, closed) in
        let p : rest * room bound ≡ rest * 0 = ap (λ (r : ℕ). rest * r) z in
        omega (arith, p)

shares_above : (rest rooms : ℕ) (bounds : List Bound) → 0 < rooms → rest * sum_room bounds ≤ rooms * (sum_shares rest rooms bounds + sum_most bounds)
shares_above rest rooms [] some = omega arith
shares_above rest rooms (bound ∷ bounds) some =
    let h = shares_above rest rooms bounds some in
    let a = one_above rest rooms bound some in
    omega (arith, h, a)

pub shares_enough : (rest rooms : ℕ) (bounds : List Bound) → rooms ≡ sum_room bounds → rest ≤ rooms → rest ≤ sum_shares rest rooms bounds + sum_most bounds
shares_enough rest rooms bounds e within = from (cases_lt 0 rooms)
  where
    from : ((0 < rooms) ⊎ (rooms ≤ 0)) → rest ≤ sum_shares rest rooms bounds + sum_most bounds
    from (inl some) =
        let h = subst (λ (r : ℕ). rest * r ≤ rooms * (sum_shares rest rooms bounds + sum_most bounds)) (sym e) (shares_above rest rooms bounds some) in
        let g : rooms * rest ≤ rooms * (sum_shares rest rooms bounds + sum_most bounds) = omega (arith, h) in
        le_of_mul-le-mul_left g some
    from (inr none) = omega (arith, none, within)

-- before the first column
pub shared_begin : (bounds : List Bound) (space : ℤ) → sum_min bounds ≤ℤ space → space ≤ℤ sum_max bounds
    → SharedTo bounds space (beyond_minimums bounds space - shares_from bounds space 0) 0 []
shared_begin bounds space least within =
    let rest = beyond_minimums bounds space in
    let r : pos rest ≡ (space -ℤ sum_min bounds) = from_zero_is (space -ℤ sum_min bounds) (omega (arith, ints, least)) in
    let q = rooms_hold bounds in
    let s : shares_from bounds space 0 ≤ rest = shares_most rest (sum_room bounds) bounds refl in
    let m : rest ≤ shares_from bounds space 0 + sum_most bounds = shares_enough rest (sum_room bounds) bounds refl (omega (arith, ints, r, q, within)) in
    record {
      as_many = refl;
      sum = omega (arith, ints, r, s);
      enough = omega (arith, m);
      left_over = λ i less. absurd (omega (arith, less));
      full = λ i less some. absurd (omega (arith, less));
      first = λ i j before less some. absurd (omega (arith, less));
    }

pub most_up : (bound : Bound) → most_left_over bound ≤ 1
most_up bound = from (cases_lt 0 (room bound))
  where
    from : ((0 < room bound) ⊎ (room bound ≤ 0)) → most_left_over bound ≤ 1
    from (inl some) = let m : 1 ≡ most_left_over bound = cond_below {X = ℕ} 0 (room bound) 1 0 some in omega (arith, m)
    from (inr none) = let m : 0 ≡ most_left_over bound = cond_above {X = ℕ} 0 (room bound) 1 0 0 none refl in omega (arith, m)

-- one more column has its width
pub shared_more : (bounds : List Bound) (space : ℤ) (more unit n : ℕ) (widths : List Unit) (w : Unit) → n < length bounds
    → unit ≡ min more (most_left_over (bound_at bounds n)) → w.0 ≡ (min_at bounds n +ℤ pos (share_at bounds space n + unit))
    → SharedTo bounds space more n widths → SharedTo bounds space (more - unit) (n + 1) (widths ++ w ∷ [])
shared_more bounds space more unit n widths w less is width to = record {
  as_many = let e = length_push widths w in let m = to.as_many in omega (arith, e, m);
  sum = let p = sum_push widths w in let a = ap sum_min d in let b = ap (sum_shares (beyond_minimums bounds space) (sum_room bounds)) d in
      let s = to.sum in omega (arith, ints, p, a, b, s, width, is);
  enough = let m = ap sum_most d in let e = to.enough in omega (arith, m, e, is);
  left_over = below_more (λ (i : ℕ). (pos 0 ≤ℤ left i) × (left i ≤ℤ most_left_over_at bounds i)) n
      (λ i before. subst (λ (v : ℤ). (pos 0 ≤ℤ v) × (v ≤ℤ most_left_over_at bounds i)) (sym (old i before)) (to.left_over i before))
      (omega (arith, ints, here), omega (arith, ints, here, is));
  full = below_more (λ (i : ℕ). 0 < more - unit → left i ≡ most_left_over_at bounds i) n
      (λ i before some. old i before ∙ to.full i before (omega (arith, some)))
      (λ some. omega (arith, ints, here, is, some));
  first = λ i j before within some. ordered i j before within some (cases_lt j n);
}
  where
    left : ℕ → ℤ
    left i = left_over_at bounds space (widths ++ w ∷ []) i

    d : drop n bounds ≡ bound_at bounds n ∷ drop (n + 1) bounds
    d = drop_more bounds n _ less

    here : left n ≡ pos unit
    here = let a = at_new widths w n to.as_many in omega (arith, ints, a, width)

    old : (i : ℕ) → i < n → left i ≡ left_over_at bounds space widths i
    old i before = let m = to.as_many in
        ap (λ (v : ℤ). v -ℤ (min_at bounds i +ℤ pos (share_at bounds space i))) (at_old widths w i (omega (arith, m, before)))

    ordered : (i j : ℕ) → i < j → j < n + 1 → pos 0 <ℤ left j → ((j < n) ⊎ (n ≤ j)) → left i ≡ most_left_over_at bounds i
    ordered i j before within some (inl earlier) =
        old i (omega (arith, before, earlier)) ∙ to.first i j before earlier (subst (λ (v : ℤ). pos 0 <ℤ v) (old j earlier) some)
    ordered i j before within some (inr last) =
        let e : j ≡ n = omega (arith, within, last) in
        let g : pos 0 <ℤ left n = subst (λ (k : ℕ). pos 0 <ℤ left k) e some in
        old i (omega (arith, before, e)) ∙ to.full i (omega (arith, before, e)) (omega (arith, ints, here, is, g))

-- the same with what a loop has worked out
pub shared_begins : (bounds : List Bound) (space : ℤ) (rest rooms taken : ℕ) (widths : List Unit) → rest ≡ beyond_minimums bounds space
    → rooms ≡ sum_room bounds → taken ≡ sum_shares rest rooms bounds → widths ≡ [] → sum_min bounds ≤ℤ space
    → space ≤ℤ sum_max bounds → SharedTo bounds space (rest - taken) 0 widths
shared_begins bounds space rest rooms taken widths e f g none least within =
    let h : taken ≡ shares_from bounds space 0 = g ∙ ap (λ (r : ℕ). sum_shares r rooms bounds) e ∙
    ap (λ (r : ℕ). sum_shares (beyond_minimums bounds space) r bounds) f in
    let m : beyond_minimums bounds space - shares_from bounds space 0 ≡ rest - taken =
    ap (λ (r : ℕ). r - shares_from bounds space 0) (sym e) ∙ ap (λ (t : ℕ). rest - t) (sym h) in
    subst (λ (ws : List Unit). SharedTo bounds space (rest - taken) 0 ws) (sym none)
    (subst (λ (more : ℕ). SharedTo bounds space more 0 []) m (shared_begin bounds space least within))

pub shared_pushed : (bounds : List Bound) (space : ℤ) (rest rooms share more unit n : ℕ) (widths pushed : List Unit) (w : Unit)
    → rest ≡ beyond_minimums bounds space → rooms ≡ sum_room bounds → share ≡ share_of rest rooms (bound_at bounds n)
    → pushed ≡ widths ++ w ∷ [] → n < length bounds → unit ≡ min more (most_left_over (bound_at bounds n))
    → w.0 ≡ (min_at bounds n +ℤ pos (share + unit)) → SharedTo bounds space more n widths → SharedTo bounds space (more - unit) (n + 1) pushed
shared_pushed bounds space rest rooms share more unit n widths pushed w e f g push less is width to =
    let h : share ≡ share_at bounds space n = g ∙ ap (λ (r : ℕ). share_of r rooms (bound_at bounds n)) e ∙
    ap (λ (r : ℕ). share_of (beyond_minimums bounds space) r (bound_at bounds n)) f in
    subst (λ (ws : List Unit). SharedTo bounds space (more - unit) (n + 1) ws) (sym push)
    (shared_more bounds space more unit n widths w less is (width ∙ ap (λ (s : ℕ). min_at bounds n +ℤ pos (s + unit)) h) to)

-- all columns have their widths
pub shared_end : (bounds : List Bound) (space : ℤ) (more n : ℕ) (widths : List Unit) → length bounds ≤ n → n ≤ length bounds
    → SharedTo bounds space more n widths → AreInProportion bounds space widths
shared_end bounds space more n widths all few to = record {
  as_many = let m = to.as_many in omega (arith, m, all, few);
  sum = λ some. let a = ap sum_min none in let b = ap sum_most none in
      let s = ap (sum_shares (beyond_minimums bounds space) (sum_room bounds)) none in
      let e = to.enough in let t = to.sum in omega (arith, ints, a, b, s, e, t);
  left_over = λ i less. to.left_over i (omega (arith, less, all));
  first = λ i j before less. to.first i j before (omega (arith, less, all));
}
  where
    none : drop n bounds ≡ []
    none = drop_all n bounds all

-- a column beyond its maximum
pub maximums_up : (bounds : List Bound) → All BoundFits bounds → pos 0 ≤ℤ sum_max bounds
maximums_up [] fits = omega (arith, ints)
maximums_up (bound ∷ bounds) fits =
    let a = (All-head BoundFits bound bounds fits).min in
    let b = (All-head BoundFits bound bounds fits).order in
    let h = maximums_up bounds (All-tail BoundFits bound bounds fits) in
    omega (arith, ints, a, b, h)

abbrev pub BeyondTo : List Bound → ℕ → ℕ → List Unit → Type 0
BeyondTo bounds rest n widths = (length widths ≡ n)
    × ((i : ℕ) → i < n → width_at widths i ≡ (max_at bounds i +ℤ pos (part_of rest (length bounds) i)))

pub beyond_pushed : (bounds : List Bound) (rest n : ℕ) (widths pushed : List Unit) (w : Unit) → pushed ≡ widths ++ w ∷ []
    → w.0 ≡ (max_at bounds n +ℤ pos (part_of rest (length bounds) n)) → BeyondTo bounds rest n widths → BeyondTo bounds rest (n + 1) pushed
beyond_pushed bounds rest n widths pushed w push width to = subst (BeyondTo bounds rest (n + 1)) (sym push) (
  (let e = length_push widths w in let m = to.0 in omega (arith, e, m)),
  below_more (λ (i : ℕ). width_at (widths ++ w ∷ []) i ≡ (max_at bounds i +ℤ pos (part_of rest (length bounds) i))) n
      (λ i before. at_old widths w i (let m = to.0 in omega (arith, m, before)) ∙ to.1 i before)
      (at_new widths w n to.0 ∙ width),
)

-- bounds, pair by pair
abbrev pub PairedTo : List Unit → List Unit → ℕ → List Bound → Type 0
PairedTo minimums maximums n bounds = (length bounds ≡ n)
    × (((i : ℕ) → i < n → min_at bounds i ≡ width_at minimums i)
    × ((i : ℕ) → i < n → max_at bounds i ≡ int_max (width_at maximums i) (width_at minimums i)))

pub paired_pushed : (minimums maximums : List Unit) (n : ℕ) (bounds pushed : List Bound) (b : Bound) → pushed ≡ bounds ++ b ∷ []
    → b.min.0 ≡ width_at minimums n → b.max.0 ≡ int_max (width_at maximums n) (width_at minimums n)
    → PairedTo minimums maximums n bounds → PairedTo minimums maximums (n + 1) pushed
paired_pushed minimums maximums n bounds pushed b push least greater to = subst (PairedTo minimums maximums (n + 1)) (sym push) (
  (let e = length_push bounds b in let m = to.0 in omega (arith, e, m)),
  (
    below_more (λ (i : ℕ). min_at (bounds ++ b ∷ []) i ≡ width_at minimums i) n
        (λ i before. ap (λ (x : Bound). x.min.0) (old i before) ∙ to.1.0 i before)
        (ap (λ (x : Bound). x.min.0) here ∙ least),
    below_more (λ (i : ℕ). max_at (bounds ++ b ∷ []) i ≡ int_max (width_at maximums i) (width_at minimums i)) n
        (λ i before. ap (λ (x : Bound). x.max.0) (old i before) ∙ to.1.1 i before)
        (ap (λ (x : Bound). x.max.0) here ∙ greater),
  ),
)
  where
    old : (i : ℕ) → i < n → bound_at (bounds ++ b ∷ []) i ≡ bound_at bounds i
    old i before = let m = to.0 in get_or_append_left bounds (b ∷ []) _ i (omega (arith, m, before))

    here : bound_at (bounds ++ b ∷ []) n ≡ b
    here = get_or_push bounds b _ n to.0
