-- Columns that cells widen.
use Rattle.std.proofs.Common.{◌≡◌, ◌⊎◌, inl, inr, ℕ, zero, suc, ◌+◌, ◌-◌, ◌<◌, ◌≤◌, ◌/◌, ◌%◌, ℤ, pos, ◌+ℤ◌, ◌-ℤ◌, ◌≤ℤ◌, cond, nat_lt, List, [], ◌∷◌, ◌++◌, length, take, get_or, refl, sym, ap, ◌∙◌, subst, arith}
use lib.IntN.{negsuc}
use Rattle.std.proofs.lemmas.Int.{ints}
use Rattle.std.proofs.lemmas.Bool.{cases_lt}
use Rattle.std.proofs.lemmas.List.{take_more}
use Rattle.std.proofs.Math.Nat.{div-add-mod, mul-le-mul_left}
use Rattle.lay_units.specs.declared.length.Unit.{Unit}
use Rattle.lay_units.specs.Units.{IsSize}
use Rattle.lay_grid.specs.declared.automatic.bounds.GroupSpan.{GroupSpan}
use Rattle.lay_grid.specs.Columns.{from_zero, part_of}
use Rattle.lay_grid.specs.Shares.{width_at}
use Rattle.lay_grid.proofs.HeightsWithin.{product_up}
use Rattle.lay_grid.proofs.Products.{greater_part, lesser_part}
use Rattle.lay_grid.specs.Automatic.Sizes.{AreSizes}
use Rattle.lay_grid.specs.Automatic.Spread.{AreWidened, IsWidened, found_in, lacking, sum_over}
use Rattle.lay_grid.specs.Automatic.Fit.{SpanFits}

pub size_at : (ws : List Unit) → AreSizes ws → (i : ℕ) → i < length ws → IsSize (width_at ws i)
size_at ws sizes i less = sizes i (record { 0 = pos 0 }) less

-- a sum over columns, column by column
pub sum_over_more : (ws : List Unit) (column k n : ℕ) → k < n
    → sum_over ws (column + k) (n - k) ≡ (width_at ws (column + k) +ℤ sum_over ws (column + (k + 1)) (n - (k + 1)))
sum_over_more ws column k n less =
    let e : n - k ≡ suc (n - (k + 1)) = omega (arith, less) in
    let f : (column + k) + 1 ≡ column + (k + 1) = omega arith in
    ap (sum_over ws (column + k)) e ∙ ap (λ (m : ℕ). width_at ws (column + k) +ℤ sum_over ws m (n - (k + 1))) f

pub sum_over_up : (ws : List Unit) → AreSizes ws → (column n : ℕ) → column + n ≤ length ws → pos 0 ≤ℤ sum_over ws column n
sum_over_up ws sizes column zero inside = omega (arith, ints)
sum_over_up ws sizes column (suc n) inside =
    let a = (size_at ws sizes column (omega (arith, inside))).0 in
    let h = sum_over_up ws sizes (column + 1) n (omega (arith, inside)) in
    omega (arith, ints, a, h)

-- a column is no wider than a sum that has it
pub sum_over_least : (ws : List Unit) → AreSizes ws → (column n k : ℕ) → column + n ≤ length ws → k < n
    → width_at ws (column + k) ≤ℤ sum_over ws column n
sum_over_least ws sizes column zero k inside less = absurd (omega (arith, less))
sum_over_least ws sizes column (suc n) zero inside less =
    let e : width_at ws (column + zero) ≡ width_at ws column = ap (width_at ws) (omega arith) in
    let h = sum_over_up ws sizes (column + 1) n (omega (arith, inside)) in
    omega (arith, ints, e, h)
sum_over_least ws sizes column (suc n) (suc k) inside less =
    let e : width_at ws ((column + 1) + k) ≡ width_at ws (column + suc k) = ap (width_at ws) (omega arith) in
    let a = (size_at ws sizes column (omega (arith, inside))).0 in
    let h = sum_over_least ws sizes (column + 1) n k (omega (arith, inside)) (omega (arith, less)) in
    omega (arith, ints, e, a, h)

pub part_least : (width n k : ℕ) → 1 ≤ n → part_of width n k ≤ width
part_least width n k some = from (cases_lt k (width % n))
  where
    from : ((k < width % n) ⊎ (width % n ≤ k)) → part_of width n k ≤ width
    from (inl less) = let e = greater_part width n k less in let d = div-add-mod width n in let h = mul-le-mul_left (width / n) some in omega
        (arith, e, d, h, less)
    from (inr not) = let e = lesser_part width n k not in let d = div-add-mod width n in let h = mul-le-mul_left (width / n) some in omega (arith, e, d, h)

pub from_zero_most : (z w m : ℤ) → (w +ℤ z) ≤ℤ m → w ≤ℤ m → (w +ℤ pos (from_zero z)) ≤ℤ m
from_zero_most (pos n) w m a b = omega (arith, ints, a)
from_zero_most (negsuc n) w m a b = omega (arith, ints, b)

pub found_least : (spacing : ℤ) (cell : GroupSpan) (ws : List Unit) (k : ℕ) → pos 0 ≤ℤ spacing → AreSizes ws → SpanFits (length ws) cell
    → k < cell.span → width_at ws (cell.column + k) ≤ℤ found_in spacing cell ws
found_least spacing cell ws k up sizes fits less =
    let p = product_up spacing (cell.span - 1) up in
    let h = sum_over_least ws sizes cell.column cell.span k fits.inside less in
    omega (arith, ints, p, h)

-- a column with what a cell lacks is no wider than it was, or than the cell
pub lacking_most : (spacing m : ℤ) (cell : GroupSpan) (ws : List Unit) (k : ℕ) → pos 0 ≤ℤ spacing → AreSizes ws → SpanFits (length ws) cell
    → k < cell.span → width_at ws (cell.column + k) ≤ℤ m → cell.width.0 ≤ℤ m
    → (width_at ws (cell.column + k) +ℤ pos (lacking spacing cell ws)) ≤ℤ m
lacking_most spacing m cell ws k up sizes fits less a b =
    let f = found_least spacing cell ws k up sizes fits less in
    from_zero_most (cell.width.0 -ℤ found_in spacing cell ws) (width_at ws (cell.column + k)) m (omega (arith, ints, f, b)) a

pub part_fits : (spacing m : ℤ) (cell : GroupSpan) (ws : List Unit) (k lack : ℕ) → pos 0 ≤ℤ spacing → AreSizes ws → SpanFits (length ws) cell
    → k < cell.span → lack ≡ lacking spacing cell ws → width_at ws (cell.column + k) ≤ℤ m → cell.width.0 ≤ℤ m
    → (width_at ws (cell.column + k) +ℤ pos (part_of lack cell.span k)) ≤ℤ m
part_fits spacing m cell ws k lack up sizes fits less e a b =
    let h = lacking_most spacing m cell ws k up sizes fits less a b in
    let p = part_least lack cell.span k fits.some in
    omega (arith, ints, h, p, e)

-- one more cell widened them
pub widened_more : (spacing : ℤ) (cells : List GroupSpan) (cell : GroupSpan) (a b c : List Unit) → AreWidened spacing cells a b
    → IsWidened spacing cell b c → AreWidened spacing (cells ++ cell ∷ []) a c
widened_more spacing [] cell a b c e w = (c, subst (λ (ws : List Unit). IsWidened spacing cell ws c) (sym e) w, refl)
widened_more spacing (x ∷ cells) cell a b c h w = (h.0, h.1, widened_more spacing cells cell h.0 b c h.2 w)

pub widened_next : (spacing : ℤ) (cells : List GroupSpan) (a b c : List Unit) (n : ℕ) (d : GroupSpan) → n < length cells
    → AreWidened spacing (take n cells) a b → IsWidened spacing (get_or cells n d) b c → AreWidened spacing (take (n + 1) cells) a c
widened_next spacing cells a b c n d less h w = subst (λ (xs : List GroupSpan). AreWidened spacing xs a c) (sym (take_more cells n d less))
    (widened_more spacing (take n cells) (get_or cells n d) a b c h w)

pub part_same : (width n a b k p : ℕ) → a ≡ n → b ≡ n → p ≡ width / a + cond (nat_lt k (width % b)) 1 0 → p ≡ part_of width n k
part_same width n a b k p e f g = subst (λ (x : ℕ). p ≡ width / n + cond (nat_lt k (width % x)) 1 0) f
    (subst (λ (x : ℕ). p ≡ width / x + cond (nat_lt k (width % b)) 1 0) e g)
