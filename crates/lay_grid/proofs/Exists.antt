-- Rows have heights and columns have widths.
use Rattle.std.proofs.Common.{◌≡◌, ℕ, zero, suc, ◌+◌, ◌<◌, ◌/◌, ◌%◌, ℤ, pos, ◌-ℤ◌, Option, List, [], ◌∷◌, ◌++◌, length, refl, ap, ◌∙◌, arith}
use lib.IntN.{negsuc}
use Rattle.std.specs.Int.{int_max}
use Rattle.std.proofs.lemmas.Int.{ints, clamps}
use Rattle.std.proofs.Math.Nat.{div-add-mod, mod-lt}
use Rattle.lay_units.specs.declared.length.Unit.{Unit}
use Rattle.lay_grid.specs.declared.columns.FirstCell.{FirstCell}
use Rattle.lay_grid.specs.declared.columns.ColumnsIn.{ColumnsIn}
use Rattle.lay_grid.specs.Shares.{AreShared, sum_own, own_at, all_own}
use Rattle.lay_grid.specs.Columns.{AreOwn, or_else, by_cells, width_of_columns}
use Rattle.lay_grid.specs.Laws.{RowsHaveHeights, ColumnsHaveWidths}
use Rattle.lay_grid.specs.Pass.Sharing.{SharedTo, count_takers}
use Rattle.lay_grid.proofs.SharedSteps.{takers_some}
use Rattle.lay_grid.proofs.SharesExist.{shared_on, shared_end}
use Rattle.lay_grid.proofs.HeightSteps.{heights_go_on}

pub rows_have_heights_lem : RowsHaveHeights
rows_have_heights_lem r = let h = heights_go_on r [] (length r.own) in (h.0, record { as_many = h.1; lowest = h.2 })

-- the columns' own widths, from the column k on
abbrev owns_from : ℤ → List FirstCell → ℕ → List (Option Unit) → List (Option Unit)
owns_from spacing first k [] = []
owns_from spacing first k (own ∷ given) = or_else own (by_cells spacing first k) ∷ owns_from spacing first (k + 1) given

owns_length : (spacing : ℤ) (first : List FirstCell) (k : ℕ) (given : List (Option Unit)) → length (owns_from spacing first k given) ≡ length given
owns_length spacing first k [] = refl
owns_length spacing first k (own ∷ given) = let h = owns_length spacing first (k + 1) given in omega (arith, h)

owns_at : (spacing : ℤ) (first : List FirstCell) (k : ℕ) (given : List (Option Unit)) (i : ℕ) → i < length given
    → own_at (owns_from spacing first k given) i ≡ or_else (own_at given i) (by_cells spacing first (k + i))
owns_at spacing first k [] i less = absurd (omega (arith, less))
owns_at spacing first k (own ∷ given) zero less =
    let e : k ≡ k + zero = omega arith in ap (λ (n : ℕ). or_else own (by_cells spacing first n)) e
owns_at spacing first k (own ∷ given) (suc i) less =
    let e : (k + 1) + i ≡ k + suc i = omega arith in
    owns_at spacing first (k + 1) given i (omega (arith, less)) ∙ ap (λ (n : ℕ). or_else (own_at given i) (by_cells spacing first n)) e

own_exists : (c : ColumnsIn) → (owns : List (Option Unit)) × AreOwn c owns
own_exists c = (
  owns_from c.spacing.0 c.first 0 c.given,
  record {
    as_many = owns_length c.spacing.0 c.first 0 c.given;
    own = λ i less.
        let e : 0 + i ≡ i = omega arith in
        owns_at c.spacing.0 c.first 0 c.given i less ∙ ap (λ (n : ℕ). or_else (own_at c.given i) (by_cells c.spacing.0 c.first n)) e;
  },
)

rest_exists : (z : ℤ) → (rest : ℕ) × (pos rest ≡ int_max (pos 0) z)
rest_exists (pos n) = (n, omega (arith, ints, clamps))
rest_exists (negsuc n) = (0, omega (arith, ints, clamps))

share_exists : (owns : List (Option Unit)) (asked : ℤ) → (widths : List Unit) × AreShared owns asked widths
share_exists [] asked = (
  [],
  record {
    as_many = refl;
    sum = λ some. absurd (omega (arith, some));
    kept = λ i less. absurd (omega (arith, less));
    equal = λ i j before less. absurd (omega (arith, less));
  },
)
share_exists (own ∷ owns) asked = (
  whole.1,
  shared_end all asked rest.0 (rest.0 / takers) whole.0 (length all) whole.1 rest.1 (omega arith)
      (omega arith) whole.2,
)
  where
    all : List (Option Unit)
    all = own ∷ owns

    rest : (n : ℕ) × (pos n ≡ int_max (pos 0) (asked -ℤ sum_own all))
    rest = rest_exists (asked -ℤ sum_own all)

    takers : ℕ
    takers = count_takers (all_own all) all

    some : 0 < takers
    some = takers_some takers (all_own all) all (omega arith) refl refl

    begin : SharedTo all rest.0 (rest.0 / takers) (rest.0 % takers) 0 []
    begin = record {
      as_many = refl;
      sum = let d = div-add-mod rest.0 takers in omega (arith, ints, d);
      enough = let m = mod-lt rest.0 some in omega (arith, m);
      kept = λ i less. absurd (omega (arith, less));
      taken = λ i less. absurd (omega (arith, less));
      order = λ i j before less. absurd (omega (arith, less));
    }

    whole : (after : ℕ) × (others : List Unit) × SharedTo all rest.0 (rest.0 / takers) after (length all) ([] ++ others)
    whole = shared_on all rest.0 (rest.0 / takers) (rest.0 % takers) 0 (length all) [] (omega arith) begin

pub columns_have_widths_lem : ColumnsHaveWidths
columns_have_widths_lem c =
    let own = own_exists c in let shared = share_exists own.0 (width_of_columns c) in
    (shared.0, record { owns = own.0; own = own.1; shared = shared.1 })
