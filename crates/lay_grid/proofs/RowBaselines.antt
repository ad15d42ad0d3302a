-- The baselines of rows, cell by cell.
use Rattle.std.proofs.Common.{◌≡◌, ◌⊎◌, inl, inr, ℕ, zero, suc, ◌+◌, ◌<◌, ℤ, pos, ◌≤ℤ◌, Option, Some, None, List, [], ◌∷◌, length, get_or, slice_get, refl, sym, ap, ◌∙◌, subst, below_more, arith}
use Rattle.std.specs.Int.{int_max}
use Rattle.std.specs.List.{All}
use Rattle.std.proofs.lemmas.Int.{ints, clamps, by_lt_z}
use Rattle.std.proofs.lemmas.Bool.{cases_eq}
use Rattle.std.proofs.lemmas.Option.{get_or_from_slice_get, slice_get-get_or, slice_get_within}
use Rattle.lay_units.specs.declared.length.Unit.{Unit}
use Rattle.lay_grid.specs.declared.heights.RowCell.{RowCell}
use Rattle.lay_grid.specs.Heights.{HasBaseline, IsRowBaseline}
use Rattle.lay_grid.specs.Lengths.{MayBePosition}
use Rattle.lay_grid.specs.RowBaselines.{AreRowBaselines, IsBaselineOf}
use Rattle.lay_grid.specs.Laws.{OneRowBaselines}
use Rattle.lay_grid.specs.Pass.Baselines.{lower_baseline, BaselineTo, BaselinesTo}

first : (a b : ℤ) → a ≤ℤ int_max a b
first a b = omega (arith, ints, clamps)

second : (a b : ℤ) → b ≤ℤ int_max a b
second a b = omega (arith, ints, clamps)

one_of_two : (a b : ℤ) → (int_max a b ≡ a) ⊎ (int_max a b ≡ b)
one_of_two a b = by_lt_z a b (λ less. inr (omega (arith, ints, clamps, less))) (λ not. inl (omega (arith, ints, clamps, not)))

within : (b v : ℤ) (u : Unit) → u.0 ≤ℤ b → Some u ≡ Some (record { 0 = v }) → v ≤ℤ b
within b v u le e = let f : u ≡ record { 0 = v } = cc e in let g = ap (λ (x : Unit). x.0) f in omega (arith, ints, g, le)

up : (a b v : ℤ) → v ≤ℤ a → a ≤ℤ b → v ≤ℤ b
up a b v p q = omega (arith, ints, p, q)

-- a cell of the row
here : (cells : List RowCell) (row n : ℕ) (d : RowCell) (found o : Option Unit) → n < length cells → (get_or cells n d).row ≡ row
    → (get_or cells n d).baseline ≡ o
    → BaselineTo cells row n found → BaselineTo cells row (n + 1) (lower_baseline found o)
here cells row n d found o lt same is old = from found o is old
  where
    new : (p : Option Unit) → (get_or cells n d).baseline ≡ p → (cell : RowCell) → slice_get cells n ≡ Some cell → p ≡ cell.baseline
    new p e cell at = sym e ∙ ap (λ (x : RowCell). x.baseline) (get_or_from_slice_get cells n cell d at)

    has : (b : Unit) → (get_or cells n d).baseline ≡ Some b → HasBaseline cells row b.0
    has b e = (n, get_or cells n d, slice_get-get_or cells n d lt, same, e)

    from : (f p : Option Unit) → (get_or cells n d).baseline ≡ p → BaselineTo cells row n f → BaselineTo cells row (n + 1) (lower_baseline f p)
    from None None e old = below_more _ n old (λ cell at of. sym (new None e cell at))
    from None (Some b) e old = (
      has b e,
      below_more _ n (λ k less cell at of v i. let j = old k less cell at of in absurd (cc (i, j)))
          (λ cell at of v i. within b.0 v b (omega (arith, ints)) (new (Some b) e cell at ∙ i)),
    )
    from (Some a) None e old = (old.0, below_more _ n old.1 (λ cell at of v i. let j = new None e cell at in absurd (cc (i, j))))
    from (Some a) (Some b) e old = (
      reached (one_of_two a.0 b.0),
      below_more _ n (λ k less cell at of v i. up a.0 _ v (old.1 k less cell at of v i) (first a.0 b.0))
          (λ cell at of v i. within _ v b (second a.0 b.0) (new (Some b) e cell at ∙ i)),
    )
      where
        reached : ((int_max a.0 b.0 ≡ a.0) ⊎ (int_max a.0 b.0 ≡ b.0)) → HasBaseline cells row (int_max a.0 b.0)
        reached (inl m) = subst (λ (z : ℤ). HasBaseline cells row z) (sym m) old.0
        reached (inr m) = subst (λ (z : ℤ). HasBaseline cells row z) (sym m) (has b e)

-- a cell of another row
there : (cells : List RowCell) (row n : ℕ) (d : RowCell) (found : Option Unit) → ((get_or cells n d).row ≡ row → ⊥) → BaselineTo cells row n found
    → BaselineTo cells row (n + 1) found
there cells row n d None other old = below_more _ n old
    (λ cell at of. absurd (other (ap (λ (x : RowCell). x.row) (get_or_from_slice_get cells n cell d at) ∙ of)))
there cells row n d (Some b) other old = (
  old.0,
  below_more _ n old.1
      (λ cell at of. absurd (other (ap (λ (x : RowCell). x.row) (get_or_from_slice_get cells n cell d at) ∙ of))),
)

none_yet : (cells : List RowCell) (row : ℕ) → BaselineTo cells row 0 None
none_yet cells row k less = absurd (omega (arith, less))

-- one more cell, in all rows
pub baselines_more : (cells : List RowCell) (n rows : ℕ) (d : RowCell) (old new : List (Option Unit)) → BaselinesTo cells n rows old → n < length cells
    → get_or new (get_or cells n d).row None ≡ lower_baseline (get_or old (get_or cells n d).row None) (get_or cells n d).baseline
    → ((k : ℕ) → (k ≡ (get_or cells n d).row → ⊥) → get_or new k None ≡ get_or old k None)
    → length new ≡ length old → All MayBePosition new → BaselinesTo cells (n + 1) rows new
baselines_more cells n rows d old new to lt at others same fits = record {
  as_many = same ∙ to.as_many;
  each = λ row less. from row less (cases_eq (get_or cells n d).row row);
  fits = fits;
}
  where
    from : (row : ℕ) → row < rows → (((get_or cells n d).row ≡ row) ⊎ ((get_or cells n d).row ≡ row → ⊥)) → BaselineTo cells row (n + 1) (get_or new row None)
    from row less (inr other) = subst (λ (o : Option Unit). BaselineTo cells row (n + 1) o) (sym (others row (λ e. other (sym e))))
        (there cells row n d _ other (to.each row less))
    from row less (inl e) =
        subst (λ (o : Option Unit). BaselineTo cells row (n + 1) o)
        (sym (subst (λ (m : ℕ). get_or new m None ≡ lower_baseline (get_or old m None) (get_or cells n d).baseline) e at))
        (here cells row n d _ _ lt e refl (to.each row less))

-- the baseline of a row of which all cells are known
pub row_baseline : (cells : List RowCell) (row : ℕ) (b : Unit) → BaselineTo cells row (length cells) (Some b) → IsRowBaseline cells row b.0
row_baseline cells row b to = record {
  one_of = to.0;
  lowest = λ other has. to.1 has.0 (slice_get_within cells has.0 has.1 has.2) has.1 has.2 has.3
      other has.4;
}

-- there is one for each cell that has a baseline
pub some_baseline : (cells : List RowCell) (k : ℕ) (cell : RowCell) (own : Unit) (o : Option Unit) → slice_get cells k ≡ Some cell → cell.baseline ≡ Some own
    → BaselineTo cells cell.row (length cells) o → (b : Unit) × (o ≡ Some b) × IsRowBaseline cells cell.row b.0
some_baseline cells k cell own None at is to = let e = to k (slice_get_within cells k cell at) cell at refl in absurd (cc (e, is))
some_baseline cells k cell own (Some b) at is to = (b, refl, row_baseline cells cell.row b to)

-- and it can be found
pub baseline_exists : (cells : List RowCell) (row n : ℕ) → n < length cells + 1 → (o : Option Unit) × BaselineTo cells row n o
baseline_exists cells row zero less = (None, none_yet cells row)
baseline_exists cells row (suc n) less = next (baseline_exists cells row n (omega (arith, less))) (cases_eq (get_or cells n default).row row)
  where
    default : RowCell
    default = record { row = 0; span = 0; height = record { 0 = pos 0 }; baseline = None }

    next : ((o : Option Unit) × BaselineTo cells row n o) → (((get_or cells n default).row ≡ row) ⊎ ((get_or cells n default).row ≡ row → ⊥))
        → (o : Option Unit) × BaselineTo cells row (suc n) o
    next (o, to) (inl e) = (
      lower_baseline o (get_or cells n default).baseline,
      subst
          (λ (m : ℕ). BaselineTo cells row m (lower_baseline o (get_or cells n default).baseline)) (omega arith)
          (here cells row n default o _ (omega (arith, less)) e refl to),
    )
    next (o, to) (inr other) = (o, subst (λ (m : ℕ). BaselineTo cells row m o) (omega arith) (there cells row n default o other to))

pub baseline_same : (cells : List RowCell) (row : ℕ) (a b : ℤ) → IsRowBaseline cells row a → IsRowBaseline cells row b → a ≡ b
baseline_same cells row a b p q = let x = p.lowest b q.one_of in let y = q.lowest a p.one_of in omega (arith, ints, x, y)

-- so of all rows
is_baseline : (cells : List RowCell) (row : ℕ) (o : Option Unit) → BaselineTo cells row (length cells) o → IsBaselineOf cells row o
is_baseline cells row None to =
    λ b has. let e = to has.0 (slice_get_within cells has.0 has.1 has.2) has.1 has.2 has.3 in absurd (cc (e, has.4))
is_baseline cells row (Some b) to = row_baseline cells row b to

pub are_row_baselines : (cells : List RowCell) (rows : ℕ) (found : List (Option Unit)) → BaselinesTo cells (length cells) rows found → AreRowBaselines cells rows found
are_row_baselines cells rows found to = record {
  as_many = to.as_many;
  each = λ row less. is_baseline cells row _ (to.each row less);
}

-- and they are the only ones
one_baseline : (cells : List RowCell) (row : ℕ) (a b : Option Unit) → IsBaselineOf cells row a → IsBaselineOf cells row b → a ≡ b
one_baseline cells row None None p q = refl
one_baseline cells row None (Some b) p q = absurd (p b.0 q.one_of)
one_baseline cells row (Some a) None p q = absurd (q a.0 p.one_of)
one_baseline cells row (Some a) (Some b) p q =
    ap (λ (v : ℤ). let u : Unit = record { 0 = v } in Some u) (baseline_same cells row a.0 b.0 p q)

same_entries : (xs ys : List (Option Unit)) → length xs ≡ length ys → ((k : ℕ) → k < length xs → get_or xs k None ≡ get_or ys k None) → xs ≡ ys
same_entries [] [] e same = refl
same_entries [] (y ∷ ys) e same = absurd (omega arith)
same_entries (x ∷ xs) [] e same = absurd (omega arith)
same_entries (x ∷ xs) (y ∷ ys) e same =
    let head : x ≡ y = same 0 (omega arith) in
    let tail : xs ≡ ys = same_entries xs ys (omega arith) (λ k lt. same (suc k) (omega arith)) in
    rw (head, tail) refl

pub one_row_baselines_lem : OneRowBaselines
one_row_baselines_lem cells rows v w a b =
    same_entries v w (a.as_many ∙ sym b.as_many) (λ row less. (let within : row < rows = omega (arith, less, a.as_many) in one_baseline cells row _ _ (a.each row within) (b.each row within)))
