-- The columns' own widths, cell by cell.
use Rattle.std.proofs.Common.{◌≡◌, ℕ, ◌+◌, ◌<◌, ℤ, Bool, true, false, cond, Option, List, [], ◌∷◌, ◌++◌, length, take, get_or, refl, sym, ap, ◌∙◌, arith}
use Rattle.std.specs.Int.{int_max}
use Rattle.std.proofs.lemmas.Int.{ints, clamps}
use Rattle.std.proofs.lemmas.List.{take_more}
use Rattle.lay_units.specs.declared.length.Unit.{Unit}
use Rattle.lay_grid.specs.declared.automatic.bounds.GroupSpan.{GroupSpan}
use Rattle.lay_grid.specs.Shares.{own_at, own_width, width_at}
use Rattle.lay_grid.specs.Automatic.Own.{greatest, has_alone}
use Rattle.lay_grid.specs.Automatic.Pass.Steps.{IsWidthRaised}

max_swap : (a b c : ℤ) → int_max a (int_max b c) ≡ int_max b (int_max a c)
max_swap a b c = omega (arith, ints, clamps)

greatest_push : (least : ℤ) (cells : List GroupSpan) (cell : GroupSpan) (i : ℕ)
    → greatest least (cells ++ cell ∷ []) i ≡ cond (has_alone cell i) (int_max cell.width.0 (greatest least cells i)) (greatest least cells i)
greatest_push least [] cell i = refl
greatest_push least (x ∷ cells) cell i =
    ap (λ (v : ℤ). cond (has_alone x i) (int_max x.width.0 v) v) (greatest_push least cells cell i) ∙ swapped (has_alone x i) (has_alone cell i)
  where
    g : ℤ
    g = greatest least cells i

    swapped : (a b : Bool) → cond a (int_max x.width.0 (cond b (int_max cell.width.0 g) g)) (cond b (int_max cell.width.0 g) g)
        ≡ cond b (int_max cell.width.0 (cond a (int_max x.width.0 g) g)) (cond a (int_max x.width.0 g) g)
    swapped true true = max_swap x.width.0 cell.width.0 g
    swapped true false = refl
    swapped false true = refl
    swapped false false = refl

pub own_more : (given : List (Option Unit)) (cells : List GroupSpan) (before after : List Unit) (n : ℕ) (d : GroupSpan) → n < length cells
    → length before ≡ length given → IsWidthRaised (get_or cells n d) before after
    → ((i : ℕ) → i < length given → width_at before i ≡ greatest (own_width (own_at given i)) (take n cells) i)
    → (i : ℕ) → i < length given → width_at after i ≡ greatest (own_width (own_at given i)) (take (n + 1) cells) i
own_more given cells before after n d lt len raised old i less =
    let t = ap (λ (cs : List GroupSpan). greatest (own_width (own_at given i)) cs i) (take_more cells n d lt) ∙
    greatest_push (own_width (own_at given i)) (take n cells) (get_or cells n d) i in
    let a = raised.each i (omega (arith, len, less)) in
    let c = get_or cells n d in
    let b = ap (λ (v : ℤ). cond (has_alone c i) (int_max c.width.0 v) v) (old i less) in
    a ∙ b ∙ sym t
