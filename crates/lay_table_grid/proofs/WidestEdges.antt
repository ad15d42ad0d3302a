-- The widest of the edges on a side.
use Rattle.std.proofs.Common.{◌≡◌, ◌⊎◌, inl, inr, ℕ, ◌+◌, ◌<◌, ◌≤◌, ℤ, ◌≤ℤ◌, List, sym, ap, ◌∙◌, subst, arith}
use Rattle.std.proofs.lemmas.Int.{ints}
use Rattle.std.proofs.lemmas.Bool.{cases_lt}
use Rattle.lay_units.specs.declared.length.Unit.{Unit}
use Rattle.lay_borders.specs.declared.candidate.Cand.{Cand}
use Rattle.lay_borders.specs.Halves.{edge_width}
use Rattle.lay_borders.proofs.OneEdge.{edge_same}
use Rattle.lay_table_grid.specs.TableBorders.{IsEdgeWidth, IsHalf, IsWidest}

pub edge_width_same : (borders : List Cand) (v w : ℤ) → IsEdgeWidth borders v → IsEdgeWidth borders w → v ≡ w
edge_width_same borders v w p q = p.2 ∙ ap edge_width (edge_same borders p.0 q.0 p.1 q.1) ∙ sym q.2

-- one edge
pub widest_one : (meeting : ℕ → List Cand) (w : ℤ) → IsEdgeWidth (meeting 0) w → IsWidest meeting 1 w
widest_one meeting w is = record {
  one_of = (0, omega arith, is);
  most = λ k other less at.
      let e : k ≡ 0 = omega arith in
      let same = edge_width_same (meeting 0) other w (subst (λ (j : ℕ). IsEdgeWidth (meeting j) other) e at) is in
      omega (arith, ints, same);
}

-- and one more
pub widest_more : (meeting : ℕ → List Cand) (n : ℕ) (widest next found : Unit) → IsWidest meeting n widest.0 → IsEdgeWidth (meeting n) found.0
    → ((next ≡ widest) ⊎ (next ≡ found)) → widest.0 ≤ℤ next.0 → found.0 ≤ℤ next.0 → IsWidest meeting (n + 1) next.0
widest_more meeting n widest next found to is one up over = record {
  one_of = from one;
  most = λ k other less at. all k other less at (cases_lt k n);
}
  where
    from : ((next ≡ widest) ⊎ (next ≡ found)) → (k : ℕ) × (k < n + 1) × IsEdgeWidth (meeting k) next.0
    from (inl e) = let h = to.one_of in let lt = h.1 in (h.0, omega (arith, lt), subst (λ (u : Unit). IsEdgeWidth (meeting h.0) u.0) (sym e) h.2)
    from (inr e) = (n, omega arith, subst (λ (u : Unit). IsEdgeWidth (meeting n) u.0) (sym e) is)

    all : (k : ℕ) (other : ℤ) → k < n + 1 → IsEdgeWidth (meeting k) other → ((k < n) ⊎ (n ≤ k)) → other ≤ℤ next.0
    all k other less at (inl first) = let h = to.most k other first at in omega (arith, ints, h, up)
    all k other less at (inr not) =
        let e : k ≡ n = omega (arith, less, not) in
        let same = edge_width_same (meeting n) other found.0 (subst (λ (j : ℕ). IsEdgeWidth (meeting j) other) e at) is in
        omega (arith, ints, same, over)

pub widest_same : (meeting : ℕ → List Cand) (n : ℕ) (v w : ℤ) → IsWidest meeting n v → IsWidest meeting n w → v ≡ w
widest_same meeting n v w p q =
    let a = p.one_of in let b = q.one_of in
    let x = q.most a.0 v a.1 a.2 in let y = p.most b.0 w b.1 b.2 in
    omega (arith, ints, x, y)

pub half_same : (half : ℤ → ℤ) (meeting : ℕ → List Cand) (n : ℕ) (v w : ℤ) → IsHalf half meeting n v → IsHalf half meeting n w → v ≡ w
half_same half meeting n v w p q = p.2 ∙ ap half (widest_same meeting n p.0 q.0 p.1 q.1) ∙ sym q.2

-- a half of the widest edge, where the edges are those of another list as well
pub half_along : (half : ℤ → ℤ) (f g : ℕ → List Cand) (n m : ℕ) (width border : ℤ) → ((k : ℕ) → f k ≡ g k) → n ≡ m
    → IsWidest f n width → border ≡ half width → IsHalf half g m border
half_along half f g n m width border same count widest is = (
  width,
  record {
    one_of = let h = widest.one_of in let lt = h.1 in (h.0, omega (arith, count, lt), subst (λ (borders : List Cand). IsEdgeWidth borders width) (same h.0) h.2);
    most = λ k other less at.
        widest.most k other (omega (arith, count, less)) (subst (λ (borders : List Cand). IsEdgeWidth borders other) (sym (same k)) at);
  },
  is,
)

pub from_zero : (k : ℕ) → 0 + k ≡ k
from_zero k = omega arith
