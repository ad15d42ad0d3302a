-- Columns that share have widths, and each of these is a position where all are.
use Rattle.std.proofs.Common.{◌≡◌, ◌⊎◌, inl, inr, ℕ, zero, suc, ◌+◌, ◌-◌, ◌*◌, ◌<◌, ◌≤◌, ℤ, pos, ◌+ℤ◌, ◌-ℤ◌, ◌≤ℤ◌, Bool, Option, List, [], ◌∷◌, ◌++◌, length, drop, get_or, refl, sym, ap, ◌∙◌, subst, append-nil, append_assoc, arith}
use Rattle.std.proofs.lemmas.Int.{ints, clamps}
use Rattle.std.specs.Int.{int_max}
use Rattle.std.proofs.lemmas.List.{drop_all, get_or_append_left, get_or_push}
use Rattle.std.proofs.Math.Nat.{zero-mul}
use Rattle.lay_units.specs.declared.length.Unit.{Unit}
use Rattle.lay_units.specs.Units.{IsPosition}
use Rattle.lay_grid.specs.Lengths.{ArePositions}
use Rattle.lay_grid.specs.Shares.{AreShared, own_width, sum_own, sum_of, all_own, takes_share, own_at, takes_at}
use Rattle.lay_grid.specs.Pass.Sharing.{SharedTo, count_takers}
use Rattle.lay_grid.proofs.SharedSteps.{Step, Kind, kind, shared_more, length_push}

-- a column takes a step
step_exists : (all : Bool) (own : Option Unit) (each more : ℕ) → Kind (takes_share all own) more → (w : Unit) × (after : ℕ) × Step all own each more after w
step_exists all own each more (inl t) = (
  record { 0 = own_width own },
  more,
  record
      { kept = λ e. (refl, refl); greater = λ e. absurd (cc (t, e)); lesser = λ e. absurd (cc (t, e)) },
)
step_exists all own each more (inr (inl g)) =
    let t = g.0 in let h = g.1 in (
      record { 0 = own_width own +ℤ pos (each + 1) },
      more - 1,
      record
          { kept = λ e. absurd (cc (t, e)); greater = λ e some. (refl, omega (arith, some)); lesser = λ e none. absurd (omega (arith, h, none)) },
    )
step_exists all own each more (inr (inr l)) =
    let t = l.0 in let h = l.1 in (
      record { 0 = own_width own +ℤ pos each },
      0,
      record {
        kept = λ e. absurd (cc (t, e));
        greater = λ e some. absurd (omega (arith, h, some));
        lesser = λ e none. (refl, refl);
      },
    )

-- the columns that are left have widths too
pub shared_on : (owns : List (Option Unit)) (rest each more n m : ℕ) (widths : List Unit) → n + m ≡ length owns → SharedTo owns rest each more n widths
    → (after : ℕ) × (others : List Unit) × SharedTo owns rest each after (length owns) (widths ++ others)
shared_on owns rest each more n zero widths e to = (
  more,
  [],
  subst (λ (k : ℕ). SharedTo owns rest each more k (widths ++ [])) (let z = e in omega (arith, z))
      (subst (λ (ws : List Unit). SharedTo owns rest each more n ws) (sym (append-nil widths)) to),
)
shared_on owns rest each more n (suc m) widths e to =
    let s = step_exists (all_own owns) (own_at owns n) each more (kind (takes_at owns n) more) in
    let h = shared_on owns rest each s.1 (n + 1) m (widths ++ s.0 ∷ []) (omega (arith, e))
    (shared_more owns rest each more s.1 n widths s.0 to (omega (arith, e)) s.2) in
    (h.0, s.0 ∷ h.1, subst (λ (ws : List Unit). SharedTo owns rest each h.0 (length owns) ws) (append_assoc widths (s.0 ∷ []) h.1) h.2)

equal_from : (each more : ℕ) (v z : ℤ) → ((v ≡ pos (each + 1)) ⊎ ((v ≡ pos each) × (more ≡ 0)))
    → ((z ≡ pos (each + 1)) ⊎ ((z ≡ pos each) × (more ≡ 0))) → v ≤ℤ (z +ℤ pos 1)
equal_from each more v z (inl e) (inl f) = omega (arith, ints, e, f)
equal_from each more v z (inl e) (inr f) = let g = f.0 in omega (arith, ints, e, g)
equal_from each more v z (inr e) (inl f) = let g = e.0 in omega (arith, ints, g, f)
equal_from each more v z (inr e) (inr f) = let g = e.0 in let h = f.0 in omega (arith, ints, g, h)

product_zero : (c each more : ℕ) → c ≡ 0 → more ≡ 0 → pos (c * each + more) ≡ pos 0
product_zero c each more e f = let p : c * each ≡ 0 = ap (λ (k : ℕ). k * each) e ∙ zero-mul each in omega (arith, ints, p, f)

-- all columns have their widths
pub shared_end : (owns : List (Option Unit)) (asked : ℤ) (rest each more n : ℕ) (widths : List Unit)
    → pos rest ≡ int_max (pos 0) (asked -ℤ sum_own owns) → length owns ≤ n → n ≤ length owns
    → SharedTo owns rest each more n widths → AreShared owns asked widths
shared_end owns asked rest each more n widths is all few to = record {
  as_many = let m = to.as_many in omega (arith, m, all, few);
  sum = λ some. let a = to.sum in let b = to.enough in let c = ap sum_own none in let d = ap (count_takers (all_own owns)) none in
      let z : more ≡ 0 = omega (arith, b, d) in
      whole (sum_of widths) (sum_own (drop n owns)) (sum_own owns) (count_takers (all_own owns) (drop n owns)) a c d z is;
  kept = λ i less. to.kept i (omega (arith, less, all));
  equal = λ i j before less ti tj. (
    to.order i j before (omega (arith, less, all)) ti tj,
    equal_from each more _ _ (to.taken i (omega (arith, before, less, all)) ti)
        (to.taken j (omega (arith, less, all)) tj),
  );
}
  where
    none : drop n owns ≡ []
    none = drop_all n owns all

    whole : (s o t : ℤ) (c : ℕ) → ((s +ℤ o) +ℤ pos (c * each + more)) ≡ (t +ℤ pos rest) → o ≡ pos 0 → c ≡ 0 → more ≡ 0
        → pos rest ≡ int_max (pos 0) (asked -ℤ t) → s ≡ int_max asked t
    whole s o t c sum zo zc zm r = let f : pos (c * each + more) ≡ pos 0 = product_zero c each more zc zm in omega (arith, ints, clamps, sum, zo, f, r)

-- so each of the widths is a position
pub width_fits : (owns : List (Option Unit)) (asked : ℤ) (rest each more after n : ℕ) (widths : List Unit) (w : Unit)
    → ((ws : List Unit) → AreShared owns asked ws → ArePositions ws)
    → pos rest ≡ int_max (pos 0) (asked -ℤ sum_own owns) → n < length owns → Step (all_own owns) (own_at owns n) each more after w
    → SharedTo owns rest each more n widths → IsPosition w.0
width_fits owns asked rest each more after n widths w fits is lt step to = subst (λ (u : Unit). IsPosition u.0) found (fits _ all n w inside)
  where
    next : SharedTo owns rest each after (n + 1) (widths ++ w ∷ [])
    next = shared_more owns rest each more after n widths w to lt step

    more_of : (last : ℕ) × (others : List Unit) × SharedTo owns rest each last (length owns) ((widths ++ w ∷ []) ++ others)
    more_of = shared_on owns rest each after (n + 1) (length owns - (n + 1)) (widths ++ w ∷ []) (omega (arith, lt)) next

    all : AreShared owns asked ((widths ++ w ∷ []) ++ more_of.1)
    all = shared_end owns asked rest each more_of.0 (length owns) _ is (omega arith) (omega arith) more_of.2

    inside : n < length ((widths ++ w ∷ []) ++ more_of.1)
    inside = let m = all.as_many in omega (arith, m, lt)

    found : get_or ((widths ++ w ∷ []) ++ more_of.1) n w ≡ w
    found = get_or_append_left (widths ++ w ∷ []) more_of.1 w n (let m = to.as_many in let k = length_push widths w in omega (arith, m, k)) ∙
        get_or_push widths w w n to.as_many
