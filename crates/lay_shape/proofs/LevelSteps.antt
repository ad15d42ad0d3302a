-- The level of a context beside that of the one around it.
use Rattle.std.proofs.Common.{◌≡◌, ℕ, zero, suc, ◌+◌, ◌<◌, ◌≤◌, List, length, refl, ap, arith}
use Rattle.lay_contexts.specs.Contexts.{AreContexts, Context, context_at}
use Rattle.lay_positioned.specs.Levels.{one_if}
use Rattle.lay_shape.proofs.Cited.{one_at_most}
use Rattle.lay_shape.specs.Levels.{level_in, level_of}
use Rattle.lay_shape.specs.Ways.{is_absolute}

module _ (contexts : List Context) (are : AreContexts contexts) where
  -- more turns than needed count the same
  pub level_same : (t u i : ℕ) → i ≤ t → i ≤ u → i < length contexts → level_in t contexts i ≡ level_in u contexts i
  level_same zero zero i a b within = refl
  level_same zero (suc u) zero a b within = refl
  level_same zero (suc u) (suc i) a b within = absurd (omega (arith, a))
  level_same (suc t) zero zero a b within = refl
  level_same (suc t) zero (suc i) a b within = absurd (omega (arith, b))
  level_same (suc t) (suc u) zero a b within = refl
  level_same (suc t) (suc u) (suc i) a b within =
      let out = are.outer (suc i) (omega arith) within in
      ap (λ l. l + one_if (is_absolute contexts (suc i))) (level_same t u (context_at contexts (suc i)).outer (omega (arith, a, out)) (omega (arith, b, out)) (omega (arith, out, within)))

  pub level_step : (i : ℕ) → 0 < i → i < length contexts → level_of contexts i ≡ level_of contexts (context_at contexts i).outer + one_if (is_absolute contexts i)
  level_step zero some within = absurd (omega (arith, some))
  level_step (suc i) some within =
      let o = (context_at contexts (suc i)).outer in
      let out = are.outer (suc i) some within in
      ap (λ l. l + one_if (is_absolute contexts (suc i))) (level_same i o o (omega (arith, out)) (omega arith) (omega (arith, out, within)))

  few_in : (t i : ℕ) → i ≤ t → i < length contexts → level_in t contexts i ≤ i + 1
  few_in zero i a within = let l = one_at_most (is_absolute contexts i) in omega (arith, l)
  few_in (suc t) zero a within = one_at_most (is_absolute contexts 0)
  few_in (suc t) (suc i) a within =
      let out = are.outer (suc i) (omega arith) within in
      let l = one_at_most (is_absolute contexts (suc i)) in
      let h = few_in t (context_at contexts (suc i)).outer (omega (arith, a, out)) (omega (arith, out, within)) in
      omega (arith, l, h, out)

  -- no level is higher than there are contexts
  pub level_few : (i : ℕ) → i < length contexts → level_of contexts i ≤ i + 1
  level_few i within = few_in i i (omega arith) within
