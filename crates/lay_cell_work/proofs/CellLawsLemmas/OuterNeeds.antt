-- What the sizes of a context come of outside it, by its flow, and the way of an absolutely positioned one as a list.
use Rattle.std.proofs.Common.{◌≡◌, ◌<◌, ℕ, zero, suc, true, false, List, [], ◌∷◌, arith}
use Rattle.lay_context.specs.declared.task.Phase.TheVariants.{Size}
use Rattle.lay_contexts.specs.Contexts.{Context, context_at}
use Rattle.lay_shape.specs.Dependencies.{in_phase, outer_needs, way_needs}
use Rattle.lay_shape.specs.Ways.{is_absolute, is_fixed, way_from, way_of}
use Rattle.lay_cell_work.proofs.CellLawsLemmas.RootForms.{chosen, other}

module _ (contexts : List Context) where
  pub flow_needs : (i : ℕ) → 0 < i → is_absolute contexts i ≡ false → outer_needs contexts i ≡ in_phase Size (context_at contexts i).outer ∷ []
  flow_needs zero some flow = absurd (omega (arith, some))
  flow_needs (suc i) some flow = other (is_absolute contexts (suc i)) (way_needs contexts (suc i)) (in_phase Size (context_at contexts (suc i)).outer ∷ []) flow

  pub absolute_needs : (i : ℕ) → 0 < i → is_absolute contexts i ≡ true → outer_needs contexts i ≡ way_needs contexts i
  absolute_needs zero some absolute = absurd (omega (arith, some))
  absolute_needs (suc i) some absolute = chosen (is_absolute contexts (suc i)) (way_needs contexts (suc i)) (in_phase Size (context_at contexts (suc i)).outer ∷ []) absolute

  pub way_is : (i : ℕ) → 0 < i → is_absolute contexts i ≡ true
      → way_of contexts i ≡ way_from i (is_fixed contexts i) contexts (context_at contexts i).outer (context_at contexts i).outer_box
  way_is zero some absolute = absurd (omega (arith, some))
  way_is (suc i) some absolute =
      chosen (is_absolute contexts (suc i)) (way_from (suc i) (is_fixed contexts (suc i)) contexts (context_at contexts (suc i)).outer (context_at contexts (suc i)).outer_box) [] absolute
