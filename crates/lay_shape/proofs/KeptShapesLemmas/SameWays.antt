-- Contexts with the same links have the same ways, levels and needs.
use Rattle.std.proofs.Common.{◌≡◌, ℕ, zero, suc, ◌+◌, ◌&&◌, not, nat_lt, Bool, List, [], ◌∷◌, ◌++◌, map, refl, ap, ◌∙◌, Option, if◌then◌else◌}
use Rattle.std.specs.List.{filter, flat_map}
use Rattle.std.proofs.Math.Path.{fun_ext}
use Rattle.lay_context.specs.declared.task.Phase.TheVariants.{Measure, Size, Place}
use Rattle.lay_context.specs.declared.task.Phase.{Phase}
use Rattle.lay_contexts.specs.Contexts.{Context, boxes_in, context_at}
use Rattle.lay_after_edits.specs.Contexts.Links.{AreRestyled}
use Rattle.lay_positioned.specs.Holders.{holder_for}
use Rattle.lay_positioned.specs.Levels.{one_if}
use Rattle.lay_shape.specs.declared.context_phase.ContextPhase.{ContextPhase}
use Rattle.lay_shape.specs.Dependencies.{in_phase, inner_flows, is_inner_flow, needs_in, on_way, outer_needs, way_needs}
use Rattle.lay_shape.specs.Levels.{level_in, level_of}
use Rattle.lay_shape.specs.Ways.{outside_unless_held, is_absolute, is_fixed, way_from, way_of}
use Rattle.lay_shape.proofs.KeptShapesLemmas.SameLinks.{links-at, same-absolute, same-fixed, same-holder-for}

module _ (contexts later : List Context) (made : List Bool) (are : AreRestyled contexts later made) where
  abbrev before : ℕ → Context
  before i = context_at contexts i

  abbrev after : ℕ → Context
  after i = context_at later i

  absolute-stays : (i : ℕ) → is_absolute later i ≡ is_absolute contexts i
  absolute-stays i = same-absolute (boxes_in later i) (boxes_in contexts i) (links-at contexts later made are i).boxes

  fixed-stays : (i : ℕ) → is_fixed later i ≡ is_fixed contexts i
  fixed-stays i = same-fixed (boxes_in later i) (boxes_in contexts i) (links-at contexts later made are i).boxes

  way-stays : (turns : ℕ) (fixed : Bool) (i k : ℕ) → way_from turns fixed later i k ≡ way_from turns fixed contexts i k
  way-stays zero fixed i k = refl
  way-stays (suc turns) fixed zero k = refl
  way-stays (suc turns) fixed (suc i) k =
      let l = links-at contexts later made are (suc i) in
      ap (λ (h : Option ℕ). suc i ∷ outside_unless_held h (way_from turns fixed later (after (suc i)).outer (after (suc i)).outer_box)) (same-holder-for (boxes_in later (suc i)) (boxes_in contexts (suc i)) l.boxes fixed k)
      ∙ ap (λ (w : List ℕ). suc i ∷ outside_unless_held (holder_for fixed (before (suc i)).boxes k) w)
      (ap (λ (o : ℕ). way_from turns fixed later o (after (suc i)).outer_box) l.outer
      ∙ (ap (way_from turns fixed later (before (suc i)).outer) l.outer_box ∙ way-stays turns fixed (before (suc i)).outer (before (suc i)).outer_box))

  abbrev way_by : ℕ → Bool → List ℕ → List ℕ
  way_by i absolute way = if absolute then way else []

  pub ways-stay : (i : ℕ) → way_of later i ≡ way_of contexts i
  ways-stay zero = refl
  ways-stay (suc i) =
      let l = links-at contexts later made are (suc i) in
      ap (λ (b : Bool). way_by i b (way_from (suc i) (is_fixed later (suc i)) later (after (suc i)).outer (after (suc i)).outer_box)) (absolute-stays (suc i))
      ∙ ap (way_by i (is_absolute contexts (suc i)))
      (ap (λ (f : Bool). way_from (suc i) f later (after (suc i)).outer (after (suc i)).outer_box) (fixed-stays (suc i))
      ∙ (ap (λ (o : ℕ). way_from (suc i) (is_fixed contexts (suc i)) later o (after (suc i)).outer_box) l.outer
      ∙ (ap (way_from (suc i) (is_fixed contexts (suc i)) later (before (suc i)).outer) l.outer_box
      ∙ way-stays (suc i) (is_fixed contexts (suc i)) (before (suc i)).outer (before (suc i)).outer_box)))

  way-needs-stay : (i : ℕ) → way_needs later i ≡ way_needs contexts i
  way-needs-stay i = ap (flat_map on_way) (ways-stay i)

  flow-stays : (j : ℕ) → is_inner_flow later j ≡ is_inner_flow contexts j
  flow-stays j = ap (λ (b : Bool). nat_lt 0 j && not b) (absolute-stays j)

  inner-stay : (i : ℕ) → inner_flows later i ≡ inner_flows contexts i
  inner-stay i =
      ap (λ (p : ℕ → Bool). filter p (after i).inner) (fun_ext flow-stays)
      ∙ ap (filter (is_inner_flow contexts)) (links-at contexts later made are i).inner

  outer-stay : (i : ℕ) → outer_needs later i ≡ outer_needs contexts i
  outer-stay zero = refl
  outer-stay (suc i) =
      ap (λ (b : Bool). if b then way_needs later (suc i) else in_phase Size (after (suc i)).outer ∷ []) (absolute-stays (suc i))
      ∙ (ap (λ (w : List ContextPhase). if is_absolute contexts (suc i) then w else in_phase Size (after (suc i)).outer ∷ []) (way-needs-stay (suc i))
      ∙ ap (λ (o : ℕ). if is_absolute contexts (suc i) then way_needs contexts (suc i) else in_phase Size o ∷ []) (links-at contexts later made are (suc i)).outer)

  needs-by : (phase : Phase) (i : ℕ) → needs_in later (in_phase phase i) ≡ needs_in contexts (in_phase phase i)
  needs-by Measure i = ap (map (in_phase Measure)) (inner-stay i)
  needs-by Size i = ap (λ (ns : List ContextPhase). in_phase Measure i ∷ ns) (outer-stay i)
  needs-by Place i =
      ap (λ (is : List ℕ). in_phase Size i ∷ (map (in_phase Place) is ++ way_needs later i)) (inner-stay i)
      ∙ ap (λ (ns : List ContextPhase). in_phase Size i ∷ (map (in_phase Place) (inner_flows contexts i) ++ ns)) (way-needs-stay i)

  pub needs-stay : (c : ContextPhase) → needs_in later c ≡ needs_in contexts c
  needs-stay c = needs-by c.phase c.context

  level-stays : (turns i : ℕ) → level_in turns later i ≡ level_in turns contexts i
  level-stays zero i = ap one_if (absolute-stays i)
  level-stays (suc turns) zero = ap one_if (absolute-stays 0)
  level-stays (suc turns) (suc i) =
      ap (λ (b : Bool). level_in turns later (after (suc i)).outer + one_if b) (absolute-stays (suc i))
      ∙ ap (λ (n : ℕ). n + one_if (is_absolute contexts (suc i)))
      (ap (level_in turns later) (links-at contexts later made are (suc i)).outer ∙ level-stays turns (before (suc i)).outer)

  pub levels-stay : (i : ℕ) → level_of later i ≡ level_of contexts i
  levels-stay i = level-stays i i
