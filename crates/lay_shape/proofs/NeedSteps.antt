-- What a cell depends on: cells of contexts inside it, of the one around it and of those on its way, each once.
use Rattle.std.proofs.Common.{◌≡◌, ◌⊎◌, inl, inr, ⊎_elim, ℕ, zero, suc, ◌+◌, ◌<◌, ◌&&◌, not, nat_lt, Bool, true, false, List, [], ◌∷◌, ◌++◌, length, map, slice_get, Some, refl, ap, sym, subst, ◌∙◌, arith, if◌then◌else◌}
use Rattle.std.proofs.lemmas.Option.{get_or_from_slice_get, slice_get_within}
use Rattle.lay_cells.specs.Shapes.{IsEachOnce, IsIn}
use Rattle.lay_context.specs.declared.task.Phase.{Phase}
use Rattle.lay_context.specs.declared.task.Phase.TheVariants.{Measure, Size, Place}
use Rattle.lay_contexts.specs.Contexts.{AreContexts, Context, IsInside, context_at}
use Rattle.lay_shape.specs.declared.context_phase.ContextPhase.{ContextPhase}
use Rattle.lay_shape.specs.Dependencies.{in_phase, inner_flows, is_inner_flow, needs_in, on_way, outer_needs, way_needs}
use Rattle.lay_shape.specs.Ways.{IsOnContextWay, is_absolute, way_of}
use Rattle.lay_shape.proofs.Members.{from_filter, from_flat_map, from_map, in_cases, in_either, in_none}
use Rattle.lay_shape.proofs.Once.{once_append, once_filter, once_flat_map, once_map, once_more, once_none}
use Rattle.lay_shape.proofs.WaySteps.{in_way_on, on_way_lower, ways_once}

flow_parts : (j : ℕ) (a b : Bool) → nat_lt 0 j ≡ a → (a && not b) ≡ true → (0 < j) × (b ≡ false)
flow_parts zero true b e h = cc
flow_parts (suc j) true true e h = cc
flow_parts (suc j) true false e h = (omega arith, refl)
flow_parts j false b e h = cc

phase_is : (c : ContextPhase) (p : Phase) (j : ℕ) → c ≡ in_phase p j → c.phase ≡ p
phase_is c p j e = ap (λ (x : ContextPhase). x.phase) e

context_is : (c : ContextPhase) (p : Phase) (j : ℕ) → c ≡ in_phase p j → c.context ≡ j
context_is c p j e = ap (λ (x : ContextPhase). x.context) e

-- of a context on a way
pub record IsOfWay (contexts : List Context) (i : ℕ) (d : ContextPhase) : Type 0 where
  pub on : IsOnContextWay contexts i d.context
  pub later : (d.phase ≡ Measure) → ⊥

-- of a context inside, in flow or floating, with its box
pub record IsOfInner (contexts : List Context) (i : ℕ) (p : Phase) (d : ContextPhase) : Type 0 where
  pub inside : IsInside contexts i d.context
  pub some : 0 < d.context
  pub flow : is_absolute contexts d.context ≡ false
  pub phase : d.phase ≡ p

size_is_later : (d : ContextPhase) (j : ℕ) → d ≡ in_phase Size j → d.phase ≡ Measure → ⊥
size_is_later d j e m = let p : Size ≡ Measure = sym (phase_is d Size j e) ∙ m in cc

place_is_later : (d : ContextPhase) (j : ℕ) → d ≡ in_phase Place j → d.phase ≡ Measure → ⊥
place_is_later d j e m = let p : Place ≡ Measure = sym (phase_is d Place j e) ∙ m in cc

-- a cell of a context on a way
of_one : (j : ℕ) (d : ContextPhase) → IsIn (on_way j) d → (d.context ≡ j) × (d.phase ≡ Measure → ⊥)
of_one j d has =
    ⊎_elim
    (λ e. (context_is d Size j e, size_is_later d j e))
    (λ rest. ⊎_elim (λ e. (context_is d Place j e, place_is_later d j e)) (λ none. absurd (in_none d none)) (in_cases (in_phase Place j) d [] rest))
    (in_cases (in_phase Size j) d (in_phase Place j ∷ []) has)

module _ (contexts : List Context) (are : AreContexts contexts) where
  abbrev inner : ℕ → List ℕ
  inner i = (context_at contexts i).inner

  pub of_way : (i : ℕ) (d : ContextPhase) → i < length contexts → IsIn (way_needs contexts i) d → IsOfWay contexts i d
  of_way i d within has =
      let part = from_flat_map on_way (way_of contexts i) d has in
      let one = of_one part.x d part.inside in
      record { on = subst (λ j. IsOnContextWay contexts i j) (sym one.0) (in_way_on contexts are i part.x within part.there); later = one.1 }

  -- an inner context that is in flow or floats
  pub inner_is : (i j : ℕ) → IsIn (inner_flows contexts i) j → IsIn (inner i) j × (0 < j) × (is_absolute contexts j ≡ false)
  inner_is i j has =
      let r = from_filter (is_inner_flow contexts) (inner i) j has in
      let parts = flow_parts j (nat_lt 0 j) (is_absolute contexts j) refl r.1 in
      (r.0, parts.0, parts.1)

  abbrev pub inside_at : (i j place : ℕ) → slice_get (inner i) place ≡ Some j → 0 < j → IsInside contexts i j
  inside_at i j place at some = record {
    box = place;
    within = slice_get_within (inner i) place j at;
    number = get_or_from_slice_get (inner i) place j 0 at;
    some = some;
  }

  pub of_inner : (i : ℕ) (p : Phase) (d : ContextPhase) → IsIn (map (in_phase p) (inner_flows contexts i)) d → IsOfInner contexts i p d
  of_inner i p d has =
      let r = from_map (in_phase p) (inner_flows contexts i) d has in
      let is = inner_is i r.x r.there in
      let there = is.0 in
      let same = context_is d p r.x r.is in
      record {
        inside = subst (λ j. IsInside contexts i j) (sym same) (inside_at i r.x there.0 there.1 is.1);
        some = subst (λ j. 0 < j) (sym same) is.1;
        flow = subst (λ j. is_absolute contexts j ≡ false) (sym same) is.2;
        phase = phase_is d p r.x r.is;
      }

  -- the box of an inner context is one
  inner_once : (i : ℕ) → i < length contexts → IsEachOnce (inner_flows contexts i)
  inner_once i within =
      once_filter (is_inner_flow contexts) (inner i)
      (λ a b j yes x y. let some = (flow_parts j (nat_lt 0 j) (is_absolute contexts j) refl yes).0 in
      let p = are.at i j within (inside_at i j a x some) in
      let q = are.at i j within (inside_at i j b y some) in
      sym p ∙ q)

  phased : (p : Phase) (x y : ℕ) → in_phase p x ≡ in_phase p y → x ≡ y
  phased p x y e = ap (λ (c : ContextPhase). c.context) e

  inner_needs_once : (i : ℕ) (p : Phase) → i < length contexts → IsEachOnce (map (in_phase p) (inner_flows contexts i))
  inner_needs_once i p within = once_map (in_phase p) (inner_flows contexts i) (λ x y a b e. phased p x y e) (inner_once i within)

  on_way_once : (j : ℕ) → IsEachOnce (on_way j)
  on_way_once j =
      once_more (in_phase Size j) (in_phase Place j ∷ [])
      (λ has. ⊎_elim
      (λ e. absurd (let p : Size ≡ Place = ap (λ (c : ContextPhase). c.phase) e in cc))
      (λ none. in_none (in_phase Size j) none)
      (in_cases (in_phase Place j) (in_phase Size j) [] has))
      (once_more (in_phase Place j) [] (λ none. in_none (in_phase Place j) none) once_none)

  way_needs_once : (i : ℕ) → i < length contexts → IsEachOnce (way_needs contexts i)
  way_needs_once i within =
      once_flat_map on_way (way_of contexts i) (ways_once contexts are i within) on_way_once
      (λ x z d a b. sym (of_one x d a).0 ∙ (of_one z d b).0)

  -- that of the context around, and those of the way
  outer_once : (i : ℕ) (b : Bool) → suc i < length contexts → IsEachOnce (if b then way_needs contexts (suc i) else in_phase Size (context_at contexts (suc i)).outer ∷ [])
  outer_once i true within = way_needs_once (suc i) within
  outer_once i false within = once_more (in_phase Size (context_at contexts (suc i)).outer) [] (λ none. in_none (in_phase Size (context_at contexts (suc i)).outer) none) once_none

  pub record IsOuterNeed (i : ℕ) (d : ContextPhase) : Type 0 where
    pub some : 0 < i
    pub flow : is_absolute contexts i ≡ false
    pub is : d ≡ in_phase Size (context_at contexts i).outer

  outer_by : (i : ℕ) (d : ContextPhase) (b : Bool) → suc i < length contexts → is_absolute contexts (suc i) ≡ b
      → IsIn (if b then way_needs contexts (suc i) else in_phase Size (context_at contexts (suc i)).outer ∷ []) d → IsOuterNeed (suc i) d ⊎ IsOfWay contexts (suc i) d
  outer_by i d true within e has = inr (of_way (suc i) d within has)
  outer_by i d false within e has =
      ⊎_elim (λ is. inl (record { some = omega arith; flow = e; is = is })) (λ none. absurd (in_none d none)) (in_cases (in_phase Size (context_at contexts (suc i)).outer) d [] has)

  pub of_outer : (i : ℕ) (d : ContextPhase) → i < length contexts → IsIn (outer_needs contexts i) d → IsOuterNeed i d ⊎ IsOfWay contexts i d
  of_outer zero d within has = absurd (in_none d has)
  of_outer (suc i) d within has = outer_by i d (is_absolute contexts (suc i)) within refl has

  outer_needs_once : (i : ℕ) → i < length contexts → IsEachOnce (outer_needs contexts i)
  outer_needs_once zero within = once_none
  outer_needs_once (suc i) within = outer_once i (is_absolute contexts (suc i)) within

  -- none of these is a cell of preferred widths
  outer_later : (i : ℕ) → i < length contexts → IsIn (outer_needs contexts i) (in_phase Measure i) → ⊥
  outer_later i within has =
      ⊎_elim
      (λ o. let p : Measure ≡ Size = ap (λ (c : ContextPhase). c.phase) o.is in cc)
      (λ w. w.later refl)
      (of_outer i (in_phase Measure i) within has)

  inner_apart : (i : ℕ) (d : ContextPhase) → i < length contexts → IsOfInner contexts i Place d → IsOfWay contexts i d → ⊥
  inner_apart i d within a b =
      let behind = are.behind i d.context within a.inside in
      let before = (on_way_lower contexts are i d.context within b.on).0 in
      omega (arith, behind, before)

  own_apart : (i : ℕ) → i < length contexts → IsIn (map (in_phase Place) (inner_flows contexts i) ++ way_needs contexts i) (in_phase Size i) → ⊥
  own_apart i within has =
      ⊎_elim
      (λ l. let r = of_inner i Place (in_phase Size i) l in let p : Size ≡ Place = r.phase in cc)
      (λ w. let r = of_way i (in_phase Size i) within w in let before = (on_way_lower contexts are i i within r.on).0 in omega (arith, before))
      (in_either (map (in_phase Place) (inner_flows contexts i)) (way_needs contexts i) (in_phase Size i) has)

  pub needs_once : (p : Phase) (i : ℕ) → i < length contexts → IsEachOnce (needs_in contexts (in_phase p i))
  needs_once Measure i within = inner_needs_once i Measure within
  needs_once Size i within = once_more (in_phase Measure i) (outer_needs contexts i) (outer_later i within) (outer_needs_once i within)
  needs_once Place i within =
      once_more (in_phase Size i) (map (in_phase Place) (inner_flows contexts i) ++ way_needs contexts i) (own_apart i within)
      (once_append (map (in_phase Place) (inner_flows contexts i)) (way_needs contexts i) (inner_needs_once i Place within) (way_needs_once i within)
      (λ d l r. inner_apart i d within (of_inner i Place d l) (of_way i d within r)))
