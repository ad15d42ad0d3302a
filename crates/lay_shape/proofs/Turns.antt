-- Cells have turns: what a cell depends on has a lower one.
use Rattle.std.proofs.Common.{◌≡◌, ◌⊎◌, ⊎_elim, ℕ, zero, suc, ◌+◌, ◌-◌, ◌*◌, ◌<◌, ◌≤◌, false, List, ◌++◌, length, map, refl, ap, sym, subst, ◌∙◌, arith}
use Rattle.std.proofs.Math.Nat.{mul_comm}
use Rattle.std.proofs.lemmas.Nat.{mul-add-lt}
use Rattle.lay_cells.specs.Shapes.{IsIn}
use Rattle.lay_context.specs.declared.task.Phase.{Phase}
use Rattle.lay_context.specs.declared.task.Phase.TheVariants.{Measure, Size, Place}
use Rattle.lay_contexts.specs.Contexts.{AreContexts, Context, context_at}
use Rattle.lay_positioned.specs.Levels.{one_if}
use Rattle.lay_shape.specs.declared.context_phase.ContextPhase.{ContextPhase}
use Rattle.lay_shape.specs.Dependencies.{in_phase, inner_flows, needs_in, outer_needs, way_needs}
use Rattle.lay_shape.specs.Levels.{level_of}
use Rattle.lay_shape.specs.Ways.{is_absolute}
use Rattle.lay_shape.proofs.LevelSteps.{level_step}
use Rattle.lay_shape.proofs.Members.{in_cases, in_either}
use Rattle.lay_shape.proofs.NeedSteps.{IsOfInner, IsOfWay, IsOuterNeed, of_inner, of_outer, of_way}
use Rattle.lay_shape.proofs.WaySteps.{on_way_lower}

-- the first turn of the round of a level
abbrev pub round_start : (n level : ℕ) → ℕ
round_start n level = n + level * (n + n)

abbrev pub turn_by : (n level : ℕ) → Phase → ℕ → ℕ
turn_by n level Measure i = n - 1 - i
turn_by n level Size i = round_start n level + i
turn_by n level Place i = round_start n level + (n + n - 1 - i)

-- a number in a lower round is lower
lower : (a b m x y : ℕ) → a < b → x < m → a * m + x < b * m + y
lower a b m x y lt within =
    let e = mul-add-lt a m x b lt within in
    let c : m * b ≡ b * m = mul_comm m b in
    omega (arith, e, c)

module _ (contexts : List Context) (are : AreContexts contexts) where
  abbrev n : ℕ
  n = length contexts

  abbrev level : ℕ → ℕ
  level i = level_of contexts i

  abbrev pub turn : ContextPhase → ℕ
  turn c = turn_by n (level c.context) c.phase c.context

  -- it is of a context, and has a lower turn
  pub record IsBefore (p : Phase) (i : ℕ) (d : ContextPhase) : Type 0 where
    pub within : d.context < n
    pub earlier : turn d < turn (in_phase p i)

  in_round : (p : Phase) (j l : ℕ) → level j ≡ l → j < n → (p ≡ Measure → ⊥) → turn_by n (level j) p j < round_start n l + (n + n)
  in_round Measure j l e lt later = absurd (later refl)
  in_round Size j l e lt later = let r = ap (round_start n) e in omega (arith, r, lt)
  in_round Place j l e lt later = let r = ap (round_start n) e in omega (arith, r, lt)

  past_round : (a b y : ℕ) → a < b → round_start n a + (n + n) ≤ round_start n b + y
  past_round a b y lt = more (n + n)
    where
      more : (m : ℕ) → (n + a * m) + m ≤ (n + b * m) + y
      more zero = omega arith
      more (suc m) = let e = lower a b (suc m) m y lt (omega arith) in omega (arith, e)

  -- what is on the way has its cells in a lower round
  way_before : (p : Phase) (i : ℕ) → i < n → (y : ℕ) → turn_by n (level i) p i ≡ round_start n (level i) + y → (d : ContextPhase) → IsOfWay contexts i d → IsBefore p i d
  way_before p i lt y is d of =
      let low = on_way_lower contexts are i d.context lt of.on in
      let before = low.0 in
      let a = in_round d.phase d.context (level d.context) refl (omega (arith, before, lt)) of.later in
      let b = past_round (level d.context) (level i) y low.1 in
      record { within = omega (arith, before, lt); earlier = omega (arith, a, b, is) }

  flow_level : (j : ℕ) → 0 < j → j < n → is_absolute contexts j ≡ false → level j ≡ level (context_at contexts j).outer
  flow_level j some lt flow =
      let e = level_step contexts are j some lt in
      let z : one_if (is_absolute contexts j) ≡ 0 = ap one_if flow in
      omega (arith, e, z)

  inner_level : (i : ℕ) → i < n → (p : Phase) (d : ContextPhase) → IsOfInner contexts i p d → (i < d.context) × (d.context < n) × (level d.context ≡ level i)
  inner_level i lt p d of =
      let within = are.within i d.context lt of.inside in
      (are.behind i d.context lt of.inside, within, flow_level d.context of.some within of.flow ∙ ap level (are.around i d.context lt of.inside))

  own_before : (q p : Phase) (i : ℕ) → i < n → turn (in_phase q i) < turn (in_phase p i) → (d : ContextPhase) → d ≡ in_phase q i → IsBefore p i d
  own_before q p i lt less d is = subst (IsBefore p i) (sym is) (record { within = lt; earlier = less })

  inner_before : (p : Phase) (i : ℕ) → i < n → (d : ContextPhase) → IsOfInner contexts i p d → ((j : ℕ) → i < j → j < n → level j ≡ level i → turn (in_phase p j) < turn (in_phase p i)) → IsBefore p i d
  inner_before p i lt d of less =
      let there = inner_level i lt p d of in
      let same : turn d ≡ turn (in_phase p d.context) = ap (λ q. turn_by n (level d.context) q d.context) of.phase in
      let low = less d.context there.0 there.1 there.2 in
      record { within = there.1; earlier = omega (arith, same, low) }

  outer_before : (i : ℕ) → i < n → (d : ContextPhase) → IsOuterNeed contexts are i d → IsBefore Size i d
  outer_before i lt d need =
      let out = are.outer i need.some lt in
      let same : round_start n (level i) ≡ round_start n (level (context_at contexts i).outer) = ap (round_start n) (flow_level i need.some lt need.flow) in
      subst (IsBefore Size i) (sym need.is) (record { within = omega (arith, out, lt); earlier = omega (arith, same, out) })

  pub before : (p : Phase) (i : ℕ) → i < n → (d : ContextPhase) → IsIn (needs_in contexts (in_phase p i)) d → IsBefore p i d
  before Measure i lt d has = inner_before Measure i lt d (of_inner contexts are i Measure d has) (λ j behind within same. omega (arith, behind, within))
  before Size i lt d has =
      ⊎_elim
      (own_before Measure Size i lt (omega (arith, lt)) d)
      (λ rest. ⊎_elim (outer_before i lt d) (way_before Size i lt i refl d) (of_outer contexts are i d lt rest))
      (in_cases (in_phase Measure i) d (outer_needs contexts i) has)
  before Place i lt d has =
      ⊎_elim
      (own_before Size Place i lt (omega (arith, lt)) d)
      (λ rest. ⊎_elim
      (λ l. inner_before Place i lt d (of_inner contexts are i Place d l) (λ j behind within same. let r = ap (round_start n) same in omega (arith, behind, within, r)))
      (λ w. way_before Place i lt (n + n - 1 - i) refl d (of_way contexts are i d lt w))
      (in_either (map (in_phase Place) (inner_flows contexts i)) (way_needs contexts i) d rest))
      (in_cases (in_phase Size i) d (map (in_phase Place) (inner_flows contexts i) ++ way_needs contexts i) has)
