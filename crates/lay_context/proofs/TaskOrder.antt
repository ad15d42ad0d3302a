-- What a task needs has its turn before it, and no two tasks have one turn.
use Rattle.std.proofs.Common.{◌≡◌, ◌<◌, ℕ, ◌+◌, ◌-◌, ◌*◌, ◌/◌, ◌%◌, Bool, true, false, List, length, slice_index, refl, ap, sym, ◌∙◌, subst, arith, inl, inr, if◌then◌else◌}
use Rattle.std.proofs.Math.Nat.{mul_comm}
use Rattle.std.proofs.lemmas.Nat.{div-mul-add, mod-mul-add, mul-add-lt}
use Rattle.std.proofs.lemmas.List.{get_or-map, length-map}
use Rattle.lay_contexts.specs.FormattingContexts.{FormattingContext, AreFormattingContexts, IsInside, formatting_context_at}
use Rattle.lay_positioned.specs.Absolute.{is_absolute}
use Rattle.lay_positioned.specs.Levels.{HasLevels, one_if}
use Rattle.lay_context.proofs.Cited.{leads_down, leads_out, level_inside}
use Rattle.lay_context.specs.declared.task.Phase.{Phase}
use Rattle.lay_context.specs.declared.task.Phase.TheVariants.{Measure, Size, Place}
use Rattle.lay_context.specs.declared.task.Task.{Task}
use Rattle.lay_context.specs.DocumentLayout.{flow_number}
use Rattle.lay_context.specs.Laws.{NeedsComeFirst}
use Rattle.lay_context.specs.Needs.{IsInsideFlow, IsOnWayOf, Needs, round_start, turn_by}

abbrev task : ℕ → Phase → Task
task i phase = record { context = i; phase = phase }

-- a number in a lower round is lower
lower : (a b m x y : ℕ) → a < b → x < m → a * m + x < b * m + y
lower a b m x y lt within =
    let e = mul-add-lt a m x b lt within in
    let c : m * b ≡ b * m = mul_comm m b in
    omega (arith, e, c)

-- rounds are apart
one_round : (a b m x y : ℕ) → x < m → y < m → a * m + x ≡ b * m + y → (a ≡ b) × (x ≡ y)
one_round a b m x y lx ly same = (
  sym (div-mul-add a m x lx) ∙ ap (λ (k : ℕ). k / m) same ∙ div-mul-add b m y ly,
  sym (mod-mul-add a m x lx) ∙ ap (λ (k : ℕ). k % m) same ∙ mod-mul-add b m y ly,
)

-- the number of an inner one in flow or floating
flow_is : (contexts : List FormattingContext) (j k : ℕ) (b : Bool) → is_absolute contexts j ≡ b → (if b then 0 else j) ≡ k → 0 < k → (j ≡ k) × (is_absolute contexts j ≡ false)
flow_is contexts j k true is e some = absurd (omega (arith, e, some))
flow_is contexts j k false is e some = (e, is)

pub record IsInFlowInside (contexts : List FormattingContext) (i j : ℕ) : Type 0 where
  pub inside : IsInside contexts i j
  pub flow : is_absolute contexts j ≡ false

pub flow_inside : (contexts : List FormattingContext) (i j : ℕ) → IsInsideFlow contexts i j → IsInFlowInside contexts i j
flow_inside contexts i j has =
    let inner : List ℕ = (formatting_context_at contexts i).inner in
    let within : has.box < length inner = omega (arith, has.within, length-map inner (flow_number contexts)) in
    let number : flow_number contexts (slice_index inner has.box) ≡ j = sym (get_or-map (flow_number contexts) inner has.box 0 0 within) ∙ has.number in
    let is = flow_is contexts (slice_index inner has.box) j (is_absolute contexts (slice_index inner has.box)) refl number has.some in
    record {
      inside = record { box = has.box; within = within; number = is.0; some = has.some };
      flow = subst (λ (k : ℕ). is_absolute contexts k ≡ false) is.0 is.1;
    }

module _ (contexts : List FormattingContext) (levels : List ℕ) (are : AreFormattingContexts contexts) (has : HasLevels contexts levels) where
  abbrev n : ℕ
  n = length levels

  abbrev level : ℕ → ℕ
  level i = slice_index levels i

  abbrev turn : Phase → ℕ → ℕ
  turn phase i = turn_by n (level i) phase i

  pub record IsBefore (phase : Phase) (i : ℕ) (needed : Phase) (j : ℕ) : Type 0 where
    pub within : j < n
    pub earlier : turn needed j < turn phase i

  -- one in flow or floating has the level of the one around it
  flow_level : (j : ℕ) → 0 < j → j < n → is_absolute contexts j ≡ false → level j ≡ level (formatting_context_at contexts j).outer
  flow_level j some lt flow =
      let e = level_inside contexts are levels has j some (omega (arith, lt, has.count)) in
      let z : one_if (is_absolute contexts j) ≡ 0 = ap one_if flow in
      omega (arith, e, z)

  inner_level : (i j : ℕ) → i < n → IsInsideFlow contexts i j → (i < j) × (j < n) × (level j ≡ level i)
  inner_level i j lt inside =
      let here = flow_inside contexts i j inside in
      let low : i < length contexts = omega (arith, lt, has.count) in
      let behind = are.behind i j low here.inside in
      let within = are.within i j low here.inside in
      let around = are.around i j low here.inside in
      let there : j < n = omega (arith, within, has.count) in
      (behind, there, flow_level j inside.some there here.flow ∙ ap level around)

  way_level : (i j : ℕ) → i < n → IsOnWayOf contexts i j → (j < n) × (level j < level i)
  way_level i j lt on =
      let low : i < length contexts = omega (arith, lt, has.count) in
      let out = leads_out contexts are i j low on.way in
      (omega (arith, out, lt), leads_down contexts are levels i j has low on.absolute on.way)

  -- a task of a lower level comes before
  sizes_lower : (i j x y : ℕ) → level j < level i → x < n + n → round_start n (level j) + x < round_start n (level i) + y
  sizes_lower i j x y lt within = let e = lower (level j) (level i) (n + n) x y lt within in omega (arith, e)

  pub before : (phase : Phase) (i : ℕ) → i < n → (needed : Phase) (j : ℕ) → Needs contexts (record { context = i; phase = phase }) (record { context = j; phase = needed }) → IsBefore phase i needed j
  before Measure i lt Measure j needs =
      let inside = inner_level i j lt needs in
      record { within = inside.1; earlier = omega (arith, inside.0, inside.1) }
  before Measure i lt Size j needs = absurd needs
  before Measure i lt Place j needs = absurd needs
  before Size i lt Measure j needs = record { within = omega (arith, needs, lt); earlier = omega (arith, needs, lt) }
  before Size i lt Size j (inl around) =
      let low : i < length contexts = omega (arith, lt, has.count) in
      let outer = are.outer i around.some low in
      let same : level j ≡ level i = ap level around.is ∙ sym (flow_level i around.some lt around.in_flow) in
      let rounds : round_start n (level j) ≡ round_start n (level i) = ap (round_start n) same in
      record { within = omega (arith, outer, around.is, lt); earlier = omega (arith, rounds, outer, around.is) }
  before Size i lt Size j (inr way) =
      let there = way_level i j lt way in
      record { within = there.0; earlier = sizes_lower i j j i there.1 (omega (arith, there.0)) }
  before Size i lt Place j way =
      let there = way_level i j lt way in
      record { within = there.0; earlier = sizes_lower i j (n + n - 1 - j) i there.1 (omega (arith, there.0)) }
  before Place i lt Measure j needs = absurd needs
  before Place i lt Size j (inl same) =
      let rounds : round_start n (level j) ≡ round_start n (level i) = ap (λ (k : ℕ). round_start n (level k)) same in
      record { within = omega (arith, same, lt); earlier = omega (arith, rounds, same, lt) }
  before Place i lt Size j (inr way) =
      let there = way_level i j lt way in
      record { within = there.0; earlier = sizes_lower i j j (n + n - 1 - i) there.1 (omega (arith, there.0)) }
  before Place i lt Place j (inl inner) =
      let inside = inner_level i j lt inner in
      let rounds : round_start n (level j) ≡ round_start n (level i) = ap (round_start n) inside.2 in
      record { within = inside.1; earlier = omega (arith, rounds, inside.0, inside.1) }
  before Place i lt Place j (inr way) =
      let there = way_level i j lt way in
      record { within = there.0; earlier = sizes_lower i j (n + n - 1 - j) (n + n - 1 - i) there.1 (omega (arith, there.0)) }

  -- which task has a turn: preferred widths in the first round
  pub measured : (phase : Phase) (j i : ℕ) → j < n → i < n → turn phase j ≡ n - 1 - i → task j phase ≡ task i Measure
  measured Measure j i lj li e = ap (λ (k : ℕ). task k Measure) (omega (arith, e, lj, li))
  measured Size j i lj li e = absurd (omega (arith, e, lj, li))
  measured Place j i lj li e = absurd (omega (arith, e, lj, li))

  -- and sizes and placements in the round of their level
  pub sized : (phase : Phase) (j l i : ℕ) → j < n → i < n → turn phase j ≡ round_start n l + i → (task j phase ≡ task i Size) × (level i ≡ l)
  sized Measure j l i lj li e = absurd (omega (arith, e, lj, li))
  sized Size j l i lj li e =
      let r = one_round (level j) l (n + n) j i (omega (arith, lj)) (omega (arith, li)) (omega (arith, e)) in
      (ap (λ (k : ℕ). task k Size) r.1, ap level (sym r.1) ∙ r.0)
  sized Place j l i lj li e =
      let r = one_round (level j) l (n + n) (n + n - 1 - j) i (omega (arith, lj)) (omega (arith, li)) (omega (arith, e)) in
      absurd (omega (arith, r.1, lj, li))

  pub placed : (phase : Phase) (j l i : ℕ) → j < n → i < n → turn phase j ≡ round_start n l + (n + n - 1 - i) → (task j phase ≡ task i Place) × (level i ≡ l)
  placed Measure j l i lj li e = absurd (omega (arith, e, lj, li))
  placed Size j l i lj li e =
      let r = one_round (level j) l (n + n) j (n + n - 1 - i) (omega (arith, lj)) (omega (arith, li)) (omega (arith, e)) in
      absurd (omega (arith, r.1, lj, li))
  placed Place j l i lj li e =
      let r = one_round (level j) l (n + n) (n + n - 1 - j) (n + n - 1 - i) (omega (arith, lj)) (omega (arith, li)) (omega (arith, e)) in
      let same : j ≡ i = omega (arith, r.1, lj, li) in
      (ap (λ (k : ℕ). task k Place) same, ap level (sym same) ∙ r.0)

  -- all turns are in the rounds of the levels
  pub turn_within : (phase : Phase) (j l : ℕ) → j < n → level j < l → turn phase j < round_start n l
  turn_within Measure j l lj low = omega (arith, lj)
  turn_within Size j l lj low = let e = lower (level j) l (n + n) j 0 low (omega (arith, lj)) in omega (arith, e)
  turn_within Place j l lj low = let e = lower (level j) l (n + n) (n + n - 1 - j) 0 low (omega (arith, lj)) in omega (arith, e)

pub needs_come_first_lem : NeedsComeFirst
needs_come_first_lem contexts levels t needed are has within needs =
    let b = before contexts levels are has t.phase t.context (omega (arith, within, has.count)) needed.phase needed.context needs in
    record { within = omega (arith, b.within, has.count); earlier = b.earlier }
