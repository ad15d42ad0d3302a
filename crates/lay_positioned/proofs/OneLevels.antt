-- Levels are the only ones, since each rests on that of the formatting context around it, and the way to a containing block leads out
-- to lower ones.
use Rattle.std.proofs.Common.{◌≡◌, ℕ, zero, suc, ◌+◌, ◌<◌, ◌≤◌, Bool, true, List, length, slice_index, sym, ap, ◌∙◌, arith, inl, inr}
use Rattle.std.proofs.lemmas.Bool.{cases_lt}
use Rattle.std.proofs.lemmas.List.{ext_get_or}
use Rattle.lay_contexts.specs.FormattingContexts.{AreFormattingContexts, FormattingContext, formatting_context_at}
use Rattle.lay_positioned.specs.Absolute.{is_absolute, is_fixed}
use Rattle.lay_positioned.specs.Laws.{OneLevelCount, OneLevels, WaysLeadDown, WaysLeadOut}
use Rattle.lay_positioned.specs.Levels.{HasLevels, one_if}
use Rattle.lay_positioned.specs.Ways.{IsOnWay, IsOnWayFrom, further, here}
use Rattle.lay_positioned.proofs.LevelSteps.{level_same}

module _ (contexts : List FormattingContext) (are : AreFormattingContexts contexts) where
  levels_before : (x y : List ℕ) → HasLevels contexts x → HasLevels contexts y → (n : ℕ) → n ≤ length contexts → (i : ℕ) → i < n → slice_index x i ≡ slice_index y i
  levels_before x y a b zero le i lt = absurd (omega arith)
  levels_before x y a b (suc n) le i lt = elim (cases_lt i n) [
    | inl low ↦ levels_before x y a b n (omega arith) i low
    | inr high ↦ a.each i (omega arith) ∙ level_same contexts x y are i (omega arith) (λ j jl. levels_before x y a b n (omega arith) j (omega arith)) ∙ sym (b.each i (omega arith))
  ]

  pub one_column : (x y : List ℕ) → HasLevels contexts x → HasLevels contexts y → x ≡ y
  one_column x y a b = ext_get_or 0 x y (a.count ∙ sym b.count) (λ i lt. levels_before x y a b (length contexts) (omega arith) i (omega (arith, a.count)))

  -- the level of an inner one is that of the one around it and its own
  pub level_inside : (levels : List ℕ) → HasLevels contexts levels → (i : ℕ) → 0 < i → i < length contexts
      → slice_index levels i ≡ slice_index levels (formatting_context_at contexts i).outer + one_if (is_absolute contexts i)
  level_inside levels has zero some within = absurd (omega arith)
  level_inside levels has (suc i) some within = has.each (suc i) within

  out : (fixed : Bool) (j i k : ℕ) → i < length contexts → IsOnWayFrom fixed contexts j i k → j ≤ i
  out fixed j i k within (here k-2) = omega arith
  out fixed j i k within (further i-2 k-2 some none rest) =
      let before = are.outer i some within in
      let less = out fixed j (formatting_context_at contexts i).outer (formatting_context_at contexts i).outer_box (omega arith) rest in
      omega arith

  down : (levels : List ℕ) → HasLevels contexts levels → (fixed : Bool) (j i k : ℕ) → i < length contexts → IsOnWayFrom fixed contexts j i k
      → slice_index levels j ≤ slice_index levels i
  down levels has fixed j i k within (here k-2) = omega arith
  down levels has fixed j i k within (further i-2 k-2 some none rest) =
      let before = are.outer i some within in
      let level = level_inside levels has i some within in
      let less = down levels has fixed j (formatting_context_at contexts i).outer (formatting_context_at contexts i).outer_box (omega arith) rest in
      omega arith

  pub leads_out : (i j : ℕ) → i < length contexts → IsOnWay contexts i j → j < i
  leads_out i j within on =
      let before = are.outer i on.some within in
      let less = out (is_fixed contexts i) j (formatting_context_at contexts i).outer (formatting_context_at contexts i).outer_box (omega arith) on.from in
      omega arith

  pub leads_down : (levels : List ℕ) (i j : ℕ) → HasLevels contexts levels → i < length contexts → is_absolute contexts i ≡ true → IsOnWay contexts i j → slice_index levels j < slice_index levels i
  leads_down levels i j has within absolute on =
      let before = are.outer i on.some within in
      let level = level_inside levels has i on.some within in
      let one : one_if (is_absolute contexts i) ≡ 1 = ap one_if absolute in
      let less = down levels has (is_fixed contexts i) j (formatting_context_at contexts i).outer (formatting_context_at contexts i).outer_box (omega arith) on.from in
      omega arith

pub one_levels_lem : OneLevels
one_levels_lem contexts x y are a b = one_column contexts are x y a b

pub ways_lead_out_lem : WaysLeadOut
ways_lead_out_lem contexts i j are within on = leads_out contexts are i j within on

pub ways_lead_down_lem : WaysLeadDown
ways_lead_down_lem contexts levels i j are has within absolute on = leads_down contexts are levels i j has within absolute on

pub one_level_count_lem : OneLevelCount
one_level_count_lem levels x y a b =
    let low = a.least y b.some b.above in
    let high = b.least x a.some a.above in
    omega (arith, low, high)
