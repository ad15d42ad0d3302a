-- A column of levels that grows, from outer to inner formatting contexts.
use Rattle.std.proofs.Common.{◌≡◌, ℕ, zero, suc, ◌+◌, ◌<◌, ◌≤◌, List, [], ◌∷◌, ◌++◌, length, slice_index, refl, sym, ◌∙◌, arith, inl, inr, Bool, true, false, add-one}
use Rattle.std.proofs.lemmas.Bool.{cases_lt}
use Rattle.std.proofs.lemmas.Grind.{elements}
use Rattle.lay_contexts.specs.FormattingContexts.{AreFormattingContexts, FormattingContext, formatting_context_at}
use Rattle.lay_positioned.specs.Absolute.{is_absolute}
use Rattle.lay_positioned.specs.Levels.{AreFewLevels, HasLevels, level_beside, one_if}

-- the first n have their levels, which are few
pub record LevelsTo (contexts : List FormattingContext) (levels : List ℕ) (n : ℕ) : Type 0 where
  pub count : length levels ≡ n
  pub each : (k : ℕ) → k < n → slice_index levels k ≡ level_beside contexts levels k
  pub few : AreFewLevels levels

read_before : (xs : List ℕ) (x k : ℕ) → k < length xs → slice_index (xs ++ x ∷ []) k ≡ slice_index xs k
read_before xs x k lt = grind (arith, elements)

read_last : (xs : List ℕ) (x k : ℕ) → k ≡ length xs → slice_index (xs ++ x ∷ []) k ≡ x
read_last xs x k e = grind (arith, elements)

-- the levels of outer ones are enough
pub level_same : (contexts : List FormattingContext) (xs ys : List ℕ) → AreFormattingContexts contexts → (i : ℕ) → i < length contexts
    → ((j : ℕ) → j < i → slice_index xs j ≡ slice_index ys j) → level_beside contexts xs i ≡ level_beside contexts ys i
level_same contexts xs ys are zero within same = refl
level_same contexts xs ys are (suc i) within same =
    let e = same (formatting_context_at contexts (suc i)).outer (are.outer (suc i) (omega arith) within) in rw e refl

pub one_more : (contexts : List FormattingContext) (xs : List ℕ) (n x : ℕ) → AreFormattingContexts contexts → n < length contexts
    → LevelsTo contexts xs n → x ≡ level_beside contexts xs n → x ≤ n + 1 → LevelsTo contexts (xs ++ x ∷ []) (n + 1)
one_more contexts xs n x are within so_far is small = record {
  count = grind (arith, elements, so_far.count);
  each = λ k lt. elim (cases_lt k n) [
    | inl low ↦ read_before xs x k (omega (arith, so_far.count)) ∙ so_far.each k low ∙ level_same contexts xs (xs ++ x ∷ []) are k (omega (arith, within)) (λ j jl. sym (read_before xs x j (omega (arith, so_far.count))))
    | inr high ↦ (let q : k ≡ n = omega (arith, high, lt) in
        rw q (read_last xs x n (sym so_far.count) ∙ is ∙ level_same contexts xs (xs ++ x ∷ []) are n within (λ j jl. sym (read_before xs x j (omega (arith, so_far.count))))))
  ];
  few = λ k lt. elim (cases_lt k n) [
    | inl low ↦ (let e = read_before xs x k (omega (arith, so_far.count)) in omega (arith, so_far.few k (omega (arith, so_far.count))))
    | inr high ↦ (let counted : length (xs ++ x ∷ []) ≡ length xs + 1 = grind (arith, elements) in let q : k ≡ n = omega (arith, high, lt, so_far.count) in let e = read_last xs x k (omega (arith, so_far.count)) in omega arith)
  ];
}

pub one_at_most : (b : Bool) → one_if b ≤ 1
one_at_most true = omega arith
one_at_most false = omega arith

level_small : (contexts : List FormattingContext) (xs : List ℕ) → AreFormattingContexts contexts → (i : ℕ) → i < length contexts → i ≤ length xs → AreFewLevels xs → level_beside contexts xs i ≤ i + 1
level_small contexts xs are zero within le few = omega (arith, one_at_most (is_absolute contexts 0))
level_small contexts xs are (suc i) within le few =
    let outer = are.outer (suc i) (omega arith) within in
    let low = few (formatting_context_at contexts (suc i)).outer (omega (arith, outer, le)) in
    let own = one_at_most (is_absolute contexts (suc i)) in
    omega (arith, outer, low, own)

-- formatting contexts have levels
levels_to : List FormattingContext → ℕ → List ℕ
levels_to contexts zero = []
levels_to contexts (suc n) = levels_to contexts n ++ level_beside contexts (levels_to contexts n) n ∷ []

levels_to_are : (contexts : List FormattingContext) → AreFormattingContexts contexts → (n : ℕ) → n ≤ length contexts → LevelsTo contexts (levels_to contexts n) n
unfolding levels_to
levels_to_are contexts are zero le = record { count = refl; each = λ k lt. absurd (omega (arith, lt)); few = λ k lt. absurd (omega (arith, lt)) }
levels_to_are contexts are (suc n) le =
    let so_far = levels_to_are contexts are n (omega arith) in
    let small = level_small contexts (levels_to contexts n) are n (omega arith) (omega (arith, so_far.count)) so_far.few in
    rw (add-one n) at (one_more contexts (levels_to contexts n) n (level_beside contexts (levels_to contexts n) n) are (omega arith) so_far refl small)

pub levels_of : List FormattingContext → List ℕ
levels_of contexts = levels_to contexts (length contexts)

pub levels_are : (contexts : List FormattingContext) → AreFormattingContexts contexts → HasLevels contexts (levels_of contexts)
unfolding levels_of
levels_are contexts are =
    let all = levels_to_are contexts are (length contexts) (omega arith) in
    record { count = all.count; each = all.each }

-- levels that are below a count, with one more
pub all_below : (levels : List ℕ) (k count next : ℕ) → ((j : ℕ) → j < k → slice_index levels j < count) → count ≤ next → slice_index levels k < next
    → (j : ℕ) → j < k + 1 → slice_index levels j < next
all_below levels k count next below le own j lt = elim (cases_lt j k) [
  | inl low ↦ omega (arith, below j low, le)
  | inr high ↦ (let q : j ≡ k = omega (arith, high, lt) in rw q own)
]
