-- Values that are laid end to end.
use Rattle.std.proofs.Common.{◌≡◌, ◌<◌, ◌≤◌, ◌+◌, ◌⊎◌, inl, inr, ℕ, zero, suc, List, [], ◌∷◌, ◌++◌, length, slice_index_or, refl, ap, sym, ◌∙◌, arith}
use Rattle.lay_contexts.specs.Contexts.{Context}
use Rattle.lay_contexts.specs.FormattingContextList.{first_number}
use Rattle.lay_cell_work.specs.KeptValues.{end_to_end, padded}
use Rattle.lay_cell_work.specs.PresentInputs.{root_count}
use Rattle.lay_cell_work.specs.CellLaws.Laws.{ValuesStandAtNumbers}

module _ {X : Type 0} where
  padded_count : (nothing : X) (n : ℕ) (xs : List X) → length (padded nothing n xs) ≡ n
  padded_count nothing zero xs = refl
  padded_count nothing (suc n) [] = ap suc (padded_count nothing n [])
  padded_count nothing (suc n) (x ∷ xs) = ap suc (padded_count nothing n xs)

  nowhere : (nothing : X) (r : ℕ) → slice_index_or [] r nothing ≡ nothing
  nowhere nothing zero = refl
  nowhere nothing (suc r) = refl

  padded_at : (nothing : X) (n : ℕ) (xs : List X) (r : ℕ) → r < n → slice_index_or (padded nothing n xs) r nothing ≡ slice_index_or xs r nothing
  padded_at nothing zero xs r lt = absurd (omega (arith, lt))
  padded_at nothing (suc n) [] zero lt = refl
  padded_at nothing (suc n) [] (suc r) lt = padded_at nothing n [] r (omega (arith, lt)) ∙ nowhere nothing r
  padded_at nothing (suc n) (x ∷ xs) zero lt = refl
  padded_at nothing (suc n) (x ∷ xs) (suc r) lt = padded_at nothing n xs r (omega (arith, lt))

  before : (nothing : X) (xs ys : List X) (k : ℕ) → k < length xs → slice_index_or (xs ++ ys) k nothing ≡ slice_index_or xs k nothing
  before nothing [] ys k lt = absurd (omega (arith, lt))
  before nothing (x ∷ xs) ys zero lt = refl
  before nothing (x ∷ xs) ys (suc k) lt = before nothing xs ys k (omega (arith, lt))

  same_place : (xs : List X) (nothing : X) (k m : ℕ) → k ≡ m → slice_index_or xs k nothing ≡ slice_index_or xs m nothing
  same_place xs nothing k m e = ap (λ (n : ℕ). slice_index_or xs n nothing) e

  behind : (nothing : X) (xs ys : List X) (k m : ℕ) → k ≡ length xs + m → slice_index_or (xs ++ ys) k nothing ≡ slice_index_or ys m nothing
  behind nothing [] ys k m e = same_place ys nothing k m (omega (arith, e))
  behind nothing (x ∷ xs) ys zero m e = absurd (omega (arith, e))
  behind nothing (x ∷ xs) ys (suc k) m e = behind nothing xs ys k m (omega (arith, e))

  count_of : (xs ys : List X) (a b : ℕ) → length xs ≡ a → length ys ≡ b → length (xs ++ ys) ≡ a + b
  count_of [] ys a b e f = omega (arith, e, f)
  count_of (x ∷ xs) ys zero b e f = absurd (omega (arith, e))
  count_of (x ∷ xs) ys (suc a) b e f = let more = count_of xs ys a b (omega (arith, e)) f in omega (arith, more)

  pub counted : (nothing : X) (contexts : List Context) (kept : ℕ → List X) (n : ℕ) → length (end_to_end nothing contexts kept n) ≡ first_number contexts n
  counted nothing contexts kept zero = refl
  counted nothing contexts kept (suc n) =
      count_of (end_to_end nothing contexts kept n) (padded nothing (root_count contexts n) (kept n)) (first_number contexts n) (root_count contexts n)
      (counted nothing contexts kept n) (padded_count nothing (root_count contexts n) (kept n))

last : (c n : ℕ) → c < suc n → (c < n) ⊎ (c ≡ n)
last zero zero lt = inr refl
last zero (suc n) lt = inl (omega arith)
last (suc c) zero lt = absurd (omega (arith, lt))
last (suc c) (suc n) lt = up (last c n (omega (arith, lt)))
  where
    up : (c < n) ⊎ (c ≡ n) → (suc c < suc n) ⊎ (suc c ≡ suc n)
    up (inl p) = inl (omega (arith, p))
    up (inr p) = inr (ap suc p)

same_end : (contexts : List Context) (c n : ℕ) → c ≡ n → first_number contexts c + root_count contexts c ≡ first_number contexts n + root_count contexts n
same_end contexts c n e = rw e refl

rising_by : (contexts : List Context) (c n : ℕ) → ((c < n) → first_number contexts c + root_count contexts c ≤ first_number contexts n) → (c < n) ⊎ (c ≡ n)
    → first_number contexts c + root_count contexts c ≤ first_number contexts n + root_count contexts n
rising_by contexts c n less (inl p) = let e = less p in omega (arith, e)
rising_by contexts c n less (inr p) = let e = same_end contexts c n p in omega (arith, e)

rising : (contexts : List Context) (c n : ℕ) → c < n → first_number contexts c + root_count contexts c ≤ first_number contexts n
rising contexts c zero lt = absurd (omega (arith, lt))
rising contexts c (suc n) lt = rising_by contexts c n (rising contexts c n) (last c n lt)

module _ {X : Type 0} where
  stands_by : (nothing : X) (contexts : List Context) (kept : ℕ → List X) (n c r : ℕ) → r < root_count contexts c
      → ((c < n) → slice_index_or (end_to_end nothing contexts kept n) (first_number contexts c + r) nothing ≡ slice_index_or (kept c) r nothing)
      → (c < n) ⊎ (c ≡ n) → slice_index_or (end_to_end nothing contexts kept (suc n)) (first_number contexts c + r) nothing ≡ slice_index_or (kept c) r nothing
  stands_by nothing contexts kept n c r lt less (inl p) =
      let all = counted nothing contexts kept n in
      let up = rising contexts c n p in
      before nothing (end_to_end nothing contexts kept n) (padded nothing (root_count contexts n) (kept n)) (first_number contexts c + r) (omega (arith, all, up, lt)) ∙ less p
  stands_by nothing contexts kept n c r lt less (inr p) =
      let all = counted nothing contexts kept n in
      let same : first_number contexts c ≡ first_number contexts n = ap (first_number contexts) p in
      let few : r < root_count contexts n = rw (sym p) lt in
      behind nothing (end_to_end nothing contexts kept n) (padded nothing (root_count contexts n) (kept n)) (first_number contexts c + r) r (omega (arith, all, same))
      ∙ padded_at nothing (root_count contexts n) (kept n) r few ∙ ap (λ (m : ℕ). slice_index_or (kept m) r nothing) (sym p)

  pub stands : (nothing : X) (contexts : List Context) (kept : ℕ → List X) (n c r : ℕ) → c < n → r < root_count contexts c
      → slice_index_or (end_to_end nothing contexts kept n) (first_number contexts c + r) nothing ≡ slice_index_or (kept c) r nothing
  stands nothing contexts kept zero c r lt few = absurd (omega (arith, lt))
  stands nothing contexts kept (suc n) c r lt few = stands_by nothing contexts kept n c r few (λ p. stands nothing contexts kept n c r p few) (last c n lt)

pub stands_lem : (X : Type 0) → ValuesStandAtNumbers X
stands_lem X nothing contexts kept n c r lt few = stands nothing contexts kept n c r lt few
