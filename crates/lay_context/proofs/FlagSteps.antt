-- Flags with one more.
use Rattle.std.proofs.Common.{◌≡◌, ◌<◌, ◌+◌, ℕ, Bool, List, [], ◌∷◌, ◌++◌, length, ◌∙◌, arith, inl, inr}
use Rattle.std.proofs.lemmas.Bool.{cases_lt}
use Rattle.std.proofs.lemmas.Grind.{elements}
use Rattle.lay_flow.specs.Blocks.Children.{flag_at}

pub read_before : (flags : List Bool) (b : Bool) (k : ℕ) → k < length flags → flag_at (flags ++ b ∷ []) k ≡ flag_at flags k
read_before flags b k lt = grind (arith, elements)

pub read_last : (flags : List Bool) (b : Bool) (k : ℕ) → k ≡ length flags → flag_at (flags ++ b ∷ []) k ≡ b
read_last flags b k e = grind (arith, elements)

pub one_more : (f : ℕ → Bool) (flags : List Bool) (b : Bool) (i : ℕ) → length flags ≡ i → ((j : ℕ) → j < i → flag_at flags j ≡ f j) → b ≡ f i
    → (j : ℕ) → j < i + 1 → flag_at (flags ++ b ∷ []) j ≡ f j
one_more f flags b i counted so_far is j lt = elim (cases_lt j i) [
  | inl low ↦ read_before flags b j (omega (arith, low, counted)) ∙ so_far j low
  | inr high ↦ (let here : j ≡ i = omega (arith, lt, high) in rw here (read_last flags b i (omega (arith, counted)) ∙ is))
]
