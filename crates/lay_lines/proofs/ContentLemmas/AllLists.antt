-- What holds of each element of a list, element by element.
use Rattle.std.proofs.Common.{◌≡◌, ℕ, ◌+◌, ◌<◌, Bool, IsTrue, IsFalse, List, length, get_or, All, inl, inr, sym, subst, arith}
use Rattle.std.proofs.lemmas.Bool.{cases_lt}
use Rattle.std.proofs.lemmas.List.{get_or_default}
use Rattle.lay_lines.proofs.ContentLemmas.Outcomes.{not_both}

-- of the first k
abbrev pub AllTo : {X : Type 0} → (X → Type 0) → List X → ℕ → Type 0
AllTo {X} P xs k = (i : ℕ) (d : X) → i < k → i < length xs → P (get_or xs i d)

pub all_more : {X : Type 0} (P : X → Type 0) (xs : List X) (k : ℕ) (x : X) → AllTo P xs k → P (get_or xs k x) → AllTo P xs (k + 1)
all_more {X} P xs k x so_far p i d less within = elim (cases_lt i k) [
  | inl low ↦ so_far i d low within
  | inr high ↦ (let e : k ≡ i = omega (arith, less, high) in
      subst P (get_or_default xs i x d within) (subst (λ (n : ℕ). P (get_or xs n x)) e p))
]

pub all_of : {X : Type 0} (P : X → Type 0) (xs : List X) (k : ℕ) → AllTo P xs k → length xs ≡ k → All P xs
all_of P xs k so_far e i d within = so_far i d (omega (arith, e, within)) within

pub none_at : {X : Type 0} (P : X → Type 0) (xs : List X) (k : ℕ) (x : X) (b : Bool) → All P xs → k < length xs → x ≡ get_or xs k x → (P x → IsTrue b) → IsFalse b → ⊥
none_at {X} P xs k x b all within is pass fail = not_both b (pass (subst P (sym is) (all k x within))) fail
