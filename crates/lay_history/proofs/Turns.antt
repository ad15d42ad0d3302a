-- Calls in turn: one more call, and the scripts determine their order.
use Rattle.std.proofs.Common.{◌≡◌, ◌<◌, ℕ, ◌==◌, suc, List, [], ◌∷◌, ◌++◌, Bool, true, false, if◌then◌else◌, Some, refl, sym, ap, ◌∙◌, subst, arith, inl, inr, ne_eqb, slice_get, All}
use Rattle.std.proofs.lemmas.Bool.{cases_eq}
use Rattle.std.proofs.lemmas.Option.{none-some}
use Rattle.lay_history.specs.Calls.{Call, IsEarlier, calls, calls_of}
use Rattle.lay_history.specs.Laws.{OneOrder}
use Rattle.lay_history.proofs.Lists.{all_at, get_more}
use Rattle.lay_history.proofs.Shown.{first_same, own_first, rest_same}

-- each of these calls comes before those behind it
abbrev pub AreInTurn : List Call → Type 0
AreInTurn cs = (j k : ℕ) (a b : Call) → j < k → slice_get cs j ≡ Some a → slice_get cs k ≡ Some b → IsEarlier a b

pub turn_more : (cs : List Call) (c : Call) → AreInTurn cs → All (λ a. IsEarlier a c) cs → AreInTurn (cs ++ c ∷ [])
turn_more cs c turns earlier j k a b lt at_j at_k = elim (get_more cs c a j at_j) [
  | inl old_j ↦ elim (get_more cs c b k at_k) [
    | inl old_k ↦ turns j k a b lt old_j.1 old_k.1
    | inr new_k ↦ subst (λ x. IsEarlier a x) new_k.1 (all_at (λ x. IsEarlier x c) cs j a earlier old_j.1)
  ]
  | inr new_j ↦ absurd (elim (get_more cs c b k at_k) [
    | inl old_k ↦ (let x = old_k.0 in let y = new_j.0 in omega (arith, lt, x, y))
    | inr new_k ↦ (let x = new_k.0 in let y = new_j.0 in omega (arith, lt, x, y))
  ])
]

not_both : (a b : Call) → IsEarlier a b → IsEarlier b a → ⊥
not_both a b ab ba = elim ab [
  | inl low ↦ elim ba [ inl lower ↦ omega (arith, low, lower) | inr same ↦ (let e = same.0 in omega (arith, low, e)) ]
  | inr same ↦ elim ba [
    | inl low ↦ (let e = same.0 in omega (arith, low, e))
    | inr other ↦ (let x = same.1 in let y = other.1 in omega (arith, x, y))
  ]
]

other_left_out : (b : Bool) (c : Call) (cs : List Call) → b ≡ false → (if b then c ∷ [] else []) ++ cs ≡ cs
other_left_out true c cs e = ap (λ b. (if b then c ∷ [] else []) ++ cs) e
other_left_out false c cs e = refl

-- a call that isn't the editor's
skipped : (editor : ℕ) (c : Call) (cs : List Call) → (c.editor ≡ editor → ⊥) → calls_of editor (c ∷ cs) ≡ calls_of editor cs
skipped editor c cs other = other_left_out (c.editor == editor) c (calls_of editor cs) (ne_eqb c.editor editor other)

-- a call among an editor's stands somewhere among all
pub record IsThere (cs : List Call) (c : Call) : Type 0 where
  pub place : ℕ
  pub is : slice_get cs place ≡ Some c

pub is_there : (editor : ℕ) (cs : List Call) (c : Call) (rest : List Call) → calls_of editor cs ≡ c ∷ rest → IsThere cs c
is_there editor [] c rest e = absurd (none-some c (ap (λ xs. slice_get xs 0) e))
is_there editor (x ∷ cs) c rest e = by_editor (x.editor == editor) (is_there editor cs c rest) e
  where
    by_editor : (b : Bool) → (calls_of editor cs ≡ c ∷ rest → IsThere cs c) → (if b then x ∷ [] else []) ++ calls_of editor cs ≡ c ∷ rest → IsThere (x ∷ cs) c
    by_editor true further e = record { place = 0; is = ap (λ xs. slice_get xs 0) e }
    by_editor false further e = record { place = suc (further e).place; is = (further e).is }

pub same_order : (xs ys : List Call) → AreInTurn xs → AreInTurn ys → ((editor : ℕ) → calls_of editor xs ≡ calls_of editor ys) → xs ≡ ys
same_order [] [] turns_x turns_y same = refl
same_order [] (y ∷ ys) turns_x turns_y same =
    absurd (none-some y (ap (λ zs. slice_get zs 0) (same y.editor ∙ own_first y ys)))
same_order (x ∷ xs) [] turns_x turns_y same =
    absurd (none-some x (ap (λ zs. slice_get zs 0) (sym (same x.editor) ∙ own_first x xs)))
same_order (x ∷ xs) (y ∷ ys) turns_x turns_y same = elim (cases_eq y.editor x.editor) [
  | inl own ↦ (let rest = same_order xs ys
      (λ j k a b lt at_j at_k. turns_x (suc j) (suc k) a b (omega (arith, lt)) at_j at_k)
      (λ j k a b lt at_j at_k. turns_y (suc j) (suc k) a b (omega (arith, lt)) at_j at_k)
      (rest_same x y xs ys own same) in
      ap (λ z. z ∷ xs) (first_same x y xs ys own same) ∙ ap (λ zs. y ∷ zs) rest)
  | inr other ↦ absurd (
      let in_ys = is_there x.editor ys x (calls_of x.editor xs) (sym (skipped x.editor y ys other) ∙ (sym (same x.editor) ∙ own_first x xs)) in
      let in_xs = is_there y.editor xs y (calls_of y.editor ys) (sym (skipped y.editor x xs (λ e. other (sym e))) ∙ (same y.editor ∙ own_first y ys)) in
      not_both x y (turns_x 0 (suc in_xs.place) x y (omega arith) refl in_xs.is) (turns_y 0 (suc in_ys.place) y x (omega arith) refl in_ys.is))
]

pub one_order : OneOrder
one_order scripts g h of_g of_h turns_g turns_h = same_order (calls g) (calls h) turns_g turns_h (λ editor. of_g editor ∙ sym (of_h editor))
