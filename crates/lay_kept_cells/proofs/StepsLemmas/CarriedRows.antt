-- Rows after a new shape and after marks: each has its entry, and one that is clean, or has a claim that isn't stale, was there before.
use Rattle.std.proofs.Common.{◌≡◌, ◌⊎◌, inl, inr, ◌+◌, ℕ, zero, suc, true, false, List, [], ◌∷◌, map, slice_get, Option, None, Some, option_map, refl, ap, sym, subst, ◌∙◌, arith}
use Rattle.std.proofs.lemmas.Option.{same_Some}
use Rattle.lay_cells.specs.Marks.{MarksWhere, Marks, Reached, marked}
use Rattle.lay_cells.specs.Reshapes.{Carries, Rebuilds, RebuildsAll, made_row}
use Rattle.lay_cells.specs.Rows.{Row, entry_of}
use Rattle.lay_cells.specs.Shapes.{Entry, IsIn}
use Rattle.lay_cells.specs.Steps.{IsStale}
use Rattle.lay_cells.specs.declared.cell.Open.{Open}
use Rattle.lay_kept_cells.proofs.Cited.{beside, marked_entry, not_fresh_row}

no_claim : (o : Option Open) → o ≡ None → option_map (λ (c : Open). c.stale) o ≡ Some false → ⊥
no_claim None e f = absurd cc
no_claim (Some c) e f = absurd cc

module _ {K I V : Type 0} where
  -- dirty, and with no claim but a stale one
  pub record IsIdle (r : Row K I V) : Type 0 where
    pub dirty : r.dirty ≡ true
    pub fresh : IsStale r false → ⊥

  pub made_idle : (e : Entry K) (n : ℕ) (q : Row K I V) → q ≡ made_row e n → IsIdle q
  made_idle e n q is = record { dirty = ap (λ (z : Row K I V). z.dirty) is; fresh = no_claim q.claim (ap (λ (z : Row K I V). z.claim) is) }

  pub marked_idle : (r q : Row K I V) → q ≡ marked r → IsIdle q
  marked_idle r q is = record { dirty = ap (λ (z : Row K I V). z.dirty) is; fresh = λ f. not_fresh_row r (subst (λ (z : Row K I V). IsStale z false) is f) }

  renewed_idle : (r q : Row K I V) (needs : List K) → q ≡ record (marked r) { needs = needs } → IsIdle q
  renewed_idle r q needs is = record { dirty = ap (λ (z : Row K I V). z.dirty) is; fresh = λ f. not_fresh_row r (subst (λ (z : Row K I V). IsStale z false) is f) }

  module _ (old : List (Row K I V)) (F : K → Type 0) (new : List (Row K I V)) where
    carried_entry : (r : Row K I V) (e : Entry K) (q : Row K I V) → r.key ≡ e.key → Carries new r e q → entry_of q ≡ e
    carried_entry r e q key (inl h) = ap entry_of h.1 ∙ ap (λ (k : K). record { key = k; needs = e.needs }) key
    carried_entry r e q key (inr h) =
        ap entry_of h.2 ∙ ap (λ (k : K). record { key = k; needs = r.needs }) key ∙ ap (λ (ns : List K). record { key = e.key; needs = ns }) h.0

    rebuilt_entry : (n : ℕ) (e : Entry K) (q : Row K I V) (m : ℕ) → Rebuilds old F new n e q m → entry_of q ≡ e
    rebuilt_entry n e q m (inl h) = ap entry_of h.1
    rebuilt_entry n e q m (inr h) = carried_entry h.0 e q h.1.2 h.2

    pub rebuilt_entries : (n : ℕ) (es : List (Entry K)) (qs : List (Row K I V)) (m : ℕ) → RebuildsAll old F new n es qs m → map entry_of qs ≡ es
    rebuilt_entries n [] [] m h = refl
    rebuilt_entries n [] (q ∷ qs) m h = absurd h
    rebuilt_entries n (e ∷ es) [] m h = absurd h
    rebuilt_entries n (e ∷ es) (q ∷ qs) m h =
        ap (λ (x : Entry K). x ∷ map entry_of qs) (rebuilt_entry n e q h.0 h.1) ∙ ap (λ (xs : List (Entry K)). e ∷ xs) (rebuilt_entries h.0 es qs m h.2)

    carried_row : (r : Row K I V) (e : Entry K) (q : Row K I V) → IsIn old r → Carries new r e q → IsIdle q ⊎ IsIn old q
    carried_row r e q there (inl h) = inl (renewed_idle r q e.needs h.1)
    carried_row r e q there (inr h) = inr (subst (IsIn old) (sym h.2) there)

    rebuilt_row : (n : ℕ) (e : Entry K) (q : Row K I V) (m : ℕ) → Rebuilds old F new n e q m → IsIdle q ⊎ IsIn old q
    rebuilt_row n e q m (inl h) = inl (made_idle e (n + 1) q h.1)
    rebuilt_row n e q m (inr h) = carried_row h.0 e q h.1.1 h.2

    pub rebuilt_rows : (n : ℕ) (es : List (Entry K)) (qs : List (Row K I V)) (m : ℕ) → RebuildsAll old F new n es qs m → (i : ℕ) (z : Row K I V) → slice_get qs i ≡ Some z → IsIdle z ⊎ IsIn old z
    rebuilt_rows n es [] m h i z at = absurd cc
    rebuilt_rows n [] (q ∷ qs) m h i z at = absurd h
    rebuilt_rows n (e ∷ es) (q ∷ qs) m h zero z at = subst (λ (x : Row K I V). IsIdle x ⊎ IsIn old x) (same_Some q z at) (rebuilt_row n e q h.0 h.1)
    rebuilt_rows n (e ∷ es) (q ∷ qs) m h (suc i) z at = rebuilt_rows h.0 es qs m h.2 i z at

  pub marks_entries : (P : Row K I V → Type 0) (rows new : List (Row K I V)) → MarksWhere P rows new → map entry_of new ≡ map entry_of rows
  marks_entries P [] [] marks = refl
  marks_entries P [] (q ∷ new) marks = absurd (let e = marks.same in omega (arith, e))
  marks_entries P (r ∷ rows) [] marks = absurd (let e = marks.same in omega (arith, e))
  marks_entries P (r ∷ rows) (q ∷ new) marks =
      let rest : MarksWhere P rows new = record { same = (let e = marks.same in omega (arith, e)); each = λ i x y at_x at_y. marks.each (suc i) x y at_x at_y } in
      ap (λ (x : Entry K). x ∷ map entry_of new) (marked_entry r q (marks.each 0 r q refl refl)) ∙ ap (λ (xs : List (Entry K)). entry_of r ∷ xs) (marks_entries P rows new rest)

  -- a row after marks
  pub marks_rows : (rows new : List (Row K I V)) (keys : List K) → Marks rows keys new → (i : ℕ) (z : Row K I V) → slice_get new i ≡ Some z
      → IsIdle z ⊎ (IsIn rows z × (Reached rows keys z.key → ⊥))
  marks_rows rows new keys marks i z at =
      let r = beside rows new marks.same i z at z in
      by r.0 r.1 (marks.each i r.0 z r.1 at)
    where
      by : (r : Row K I V) → slice_get rows i ≡ Some r → (Reached rows keys r.key × (z ≡ marked r)) ⊎ ((Reached rows keys r.key → ⊥) × (z ≡ r)) → IsIdle z ⊎ (IsIn rows z × (Reached rows keys z.key → ⊥))
      by r at_r (inl h) = inl (marked_idle r z h.1)
      by r at_r (inr h) = inr (subst (λ (x : Row K I V). IsIn rows x × (Reached rows keys x.key → ⊥)) (sym h.1) ((i, at_r), h.0))
