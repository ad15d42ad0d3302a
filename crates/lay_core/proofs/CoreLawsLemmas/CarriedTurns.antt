-- The rows after a new shape and after marks: each is made anew, with no input, or was there with the same key, input and turns.
use Rattle.std.proofs.Common.{◌≡◌, ◌⊎◌, inl, inr, ℕ, zero, suc, List, [], ◌∷◌, slice_get, None, Some, refl, ap, sym, subst}
use Rattle.std.proofs.lemmas.Option.{same_Some}
use Rattle.lay_cells.specs.Marks.{Marks, Reached, marked}
use Rattle.lay_cells.specs.Reshapes.{Carries, Rebuilds, RebuildsAll}
use Rattle.lay_cells.specs.Rows.{Row}
use Rattle.lay_cells.specs.Shapes.{Entry, IsIn}
use Rattle.lay_core.proofs.Cited.{beside}

module _ {K I V : Type 0} where
  -- the row r is there, of the same cell
  pub record IsOldRow (rows : List (Row K I V)) (q : Row K I V) : Type 0 where
    pub row : Row K I V
    pub there : IsIn rows row
    pub key : row.key ≡ q.key
    pub given : row.given ≡ q.given
    pub turns : row.turns ≡ q.turns

  pub record IsNewRow (q : Row K I V) : Type 0 where
    pub given : q.given ≡ None
    pub turns : q.turns ≡ 0

  abbrev pub IsFrom : List (Row K I V) → Row K I V → Type 0
  IsFrom rows q = IsNewRow q ⊎ IsOldRow rows q

  module _ (old : List (Row K I V)) (F : K → Type 0) (new : List (Row K I V)) where
    carried : (r : Row K I V) (e : Entry K) (q : Row K I V) → IsIn old r → Carries new r e q → IsOldRow old q
    carried r e q there (inl h) =
        subst (λ (x : Row K I V). IsOldRow old x) (sym h.1) (record { row = r; there = there; key = refl; given = refl; turns = refl })
    carried r e q there (inr h) =
        subst (λ (x : Row K I V). IsOldRow old x) (sym h.2) (record { row = r; there = there; key = refl; given = refl; turns = refl })

    rebuilt : (n : ℕ) (e : Entry K) (q : Row K I V) (m : ℕ) → Rebuilds old F new n e q m → IsFrom old q
    rebuilt n e q m (inl h) = inl (record { given = ap (λ (z : Row K I V). z.given) h.1; turns = ap (λ (z : Row K I V). z.turns) h.1 })
    rebuilt n e q m (inr h) = inr (carried h.0 e q h.1.1 h.2)

    pub rebuilt_from : (n : ℕ) (es : List (Entry K)) (qs : List (Row K I V)) (m : ℕ) → RebuildsAll old F new n es qs m → (i : ℕ) (z : Row K I V) → slice_get qs i ≡ Some z → IsFrom old z
    rebuilt_from n es [] m h i z at = absurd cc
    rebuilt_from n [] (q ∷ qs) m h i z at = absurd h
    rebuilt_from n (e ∷ es) (q ∷ qs) m h zero z at = subst (λ (x : Row K I V). IsFrom old x) (same_Some q z at) (rebuilt n e q h.0 h.1)
    rebuilt_from n (e ∷ es) (q ∷ qs) m h (suc i) z at = rebuilt_from h.0 es qs m h.2 i z at

  marked_from : (old : List (Row K I V)) (r : Row K I V) → IsFrom old r → IsFrom old (marked r)
  marked_from old r (inl h) = inl (record { given = h.given; turns = h.turns })
  marked_from old r (inr h) = inr (record { row = h.row; there = h.there; key = h.key; given = h.given; turns = h.turns })

  pub marks_from : (old rows new : List (Row K I V)) (keys : List K) → Marks rows keys new → ((i : ℕ) (z : Row K I V) → slice_get rows i ≡ Some z → IsFrom old z)
      → (i : ℕ) (z : Row K I V) → slice_get new i ≡ Some z → IsFrom old z
  marks_from old rows new keys marks from i z at =
      let r = beside rows new marks.same i z at z in
      by r.0 r.1 (marks.each i r.0 z r.1 at)
    where
      by : (r : Row K I V) → slice_get rows i ≡ Some r → (Reached rows keys r.key × (z ≡ marked r)) ⊎ ((Reached rows keys r.key → ⊥) × (z ≡ r)) → IsFrom old z
      by r at_r (inl h) = subst (λ (x : Row K I V). IsFrom old x) (sym h.1) (marked_from old r (from i r at_r))
      by r at_r (inr h) = subst (λ (x : Row K I V). IsFrom old x) (sym h.1) (from i r at_r)
