-- How often claims of cells were granted, through what is done to the cells.
use Rattle.std.proofs.Common.{◌≡◌, ◌⊎◌, inl, inr, ℕ, zero, suc, ◌+◌, ◌≤◌, ◌<◌, List, [], ◌∷◌, Some, length, slice_get, slice_set, refl, rules, arith, ap, sym, subst, ◌∙◌}
use Rattle.std.proofs.lemmas.List.Sums.{sum_by-cons}
use Rattle.std.proofs.lemmas.Option.{same_Some}
use Rattle.lay_cells.specs.Marks.{Reached, marked}
use Rattle.lay_cells.specs.Reshapes.{Carries, Rebuilds, RebuildsAll}
use Rattle.lay_cells.specs.Rows.{Row, Solved, State}
use Rattle.lay_cells.specs.Shapes.{Entry, IsIn}
use Rattle.lay_cells.specs.Steps.{Claims, Finishes, GivesBack}
use Rattle.lay_cells.specs.declared.answers.Claimed.{Claimed}
use Rattle.lay_cells.specs.declared.answers.Claimed.TheVariants.{Granted, Reused, Taken}
use Rattle.lay_cells.specs.declared.answers.Finished.{Finished}
use Rattle.lay_cells.specs.declared.answers.Finished.TheVariants as finished
use Rattle.lay_cells.specs.declared.answers.Released.{Released}
use Rattle.lay_cells.specs.declared.answers.Released.TheVariants as released
use Rattle.lay_cells.specs.Progress.Grants.{ClaimsCount, CleanCellsCount, FinishesCount, FirstShapesDraw, GiveBacksCount, MarksCount, ReshapesCount, ReshapesDraw, grants, laid_of_all}

-- all but the element at a place
abbrev without : {X : Type 0} → List X → ℕ → List X
without [] i = []
without (x ∷ xs) zero = xs
without (x ∷ xs) (suc i) = x ∷ without xs i

in_without : {X : Type 0} (xs : List X) (i j : ℕ) (y : X) → (j ≡ i → ⊥) → slice_get xs j ≡ Some y → IsIn (without xs i) y
in_without [] i j y apart at = absurd (grind (rules, at))
in_without (x ∷ xs) zero zero y apart at = absurd (apart refl)
in_without (x ∷ xs) zero (suc j) y apart at = (j, at)
in_without (x ∷ xs) (suc i) zero y apart at = (zero, at)
in_without (x ∷ xs) (suc i) (suc j) y apart at = let h = in_without xs i j y (λ e. apart (ap suc e)) at in (suc h.0, h.1)

module _ {K I V : Type 0} where
  sum_cons : (r : Row K I V) (rows : List (Row K I V)) → laid_of_all (r ∷ rows) ≡ r.laid + laid_of_all rows
  sum_cons r rows = sum_by-cons (λ (x : Row K I V). x.laid) r rows

  sum_set : (rows : List (Row K I V)) (i : ℕ) (r q : Row K I V) → slice_get rows i ≡ Some r
      → laid_of_all (slice_set rows i q) + r.laid ≡ laid_of_all rows + q.laid
  sum_set [] i r q at = absurd (grind (rules, at))
  sum_set (a ∷ rows) zero r q at =
      let same : a.laid ≡ r.laid = ap (λ (x : Row K I V). x.laid) (same_Some a r at) in
      omega (arith, sum_cons q rows, sum_cons a rows, same)
  sum_set (a ∷ rows) (suc i) r q at =
      let rest = sum_set rows i r q at in
      omega (arith, sum_cons a (slice_set rows i q), sum_cons a rows, rest)

  -- a write that keeps the count, or raises it
  set_count : (rows : List (Row K I V)) (i : ℕ) (r q : Row K I V) (n : ℕ) → slice_get rows i ≡ Some r → q.laid ≡ r.laid + n
      → laid_of_all (slice_set rows i q) ≡ laid_of_all rows + n
  set_count rows i r q n at more = let h = sum_set rows i r q at in omega (arith, h, more)

  claim_count : (r q : Row K I V) (number : ℕ) (input : I) (a : Claimed) → Claims r number input a q → q.laid ≡ r.laid + grants a
  claim_count r q number input (Granted n) h = ap (λ (x : Row K I V). x.laid) h.4
  claim_count r q number input Reused h = let e : q.laid ≡ r.laid = ap (λ (x : Row K I V). x.laid) h.3 in omega (arith, e)
  claim_count r q number input (Taken n) h = let e : q.laid ≡ r.laid = ap (λ (x : Row K I V). x.laid) h.2 in omega (arith, e)

  pub claims_count_lem : ClaimsCount K I V
  claims_count_lem s t key input a h =
      let count = set_count s.rows h.0 h.1 h.2 (grants a) h.3.0 (claim_count h.1 h.2 (s.draws + 1) input a h.4) in
      ap (λ (x : State K I V). laid_of_all x.rows) h.5 ∙ count

  finish_count : (r q : Row K I V) (d : Solved K I V) (a : Finished) → Finishes r d a q → q.laid ≡ r.laid
  finish_count r q d finished.Gone h = ap (λ (x : Row K I V). x.laid) h.1
  finish_count r q d (finished.Superseded n) h = ap (λ (x : Row K I V). x.laid) h.3
  finish_count r q d finished.Stored h = ap (λ (x : Row K I V). x.laid) h.3
  finish_count r q d finished.Cleaned h = ap (λ (x : Row K I V). x.laid) h.3

  set_same : (rows : List (Row K I V)) (i : ℕ) (r q : Row K I V) → slice_get rows i ≡ Some r → q.laid ≡ r.laid
      → laid_of_all (slice_set rows i q) ≡ laid_of_all rows
  set_same rows i r q at same = let h = sum_set rows i r q at in omega (arith, h, same)

  pub finishes_count_lem : FinishesCount K I V
  finishes_count_lem s t d a (inl h) = ap (λ (x : State K I V). laid_of_all x.rows) h.2
  finishes_count_lem s t d a (inr h) =
      ap (λ (x : State K I V). laid_of_all x.rows) h.5 ∙ set_same s.rows h.0 h.1 h.2 h.3.0 (finish_count h.1 h.2 d a h.4)

  give_back_count : (r q : Row K I V) (number : ℕ) (a : Released) → GivesBack r number a q → q.laid ≡ r.laid
  give_back_count r q number released.Gone h = ap (λ (x : Row K I V). x.laid) h.1
  give_back_count r q number (released.Superseded n) h = ap (λ (x : Row K I V). x.laid) h.3
  give_back_count r q number released.Released h = ap (λ (x : Row K I V). x.laid) h.2

  pub give_backs_count_lem : GiveBacksCount K I V
  give_backs_count_lem s t key number a (inl h) = ap (λ (x : State K I V). laid_of_all x.rows) h.2
  give_backs_count_lem s t key number a (inr h) =
      ap (λ (x : State K I V). laid_of_all x.rows) h.5 ∙ set_same s.rows h.0 h.1 h.2 h.3.0 (give_back_count h.1 h.2 number a h.4)

  -- rows with the same counts
  same_counts : (rows new : List (Row K I V)) → length new ≡ length rows
      → ((i : ℕ) (r q : Row K I V) → slice_get rows i ≡ Some r → slice_get new i ≡ Some q → q.laid ≡ r.laid)
      → laid_of_all new ≡ laid_of_all rows
  same_counts [] [] e same = refl
  same_counts [] (q ∷ new) e same = absurd (omega (arith, e))
  same_counts (r ∷ rows) [] e same = absurd (omega (arith, e))
  same_counts (r ∷ rows) (q ∷ new) e same =
      let first = same zero r q refl refl in
      let rest = same_counts rows new (omega (arith, e)) (λ i. same (suc i)) in
      omega (arith, sum_cons r rows, sum_cons q new, first, rest)

  mark_count : (P : Type 0) (r q : Row K I V) → (P × (q ≡ marked r)) ⊎ ((P → ⊥) × (q ≡ r)) → q.laid ≡ r.laid
  mark_count P r q (inl h) = ap (λ (x : Row K I V). x.laid) h.1
  mark_count P r q (inr h) = ap (λ (x : Row K I V). x.laid) h.1

  pub marks_count_lem : MarksCount K I V
  marks_count_lem rows new keys m =
      same_counts rows new m.same (λ i r q at_r at_q. mark_count (Reached rows keys r.key) r q (m.each i r q at_r at_q))

  sum_without : (rows : List (Row K I V)) (i : ℕ) (r : Row K I V) → slice_get rows i ≡ Some r → laid_of_all rows ≡ r.laid + laid_of_all (without rows i)
  sum_without [] i r at = absurd (grind (rules, at))
  sum_without (a ∷ rows) zero r at =
      let same : a.laid ≡ r.laid = ap (λ (x : Row K I V). x.laid) (same_Some a r at) in
      omega (arith, sum_cons a rows, same)
  sum_without (a ∷ rows) (suc i) r at =
      let rest = sum_without rows i r at in
      omega (arith, sum_cons a rows, sum_cons a (without rows i), rest)

  -- the count of q is none, or that of a row of its key
  abbrev ComesOf : List (Row K I V) → Row K I V → Type 0
  ComesOf old q = (q.laid ≡ 0) ⊎ ((r : Row K I V) × IsIn old r × (r.key ≡ q.key) × (q.laid ≡ r.laid))

  abbrev AreApart : List (Row K I V) → Type 0
  AreApart rows = (i j : ℕ) (r q : Row K I V) → slice_get rows i ≡ Some r → slice_get rows j ≡ Some q → r.key ≡ q.key → i ≡ j

  others : (old qs : List (Row K I V)) (q : Row K I V) (i : ℕ) (r : Row K I V) → slice_get old i ≡ Some r → r.key ≡ q.key → AreApart (q ∷ qs)
      → (j : ℕ) (p : Row K I V) → slice_get qs j ≡ Some p → ComesOf old p → ComesOf (without old i) p
  others old qs q i r at key apart j p at_p (inl h) = inl h
  others old qs q i r at key apart j p at_p (inr h) =
      inr (h.0, in_without old i h.1.0 h.0 not_here h.1.1, h.2, h.3)
    where
      not_here : h.1.0 ≡ i → ⊥
      not_here e =
          let same : h.0 ≡ r = same_Some h.0 r (sym h.1.1 ∙ ap (slice_get old) e ∙ at) in
          let keys : q.key ≡ p.key = sym key ∙ ap (λ (x : Row K I V). x.key) (sym same) ∙ h.2 in
          let zero_is : zero ≡ suc j = apart zero (suc j) q p refl at_p keys in
          omega (arith, zero_is)

  at_most : (qs old : List (Row K I V)) → AreApart qs → ((j : ℕ) (q : Row K I V) → slice_get qs j ≡ Some q → ComesOf old q) → laid_of_all qs ≤ laid_of_all old
  at_most [] old apart comes = omega arith
  at_most (q ∷ qs) old apart comes = by (λ left given. at_most qs left rest_apart given) (comes zero q refl)
    where
      rest_apart : AreApart qs
      rest_apart i j r p at_r at_p key = let e = apart (suc i) (suc j) r p at_r at_p key in omega (arith, e)

      by : ((left : List (Row K I V)) → ((j : ℕ) (p : Row K I V) → slice_get qs j ≡ Some p → ComesOf left p) → laid_of_all qs ≤ laid_of_all left)
          → ComesOf old q → laid_of_all (q ∷ qs) ≤ laid_of_all old
      by most (inl none) =
          let rest = most old (λ j. comes (suc j)) in
          omega (arith, sum_cons q qs, none, rest)
      by most (inr h) =
          let rest = most (without old h.1.0) (λ j p at_p. others old qs q h.1.0 h.0 h.1.1 h.2 apart j p at_p (comes (suc j) p at_p)) in
          omega (arith, sum_cons q qs, sum_without old h.1.0 h.0 h.1.1, h.3, rest)

  -- what a rebuilt row comes of
  carry_comes : (old new : List (Row K I V)) (r : Row K I V) (e : Entry K) (q : Row K I V) → IsIn old r → r.key ≡ e.key → Carries new r e q
      → (q.key ≡ e.key) × ComesOf old q
  carry_comes old new r e q has key (inl h) =
      let same : q.key ≡ r.key = ap (λ (x : Row K I V). x.key) h.1 in
      (same ∙ key, inr (r, has, sym same, ap (λ (x : Row K I V). x.laid) h.1))
  carry_comes old new r e q has key (inr h) =
      let same : q.key ≡ r.key = ap (λ (x : Row K I V). x.key) h.2 in
      (same ∙ key, inr (r, has, sym same, ap (λ (x : Row K I V). x.laid) h.2))

  rebuild_comes : (old : List (Row K I V)) (F : K → Type 0) (new : List (Row K I V)) (n : ℕ) (e : Entry K) (q : Row K I V) (m : ℕ)
      → Rebuilds old F new n e q m → (q.key ≡ e.key) × ComesOf old q
  rebuild_comes old F new n e q m (inl h) = (ap (λ (x : Row K I V). x.key) h.1, inl (ap (λ (x : Row K I V). x.laid) h.1))
  rebuild_comes old F new n e q m (inr h) = carry_comes old new h.0 e q h.1.1 h.1.2 h.2

  rebuilds_come : (old : List (Row K I V)) (F : K → Type 0) (new : List (Row K I V)) (n : ℕ) (es : List (Entry K)) (qs : List (Row K I V)) (m : ℕ)
      → RebuildsAll old F new n es qs m → (j : ℕ) (q : Row K I V) → slice_get qs j ≡ Some q
      → (e : Entry K) × (slice_get es j ≡ Some e) × (q.key ≡ e.key) × ComesOf old q
  rebuilds_come old F new n [] [] m h j q at = absurd (grind (rules, at))
  rebuilds_come old F new n [] (p ∷ qs) m h j q at = absurd h
  rebuilds_come old F new n (e ∷ es) [] m h j q at = absurd h
  rebuilds_come old F new n (e ∷ es) (p ∷ qs) m h zero q at =
      let same = same_Some p q at in
      let c = rebuild_comes old F new n e q h.0 (subst (λ (x : Row K I V). Rebuilds old F new n e x h.0) same h.1) in
      (e, refl, c.0, c.1)
  rebuilds_come old F new n (e ∷ es) (p ∷ qs) m h (suc j) q at = rebuilds_come old F new h.0 es qs m h.2 j q at

  pub reshapes_count_lem : ReshapesCount K I V
  reshapes_count_lem s t entries fresh shape h = at_most t.rows s.rows apart (λ j q at. (comes j q at).3)
    where
      comes : (j : ℕ) (q : Row K I V) → slice_get t.rows j ≡ Some q → (e : Entry K) × (slice_get entries j ≡ Some e) × (q.key ≡ e.key) × ComesOf s.rows q
      comes = rebuilds_come s.rows (IsIn fresh) t.rows s.draws entries t.rows t.draws h

      apart : AreApart t.rows
      apart i j r q at_r at_q key =
          let a = comes i r at_r in
          let b = comes j q at_q in
          shape.apart i j a.0 b.0 a.1 b.1 (sym a.2 ∙ key ∙ b.2)

  draws_rise : (old : List (Row K I V)) (F : K → Type 0) (new : List (Row K I V)) (n : ℕ) (es : List (Entry K)) (qs : List (Row K I V)) (m : ℕ)
      → RebuildsAll old F new n es qs m → (n ≤ m) × (m ≤ n + length es)
  draws_rise old F new n [] [] m h = (omega (arith, h), omega (arith, h))
  draws_rise old F new n [] (q ∷ qs) m h = absurd h
  draws_rise old F new n (e ∷ es) [] m h = absurd h
  draws_rise old F new n (e ∷ es) (q ∷ qs) m h =
      let one = one_rise h.0 h.1 in
      let rest = draws_rise old F new h.0 es qs m h.2 in
      (omega (arith, one.0, rest.0), omega (arith, one.1, rest.1))
    where
      one_rise : (k : ℕ) → Rebuilds old F new n e q k → (n ≤ k) × (k ≤ n + 1)
      one_rise k (inl g) = (omega (arith, g.2), omega (arith, g.2))
      one_rise k (inr g) = (omega (arith, g.3), omega (arith, g.3))

  pub reshapes_draw_lem : ReshapesDraw K I V
  reshapes_draw_lem s t entries fresh h = draws_rise s.rows (IsIn fresh) t.rows s.draws entries t.rows t.draws h

  all_made : (F : K → Type 0) (new : List (Row K I V)) (n : ℕ) (es : List (Entry K)) (qs : List (Row K I V)) (m : ℕ)
      → RebuildsAll [] F new n es qs m → m ≡ n + length qs
  all_made F new n [] [] m h = omega (arith, h)
  all_made F new n [] (q ∷ qs) m h = absurd h
  all_made F new n (e ∷ es) [] m h = absurd h
  all_made F new n (e ∷ es) (q ∷ qs) m h =
      let one = one_made h.0 h.1 in
      let rest = all_made F new h.0 es qs m h.2 in
      omega (arith, one, rest)
    where
      one_made : (k : ℕ) → Rebuilds [] F new n e q k → k ≡ n + 1
      one_made k (inl g) = g.2
      one_made k (inr g) = absurd (grind (rules, g.1.1.1))

  pub first_shapes_draw_lem : FirstShapesDraw K I V
  first_shapes_draw_lem n t entries fresh h = all_made (IsIn fresh) t.rows n entries t.rows t.draws h

  all_paid : (rows : List (Row K I V)) → ((i : ℕ) (r : Row K I V) → slice_get rows i ≡ Some r → 0 < r.laid) → length rows ≤ laid_of_all rows
  all_paid [] paid = omega arith
  all_paid (r ∷ rows) paid =
      let first = paid zero r refl in
      let rest = all_paid rows (λ i. paid (suc i)) in
      omega (arith, sum_cons r rows, first, rest)

  pub clean_cells_count_lem : (relates : I → V → Type 0) → CleanCellsCount K I V relates
  clean_cells_count_lem relates s sound clean =
      all_paid s.rows (λ i r at. let h = sound.each r (i, at) in h.counted.kept_paid (h.kept (clean r (i, at))))
