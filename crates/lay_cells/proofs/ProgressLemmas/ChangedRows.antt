-- What a change of one row leaves as it is.
use Rattle.std.proofs.Common.{◌≡◌, inl, inr, ⊎_elim, ℕ, ◌+◌, ◌≤◌, ◌<◌, List, map, length, slice_get, slice_set, Some, false, refl, arith, ap, sym, subst, ◌∙◌}
use Rattle.lay_cells.specs.Rows.{Row, Solved, State, entry_of}
use Rattle.lay_cells.specs.Steps.{Claims, Finishes, GivesBack, draws_after}
use Rattle.lay_cells.specs.declared.answers.Claimed.{Claimed}
use Rattle.lay_cells.specs.declared.answers.Claimed.TheVariants.{Granted, Reused, Taken}
use Rattle.lay_cells.specs.declared.answers.Finished.{Finished}
use Rattle.lay_cells.specs.declared.answers.Finished.TheVariants as finished
use Rattle.lay_cells.specs.declared.answers.Released.{Released}
use Rattle.lay_cells.specs.declared.answers.Released.TheVariants as released
use Rattle.lay_cells.proofs.Lists.{map_at, map_got, map_set_kept, one_at, set_cases}
use Rattle.lay_cells.specs.Progress.Progress.{ClaimsKeepRows, FinishesKeepRows, GiveBacksKeepRows, KeepingIsTransitive, KeepsRows, StayClean}

draws_bound : (a : Claimed) (draws : ℕ) → (draws ≤ draws_after a draws) × (draws_after a draws ≤ draws + 1)
draws_bound (Granted n) draws = (omega arith, omega arith)
draws_bound Reused draws = (omega arith, omega arith)
draws_bound (Taken n) draws = (omega arith, omega arith)

module _ {K I V : Type 0} where
  -- q is what r was, but for what is kept of work
  record IsSameCell (r q : Row K I V) : Type 0 where
    entry : entry_of q ≡ entry_of r
    first : q.first ≡ r.first
    clean : r.dirty ≡ false → q.dirty ≡ false

  no_change : (r q : Row K I V) → q ≡ r → IsSameCell r q
  no_change r q e = record { entry = ap entry_of e; first = ap (λ (x : Row K I V). x.first) e; clean = λ f. ap (λ (x : Row K I V). x.dirty) e ∙ f }

  claimed_same : (r q : Row K I V) (number : ℕ) (input : I) (a : Claimed) → Claims r number input a q → IsSameCell r q
  claimed_same r q number input (Granted n) h =
      record { entry = ap entry_of h.4; first = ap (λ (x : Row K I V). x.first) h.4; clean = λ f. ap (λ (x : Row K I V). x.dirty) h.4 ∙ f }
  claimed_same r q number input Reused h =
      record { entry = ap entry_of h.3; first = ap (λ (x : Row K I V). x.first) h.3; clean = λ f. ap (λ (x : Row K I V). x.dirty) h.3 }
  claimed_same r q number input (Taken n) h =
      record { entry = ap entry_of h.2; first = ap (λ (x : Row K I V). x.first) h.2; clean = λ f. ap (λ (x : Row K I V). x.dirty) h.2 ∙ f }

  claimed_backs : (r q : Row K I V) (number : ℕ) (input : I) (a : Claimed) → Claims r number input a q → q.backs ≡ r.backs
  claimed_backs r q number input (Granted n) h = ap (λ (x : Row K I V). x.backs) h.4
  claimed_backs r q number input Reused h = ap (λ (x : Row K I V). x.backs) h.3
  claimed_backs r q number input (Taken n) h = ap (λ (x : Row K I V). x.backs) h.2

  finished_same : (r q : Row K I V) (d : Solved K I V) (a : Finished) → Finishes r d a q → IsSameCell r q
  finished_same r q d finished.Gone h = no_change r q h.1
  finished_same r q d (finished.Superseded n) h = no_change r q h.3
  finished_same r q d finished.Stored h =
      record { entry = ap entry_of h.3; first = ap (λ (x : Row K I V). x.first) h.3; clean = λ f. ap (λ (x : Row K I V). x.dirty) h.3 ∙ f }
  finished_same r q d finished.Cleaned h =
      record { entry = ap entry_of h.3; first = ap (λ (x : Row K I V). x.first) h.3; clean = λ f. ap (λ (x : Row K I V). x.dirty) h.3 }

  finished_backs : (r q : Row K I V) (d : Solved K I V) (a : Finished) → Finishes r d a q → q.backs ≡ r.backs
  finished_backs r q d finished.Gone h = ap (λ (x : Row K I V). x.backs) h.1
  finished_backs r q d (finished.Superseded n) h = ap (λ (x : Row K I V). x.backs) h.3
  finished_backs r q d finished.Stored h = ap (λ (x : Row K I V). x.backs) h.3
  finished_backs r q d finished.Cleaned h = ap (λ (x : Row K I V). x.backs) h.3

  given_back_same : (r q : Row K I V) (number : ℕ) (a : Released) → GivesBack r number a q → IsSameCell r q
  given_back_same r q number released.Gone h = no_change r q h.1
  given_back_same r q number (released.Superseded n) h = no_change r q h.3
  given_back_same r q number released.Released h =
      record { entry = ap entry_of h.2; first = ap (λ (x : Row K I V). x.first) h.2; clean = λ f. ap (λ (x : Row K I V). x.dirty) h.2 ∙ f }

  set_clean : (rows : List (Row K I V)) (i : ℕ) (r q : Row K I V) → slice_get rows i ≡ Some r → (r.dirty ≡ false → q.dirty ≡ false)
      → StayClean rows (slice_set rows i q)
  set_clean rows i r q at clean j x y at_x at_y was = ⊎_elim here there (set_cases rows i q j y at_y)
    where
      here : (j ≡ i) × (y ≡ q) × (i < length rows) → y.dirty ≡ false
      here h =
          let same : x ≡ r = one_at rows i x r (ap (slice_get rows) (sym h.0) ∙ at_x) at in
          ap (λ (z : Row K I V). z.dirty) h.1 ∙ clean (ap (λ (z : Row K I V). z.dirty) (sym same) ∙ was)

      there : (j ≡ i → ⊥) × (slice_get rows j ≡ Some y) → y.dirty ≡ false
      there h = ap (λ (z : Row K I V). z.dirty) (one_at rows j y x h.1 at_x) ∙ was

  set_keeps : (s : State K I V) (i : ℕ) (r q : Row K I V) (draws : ℕ) → slice_get s.rows i ≡ Some r → IsSameCell r q → s.draws ≤ draws
      → KeepsRows s (record { rows = slice_set s.rows i q; draws = draws })
  set_keeps s i r q draws at same le =
      record {
        entries = map_set_kept entry_of s.rows i r q at same.entry;
        made = map_set_kept (λ (x : Row K I V). x.first) s.rows i r q at same.first;
        clean = set_clean s.rows i r q at same.clean;
        draws = le;
      }

  nothing_changes : (s : State K I V) → KeepsRows s s
  nothing_changes s = record { entries = refl; made = refl; clean = same; draws = omega arith }
    where
      same : StayClean s.rows s.rows
      same i r q at_r at_q was = ap (λ (z : Row K I V). z.dirty) (one_at s.rows i q r at_q at_r) ∙ was

  pub claims_keep_rows_lem : ClaimsKeepRows K I V
  claims_keep_rows_lem s t key input a h =
      let same = claimed_same h.1 h.2 (s.draws + 1) input a h.4 in
      let bound = draws_bound a s.draws in (
        subst (KeepsRows s) (sym h.5) (set_keeps s h.0 h.1 h.2 (draws_after a s.draws) h.3.0 same bound.0),
        subst (λ (x : State K I V). x.draws ≤ s.draws + 1) (sym h.5) bound.1,
        ap (λ (x : State K I V). map (λ (r : Row K I V). r.backs) x.rows) h.5
            ∙ map_set_kept (λ (x : Row K I V). x.backs) s.rows h.0 h.1 h.2 h.3.0 (claimed_backs h.1 h.2 (s.draws + 1) input a h.4),
      )

  pub finishes_keep_rows_lem : FinishesKeepRows K I V
  finishes_keep_rows_lem s t d a (inl h) = (
    subst (KeepsRows s) (sym h.2) (nothing_changes s),
    ap (λ (x : State K I V). x.draws) h.2,
    ap (λ (x : State K I V). map (λ (r : Row K I V). r.backs) x.rows) h.2,
  )
  finishes_keep_rows_lem s t d a (inr h) = (
    subst (KeepsRows s) (sym h.5) (set_keeps s h.0 h.1 h.2 s.draws h.3.0 (finished_same h.1 h.2 d a h.4) (omega arith)),
    ap (λ (x : State K I V). x.draws) h.5,
    ap (λ (x : State K I V). map (λ (r : Row K I V). r.backs) x.rows) h.5
        ∙ map_set_kept (λ (x : Row K I V). x.backs) s.rows h.0 h.1 h.2 h.3.0 (finished_backs h.1 h.2 d a h.4),
  )

  pub give_backs_keep_rows_lem : GiveBacksKeepRows K I V
  give_backs_keep_rows_lem s t key number a (inl h) =
      (subst (KeepsRows s) (sym h.2) (nothing_changes s), ap (λ (x : State K I V). x.draws) h.2)
  give_backs_keep_rows_lem s t key number a (inr h) = (
    subst (KeepsRows s) (sym h.5) (set_keeps s h.0 h.1 h.2 s.draws h.3.0 (given_back_same h.1 h.2 number a h.4) (omega arith)),
    ap (λ (x : State K I V). x.draws) h.5,
  )

  pub keeping_is_transitive_lem : KeepingIsTransitive K I V
  keeping_is_transitive_lem s t u a b =
      record {
        entries = b.entries ∙ a.entries;
        made = b.made ∙ a.made;
        clean = clean;
        draws = omega (arith, a.draws, b.draws);
      }
    where
      clean : StayClean s.rows u.rows
      clean i r q at_r at_q was =
          let m = map_got entry_of t.rows i (entry_of q) (ap (λ xs. slice_get xs i) (sym b.entries) ∙ map_at entry_of u.rows i q at_q) in
          b.clean i m.0 q m.1 at_q (a.clean i r m.0 at_r m.1 was)
