-- A change of one cell, as the cells see it.
use Rattle.std.proofs.Common.{◌≡◌, inr, ⊎_elim, ℕ, List, map, slice_get, slice_set, Some, ap, ◌<◌, ◌≤◌, subst, sym, true, false, ◌+◌, ◌∙◌}
use Rattle.std.specs.BTreeMap.{BTreeMap}
use Rattle.std.specs.declared.cmp.Ordering.{Ordering}
use Rattle.lay_cells.specs.Shapes.{IsShape}
use Rattle.lay_cells.specs.Rows.{Held, Row, State, Solved, entry_of, row_of}
use Rattle.lay_cells.specs.Looks.{AreClean, IsAt, Looks}
use Rattle.lay_cells.specs.Steps.{Claims, ClaimsIn, Finishes, FinishesIn, GivesBack, GivesBackIn, draws_after}
use Rattle.lay_cells.specs.Sound.{IsSound}
use Rattle.lay_cells.specs.Kept.{ChangesAt, IsKept, IsLowest, IsWired}
use Rattle.lay_cells.specs.declared.cell.Cell.{Cell}
use Rattle.lay_cells.specs.declared.answers.Look.TheVariants as look
use Rattle.lay_cells.specs.declared.answers.Claimed.{Claimed}
use Rattle.lay_cells.specs.declared.answers.Finished.{Finished}
use Rattle.lay_cells.specs.declared.answers.Released.{Released}
use Rattle.lay_cells.specs.declared.answers.Released.TheVariants as released
use Rattle.lay_cells.proofs.Lists.{map_at, one_at, set_cases}
use Rattle.lay_cells.proofs.Keeps.{Fits, claim_row, finish_row, give_back_row, set_before, set_sound}

module _ {K I V : Type 0} where
  -- one row has a key
  pub one_by_key : (rows : List (Row K I V)) → IsShape (map entry_of rows) → (i j : ℕ) (r q : Row K I V) → slice_get rows i ≡ Some r → slice_get rows j ≡ Some q → r.key ≡ q.key → (i ≡ j) × (r ≡ q)
  one_by_key rows s i j r q at at_q key =
      let same = s.apart i j (entry_of r) (entry_of q) (map_at entry_of rows i r at) (map_at entry_of rows j q at_q) key in
      (same, one_at rows j r q (ap (slice_get rows) (sym same) ∙ at) at_q)

  pub ready_at : (rows : List (Row K I V)) → IsShape (map entry_of rows) → (key : K) → Looks rows key look.Ready
      → (i : ℕ) (r : Row K I V) → slice_get rows i ≡ Some r → r.key ≡ key → (r.dirty ≡ true) × AreClean rows r.needs
  ready_at rows s key h i r at is =
      let one = one_by_key rows s i h.1.0 r h.0 at h.1.1 (is ∙ sym h.2) in
      subst (λ (z : Row K I V). (z.dirty ≡ true) × AreClean rows z.needs) (sym one.1) (h.3, h.4)

  -- after a change that fits, what the cells keep
  pub kept_after : (relates : I → V → Type 0) (cmp : K → K → Ordering) (cells new : List (Cell K (Held K I V))) (index : BTreeMap K ℕ) (n m d d' : ℕ)
      → IsKept relates cmp cells index n d → d ≤ d' → (place : ℕ) (P : Row K I V → Row K I V → Type 0) → ChangesAt cells new place P
      → ((r q : Row K I V) → slice_get (map row_of cells) place ≡ Some r → P r q → Fits relates (map row_of cells) d' r q)
      → IsLowest (map row_of new) m → IsKept relates cmp new index m d'
  kept_after relates cmp cells new index n m d d' kept le place P step fits low =
      let f = fits step.0 step.1 step.2 step.3 in
      record {
        sound = subst (λ rs. IsSound relates record { rows = rs; draws = d' }) (sym step.4) (set_sound relates (map row_of cells) d d' kept.sound le place step.0 step.1 step.2 f);
        wired = subst (IsWired cmp index) (sym step.5) kept.wired;
        first_dirty = low;
      }

  -- and the cells before the first dirty one are still clean
  pub before_after : (relates : I → V → Type 0) (cells new : List (Cell K (Held K I V))) (n d : ℕ) → IsLowest (map row_of cells) n → (place : ℕ) (P : Row K I V → Row K I V → Type 0) → ChangesAt cells new place P
      → ((r q : Row K I V) → slice_get (map row_of cells) place ≡ Some r → P r q → Fits relates (map row_of cells) d r q)
      → (j : ℕ) → j < n → (z : Row K I V) → slice_get (map row_of new) j ≡ Some z → z.dirty ≡ false
  before_after relates cells new n d low place P step fits j lt z at =
      let f = fits step.0 step.1 step.2 step.3 in
      set_before (map row_of cells) n place step.0 step.1 low step.2 f.fall j lt z (ap (λ rs. slice_get rs j) (sym step.4) ∙ at)

  -- where the bit is as it was, the first dirty cell is too
  lowest_same : (rows : List (Row K I V)) (n i : ℕ) (r q : Row K I V) → IsLowest rows n → slice_get rows i ≡ Some r → q.dirty ≡ r.dirty → IsLowest (slice_set rows i q) n
  lowest_same rows n i r q low at same =
      record {
        before = λ j lt z got.
            ⊎_elim
            (λ h. ap (λ (x : Row K I V). x.dirty) h.1 ∙ same ∙ low.before j lt r (ap (slice_get rows) h.0 ∙ at))
            (λ h. low.before j lt z h.1)
            (set_cases rows i q j z got);
        at = λ z got.
            ⊎_elim
            (λ h. ap (λ (x : Row K I V). x.dirty) h.1 ∙ same ∙ low.at r (ap (slice_get rows) h.0 ∙ at))
            (λ h. low.at z h.1)
            (set_cases rows i q n z got);
      }

  back_bit : (r q : Row K I V) (n : ℕ) (a : Released) → GivesBack r n a q → q.dirty ≡ r.dirty
  back_bit r q n released.Gone f = ap (λ (x : Row K I V). x.dirty) f.1
  back_bit r q n (released.Superseded m) f = ap (λ (x : Row K I V). x.dirty) f.3
  back_bit r q n released.Released f = ap (λ (x : Row K I V). x.dirty) f.2

  pub back_lowest : (cells new : List (Cell K (Held K I V))) (n : ℕ) → IsLowest (map row_of cells) n → (place number : ℕ) (a : Released)
      → ChangesAt cells new place (λ r q. GivesBack r number a q) → IsLowest (map row_of new) n
  back_lowest cells new n low place number a step =
      subst (λ rs. IsLowest rs n) (sym step.4) (lowest_same (map row_of cells) n place step.0 step.1 low step.2 (back_bit step.0 step.1 number a step.3))

  -- the key of the row that is changed
  key_at : (rows : List (Row K I V)) (key : K) (place : ℕ) (z r : Row K I V) → IsAt rows key place z → slice_get rows place ≡ Some r → r.key ≡ key
  key_at rows key place z r found at = ap (λ (x : Row K I V). x.key) (one_at rows place r z at found.0) ∙ found.1

  pub claim_fits : (relates : I → V → Type 0) (rows : List (Row K I V)) (d : ℕ) → IsSound relates record { rows = rows; draws = d } → (key : K) → Looks rows key look.Ready
      → (place : ℕ) (z : Row K I V) → IsAt rows key place z → (input : I) (a : Claimed)
      → (r q : Row K I V) → slice_get rows place ≡ Some r → Claims r (d + 1) input a q → Fits relates rows (draws_after a d) r q
  claim_fits relates rows d s key ready place z found input a r q at c =
      let ok = ready_at rows s.shaped key ready place r at (key_at rows key place z r found at) in
      claim_row relates rows d r (s.each r (place, at)) q input ok.1 ok.0 a c

  pub finish_fits : (relates : I → V → Type 0) (rows : List (Row K I V)) (d : ℕ) → IsSound relates record { rows = rows; draws = d } → (p : Solved K I V) → relates p.input p.value
      → (place : ℕ) (z : Row K I V) → IsAt rows p.key place z → (a : Finished)
      → (r q : Row K I V) → slice_get rows place ≡ Some r → Finishes r p a q → Fits relates rows d r q
  finish_fits relates rows d s p meets place z found a r q at f = finish_row relates rows d r (s.each r (place, at)) q p meets (sym (key_at rows p.key place z r found at)) a f

  pub back_fits : (relates : I → V → Type 0) (rows : List (Row K I V)) (d : ℕ) → IsSound relates record { rows = rows; draws = d }
      → (place number : ℕ) (a : Released) (r q : Row K I V) → slice_get rows place ≡ Some r → GivesBack r number a q → Fits relates rows d r q
  back_fits relates rows d s place number a r q at f = give_back_row relates rows d r (s.each r (place, at)) q number a f

  -- the answers, as the cells see them
  pub claims_in : (s : State K I V) (cells new : List (Cell K (Held K I V))) (d e : ℕ) → record { rows = map row_of cells; draws = d } ≡ s
      → (key : K) (place : ℕ) (z : Row K I V) → IsAt (map row_of cells) key place z → (input : I) (a : Claimed) → e ≡ draws_after a d
      → ChangesAt cells new place (λ r q. Claims r (d + 1) input a q) → ClaimsIn s key input a record { rows = map row_of new; draws = e }
  claims_in s cells new d e is key place z found input a e_is step =
      subst (λ (t : State K I V). ClaimsIn t key input a record { rows = map row_of new; draws = e }) is
      (place, step.0, step.1, (step.2, key_at (map row_of cells) key place z step.0 found step.2), step.3, λ i. record { rows = step.4 i; draws = e_is i })

  pub finishes_in : (s : State K I V) (cells new : List (Cell K (Held K I V))) (d : ℕ) → record { rows = map row_of cells; draws = d } ≡ s
      → (p : Solved K I V) (place : ℕ) (z : Row K I V) → IsAt (map row_of cells) p.key place z → (a : Finished)
      → ChangesAt cells new place (λ r q. Finishes r p a q) → FinishesIn s p a record { rows = map row_of new; draws = d }
  finishes_in s cells new d is p place z found a step =
      subst (λ (t : State K I V). FinishesIn t p a record { rows = map row_of new; draws = d }) is
      (inr (place, step.0, step.1, (step.2, key_at (map row_of cells) p.key place z step.0 found step.2), step.3, λ i. record { rows = step.4 i; draws = d }))

  pub gives_back_in : (s : State K I V) (cells new : List (Cell K (Held K I V))) (d : ℕ) → record { rows = map row_of cells; draws = d } ≡ s
      → (key : K) (number place : ℕ) (z : Row K I V) → IsAt (map row_of cells) key place z → (a : Released)
      → ChangesAt cells new place (λ r q. GivesBack r number a q) → GivesBackIn s key number a record { rows = map row_of new; draws = d }
  gives_back_in s cells new d is key number place z found a step =
      subst (λ (t : State K I V). GivesBackIn t key number a record { rows = map row_of new; draws = d }) is
      (inr (place, step.0, step.1, (step.2, key_at (map row_of cells) key place z step.0 found step.2), step.3, λ i. record { rows = step.4 i; draws = d }))
