-- A walk comes to a cell: what is claimed of it, and how it stands after that.
use Rattle.std.proofs.Common.{◌≡◌, ℕ, ◌+◌, ◌≤◌, ◌<◌, zero, suc, List, [], ◌∷◌, map, length, slice_get, slice_set, option_map, Some, true, false, refl, arith, ap, sym, subst, ◌∙◌}
use Rattle.std.proofs.lemmas.Bool.{false≢true}
use Rattle.lay_cells.specs.Looks.{AreClean, IsClean, Looks}
use Rattle.lay_cells.specs.Places.{IsClaimed}
use Rattle.lay_cells.specs.Rows.{entry_of}
use Rattle.lay_cells.specs.Shapes.{IsIn, IsShape}
use Rattle.lay_cells.specs.declared.answers.Claimed.{Claimed}
use Rattle.lay_cells.specs.declared.answers.Claimed.TheVariants.{Granted, Reused, Taken}
use Rattle.lay_cells.specs.declared.answers.Look.{Look}
use Rattle.lay_cells.specs.declared.answers.Look.TheVariants as look
use Rattle.lay_document_cells.proofs.Cited.{map_at, not_both, one_at, one_row, set_same}
use Rattle.lay_cells.specs.Progress.Progress.{ClaimsKeepRows, KeepsRows}
use Rattle.lay_shape.specs.declared.cell_key.CellKey.{CellKey}
use Rattle.lay_cell_work.specs.CellInputs.{CellInput}
use Rattle.lay_cell_work.specs.CellValues.{CellValue}
use Rattle.lay_cell_work.specs.Claims.{Claim}
use Rattle.lay_cell_work.specs.CellLaws.SoundCells.{CellRow, CellState}
use Rattle.lay_document_cells.specs.Claims.{HasDirtyCell, IsReady, none, reused, taken}
use Rattle.lay_document_cells.specs.State.{State}
use Rattle.lay_document_cells.specs.Steps.{ClaimsTo}
use Rattle.lay_document_cells.specs.Walks.{ChangesCellAt, IsClaimedAt, IsNotReadyAt, PassesAt}
use Rattle.lay_document_cells.specs.declared.walking.Passed.TheVariants as passed

set_other : {X : Type 0} (xs : List X) (i : ℕ) (x : X) (j : ℕ) → (j ≡ i → ⊥) → slice_get (slice_set xs i x) j ≡ slice_get xs j
set_other [] i x j apart = refl
set_other (a ∷ rest) zero x zero apart = absurd (apart refl)
set_other (a ∷ rest) zero x (suc j) apart = refl
set_other (a ∷ rest) (suc i) x zero apart = refl
set_other (a ∷ rest) (suc i) x (suc j) apart = set_other rest i x j (λ e. apart (ap suc e))

-- what a cell depends on stands before it
module _ (rows new : List CellRow) (shape : IsShape (map entry_of rows)) (place : ℕ)
    (same : (j : ℕ) → j < place → slice_get new j ≡ slice_get rows j) where
  pub clean_still : (j : ℕ) (r : CellRow) → j ≤ place → slice_get rows j ≡ Some r → AreClean rows r.needs → AreClean new r.needs
  clean_still j r le at clean key need =
      let c : IsClean rows key = clean key need in
      let b = shape.earlier j (entry_of r) (map_at entry_of rows j r at) key need in
      let e : c.1.0 ≡ b.0 = shape.apart c.1.0 b.0 (entry_of c.0) b.1 (map_at entry_of rows c.1.0 c.0 c.1.1) b.3 (c.2 ∙ sym b.4) in
      (c.0, (c.1.0, same c.1.0 (let lt = b.2 in omega (arith, lt, e, le)) ∙ c.1.1), c.2, c.3)

-- a cell is ready where a look says so
module _ (rows : List CellRow) (shape : IsShape (map entry_of rows)) (place : ℕ) (r : CellRow) (at : slice_get rows place ≡ Some r) where
  same_row : (q : CellRow) → IsIn rows q → q.key ≡ r.key → q ≡ r
  same_row q there key = one_row rows shape r.key q r there key (place, at) refl

  pub ready_row : Looks rows r.key look.Ready → IsReady rows r
  ready_row h = subst (IsReady rows) (same_row h.0 h.1 h.2) (h.3, h.4)

  pub unready_row : (l : Look CellKey) → (l ≡ look.Ready → ⊥) → Looks rows r.key l → IsReady rows r → ⊥
  unready_row look.Gone other h ready = h r (place, at) refl
  unready_row look.Clean other h ready = false≢true (sym h.3 ∙ ap (λ (z : CellRow). z.dirty) (same_row h.0 h.1 h.2) ∙ ready.0)
  unready_row look.Ready other h ready = other refl
  unready_row (look.Waiting k) other h ready =
      let same : h.0 ≡ r = same_row h.0 h.1 h.2 in
      let first = h.4 in
      not_both rows shape k (ready.1 k (first.0, ap (λ (z : CellRow). slice_get z.needs first.0) (sym same) ∙ first.1)) first.2

unchanged : (s : State) (place : ℕ) → ChangesCellAt s place s
unchanged s place = record { entries = refl; others = λ j apart. refl; draws = omega arith }

-- a claim of the cell at the place
module _ (keep : ClaimsKeepRows CellKey CellInput CellValue) (s : State) (shape : IsShape (map entry_of s.cells.rows)) (place : ℕ) (r : CellRow)
    (at : slice_get s.cells.rows place ≡ Some r) (t : State) (input : CellInput) where
  module _ (a : Claimed) (c : ClaimsTo s r.key input a t) where
    is_cells : t.cells ≡ c.cells
    is_cells = ap (λ (x : State). x.cells) c.state

    here : c.claims.0 ≡ place
    here =
        shape.apart c.claims.0 place (entry_of c.claims.1) (entry_of r) (map_at entry_of s.cells.rows c.claims.0 c.claims.1 c.claims.3.0)
        (map_at entry_of s.cells.rows place r at) c.claims.3.1

    written : t.cells.rows ≡ slice_set s.cells.rows place c.claims.2
    written = ap (λ (x : CellState). x.rows) (is_cells ∙ c.claims.5) ∙ ap (λ i. slice_set s.cells.rows i c.claims.2) here

    others : (j : ℕ) → (j ≡ place → ⊥) → slice_get t.cells.rows j ≡ slice_get s.cells.rows j
    others j apart = ap (λ xs. slice_get xs j) written ∙ set_other s.cells.rows place c.claims.2 j apart

    changed : ChangesCellAt s place t
    changed = record {
      entries = ap (λ (x : CellState). map entry_of x.rows) is_cells ∙ (keep s.cells c.cells r.key input a c.claims).0.entries;
      others = others;
      draws =
          let few = (keep s.cells c.cells r.key input a c.claims).1 in
          let e : t.cells.draws ≡ c.cells.draws = ap (λ (x : CellState). x.draws) is_cells in
          omega (arith, few, e);
    }

    new_row : slice_get t.cells.rows place ≡ Some c.claims.2
    new_row = ap (λ xs. slice_get xs place) written ∙ set_same s.cells.rows place r c.claims.2 at

    old_row : c.claims.1 ≡ r
    old_row = one_at s.cells.rows place c.claims.1 r (ap (slice_get s.cells.rows) (sym here) ∙ c.claims.3.0) at

    claimed_there : (number : ℕ) → IsReady s.cells.rows r → c.claims.2.dirty ≡ c.claims.1.dirty → c.claims.2.needs ≡ c.claims.1.needs
        → IsClaimed c.claims.2 number → IsClaimedAt t.cells.rows place number
    claimed_there number ready dirty needs claimed = record {
      row = c.claims.2;
      there = new_row;
      ready = (
        dirty ∙ ap (λ (z : CellRow). z.dirty) old_row ∙ ready.0,
        subst (AreClean t.cells.rows) (sym (needs ∙ ap (λ (z : CellRow). z.needs) old_row))
            (clean_still s.cells.rows t.cells.rows shape place (λ j lt. others j (λ e. omega (arith, e, lt))) place r (omega arith) at ready.1),
      );
      claimed = claimed;
    }

  pub granted_passes : (number : ℕ) (c : ClaimsTo s r.key input (Granted number) t) → IsReady s.cells.rows r → (key : CellKey) → key ≡ r.key
      → (claim : Claim) → claim ≡ record { key = key; number = number; input = input } → PassesAt s place (passed.Granted claim) t
  granted_passes number c ready key is_key claim is =
      let row = c.claims.4.4 in
      subst (λ (x : Claim). PassesAt s place (passed.Granted x) t) (sym is) (
        record {
          changes = changed (Granted number) c;
          row = r;
          at = (at, sym is_key);
          grants = record { key_is = refl; claims = subst (λ k. ClaimsTo s k input (Granted number) t) (sym is_key) c };
        },
        claimed_there (Granted number) c number ready (ap (λ (z : CellRow). z.dirty) row) (ap (λ (z : CellRow). z.needs) row)
            (subst (λ (z : CellRow). IsClaimed z number) (sym row) (ap Some (sym c.claims.4.0), refl)),
      )

  pub taken_passes : (number : ℕ) (c : ClaimsTo s r.key input (Taken number) t) → IsReady s.cells.rows r → PassesAt s place (passed.Claimed number) t
  taken_passes number c ready =
      let row = c.claims.4.2 in (
        record {
          changes = changed (Taken number) c;
          passes = taken r.key number s t none record { input = input; claims = c };
        },
        claimed_there (Taken number) c number ready (ap (λ (z : CellRow). z.dirty) row) (ap (λ (z : CellRow). z.needs) row)
            (subst (λ (z : CellRow). IsClaimed z number) (sym row) (refl, refl)),
      )

  pub reused_passes : (c : ClaimsTo s r.key input Reused t) → PassesAt s place passed.Nothing t
  reused_passes c = (
    record {
      changes = changed Reused c;
      passes = reused r.key s t none record { input = input; claims = c };
    },
    λ z at_z ready.
        false≢true (sym (ap (λ (x : CellRow). x.dirty) c.claims.4.3) ∙ ap (λ (x : CellRow). x.dirty) (one_at t.cells.rows place c.claims.2 z (new_row Reused c) at_z)
        ∙ ready.0),
  )

module _ (s : State) (shape : IsShape (map entry_of s.cells.rows)) (place : ℕ) (r : CellRow) (at : slice_get s.cells.rows place ≡ Some r) where
  pub claimed_passes : (number : ℕ) → IsReady s.cells.rows r → (q : CellRow) → slice_get s.cells.rows place ≡ Some q → IsClaimed q number
      → PassesAt s place (passed.Claimed number) s
  claimed_passes number ready q at_q claimed = (
    record { changes = unchanged s place; passes = none },
    record {
      row = r;
      there = at;
      ready = ready;
      claimed = subst (λ (z : CellRow). IsClaimed z number) (one_at s.cells.rows place q r at_q at) claimed;
    },
  )

  pub nothing_passes : (l : Look CellKey) → (l ≡ look.Ready → ⊥) → Looks s.cells.rows r.key l → PassesAt s place passed.Nothing s
  nothing_passes l other h = (
    record { changes = unchanged s place; passes = none },
    λ z at_z ready.
        unready_row s.cells.rows shape place r at l other h (subst (IsReady s.cells.rows) (one_at s.cells.rows place z r at_z at) ready),
  )

  pub ready_is_dirty : Looks s.cells.rows r.key look.Ready → HasDirtyCell s.cells.rows
  ready_is_dirty h = (r, (place, at), (ready_row s.cells.rows shape place r at h).0)
