-- A walk over the cells, cell by cell.
use Rattle.std.proofs.Common.{◌≡◌, ◌⊎◌, inl, inr, ⊎_elim, ℕ, ◌+◌, ◌≤◌, ◌<◌, ◌^◌, zero, suc, List, map, length, slice_get, Option, None, Some, true, false, refl, arith, ap, sym, subst, ◌∙◌}
use Rattle.std.proofs.lemmas.Bool.{cases_lt, false≢true, cases_Bool}
use Rattle.std.proofs.lemmas.Option.{slice_get_within, same_Some, none-some}
use Rattle.lay_cells.specs.Looks.{AreClean}
use Rattle.lay_cells.specs.Places.{AreCleanFrom, IsClaimed, IsFirstDirtyFrom}
use Rattle.lay_cells.specs.Reads.{AllClean, IsFirstDirtyKey}
use Rattle.lay_cells.specs.Rows.{entry_of}
use Rattle.lay_cells.specs.Shapes.{IsShape}
use Rattle.lay_document_cells.proofs.Cited.{map_at, map_got, one_at}
use Rattle.lay_shape.specs.declared.cell_key.CellKey.{CellKey}
use Rattle.lay_cell_work.specs.Claims.{Claim}
use Rattle.lay_cell_work.specs.CellLaws.SoundCells.{CellRow}
use Rattle.lay_document_cells.specs.Claims.{CellsAnswerNext, AreClaimed, CellsDrawFew, HasDirtyCell, IsBusy, IsOpenToClaims, IsReady, Passes, none, reused, taken}
use Rattle.lay_document_cells.specs.Settling.{AreCleanBefore}
use Rattle.lay_document_cells.specs.State.{State}
use Rattle.lay_document_cells.specs.Walks.{ChangesCellAt, DrawsFrom, GrantsAt, HasClaimBefore, HasClaimFrom, IsClaimedAt, IsLeastAfter, IsLesser, IsNotReadyAt, IsWalked, PassesAt}
use Rattle.lay_document_cells.specs.declared.walking.Passed.{Passed}
use Rattle.lay_document_cells.specs.declared.walking.Passed.TheVariants as passed
use Rattle.lay_document_cells.specs.declared.answers.Next.TheVariants as next
use Rattle.lay_document_cells.proofs.Passing.{clean_still}
use Rattle.lay_document_cells.proofs.SettledPlaces.{clean_to_first, first_within, length_mapped}

pub passes_on : (s m t : State) → Passes s m → Passes m t → Passes s t
passes_on s m t a none = a
passes_on s m t a (reused key mid t-1 b c) = reused key mid t (passes_on s m mid a b) c
passes_on s m t a (taken key number mid t-1 b c) = taken key number mid t (passes_on s m mid a b) c

pub count_of : (rows new : List CellRow) → map entry_of new ≡ map entry_of rows → length new ≡ length rows
count_of rows new e = sym (length_mapped new) ∙ ap length e ∙ length_mapped rows

-- where cells before a place are clean, none of them is ready
pub walked_clean : (rows : List CellRow) (place : ℕ) → place ≤ length rows → AreCleanBefore rows place → IsWalked rows place None
walked_clean rows place within clean = record {
  within = within;
  each = λ j r lt at ready. absurd (false≢true (sym (clean j r lt at) ∙ ready.0));
  one = λ number e. absurd (none-some number e);
}

-- so a walk begins at the first dirty cell
pub walked_first : (rows : List CellRow) (first : ℕ) → IsFirstDirtyFrom rows 0 first → IsWalked rows first None
walked_first rows first h =
    walked_clean rows first (let lt = first_within rows first h in omega (arith, lt)) (clean_to_first rows first h)

-- the cell at the place is passed
module _ (s t : State) (shape : IsShape (map entry_of s.cells.rows)) (place : ℕ) (least : Option ℕ) (w : IsWalked s.cells.rows place least)
    (c : ChangesCellAt s place t) where
  before : (j : ℕ) → j < place → slice_get t.cells.rows j ≡ slice_get s.cells.rows j
  before j lt = c.others j (λ e. omega (arith, e, lt))

  pub same_count : length t.cells.rows ≡ length s.cells.rows
  same_count = count_of s.cells.rows t.cells.rows c.entries

  back : (j : ℕ) (r : CellRow) → j < place → slice_get t.cells.rows j ≡ Some r → IsReady t.cells.rows r → IsReady s.cells.rows r
  back j r lt at ready = (
    ready.0,
    clean_still t.cells.rows s.cells.rows (subst IsShape (sym c.entries) shape) place (λ i l. sym (before i l)) j r (omega (arith, lt)) at ready.1,
  )

  forth : (j : ℕ) (r : CellRow) → j < place → slice_get s.cells.rows j ≡ Some r → IsReady s.cells.rows r → IsReady t.cells.rows r
  forth j r lt at ready = (ready.0, clean_still s.cells.rows t.cells.rows shape place before j r (omega (arith, lt)) at ready.1)

  each_before : (j : ℕ) (r : CellRow) → j < place → slice_get t.cells.rows j ≡ Some r → IsReady t.cells.rows r → HasClaimFrom r least
  each_before j r lt at ready = w.each j r lt (sym (before j lt) ∙ at) (back j r lt at ready)

  one_before : (number : ℕ) → least ≡ Some number → HasClaimBefore t.cells.rows (place + 1) number
  one_before number e =
      let h = w.one number e in
      record {
        at = h.at;
        row = h.row;
        before = let lt = h.before in omega (arith, lt);
        there = before h.at h.before ∙ h.there;
        ready = forth h.at h.row h.before h.there h.ready;
        claimed = h.claimed;
      }

  module _ (lt : place < length s.cells.rows) where
    pub walked_past : IsNotReadyAt t.cells.rows place → IsWalked t.cells.rows (place + 1) least
    walked_past unready = record {
      within = let count = same_count in omega (arith, lt, count);
      each = λ j r l at ready.
          ⊎_elim
          (λ low. each_before j r low at ready)
          (λ high. absurd (unready r (ap (slice_get t.cells.rows) (let e : place ≡ j = omega (arith, l, high) in e) ∙ at) ready))
          (cases_lt j place);
      one = one_before;
    }

    module _ (number : ℕ) (m : Option ℕ) (here : IsClaimedAt t.cells.rows place number) (lesser : IsLesser least number m) where
      lower : (r : CellRow) → HasClaimFrom r least → HasClaimFrom r m
      lower r h = record {
        number = h.number;
        claimed = h.claimed;
        from = lesser.value;
        from_is = lesser.is;
        le = let a = lesser.below h.from h.from_is in let b = h.le in omega (arith, a, b);
      }

      at_here : (r : CellRow) → slice_get t.cells.rows place ≡ Some r → HasClaimFrom r m
      at_here r at = record {
        number = number;
        claimed = subst (λ (z : CellRow). IsClaimed z number) (one_at t.cells.rows place here.row r here.there at) here.claimed;
        from = lesser.value;
        from_is = lesser.is;
        le = lesser.le;
      }

      one_here : HasClaimBefore t.cells.rows (place + 1) number
      one_here = record {
        at = place;
        row = here.row;
        before = omega arith;
        there = here.there;
        ready = here.ready;
        claimed = here.claimed;
      }

      pub walked_claimed : IsWalked t.cells.rows (place + 1) m
      walked_claimed = record {
        within = let count = same_count in omega (arith, lt, count);
        each = λ j r l at ready.
            ⊎_elim
            (λ low. lower r (each_before j r low at ready))
            (λ high. at_here r (ap (slice_get t.cells.rows) (let e : place ≡ j = omega (arith, l, high) in e) ∙ at))
            (cases_lt j place);
        one = λ n e.
            let is : lesser.value ≡ n = same_Some lesser.value n (sym lesser.is ∙ e) in
            subst (HasClaimBefore t.cells.rows (place + 1)) is
            (⊎_elim
            (λ same. subst (HasClaimBefore t.cells.rows (place + 1)) (sym same) one_here)
            (λ old. one_before lesser.value old)
            lesser.one);
      }

    -- whatever became of the cell
    pub walked_on : (p : Passed) (m : Option ℕ) → PassesAt s place p t → IsLeastAfter least p m → IsWalked t.cells.rows (place + 1) m
    walked_on passed.Nothing m h e = subst (IsWalked t.cells.rows (place + 1)) (sym e) (walked_past h.1)
    walked_on (passed.Claimed number) m h lesser = walked_claimed number m h.1 lesser
    walked_on (passed.Granted claim) m h lesser = walked_claimed claim.number m h.1 lesser

pub changes_of : (s : State) (place : ℕ) (p : Passed) (t : State) → PassesAt s place p t → ChangesCellAt s place t
changes_of s place passed.Nothing t h = h.0.changes
changes_of s place (passed.Claimed number) t h = h.0.changes
changes_of s place (passed.Granted claim) t h = h.0.changes

pub passes_by : (s : State) (place : ℕ) (p : Passed) (t : State) → ((c : Claim) → p ≡ passed.Granted c → ⊥) → PassesAt s place p t → Passes s t
passes_by s place passed.Nothing t other h = h.0.passes
passes_by s place (passed.Claimed number) t other h = h.0.passes
passes_by s place (passed.Granted claim) t other h = absurd (other claim refl)

-- all cells are passed
module _ (rows : List CellRow) (shape : IsShape (map entry_of rows)) (place : ℕ) (all : length rows ≤ place) where
  module _ (w : IsWalked rows place None) where
    needs_clean : (n : ℕ) → AreCleanBefore rows n → (j : ℕ) (r : CellRow) → j ≡ n → slice_get rows j ≡ Some r → AreClean rows r.needs
    needs_clean n before j r e at key need =
        let b = shape.earlier j (entry_of r) (map_at entry_of rows j r at) key need in
        let q = map_got entry_of rows b.0 b.1 b.3 in
        (q.0, (b.0, q.1), sym (ap (λ x. x.key) q.2) ∙ b.4, before b.0 q.0 (let l = b.2 in omega (arith, l, e)) q.1)

    clean_here : (n : ℕ) → n < place → AreCleanBefore rows n → (j : ℕ) (r : CellRow) → j ≡ n → slice_get rows j ≡ Some r
        → (r.dirty ≡ true) ⊎ (r.dirty ≡ false) → r.dirty ≡ false
    clean_here n lt before j r e at (inl dirty) =
        let h = w.each j r (omega (arith, lt, e)) at (dirty, needs_clean n before j r e at) in
        absurd (none-some h.from h.from_is)
    clean_here n lt before j r e at (inr clean) = clean

    clean_up : (n : ℕ) → n ≤ place → AreCleanBefore rows n
    clean_up zero le j r lt at = absurd (omega (arith, lt))
    clean_up (suc n) le j r lt at =
        ⊎_elim
        (λ low. clean_up n (omega (arith, le)) j r low at)
        (λ high. clean_here n (omega (arith, le)) (clean_up n (omega (arith, le))) j r (omega (arith, lt, high)) at (cases_Bool r.dirty))
        (cases_lt j n)

    pub walked_all : AllClean rows
    walked_all r there = clean_up place (omega arith) there.0 r (let lt = slice_get_within rows there.0 r there.1 in omega (arith, lt, all)) there.1

  pub walked_busy : (number : ℕ) → IsWalked rows place (Some number) → IsBusy rows number
  walked_busy number w = record {
    all = λ r there ready. (let h = claim_of r there ready in (h.number, h.claimed));
    one = let h = w.one number refl in (h.row, (h.at, h.there), h.ready, h.claimed);
    least = λ r n there ready claimed.
        let h = claim_of r there ready in
        let same : h.number ≡ n = same_Some h.number n (sym h.claimed.0 ∙ claimed.0) in
        let from : number ≡ h.from = same_Some number h.from h.from_is in
        let le = h.le in
        omega (arith, same, from, le);
  }
    where
      claim_of : (r : CellRow) → (there : (at : ℕ) × (slice_get rows at ≡ Some r)) → IsReady rows r → HasClaimFrom r (Some number)
      claim_of r there ready = w.each there.0 r (let lt = slice_get_within rows there.0 r there.1 in omega (arith, lt, all)) there.1 ready

-- the answers
module _ (s m : State) (few : IsOpenToClaims s) (passes : Passes s m) where
  pub answers_granted : (place : ℕ) (least : Option ℕ) → IsWalked m.cells.rows place least → (claim : Claim) (t : State) → GrantsAt m place claim t
      → CellsAnswerNext s (next.Granted claim) t
  answers_granted place least w claim t g = (
    few,
    record {
      before = m;
      passes = passes;
      place = place;
      row = g.row;
      at = g.at;
      passed = λ j r lt at ready. (let h = w.each j r lt at ready in (h.number, h.claimed));
      grants = g.grants;
    },
  )

  pub answers_none : (n : ℕ) (least : Option ℕ) → IsShape (map entry_of m.cells.rows) → length m.cells.rows ≤ n → IsWalked m.cells.rows n least
      → least ≡ None → CellsAnswerNext s next.Settled m
  answers_none n least shape all w e = (
    inr (few, passes),
    walked_all m.cells.rows shape n all (subst (IsWalked m.cells.rows n) e w),
  )

  pub answers_busy : (n : ℕ) (least : Option ℕ) → IsShape (map entry_of m.cells.rows) → length m.cells.rows ≤ n → IsWalked m.cells.rows n least
      → (number : ℕ) → least ≡ Some number → CellsAnswerNext s (next.Busy number) m
  answers_busy n least shape all w number e = (
    few,
    passes,
    walked_busy m.cells.rows shape n all number (subst (IsWalked m.cells.rows n) e w),
  )

pub first_is_dirty : (rows : List CellRow) (key : CellKey) → IsFirstDirtyKey rows key → HasDirtyCell rows
first_is_dirty rows key h = (h.1, (h.0, h.2.0), h.3)

pub draws_on : (s m t : State) (to place : ℕ) → to ≤ place → DrawsFrom s 0 to m → DrawsFrom m to place t → DrawsFrom s 0 place t
draws_on s m t to place further a b =
    ⊎_elim
    (λ same. ⊎_elim
    (λ e. inl (e ∙ same))
    (λ more. inr (let x = more.0 in omega (arith, x, same), let y = more.1 in omega (arith, y, same)))
    b)
    (λ few. ⊎_elim
    (λ e. inr (few.0, let x = few.1 in omega (arith, e, x, further)))
    (λ more. inr (few.0, let x = few.1 in let y = more.1 in omega (arith, x, y)))
    b)
    a

pub draws_few : (s t : State) (from to : ℕ) → to ≤ 2 ^ 18 → DrawsFrom s from to t → CellsDrawFew s t
draws_few s t from to le h = ⊎_elim (λ e. inl e) (λ few. inr (few.0, let x = few.1 in omega (arith, x, le))) h
