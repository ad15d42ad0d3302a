-- Pairs and claims of a row that is changed, and of rows that are marked.
use Rattle.std.proofs.Common.{◌≡◌, ⊎_elim, ◌<◌, ◌≤◌, ℕ, List, length, slice_get, slice_set, Option, Some, None, IsNone, option_map, arith, ap, sym, subst, ◌∙◌}
use Rattle.std.proofs.lemmas.Option.{same_Some}
use Rattle.lay_cells.specs.Marks.{Marks, Reached, marked}
use Rattle.lay_cells.specs.Places.{AtPlace}
use Rattle.lay_cells.specs.Reads.{AllClean}
use Rattle.lay_cells.specs.Rows.{Solved}
use Rattle.lay_cells.specs.Sound.{IsSound}
use Rattle.lay_cells.specs.Steps.{Claims, Finishes, GivesBack, IsOpen}
use Rattle.lay_cells.specs.declared.answers.Claimed.{Claimed}
use Rattle.lay_cells.specs.declared.answers.Claimed.TheVariants.{Granted, Reused, Taken}
use Rattle.lay_cells.specs.declared.answers.Finished.{Finished}
use Rattle.lay_cells.specs.declared.answers.Finished.TheVariants as finished
use Rattle.lay_cells.specs.declared.answers.Released.{Released}
use Rattle.lay_cells.specs.declared.answers.Released.TheVariants as released
use Rattle.lay_cells.specs.declared.cell.Open.{Open}
use Rattle.lay_kept_cells.proofs.Cited.{beside, number_stale, set_cases}
use Rattle.lay_shape.specs.declared.cell_key.CellKey.{CellKey}
use Rattle.lay_cell_work.specs.CellInputs.{CellInput}
use Rattle.lay_cell_work.specs.CellLocal.{IsCellLocal}
use Rattle.lay_cell_work.specs.CellValues.{CellValue}
use Rattle.lay_cell_work.specs.CellLaws.SoundCells.{CellRow, CellState}
use Rattle.lay_kept_cells.specs.Settled.Since.{KeepSince}

abbrev Done : Type 0
Done = Solved CellKey CellInput CellValue

open_none : (o : Option Open) (n : ℕ) → o ≡ None → option_map (λ (c : Open). c.number) o ≡ Some n → ⊥
open_none None n e f = absurd cc
open_none (Some c) n e f = absurd cc

none_open : (o : Option Open) (n : ℕ) → IsNone o → option_map (λ (c : Open). c.number) o ≡ Some n → ⊥
none_open None n e f = absurd cc
none_open (Some c) n e f = absurd cc

-- r became q: a pair with a number up to this is the one that was kept, and an open claim has a greater number
record IsStill (number : ℕ) (r q : CellRow) : Type 0 where
  kept : (d : Done) → q.kept ≡ Some d → d.number ≤ number → r.kept ≡ Some d
  opened : (n : ℕ) → IsOpen q n → number < n

module _ (number : ℕ) (r q : CellRow) (later : (n : ℕ) → IsOpen r n → number < n) where
  same : q ≡ r → IsStill number r q
  same e = record {
    kept = λ d is le. ap (λ (z : CellRow). z.kept) (sym e) ∙ is;
    opened = λ n is. later n (subst (λ (z : CellRow). IsOpen z n) e is);
  }

  closed : q.kept ≡ r.kept → q.claim ≡ None → IsStill number r q
  closed kept none = record { kept = λ d is le. sym kept ∙ is; opened = λ n is. absurd (open_none q.claim n none is) }

  opened_as : q.kept ≡ r.kept → (m : ℕ) → number < m → IsOpen q m → IsStill number r q
  opened_as kept m lt opened = record {
    kept = λ d is le. sym kept ∙ is;
    opened = λ n is. (let e = same_Some m n (sym opened ∙ is) in omega (arith, lt, e));
  }

  completed : (d : Done) → number < d.number → q.kept ≡ Some d → q.claim ≡ None → IsStill number r q
  completed d lt kept none = record {
    kept = λ e is le. (let eq = ap (λ (x : Done). x.number) (same_Some d e (sym kept ∙ is)) in absurd (omega (arith, lt, le, eq)));
    opened = λ n is. absurd (open_none q.claim n none is);
  }

  claimed : (m : ℕ) (input : CellInput) (a : Claimed) → number < m → Claims r m input a q → IsStill number r q
  claimed m input (Taken n) lt h =
      opened_as (ap (λ (z : CellRow). z.kept) h.2) n (later n h.1) (ap (λ (z : CellRow). option_map (λ (c : Open). c.number) z.claim) h.2)
  claimed m input Reused lt h = closed (ap (λ (z : CellRow). z.kept) h.3) (ap (λ (z : CellRow). z.claim) h.3)
  claimed m input (Granted n) lt h =
      opened_as (ap (λ (z : CellRow). z.kept) h.4) m lt (ap (λ (z : CellRow). option_map (λ (c : Open). c.number) z.claim) h.4)

  finish : (d : Done) (a : Finished) → Finishes r d a q → IsStill number r q
  finish d finished.Gone h = same h.1
  finish d (finished.Superseded n) h = same h.3
  finish d finished.Stored h = completed d (later d.number h.1.0) (ap (λ (z : CellRow). z.kept) h.3) (ap (λ (z : CellRow). z.claim) h.3)
  finish d finished.Cleaned h = completed d (later d.number h.1.0) (ap (λ (z : CellRow). z.kept) h.3) (ap (λ (z : CellRow). z.claim) h.3)

  given_back : (n : ℕ) (a : Released) → GivesBack r n a q → IsStill number r q
  given_back n released.Gone h = same h.1
  given_back n (released.Superseded m) h = same h.3
  given_back n released.Released h = closed (ap (λ (z : CellRow). z.kept) h.2) (ap (λ (z : CellRow). z.claim) h.2)

module _ (number : ℕ) (settled rows : List CellRow) (keep : KeepSince number settled rows) where
  -- of a row that was there
  pub later_at : (i : ℕ) (r : CellRow) → slice_get rows i ≡ Some r → (n : ℕ) → IsOpen r n → number < n
  later_at i r at n is = keep.opened i r n at is

  still_kept : (i : ℕ) (r q : CellRow) → slice_get rows i ≡ Some r → IsStill number r q → (place : ℕ) (z : CellRow) (d : Done)
      → slice_get (slice_set rows i q) place ≡ Some z → z.kept ≡ Some d → d.number ≤ number → AtPlace settled place (λ x. x.kept ≡ Some d)
  still_kept i r q at still place z d got is le =
      ⊎_elim
      (λ (h : (place ≡ i) × (z ≡ q) × (i < length rows)).
      subst (λ (p : ℕ). AtPlace settled p (λ x. x.kept ≡ Some d)) (sym h.0)
      (keep.kept i r d at (still.kept d (ap (λ (x : CellRow). x.kept) (sym h.1) ∙ is) le) le))
      (λ (h : (place ≡ i → ⊥) × (slice_get rows place ≡ Some z)). keep.kept place z d h.1 is le)
      (set_cases rows i q place z got)

  still_opened : (i : ℕ) (r q : CellRow) → slice_get rows i ≡ Some r → IsStill number r q → (place : ℕ) (z : CellRow) (n : ℕ)
      → slice_get (slice_set rows i q) place ≡ Some z → IsOpen z n → number < n
  still_opened i r q at still place z n got is =
      ⊎_elim
      (λ (h : (place ≡ i) × (z ≡ q) × (i < length rows)). still.opened n (subst (λ (x : CellRow). IsOpen x n) h.1 is))
      (λ (h : (place ≡ i → ⊥) × (slice_get rows place ≡ Some z)). keep.opened place z n h.1 is)
      (set_cases rows i q place z got)

  set_keeps : (i : ℕ) (r q : CellRow) → slice_get rows i ≡ Some r → IsStill number r q → KeepSince number settled (slice_set rows i q)
  set_keeps i r q at still = record { kept = still_kept i r q at still; opened = still_opened i r q at still }

  pub claim_keeps : (i : ℕ) (r q : CellRow) → slice_get rows i ≡ Some r → (m : ℕ) (input : CellInput) (a : Claimed) → number < m → Claims r m input a q
      → KeepSince number settled (slice_set rows i q)
  claim_keeps i r q at m input a lt h = set_keeps i r q at (claimed number r q (later_at i r at) m input a lt h)

  pub finish_keeps : (i : ℕ) (r q : CellRow) → slice_get rows i ≡ Some r → (d : Done) (a : Finished) → Finishes r d a q → KeepSince number settled (slice_set rows i q)
  finish_keeps i r q at d a h = set_keeps i r q at (finish number r q (later_at i r at) d a h)

  pub back_keeps : (i : ℕ) (r q : CellRow) → slice_get rows i ≡ Some r → (n : ℕ) (a : Released) → GivesBack r n a q → KeepSince number settled (slice_set rows i q)
  back_keeps i r q at n a h = set_keeps i r q at (given_back number r q (later_at i r at) n a h)

  -- rows that are marked
  module _ (new : List CellRow) (keys : List CellKey) (marks : Marks rows keys new) where
    abbrev Was : ℕ → CellRow → Type 0
    Was place z = (r : CellRow) × (slice_get rows place ≡ Some r) × (z.kept ≡ r.kept)
        × (option_map (λ (c : Open). c.number) z.claim ≡ option_map (λ (c : Open). c.number) r.claim)

    was : (place : ℕ) (z : CellRow) → slice_get new place ≡ Some z → Was place z
    was place z at =
        let r = beside rows new marks.same place z at z in
        ⊎_elim
        (λ (h : Reached rows keys r.0.key × (z ≡ marked r.0)).
        let e = h.1 in
        (r.0, r.1, ap (λ (x : CellRow). x.kept) e, ap (λ (x : CellRow). option_map (λ (c : Open). c.number) x.claim) e ∙ number_stale r.0.claim))
        (λ (h : (Reached rows keys r.0.key → ⊥) × (z ≡ r.0)).
        (r.0, r.1, ap (λ (x : CellRow). x.kept) h.1, ap (λ (x : CellRow). option_map (λ (c : Open). c.number) x.claim) h.1))
        (marks.each place r.0 z r.1 at)

    pub marks_keep : KeepSince number settled new
    marks_keep = record {
      kept = λ place z d at is le. (let r = was place z at in keep.kept place r.0 d r.1 (sym r.2 ∙ is) le);
      opened = λ place z n at is. (let r = was place z at in keep.opened place r.0 n r.1 (sym r.3 ∙ is));
    }

-- cells that are all clean
pub clean_keeps : (s : CellState) → IsSound IsCellLocal s → AllClean s.rows → KeepSince s.draws s.rows s.rows
clean_keeps s sound clean = record {
  kept = λ place r d at is le. (r, at, is);
  opened = λ place r n at is. absurd (none_open r.claim n ((sound.each r (place, at)).closed (clean r (place, at))) is);
}
