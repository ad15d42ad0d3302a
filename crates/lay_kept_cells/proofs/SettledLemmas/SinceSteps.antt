-- What is known since all cells were clean, through claims, what comes of them, and edits.
use Rattle.std.proofs.Common.{◌≡◌, inl, inr, ◌≤◌, ◌+◌, List, slice_set, refl, arith, ap, sym, subst}
use Rattle.lay_cells.specs.Steps.{draws_after}
use Rattle.lay_kept_cells.proofs.Cited.{draws_more}
use Rattle.lay_contexts.specs.Contexts.{Context}
use Rattle.lay_context.specs.Medium.{Medium}
use Rattle.lay_cell_work.specs.CellLaws.SoundCells.{CellState}
use Rattle.lay_kept_cells.specs.Settled.Laws.{ClaimsKeepSince, EditsBeginSince, EditsKeepSince, FinishesKeepSince, GiveBacksKeepSince}
use Rattle.lay_kept_cells.specs.Settled.Since.{IsSince, KeepSince, Since}
use Rattle.lay_kept_cells.proofs.SettledLemmas.KeptRows.{back_keeps, claim_keeps, clean_keeps, finish_keeps, marks_keep}
use Rattle.lay_kept_cells.proofs.SettledLemmas.KeptTwice.{kept_twice}

-- the cells became others, of which the same is known
moved : (medium : Medium) (contexts : List Context) (s t : CellState) (since : Since) (is : IsSince medium contexts s since) → s.draws ≤ t.draws
    → KeepSince since.number is.settled.rows t.rows → IsSince medium contexts t since
moved medium contexts s t since is more keep = record {
  document = is.document;
  face = is.face;
  before = is.before;
  settled = is.settled;
  medium_is = is.medium_is;
  were = is.were;
  clean = is.clean;
  same = is.same;
  drawn = (let low = is.drawn in omega (arith, low, more));
  keep = keep;
}

pub claims_keep_since_lem : ClaimsKeepSince
claims_keep_since_lem medium contexts s t since key input a is h =
    let more = draws_more a s.draws in
    let drawn : t.draws ≡ draws_after a s.draws = ap (λ (z : CellState). z.draws) h.5 in
    let rows : t.rows ≡ slice_set s.rows h.0 h.2 = ap (λ (z : CellState). z.rows) h.5 in
    let low = is.drawn in
    moved medium contexts s t since is (omega (arith, more, drawn))
    (subst (KeepSince since.number is.settled.rows) (sym rows)
    (claim_keeps since.number is.settled.rows s.rows is.keep h.0 h.1 h.2 h.3.0 (s.draws + 1) input a (omega (arith, low)) h.4))

pub finishes_keep_since_lem : FinishesKeepSince
finishes_keep_since_lem medium contexts s t since done a is (inl gone) = subst (λ (z : CellState). IsSince medium contexts z since) (sym gone.2) is
finishes_keep_since_lem medium contexts s t since done a is (inr h) =
    let drawn : t.draws ≡ s.draws = ap (λ (z : CellState). z.draws) h.5 in
    let rows : t.rows ≡ slice_set s.rows h.0 h.2 = ap (λ (z : CellState). z.rows) h.5 in
    moved medium contexts s t since is (omega (arith, drawn))
    (subst (KeepSince since.number is.settled.rows) (sym rows) (finish_keeps since.number is.settled.rows s.rows is.keep h.0 h.1 h.2 h.3.0 done a h.4))

pub give_backs_keep_since_lem : GiveBacksKeepSince
give_backs_keep_since_lem medium contexts s t since key number a is (inl gone) = subst (λ (z : CellState). IsSince medium contexts z since) (sym gone.2) is
give_backs_keep_since_lem medium contexts s t since key number a is (inr h) =
    let drawn : t.draws ≡ s.draws = ap (λ (z : CellState). z.draws) h.5 in
    let rows : t.rows ≡ slice_set s.rows h.0 h.2 = ap (λ (z : CellState). z.rows) h.5 in
    moved medium contexts s t since is (omega (arith, drawn))
    (subst (KeepSince since.number is.settled.rows) (sym rows) (back_keeps since.number is.settled.rows s.rows is.keep h.0 h.1 h.2 h.3.0 number a h.4))

pub edits_keep_since_lem : EditsKeepSince
edits_keep_since_lem medium contexts later s t since made keys is same marks drawn = record {
  document = is.document;
  face = is.face;
  before = is.before;
  settled = is.settled;
  medium_is = is.medium_is;
  were = is.were;
  clean = is.clean;
  same = kept_twice is.before.contexts contexts later since.changed made is.same same;
  drawn = (let low = is.drawn in omega (arith, low, drawn));
  keep = marks_keep since.number is.settled.rows s.rows is.keep t.rows keys marks;
}

pub edits_begin_since_lem : EditsBeginSince
edits_begin_since_lem d face contexts later all s t made keys cells clean same marks drawn = record {
  document = d;
  face = face;
  before = record { contexts = contexts; formatting_contexts = all };
  settled = s;
  medium_is = refl;
  were = cells;
  clean = clean;
  same = same;
  drawn = omega (arith, drawn);
  keep = marks_keep s.draws s.rows s.rows (clean_keeps s cells.cells.sound clean) t.rows keys marks;
}
