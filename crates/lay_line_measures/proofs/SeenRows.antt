-- Content has a line that is seen exactly where some line of it is seen.
use Rattle.std.proofs.Common.{◌≡◌, ℕ, zero, suc, pos, Bool, true, false, ◌||◌, List, [], ◌∷◌, ◌++◌, map, take, drop, refl, sym, ap, subst, ◌∙◌}
use Rattle.std.specs.List.{list_any}
use Rattle.std.proofs.lemmas.List.{take-append-drop}
use Rattle.std.proofs.lemmas.List.Folds.{list_any-append}
use Rattle.std.proofs.Math.Bool.{or-false}
use Rattle.lay_lines.specs.declared.content.content.Stretch.{Stretch}
use Rattle.lay_lines.specs.Content.Extents.{any_shows}
use Rattle.lay_lines.specs.Content.Pens.{seen_to}
use Rattle.lay_lines.specs.declared.row.Ended.{Ended}
use Rattle.lay_lines.specs.Rows.{Laid, Row, RowsTo, after_row, ended_of}
use Rattle.lay_line_measures.specs.Laws.{SeenLinesAreSeen}
use Rattle.lay_line_measures.specs.SeenLines.{is_seen, has_seen_line}
use Rattle.lay_line_measures.specs.Stretches.{stretches_of}
use Rattle.lay_line_measures.proofs.Disjunctions.{or_kept, or_last}
use Rattle.lay_line_measures.proofs.SeenPens.{pen_seen}
use Rattle.lay_line_measures.proofs.ShownBoxes.{AllAreSeen, dropped, reading_shows, stretches_seen}

abbrev any_row : List Row → Bool
any_row rows = list_any (λ (r : Row). r.seen) rows

-- what is seen in all content is seen in the rows so far or in what is left; and an open box that shows is in a row that
-- is seen
record SeenSoFar (total : Bool) (l : Laid) : Type 0 where
  same : (any_row l.rows || has_seen_line l.position.rest) ≡ total
  opened : any_shows l.position.open_boxes ≡ true → any_row l.rows ≡ true
  are : AllAreSeen l.position.rest

split : (n : ℕ) (ss : List Stretch) → has_seen_line ss ≡ (has_seen_line (take n ss) || has_seen_line (drop n ss))
split n ss = ap has_seen_line (sym (take-append-drop n ss)) ∙ list_any-append (λ (s : Stretch). list_any is_seen s.parts) (take n ss) (drop n ss)

one_row_more : (total : Bool) (l : Laid) (r : Row) → SeenSoFar total l
    → r.seen ≡ (any_shows l.position.open_boxes || seen_to l.position.frame l.position.rest r.reach.count)
    → SeenSoFar total (record { rows = l.rows ++ r ∷ []; position = after_row l.position r })
one_row_more total l r so_far is =
    let n = r.reach.count in
    let rest = l.position.rest in
    let bs = l.position.open_boxes in
    let rows : any_row (l.rows ++ r ∷ []) ≡ (any_row l.rows || (r.seen || false)) = list_any-append (λ (r : Row). r.seen) l.rows (r ∷ []) in
    let seen : r.seen ≡ (any_shows bs || has_seen_line (take n rest)) =
    is ∙ ap (λ b. any_shows bs || b) (pen_seen l.position.frame (pos 0) rest n) in
    record {
      same =
          ap (λ b. b || has_seen_line (drop n rest)) (rows ∙ ap (λ b. any_row l.rows || (b || false)) seen)
          ∙ or_kept (any_row l.rows) (any_shows bs) (has_seen_line (take n rest)) (has_seen_line (drop n rest)) total so_far.opened
          (ap (λ b. any_row l.rows || b) (sym (split n rest)) ∙ so_far.same);
      opened = λ e. rows ∙ or_last (any_row l.rows) r.seen (seen ∙ reading_shows l.position.frame bs rest n so_far.are e);
      are = dropped n rest so_far.are;
    }

all_rows : (total : Bool) (n : ℕ) (a b : Laid) → RowsTo n a b → SeenSoFar total a → SeenSoFar total b
all_rows total zero a b e so_far = subst (SeenSoFar total) (sym e) so_far
all_rows total (suc n) a b (mid, before, step) so_far =
    subst (SeenSoFar total) (sym step.after) (one_row_more total mid step.row (all_rows total n a mid before so_far) step.is.filled.seen_is)

no_box : false ≡ true → (b : Bool) → b ≡ true
no_box e b = absurd cc

ended_seen : (rows : List Row) → list_any (λ (r : Ended). r.seen) (map ended_of rows) ≡ any_row rows
ended_seen [] = refl
ended_seen (r ∷ rows) = ap (λ b. r.seen || b) (ended_seen rows)

pub seen_lines_lem : SeenLinesAreSeen
seen_lines_lem m c segments left right top before v lines =
    let ss = stretches_of m c true segments in
    let all = all_rows (has_seen_line ss) lines.are.count _ lines.laid lines.are.rows
    (record { same = refl; opened = λ e. no_box e false; are = stretches_seen m c true segments }) in
    ap (list_any (λ (r : Ended). r.seen)) (sym lines.rows) ∙ ended_seen lines.laid.rows
    ∙ sym (or-false (any_row lines.laid.rows)) ∙ ap (λ rest. any_row lines.laid.rows || has_seen_line rest) (sym lines.are.all) ∙ all.same
