-- The lines of a block container take all its segments, so one of them has each anchor.
use Rattle.std.proofs.Common.{◌≡◌, ℕ, zero, suc, ℤ, ◌-◌, ◌||◌, Bool, true, false, List, [], ◌∷◌, ◌++◌, take, drop, map, length, Some, refl, sym, ap, subst, ◌∙◌, arith, if◌then◌else◌}
use Rattle.std.specs.List.{list_any}
use Rattle.std.specs.Option.{is_some}
use Rattle.std.proofs.lemmas.List.{length-drop, map-append, take-append-drop}
use Rattle.std.proofs.lemmas.List.Folds.{list_any-append}
use Rattle.lay_units.specs.declared.length.Unit.{Unit as Length}
use Rattle.lay_floats.specs.declared.placed.Placed.{Placed}
use Rattle.lay_space.specs.declared.segment.Segment.{Segment}
use Rattle.lay_lines.specs.Content.LineContents.{LineContentValue}
use Rattle.lay_lines.specs.declared.row.Ended.{Ended}
use Rattle.lay_lines.specs.Lines.{AreLines, LinesValue}
use Rattle.lay_lines.specs.Rows.{Laid, RowsTo, ended_of}
use Rattle.lay_placement.specs.StaticPositions.{holds_anchor, line_top}
use Rattle.lay_placement.proofs.AnchorRows.{rest_after}

-- how many are left of so many
abbrev pub left_over : List Ended → ℕ → ℕ
left_over [] n = n
left_over (row ∷ rows) n = left_over rows (n - row.reach.count)

left_more : (rows : List Ended) (row : Ended) (n : ℕ) → left_over (rows ++ row ∷ []) n ≡ left_over rows n - row.reach.count
left_more [] row n = refl
left_more (x ∷ xs) row n = left_more xs row (n - x.reach.count)

rest_count : (rows : List Ended) (segments : List Segment) → length (rest_after rows segments) ≡ left_over rows (length segments)
rest_count [] segments = refl
rest_count (row ∷ rows) segments = rest_count rows (drop row.reach.count segments) ∙ ap (left_over rows) (length-drop row.reach.count segments)

-- lines leave what their counts leave
laid_count : (n k : ℕ) (a b : Laid) → RowsTo k a b → length a.position.rest ≡ left_over (map ended_of a.rows) n → length b.position.rest ≡ left_over (map ended_of b.rows) n
laid_count n zero a b is e = subst (λ (l : Laid). length l.position.rest ≡ left_over (map ended_of l.rows) n) (sym is) e
laid_count n (suc k) a b is e =
    let mid = laid_count n k a is.0 is.1 e in
    let row = is.2.row in
    let more : map ended_of (is.0.rows ++ row ∷ []) ≡ map ended_of is.0.rows ++ ended_of row ∷ [] = map-append ended_of is.0.rows (row ∷ []) in
    subst (λ (l : Laid). length l.position.rest ≡ left_over (map ended_of l.rows) n) (sym is.2.after)
    (length-drop row.reach.count is.0.position.rest ∙ ap (λ m. m - row.reach.count) mid
    ∙ sym (ap (λ rows. left_over rows n) more ∙ left_more (map ended_of is.0.rows) (ended_of row) n))

pub all_taken : (c : LineContentValue) (left right : Length) (top : ℤ) (before : List Placed) (v : LinesValue) → AreLines c left right top before v → left_over v.rows (length c.stretches) ≡ 0
all_taken c left right top before v are =
    let end = laid_count (length c.stretches) are.are.count (record { rows = []; position = _ }) are.laid are.are.rows refl in
    sym (ap (λ rows. left_over rows (length c.stretches)) are.rows) ∙ (sym end ∙ ap length are.are.all)

none_left : (xs : List Segment) → length xs ≡ 0 → xs ≡ []
none_left [] e = refl
none_left (x ∷ xs) e = absurd (omega (arith, e))

-- One anchor.
module _ (k : ℕ) where
  not_taken : (n : ℕ) (segments : List Segment) → list_any (holds_anchor k) segments ≡ true → list_any (holds_anchor k) (take n segments) ≡ false → list_any (holds_anchor k) (drop n segments) ≡ true
  not_taken n segments some none =
      by (list_any (holds_anchor k) (take n segments)) none
      (sym (list_any-append (holds_anchor k) (take n segments) (drop n segments)) ∙ (ap (list_any (holds_anchor k)) (take-append-drop n segments) ∙ some))
    where
      by : (b : Bool) → b ≡ false → (b || list_any (holds_anchor k) (drop n segments)) ≡ true → list_any (holds_anchor k) (drop n segments) ≡ true
      by true e h = absurd cc
      by false e h = h

  top_by : (rows : List Ended) (segments : List Segment) → list_any (holds_anchor k) segments ≡ true → rest_after rows segments ≡ [] → is_some (line_top rows segments k) ≡ true
  top_by [] segments some none = absurd (let never : false ≡ true = sym (ap (list_any (holds_anchor k)) none) ∙ some in cc)
  top_by (row ∷ rows) segments some none =
      by (list_any (holds_anchor k) (take row.reach.count segments)) refl
      (λ e. top_by rows (drop row.reach.count segments) (not_taken row.reach.count segments some e) none)
    where
      by : (b : Bool) → list_any (holds_anchor k) (take row.reach.count segments) ≡ b
          → (list_any (holds_anchor k) (take row.reach.count segments) ≡ false → is_some (line_top rows (drop row.reach.count segments) k) ≡ true)
          → is_some (if b then Some row.top else line_top rows (drop row.reach.count segments) k) ≡ true
      by true e rest = refl
      by false e rest = rest e

  pub top_there : (rows : List Ended) (segments : List Segment) → list_any (holds_anchor k) segments ≡ true → left_over rows (length segments) ≡ 0 → is_some (line_top rows segments k) ≡ true
  top_there rows segments some none = top_by rows segments some (none_left (rest_after rows segments) (rest_count rows segments ∙ none))
