-- Measures of trees of boxes, in which each box counts by itself and by what is in it, and how much of a measure the
-- rules of box generation add.
use Rattle.std.proofs.Common.{◌≡◌, ℕ, ◌+◌, ◌≤◌, Bool, true, false, ◌&&◌, not, List, [], ◌∷◌, ◌++◌, refl, arith, filter, if◌then◌else◌, Option, None, Some}
use Rattle.std.specs.List.{list_any}
use Rattle.lay_boxgen.specs.Boxes.{Tree, Trees, tree, no_trees, also, trees_of, facts_of, remade, all_remade, in_box}
use Rattle.lay_boxgen.specs.Runs.{gathered, gathered_from, run_over, is_some, is_white_box, anonymous_box, anonymous_facts}
use Rattle.lay_boxgen.specs.Forms.{is_row_group, is_table, is_row, is_column, is_column_group, is_inline, is_block_container}
use Rattle.lay_boxgen.specs.Irrelevant.{is_irrelevant, kept_gap, kept_from, without_white_space, is_column_box, column_group_children, relevant}
use Rattle.lay_boxgen.specs.MissingChildren.{is_no_proper_table_child, is_no_row, is_no_cell, cell_round, in_cells, in_rows_of_table, in_rows_of_group, row_round, child_wrapped}
use Rattle.lay_boxgen.specs.MissingParents.{is_cell_in_flow, is_misparented, row_of_cells, table_round, cells_in_rows, parented}
use Rattle.lay_boxgen.specs.TableWrappers.{is_caption_box, is_no_caption_box, table_facts, table_box, captions_and_table, in_wrapper}
use Rattle.lay_boxgen.specs.BrokenInlines.{is_block_box, is_no_text_box}
use Rattle.lay_boxgen.specs.InlineRuns.{is_no_block, is_seen_box, block_round, run_wrapped}
use Rattle.lay_boxgen.specs.declared.facts.Facts.{Facts}
use Rattle.lay_boxgen.specs.declared.facts.Form.{Form}
use Rattle.lay_boxgen.specs.declared.facts.Form.TheVariants.{Row, Cell, Wrapper, InlineWrapper, Block}

abbrev mutual
  pub total : (Facts → Trees → ℕ) → Tree → ℕ
  total own (tree f us) = own f us + totals own us

  pub totals : (Facts → Trees → ℕ) → Trees → ℕ
  totals own no_trees = 0
  totals own (also t ts) = total own t + totals own ts

-- of several trees, with so much more for each
abbrev pub sum_with : (Facts → Trees → ℕ) → ℕ → List Tree → ℕ
sum_with own d [] = 0
sum_with own d (t ∷ ts) = total own t + d + sum_with own d ts

module _ (own : Facts → Trees → ℕ) where
  pub sum_is : (ts : List Tree) → totals own (trees_of ts) ≡ sum_with own 0 ts
  sum_is [] = refl
  sum_is (t ∷ ts) = let e = sum_is ts in omega (arith, e)

  pub more : (d e : ℕ) → d ≤ e → (ts : List Tree) → sum_with own d ts ≤ sum_with own e ts
  more d e le [] = omega arith
  more d e le (t ∷ ts) = let h = more d e le ts in omega (arith, h, le)

  pub append : (d : ℕ) (xs ys : List Tree) → sum_with own d (xs ++ ys) ≡ sum_with own d xs + sum_with own d ys
  append d [] ys = omega arith
  append d (x ∷ xs) ys = let e = append d xs ys in omega (arith, e)

  either : (d n : ℕ) (b : Bool) (xs ys : List Tree) → sum_with own d xs ≤ n → sum_with own d ys ≤ n → sum_with own d (if b then xs else ys) ≤ n
  either d n true xs ys h g = h
  either d n false xs ys h g = g

  pub filter_less : (d : ℕ) (p : Tree → Bool) (ts : List Tree) → sum_with own d (filter p ts) ≤ sum_with own d ts
  filter_less d p [] = omega arith
  filter_less d p (t ∷ ts) =
      let h = filter_less d p ts in
      either d (sum_with own d (t ∷ ts)) (p t) (t ∷ filter p ts) (filter p ts) (omega (arith, h)) (omega (arith, h))

  module _ (fault : Facts → Bool) (close : List Tree → List Tree) (d e : ℕ) (le : d ≤ e) (along : (t : Tree) (ts : List Tree) → sum_with own d (close (t ∷ ts)) ≤ sum_with own e (t ∷ ts)) where
    over : (run gap : List Tree) → sum_with own d (run_over close run gap) ≤ sum_with own e run + sum_with own e gap
    over [] gap = let h = more d e le gap in omega (arith, h)
    over (t ∷ ts) gap = let h = more d e le gap in let a = append d (close (t ∷ ts)) gap in let g = along t ts in omega (arith, a, g, h)

    gathered_from_less : (ts run gap : List Tree) → sum_with own d (gathered_from fault close run gap ts) ≤ sum_with own e run + sum_with own e gap + sum_with own e ts
    gathered_from_less [] run gap = let h = over run gap in omega (arith, h)
    gathered_from_less (t ∷ ts) run gap =
        let n : ℕ = sum_with own e run + sum_with own e gap + sum_with own e (t ∷ ts) in
        let a1 = append e (run ++ gap) (t ∷ []) in
        let a2 = append e run gap in
        let a3 = append e gap (t ∷ []) in
        let a4 = append d (run_over close run gap ++ t ∷ []) (gathered_from fault close [] [] ts) in
        let a5 = append d (run_over close run gap) (t ∷ []) in
        let h1 = gathered_from_less ts (run ++ gap ++ t ∷ []) [] in
        let h2 = gathered_from_less ts run (gap ++ t ∷ []) in
        let h3 = gathered_from_less ts [] [] in
        let o = over run gap in
        either d n (fault (facts_of t))
        (gathered_from fault close (run ++ gap ++ t ∷ []) [] ts)
        (if is_some run && is_white_box t then gathered_from fault close run (gap ++ t ∷ []) ts
        else run_over close run gap ++ t ∷ [] ++ gathered_from fault close [] [] ts)
        (omega (arith, a1, a2, h1))
        (either d n (is_some run && is_white_box t)
        (gathered_from fault close run (gap ++ t ∷ []) ts)
        (run_over close run gap ++ t ∷ [] ++ gathered_from fault close [] [] ts)
        (omega (arith, a3, h2))
        (omega (arith, a4, a5, h3, o, le)))

    pub gathered_less : (ts : List Tree) → sum_with own d (gathered fault close ts) ≤ sum_with own e ts
    gathered_less ts = let h = gathered_from_less ts [] [] in omega (arith, h)

  -- The first stage.
  kept_gap_less : (d : ℕ) (p : Form) (b a : Option Facts) (gap : List Tree) → sum_with own d (kept_gap p b gap a) ≤ sum_with own d gap
  kept_gap_less d p b a gap = either d (sum_with own d gap) (is_irrelevant p b a) [] gap (omega arith) (omega arith)

  kept_from_less : (d : ℕ) (p : Form) (ts : List Tree) (b : Option Facts) (gap : List Tree) → sum_with own d (kept_from p b gap ts) ≤ sum_with own d gap + sum_with own d ts
  kept_from_less d p [] b gap = let h = kept_gap_less d p b None gap in omega (arith, h)
  kept_from_less d p (t ∷ ts) b gap =
      let n : ℕ = sum_with own d gap + sum_with own d (t ∷ ts) in
      let a1 = append d gap (t ∷ []) in
      let a2 = append d (kept_gap p b gap (Some (facts_of t)) ++ t ∷ []) (kept_from p (Some (facts_of t)) [] ts) in
      let a3 = append d (kept_gap p b gap (Some (facts_of t))) (t ∷ []) in
      let g = kept_gap_less d p b (Some (facts_of t)) gap in
      let h1 = kept_from_less d p ts b (gap ++ t ∷ []) in
      let h2 = kept_from_less d p ts (Some (facts_of t)) [] in
      either d n (is_white_box t) (kept_from p b (gap ++ t ∷ []) ts) (kept_gap p b gap (Some (facts_of t)) ++ t ∷ [] ++ kept_from p (Some (facts_of t)) [] ts)
      (omega (arith, a1, h1)) (omega (arith, a2, a3, g, h2))

  pub relevant_less : (d : ℕ) (f : Facts) (ts : List Tree) → sum_with own d (relevant f ts) ≤ sum_with own d ts
  relevant_less d f ts =
      let n : ℕ = sum_with own d ts in
      let h = kept_from_less d f.form ts None [] in
      either d n (is_column f.form) [] (if is_column_group f.form then column_group_children ts else without_white_space f.form ts) (omega arith)
      (either d n (is_column_group f.form) (column_group_children ts) (without_white_space f.form ts) (filter_less d is_column_box ts) (omega (arith, h)))

  -- Anonymous boxes, none of which is an inline box, count at most so much.
  module _ (c : ℕ) (light : (f : Facts) (form : Form) (us : Trees) → is_inline form ≡ false → own (anonymous_facts f form) us ≤ c) where
    box_less : (d : ℕ) (f : Facts) (form : Form) → is_inline form ≡ false → (run : List Tree) → sum_with own d (anonymous_box f form run ∷ []) ≤ c + d + sum_with own 0 run
    box_less d f form h run = let l = light f form (trees_of run) h in let e = sum_is run in omega (arith, l, e)

    round_less : (d : ℕ) (f : Facts) (form : Form) → is_inline form ≡ false → (t : Tree) (ts : List Tree) → sum_with own d (anonymous_box f form (t ∷ ts) ∷ []) ≤ sum_with own (d + c) (t ∷ ts)
    round_less d f form h t ts = let b = box_less d f form h (t ∷ ts) in let m = more 0 (d + c) (omega arith) ts in omega (arith, b, m)

    in_cells_less : (d : ℕ) (f : Facts) (ts : List Tree) → sum_with own d (in_cells f ts) ≤ sum_with own (d + c) ts
    in_cells_less d f ts = gathered_less is_no_cell (cell_round f) d (d + c) (omega arith) (round_less d f (Cell 1 1) refl) ts

    row_round_less : (d : ℕ) (f : Facts) (t : Tree) (ts : List Tree) → sum_with own d (row_round f (t ∷ ts)) ≤ sum_with own (d + c + c) (t ∷ ts)
    row_round_less d f t ts =
        let b = box_less d f Row refl (in_cells f (t ∷ ts)) in
        let i = in_cells_less 0 f (t ∷ ts) in
        let m = more (0 + c) (d + c + c) (omega arith) ts in
        omega (arith, b, i, m)

    pub child_wrapped_less : (d : ℕ) (f : Facts) (ts : List Tree) → sum_with own d (child_wrapped f ts) ≤ sum_with own (d + c + c) ts
    child_wrapped_less d f ts =
        let n : ℕ = sum_with own (d + c + c) ts in
        let cells = in_cells_less d f ts in
        let m1 = more (d + c) (d + c + c) (omega arith) ts in
        let m2 = more d (d + c + c) (omega arith) ts in
        either d n (is_table f.form) (in_rows_of_table f ts) (if is_row_group f.form then in_rows_of_group f ts else (if is_row f.form then in_cells f ts else ts))
        (gathered_less is_no_proper_table_child (row_round f) d (d + c + c) (omega arith) (row_round_less d f) ts)
        (either d n (is_row_group f.form) (in_rows_of_group f ts) (if is_row f.form then in_cells f ts else ts)
        (gathered_less is_no_row (row_round f) d (d + c + c) (omega arith) (row_round_less d f) ts)
        (either d n (is_row f.form) (in_cells f ts) ts (omega (arith, cells, m1)) m2))

    cells_in_rows_less : (d : ℕ) (f : Facts) (ts : List Tree) → sum_with own d (cells_in_rows f ts) ≤ sum_with own (d + c) ts
    cells_in_rows_less d f ts =
        either d (sum_with own (d + c) ts) (is_row f.form) ts (gathered is_cell_in_flow (row_of_cells f) ts) (more d (d + c) (omega arith) ts)
        (gathered_less is_cell_in_flow (row_of_cells f) d (d + c) (omega arith) (round_less d f Row refl) ts)

    no_inline : (b : Bool) → is_inline (if b then InlineWrapper else Wrapper) ≡ false
    no_inline true = refl
    no_inline false = refl

    pub parented_less : (d : ℕ) (f : Facts) (ts : List Tree) → sum_with own d (parented f ts) ≤ sum_with own (d + c + c) ts
    parented_less d f ts =
        let tables = gathered_less (is_misparented f.form) (table_round f) d (d + c) (omega arith) (round_less d f (if is_inline f.form then InlineWrapper else Wrapper) (no_inline (is_inline f.form))) (cells_in_rows f ts) in
        let rows = cells_in_rows_less (d + c) f ts in
        omega (arith, tables, rows)

    block_round_less : (d : ℕ) (f : Facts) (t : Tree) (ts : List Tree) → sum_with own d (block_round f (t ∷ ts)) ≤ sum_with own (d + c) (t ∷ ts)
    block_round_less d f t ts =
        let l = filter_less d is_no_text_box (t ∷ ts) in
        let m = more d (d + c) (omega arith) (t ∷ ts) in
        either d (sum_with own (d + c) (t ∷ ts)) (list_any is_seen_box (t ∷ ts)) (anonymous_box f Block (t ∷ ts) ∷ []) (filter is_no_text_box (t ∷ ts)) (round_less d f Block refl t ts) (omega (arith, l, m))

    pub run_wrapped_less : (d : ℕ) (f : Facts) (ts : List Tree) → sum_with own d (run_wrapped f ts) ≤ sum_with own (d + c) ts
    run_wrapped_less d f ts =
        either d (sum_with own (d + c) ts) (is_block_container f.form && list_any is_block_box ts) (gathered is_no_block (block_round f) ts) ts
        (gathered_less is_no_block (block_round f) d (d + c) (omega arith) (block_round_less d f) ts) (more d (d + c) (omega arith) ts)

  -- The wrappers of tables.
  split_by : (t : Tree) (ts : List Tree) → sum_with own 0 (filter is_caption_box ts) + sum_with own 0 (filter is_no_caption_box ts) ≡ sum_with own 0 ts → (b : Bool)
      → sum_with own 0 (if b then t ∷ filter is_caption_box ts else filter is_caption_box ts) + sum_with own 0 (if not b then t ∷ filter is_no_caption_box ts else filter is_no_caption_box ts) ≡ sum_with own 0 (t ∷ ts)
  split_by t ts h true = omega (arith, h)
  split_by t ts h false = omega (arith, h)

  split : (ts : List Tree) → sum_with own 0 (filter is_caption_box ts) + sum_with own 0 (filter is_no_caption_box ts) ≡ sum_with own 0 ts
  split [] = refl
  split (t ∷ ts) = split_by t ts (split ts) (is_caption_box t)

  pub in_wrapper_less : (b : ℕ) → ((f : Facts) (us : Trees) → own (table_facts f) us ≤ b) → (f : Facts) (ts : List Tree) → sum_with own 0 (in_wrapper f ts) ≤ sum_with own 0 ts + b
  in_wrapper_less b light f ts =
      let a = append 0 (filter is_caption_box ts) (table_box f ts ∷ []) in
      let l = light f (trees_of (filter is_no_caption_box ts)) in
      let e = sum_is (filter is_no_caption_box ts) in
      let s = split ts in
      either 0 (sum_with own 0 ts + b) (is_table f.form) (captions_and_table f ts) ts (omega (arith, a, l, e, s)) (omega arith)

  -- A rule that changes children, over whole trees.
  module _ (change : Facts → List Tree → List Tree) (a b : ℕ) (big : Facts → Trees → ℕ) (cost : (f : Facts) (ts : List Tree) → sum_with own 0 (change f ts) ≤ sum_with own a ts + b)
      (fits : (f : Facts) (us : Trees) → own f (trees_of (change f (all_remade (in_box change) us))) + a + b ≤ big f us) where
    mutual
      pub remade_less : (t : Tree) → sum_with own a (remade (in_box change) t) ≤ total big t
      remade_less (tree f us) =
          let h = all_remade_less us in
          let c = cost f (all_remade (in_box change) us) in
          let k = fits f us in
          let e = sum_is (change f (all_remade (in_box change) us)) in
          omega (arith, h, c, k, e)

      pub all_remade_less : (us : Trees) → sum_with own a (all_remade (in_box change) us) ≤ totals big us
      all_remade_less no_trees = omega arith
      all_remade_less (also t ts) =
          let h = remade_less t in
          let r = all_remade_less ts in
          let e = append a (remade (in_box change) t) (all_remade (in_box change) ts) in
          omega (arith, h, r, e)

    pub stage_less : (ts : List Tree) → totals own (trees_of (all_remade (in_box change) (trees_of ts))) ≤ totals big (trees_of ts)
    stage_less ts =
        let h = all_remade_less (trees_of ts) in
        let e = sum_is (all_remade (in_box change) (trees_of ts)) in
        let m = more 0 a (omega arith) (all_remade (in_box change) (trees_of ts)) in
        omega (arith, h, e, m)
