-- A fact of all boxes that box generation starts from holds of those that it gives, where the boxes that its rules put round others
-- have it from the box that they stand in.
use Rattle.std.proofs.Common.{◌≡◌, Bool, true, false, ◌&&◌, List, [], ◌∷◌, ◌++◌, refl, filter, if◌then◌else◌, Option, None, Some}
use Rattle.std.specs.List.{list_any}
use Rattle.lay_boxgen.specs.Boxes.{Tree, Trees, tree, no_trees, also, trees_of, facts_of, remade, all_remade, in_box}
use Rattle.lay_boxgen.specs.BrokenInlines.{is_block_box, is_no_text_box, is_unseen, part_over, parts_from, broken}
use Rattle.lay_boxgen.specs.Forms.{is_row_group, is_table, is_row, is_column, is_column_group, is_inline, is_block_container, is_text}
use Rattle.lay_boxgen.specs.Generation.{generated}
use Rattle.lay_boxgen.specs.InlineRuns.{is_no_block, is_seen_box, block_round, run_wrapped}
use Rattle.lay_boxgen.specs.Irrelevant.{is_irrelevant, kept_gap, kept_from, without_white_space, is_column_box, column_group_children, relevant}
use Rattle.lay_boxgen.specs.MissingChildren.{is_no_proper_table_child, is_no_row, is_no_cell, cell_round, in_cells, in_rows_of_table, in_rows_of_group, row_round, child_wrapped}
use Rattle.lay_boxgen.specs.MissingParents.{is_cell_in_flow, is_misparented, row_of_cells, table_round, cells_in_rows, parented}
use Rattle.lay_boxgen.specs.Runs.{gathered, gathered_from, run_over, is_some, is_white_box, anonymous_box, anonymous_facts}
use Rattle.lay_boxgen.specs.TableWrappers.{is_caption_box, is_no_caption_box, table_facts, table_box, captions_and_table, in_wrapper}
use Rattle.lay_boxgen.specs.declared.facts.Facts.{Facts}
use Rattle.lay_boxgen.specs.declared.facts.Form.{Form}
use Rattle.lay_boxgen.specs.declared.facts.Form.TheVariants.{Row, Cell, Wrapper, InlineWrapper, Block}
use Rattle.lay_boxgen.specs.InnerBoxes.{AllBoxes, AllIn, AllOf}

table_is_no_text : (b : Bool) → is_text (if b then InlineWrapper else Wrapper) ≡ false
table_is_no_text true = refl
table_is_no_text false = refl

module _ (P : Facts → Type 0) (round : (f : Facts) (form : Form) → is_text form ≡ false → P f → P (anonymous_facts f form)) (in_table : (f : Facts) → P f → P (table_facts f)) where
  append : (xs ys : List Tree) → AllOf P xs → AllOf P ys → AllOf P (xs ++ ys)
  append [] ys h g = g
  append (x ∷ xs) ys h g = (h.0, append xs ys h.1 g)

  inside : (xs : List Tree) → AllOf P xs → AllIn P (trees_of xs)
  inside [] h = tt
  inside (x ∷ xs) h = (h.0, inside xs h.1)

  either : (b : Bool) (xs ys : List Tree) → AllOf P xs → AllOf P ys → AllOf P (if b then xs else ys)
  either true xs ys h g = h
  either false xs ys h g = g

  filtered : (p : Tree → Bool) (xs : List Tree) → AllOf P xs → AllOf P (filter p xs)
  filtered p [] h = tt
  filtered p (x ∷ xs) h = either (p x) (x ∷ filter p xs) (filter p xs) (h.0, filtered p xs h.1) (filtered p xs h.1)

  boxed : (f : Facts) (form : Form) → is_text form ≡ false → P f → (run : List Tree) → AllOf P run → AllOf P (anonymous_box f form run ∷ [])
  boxed f form no_text p run h = ((round f form no_text p, inside run h), tt)

  module _ (fault : Facts → Bool) (close : List Tree → List Tree) (along : (run : List Tree) → AllOf P run → AllOf P (close run)) where
    over : (run gap : List Tree) → AllOf P run → AllOf P gap → AllOf P (run_over close run gap)
    over [] gap h g = g
    over (t ∷ ts) gap h g = append (close (t ∷ ts)) gap (along (t ∷ ts) h) g

    from : (ts run gap : List Tree) → AllOf P ts → AllOf P run → AllOf P gap → AllOf P (gathered_from fault close run gap ts)
    from [] run gap h r g = over run gap r g
    from (t ∷ ts) run gap h r g =
        either (fault (facts_of t))
        (gathered_from fault close (run ++ gap ++ t ∷ []) [] ts)
        (if is_some run && is_white_box t then gathered_from fault close run (gap ++ t ∷ []) ts
        else run_over close run gap ++ t ∷ [] ++ gathered_from fault close [] [] ts)
        (from ts (run ++ gap ++ t ∷ []) [] h.1 (append (run ++ gap) (t ∷ []) (append run gap r g) (h.0, tt)) tt)
        (either (is_some run && is_white_box t)
        (gathered_from fault close run (gap ++ t ∷ []) ts)
        (run_over close run gap ++ t ∷ [] ++ gathered_from fault close [] [] ts)
        (from ts run (gap ++ t ∷ []) h.1 r (append gap (t ∷ []) g (h.0, tt)))
        (append (run_over close run gap ++ t ∷ []) (gathered_from fault close [] [] ts)
        (append (run_over close run gap) (t ∷ []) (over run gap r g) (h.0, tt))
        (from ts [] [] h.1 tt tt)))

    runs : (ts : List Tree) → AllOf P ts → AllOf P (gathered fault close ts)
    runs ts h = from ts [] [] h tt tt

  -- The first stage.
  gap_kept : (p : Form) (b a : Option Facts) (gap : List Tree) → AllOf P gap → AllOf P (kept_gap p b gap a)
  gap_kept p b a gap h = either (is_irrelevant p b a) [] gap tt h

  kept : (p : Form) (ts : List Tree) (b : Option Facts) (gap : List Tree) → AllOf P ts → AllOf P gap → AllOf P (kept_from p b gap ts)
  kept p [] b gap h g = gap_kept p b None gap g
  kept p (t ∷ ts) b gap h g =
      either (is_white_box t)
      (kept_from p b (gap ++ t ∷ []) ts)
      (kept_gap p b gap (Some (facts_of t)) ++ t ∷ [] ++ kept_from p (Some (facts_of t)) [] ts)
      (kept p ts b (gap ++ t ∷ []) h.1 (append gap (t ∷ []) g (h.0, tt)))
      (append (kept_gap p b gap (Some (facts_of t)) ++ t ∷ []) (kept_from p (Some (facts_of t)) [] ts)
      (append (kept_gap p b gap (Some (facts_of t))) (t ∷ []) (gap_kept p b (Some (facts_of t)) gap g) (h.0, tt))
      (kept p ts (Some (facts_of t)) [] h.1 tt))

  in_relevant : (f : Facts) (ts : List Tree) → P f → AllOf P ts → AllOf P (relevant f ts)
  in_relevant f ts p h =
      either (is_column f.form) [] (if is_column_group f.form then column_group_children ts else without_white_space f.form ts)
      tt
      (either (is_column_group f.form) (column_group_children ts) (without_white_space f.form ts) (filtered is_column_box ts h) (kept f.form ts None [] h tt))

  -- The second stage.
  cells : (f : Facts) (ts : List Tree) → P f → AllOf P ts → AllOf P (in_cells f ts)
  cells f ts p h = runs is_no_cell (cell_round f) (boxed f (Cell 1 1) refl p) ts h

  row : (f : Facts) → P f → (run : List Tree) → AllOf P run → AllOf P (row_round f run)
  row f p run h = boxed f Row refl p (in_cells f run) (cells f run p h)

  in_child_wrapped : (f : Facts) (ts : List Tree) → P f → AllOf P ts → AllOf P (child_wrapped f ts)
  in_child_wrapped f ts p h =
      either (is_table f.form) (in_rows_of_table f ts) (if is_row_group f.form then in_rows_of_group f ts else (if is_row f.form then in_cells f ts else ts))
      (runs is_no_proper_table_child (row_round f) (row f p) ts h)
      (either (is_row_group f.form) (in_rows_of_group f ts) (if is_row f.form then in_cells f ts else ts)
      (runs is_no_row (row_round f) (row f p) ts h)
      (either (is_row f.form) (in_cells f ts) ts (cells f ts p h) h))

  -- The third stage.
  rows : (f : Facts) (ts : List Tree) → P f → AllOf P ts → AllOf P (cells_in_rows f ts)
  rows f ts p h = either (is_row f.form) ts (gathered is_cell_in_flow (row_of_cells f) ts) h (runs is_cell_in_flow (row_of_cells f) (boxed f Row refl p) ts h)

  in_parented : (f : Facts) (ts : List Tree) → P f → AllOf P ts → AllOf P (parented f ts)
  in_parented f ts p h =
      runs (is_misparented f.form) (table_round f) (boxed f (if is_inline f.form then InlineWrapper else Wrapper) (table_is_no_text (is_inline f.form)) p)
      (cells_in_rows f ts) (rows f ts p h)

  -- Wrappers.
  in_in_wrapper : (f : Facts) (ts : List Tree) → P f → AllOf P ts → AllOf P (in_wrapper f ts)
  in_in_wrapper f ts p h =
      either (is_table f.form) (captions_and_table f ts) ts
      (append (filter is_caption_box ts) (table_box f ts ∷ []) (filtered is_caption_box ts h)
      ((in_table f p, inside (filter is_no_caption_box ts) (filtered is_no_caption_box ts h)), tt))
      h

  -- Breaking.
  part_is_over : (f : Facts) → P f → (after : Bool) (held : List Tree) → AllOf P held → AllOf P (part_over f after held)
  part_is_over f p true held h = filtered is_no_text_box held h
  part_is_over f p false held h = ((p, inside held h), tt)

  parts : (f : Facts) → P f → (ts : List Tree) (after : Bool) (held : List Tree) → AllOf P ts → AllOf P held → AllOf P (parts_from f after held ts)
  parts f p [] after held h g = part_is_over f p false held g
  parts f p (t ∷ ts) after held h g =
      either (is_block_box t)
      (part_over f after held ++ t ∷ [] ++ parts_from f true [] ts)
      (parts_from f (after && is_unseen (facts_of t)) (held ++ t ∷ []) ts)
      (append (part_over f after held ++ t ∷ []) (parts_from f true [] ts)
      (append (part_over f after held) (t ∷ []) (part_is_over f p after held g) (h.0, tt))
      (parts f p ts true [] h.1 tt))
      (parts f p ts (after && is_unseen (facts_of t)) (held ++ t ∷ []) h.1 (append held (t ∷ []) g (h.0, tt)))

  in_broken : (f : Facts) (ts : List Tree) → P f → AllOf P ts → AllOf P (broken f ts)
  in_broken f ts p h =
      either (is_inline f.form && list_any is_block_box ts) (parts_from f false [] ts) (tree f (trees_of ts) ∷ [])
      (parts f p ts false [] h tt) ((p, inside ts h), tt)

  -- Wrapping of inline runs.
  block : (f : Facts) → P f → (run : List Tree) → AllOf P run → AllOf P (block_round f run)
  block f p run h = either (list_any is_seen_box run) (anonymous_box f Block run ∷ []) (filter is_no_text_box run) (boxed f Block refl p run h) (filtered is_no_text_box run h)

  in_run_wrapped : (f : Facts) (ts : List Tree) → P f → AllOf P ts → AllOf P (run_wrapped f ts)
  in_run_wrapped f ts p h =
      either (is_block_container f.form && list_any is_block_box ts) (gathered is_no_block (block_round f) ts) ts
      (runs is_no_block (block_round f) (block f p) ts h) h

  -- A rule over whole trees.
  module _ (make : Facts → List Tree → List Tree) (along : (f : Facts) (ts : List Tree) → P f → AllOf P ts → AllOf P (make f ts)) where
    mutual
      made : (t : Tree) → AllBoxes P t → AllOf P (remade make t)
      made (tree f us) h = along f (all_remade make us) h.0 (all_made us h.1)

      all_made : (us : Trees) → AllIn P us → AllOf P (all_remade make us)
      all_made no_trees h = tt
      all_made (also t ts) h = append (remade make t) (all_remade make ts) (made t h.0) (all_made ts h.1)

    rule : (ts : List Tree) → AllOf P ts → AllOf P (all_remade make (trees_of ts))
    rule ts h = all_made (trees_of ts) (inside ts h)

  in_a_box : (change : Facts → List Tree → List Tree) → ((f : Facts) (ts : List Tree) → P f → AllOf P ts → AllOf P (change f ts))
      → (f : Facts) (ts : List Tree) → P f → AllOf P ts → AllOf P (in_box change f ts)
  in_a_box change along f ts p h = ((p, inside (change f ts) (along f ts p h)), tt)

  pub every-generated : (t : Tree) → AllBoxes P t → AllOf P (generated t)
  every-generated t h =
      let t1 = remade (in_box relevant) t in
      let t2 = all_remade (in_box child_wrapped) (trees_of t1) in
      let t3 = all_remade (in_box parented) (trees_of t2) in
      let t4 = all_remade (in_box in_wrapper) (trees_of t3) in
      let t5 = all_remade broken (trees_of t4) in
      rule (in_box run_wrapped) (in_a_box run_wrapped in_run_wrapped) t5
      (rule broken in_broken t4
      (rule (in_box in_wrapper) (in_a_box in_wrapper in_in_wrapper) t3
      (rule (in_box parented) (in_a_box parented in_parented) t2
      (rule (in_box child_wrapped) (in_a_box child_wrapped in_child_wrapped) t1
      (made (in_box relevant) (in_a_box relevant in_relevant) t h)))))
