-- A fact of all boxes that holds of every box but those of inner contexts by itself, and of the boxes from
-- which box generation starts, holds of those that it gives.
use Rattle.std.proofs.Common.{◌≡◌, Bool, true, false, ◌&&◌, List, [], ◌∷◌, ◌++◌, refl, filter, if◌then◌else◌, Option, None, Some}
use Rattle.std.specs.List.{list_any}
use Rattle.lay_boxgen.specs.Boxes.{Tree, Trees, tree, no_trees, also, trees_of, facts_of, remade, all_remade, in_box}
use Rattle.lay_boxgen.specs.Runs.{gathered, gathered_from, run_over, is_some, is_white_box, anonymous_box, anonymous_facts}
use Rattle.lay_boxgen.specs.Contexts.{keeps_form}
use Rattle.lay_boxgen.specs.InnerBoxes.{AllBoxes, AllIn, AllOf}
use Rattle.lay_boxgen.specs.Forms.{is_row_group, is_table, is_row, is_column, is_column_group, is_inline, is_block_container}
use Rattle.lay_boxgen.specs.Irrelevant.{is_irrelevant, kept_gap, kept_from, without_white_space, is_column_box, column_group_children, relevant}
use Rattle.lay_boxgen.specs.MissingChildren.{is_no_proper_table_child, is_no_row, is_no_cell, cell_round, in_cells, in_rows_of_table, in_rows_of_group, row_round, child_wrapped}
use Rattle.lay_boxgen.specs.MissingParents.{is_cell_in_flow, is_misparented, row_of_cells, table_round, cells_in_rows, parented}
use Rattle.lay_boxgen.specs.TableWrappers.{is_caption_box, is_no_caption_box, table_facts, table_box, captions_and_table, in_wrapper}
use Rattle.lay_boxgen.specs.BrokenInlines.{is_block_box, is_no_text_box, is_unseen, part_over, parts_from, broken}
use Rattle.lay_boxgen.specs.InlineRuns.{is_no_block, is_seen_box, block_round, run_wrapped}
use Rattle.lay_boxgen.specs.declared.facts.Facts.{Facts}
use Rattle.lay_boxgen.specs.declared.facts.Form.{Form}
use Rattle.lay_boxgen.specs.declared.facts.Form.TheVariants.{Row, Cell, Wrapper, InlineWrapper, Block}

module _ (P : Facts → Type 0) (opened : (f : Facts) → f.inner ≡ false → P f) where
  every-append : (xs ys : List Tree) → AllOf P xs → AllOf P ys → AllOf P (xs ++ ys)
  every-append [] ys h g = g
  every-append (x ∷ xs) ys h g = (h.0, every-append xs ys h.1 g)

  pub every-in : (xs : List Tree) → AllOf P xs → AllIn P (trees_of xs)
  every-in [] h = tt
  every-in (x ∷ xs) h = (h.0, every-in xs h.1)

  every-if : (b : Bool) (xs ys : List Tree) → AllOf P xs → AllOf P ys → AllOf P (if b then xs else ys)
  every-if true xs ys h g = h
  every-if false xs ys h g = g

  every-filter : (p : Tree → Bool) (xs : List Tree) → AllOf P xs → AllOf P (filter p xs)
  every-filter p [] h = tt
  every-filter p (x ∷ xs) h = every-if (p x) (x ∷ filter p xs) (filter p xs) (h.0, every-filter p xs h.1) (every-filter p xs h.1)

  every-box : (f : Facts) (form : Form) (run : List Tree) → AllOf P run → AllOf P (anonymous_box f form run ∷ [])
  every-box f form run h = ((opened (anonymous_facts f form) refl, every-in run h), tt)

  module _ (fault : Facts → Bool) (close : List Tree → List Tree) (along : (run : List Tree) → AllOf P run → AllOf P (close run)) where
    every-run_over : (run gap : List Tree) → AllOf P run → AllOf P gap → AllOf P (run_over close run gap)
    every-run_over [] gap h g = g
    every-run_over (t ∷ ts) gap h g = every-append (close (t ∷ ts)) gap (along (t ∷ ts) h) g

    every-gathered_from : (ts run gap : List Tree) → AllOf P ts → AllOf P run → AllOf P gap → AllOf P (gathered_from fault close run gap ts)
    every-gathered_from [] run gap h r g = every-run_over run gap r g
    every-gathered_from (t ∷ ts) run gap h r g =
        every-if (fault (facts_of t))
        (gathered_from fault close (run ++ gap ++ t ∷ []) [] ts)
        (if is_some run && is_white_box t then gathered_from fault close run (gap ++ t ∷ []) ts
        else run_over close run gap ++ t ∷ [] ++ gathered_from fault close [] [] ts)
        (every-gathered_from ts (run ++ gap ++ t ∷ []) [] h.1 (every-append (run ++ gap) (t ∷ []) (every-append run gap r g) (h.0, tt)) tt)
        (every-if (is_some run && is_white_box t)
        (gathered_from fault close run (gap ++ t ∷ []) ts)
        (run_over close run gap ++ t ∷ [] ++ gathered_from fault close [] [] ts)
        (every-gathered_from ts run (gap ++ t ∷ []) h.1 r (every-append gap (t ∷ []) g (h.0, tt)))
        (every-append (run_over close run gap ++ t ∷ []) (gathered_from fault close [] [] ts)
        (every-append (run_over close run gap) (t ∷ []) (every-run_over run gap r g) (h.0, tt))
        (every-gathered_from ts [] [] h.1 tt tt)))

    every-gathered : (ts : List Tree) → AllOf P ts → AllOf P (gathered fault close ts)
    every-gathered ts h = every-gathered_from ts [] [] h tt tt

  -- The first stage.
  every-kept_gap : (p : Form) (b a : Option Facts) (gap : List Tree) → AllOf P gap → AllOf P (kept_gap p b gap a)
  every-kept_gap p b a gap h = every-if (is_irrelevant p b a) [] gap tt h

  every-kept_from : (p : Form) (ts : List Tree) (b : Option Facts) (gap : List Tree) → AllOf P ts → AllOf P gap → AllOf P (kept_from p b gap ts)
  every-kept_from p [] b gap h g = every-kept_gap p b None gap g
  every-kept_from p (t ∷ ts) b gap h g =
      every-if (is_white_box t)
      (kept_from p b (gap ++ t ∷ []) ts)
      (kept_gap p b gap (Some (facts_of t)) ++ t ∷ [] ++ kept_from p (Some (facts_of t)) [] ts)
      (every-kept_from p ts b (gap ++ t ∷ []) h.1 (every-append gap (t ∷ []) g (h.0, tt)))
      (every-append (kept_gap p b gap (Some (facts_of t)) ++ t ∷ []) (kept_from p (Some (facts_of t)) [] ts)
      (every-append (kept_gap p b gap (Some (facts_of t))) (t ∷ []) (every-kept_gap p b (Some (facts_of t)) gap g) (h.0, tt))
      (every-kept_from p ts (Some (facts_of t)) [] h.1 tt))

  -- the fact holds of the children that a box of this form keeps
  abbrev pub AllKept : Form → List Tree → Type 0
  AllKept p [] = Unit {0}
  AllKept p (t ∷ ts) = (keeps_form p (facts_of t).form ≡ true → AllBoxes P t) × AllKept p ts

  pub every-kept : (p : Form) (ts : List Tree) → AllOf P ts → AllKept p ts
  every-kept p [] h = tt
  every-kept p (t ∷ ts) h = (λ kept. h.0, every-kept p ts h.1)

  columns_by : (p : Form) (t : Tree) (ts : List Tree) → is_column p ≡ false → is_column_group p ≡ true → AllKept p (t ∷ ts) → AllOf P (filter is_column_box ts)
      → (b : Bool) → is_column_box t ≡ b → AllOf P (if b then t ∷ filter is_column_box ts else filter is_column_box ts)
  columns_by p t ts e g h ih true c = (h.0 (simp (e, g, c) refl), ih)
  columns_by p t ts e g h ih false c = ih

  kept-columns : (p : Form) (ts : List Tree) → is_column p ≡ false → is_column_group p ≡ true → AllKept p ts → AllOf P (column_group_children ts)
  kept-columns p [] e g h = tt
  kept-columns p (t ∷ ts) e g h = columns_by p t ts e g h (kept-columns p ts e g h.1) (is_column_box t) refl

  kept-all : (p : Form) (ts : List Tree) → is_column p ≡ false → is_column_group p ≡ false → AllKept p ts → AllOf P ts
  kept-all p [] e g h = tt
  kept-all p (t ∷ ts) e g h = (h.0 (simp (e, g) refl), kept-all p ts e g h.1)

  relevant_by : (f : Facts) (ts : List Tree) → AllKept f.form ts → (b c : Bool) → is_column f.form ≡ b → is_column_group f.form ≡ c
      → AllOf P (if b then [] else (if c then column_group_children ts else without_white_space f.form ts))
  relevant_by f ts h true c e g = tt
  relevant_by f ts h false true e g = kept-columns f.form ts e g h
  relevant_by f ts h false false e g = every-kept_from f.form ts None [] (kept-all f.form ts e g h) tt

  pub every-relevant : (f : Facts) (ts : List Tree) → AllKept f.form ts → AllOf P (relevant f ts)
  every-relevant f ts h = relevant_by f ts h (is_column f.form) (is_column_group f.form) refl refl

  -- The second stage.
  every-in_cells : (f : Facts) (ts : List Tree) → AllOf P ts → AllOf P (in_cells f ts)
  every-in_cells f ts h = every-gathered is_no_cell (cell_round f) (every-box f (Cell 1 1)) ts h

  every-row_round : (f : Facts) (run : List Tree) → AllOf P run → AllOf P (row_round f run)
  every-row_round f run h = every-box f Row (in_cells f run) (every-in_cells f run h)

  every-child_wrapped : (f : Facts) (ts : List Tree) → AllOf P ts → AllOf P (child_wrapped f ts)
  every-child_wrapped f ts h =
      every-if (is_table f.form) (in_rows_of_table f ts) (if is_row_group f.form then in_rows_of_group f ts else (if is_row f.form then in_cells f ts else ts))
      (every-gathered is_no_proper_table_child (row_round f) (every-row_round f) ts h)
      (every-if (is_row_group f.form) (in_rows_of_group f ts) (if is_row f.form then in_cells f ts else ts)
      (every-gathered is_no_row (row_round f) (every-row_round f) ts h)
      (every-if (is_row f.form) (in_cells f ts) ts (every-in_cells f ts h) h))

  -- The third stage.
  every-cells_in_rows : (f : Facts) (ts : List Tree) → AllOf P ts → AllOf P (cells_in_rows f ts)
  every-cells_in_rows f ts h =
      every-if (is_row f.form) ts (gathered is_cell_in_flow (row_of_cells f) ts) h (every-gathered is_cell_in_flow (row_of_cells f) (every-box f Row) ts h)

  every-parented : (f : Facts) (ts : List Tree) → AllOf P ts → AllOf P (parented f ts)
  every-parented f ts h =
      every-gathered (is_misparented f.form) (table_round f) (every-box f (if is_inline f.form then InlineWrapper else Wrapper)) (cells_in_rows f ts) (every-cells_in_rows f ts h)

  -- Wrappers.
  every-in_wrapper : (f : Facts) (ts : List Tree) → AllOf P ts → AllOf P (in_wrapper f ts)
  every-in_wrapper f ts h =
      every-if (is_table f.form) (captions_and_table f ts) ts
      (every-append (filter is_caption_box ts) (table_box f ts ∷ []) (every-filter is_caption_box ts h)
      ((opened (table_facts f) refl, every-in (filter is_no_caption_box ts) (every-filter is_no_caption_box ts h)), tt))
      h

  -- Breaking.
  every-part_over : (f : Facts) → P f → (after : Bool) (held : List Tree) → AllOf P held → AllOf P (part_over f after held)
  every-part_over f p true held h = every-filter is_no_text_box held h
  every-part_over f p false held h = ((p, every-in held h), tt)

  every-parts_from : (f : Facts) → P f → (ts : List Tree) (after : Bool) (held : List Tree) → AllOf P ts → AllOf P held → AllOf P (parts_from f after held ts)
  every-parts_from f p [] after held h g = every-part_over f p false held g
  every-parts_from f p (t ∷ ts) after held h g =
      every-if (is_block_box t)
      (part_over f after held ++ t ∷ [] ++ parts_from f true [] ts)
      (parts_from f (after && is_unseen (facts_of t)) (held ++ t ∷ []) ts)
      (every-append (part_over f after held ++ t ∷ []) (parts_from f true [] ts)
      (every-append (part_over f after held) (t ∷ []) (every-part_over f p after held g) (h.0, tt))
      (every-parts_from f p ts true [] h.1 tt))
      (every-parts_from f p ts (after && is_unseen (facts_of t)) (held ++ t ∷ []) h.1 (every-append held (t ∷ []) g (h.0, tt)))

  every-broken : (f : Facts) (ts : List Tree) → P f → AllOf P ts → AllOf P (broken f ts)
  every-broken f ts p h =
      every-if (is_inline f.form && list_any is_block_box ts) (parts_from f false [] ts) (tree f (trees_of ts) ∷ [])
      (every-parts_from f p ts false [] h tt) ((p, every-in ts h), tt)

  -- Wrapping of inline runs.
  every-block_round : (f : Facts) (run : List Tree) → AllOf P run → AllOf P (block_round f run)
  every-block_round f run h =
      every-if (list_any is_seen_box run) (anonymous_box f Block run ∷ []) (filter is_no_text_box run) (every-box f Block run h) (every-filter is_no_text_box run h)

  every-run_wrapped : (f : Facts) (ts : List Tree) → AllOf P ts → AllOf P (run_wrapped f ts)
  every-run_wrapped f ts h =
      every-if (is_block_container f.form && list_any is_block_box ts) (gathered is_no_block (block_round f) ts) ts
      (every-gathered is_no_block (block_round f) (every-block_round f) ts h) h

  module _ (make : Facts → List Tree → List Tree) (along : (f : Facts) (ts : List Tree) → P f → AllOf P ts → AllOf P (make f ts)) where
    mutual
      pub every-remade : (t : Tree) → AllBoxes P t → AllOf P (remade make t)
      every-remade (tree f us) h = along f (all_remade make us) h.0 (every-all_remade us h.1)

      every-all_remade : (us : Trees) → AllIn P us → AllOf P (all_remade make us)
      every-all_remade no_trees h = tt
      every-all_remade (also t ts) h = every-append (remade make t) (all_remade make ts) (every-remade t h.0) (every-all_remade ts h.1)

    every-rule : (ts : List Tree) → AllOf P ts → AllOf P (all_remade make (trees_of ts))
    every-rule ts h = every-all_remade (trees_of ts) (every-in ts h)

  pub every-in_box : (change : Facts → List Tree → List Tree) → ((f : Facts) (ts : List Tree) → AllOf P ts → AllOf P (change f ts))
      → (f : Facts) (ts : List Tree) → P f → AllOf P ts → AllOf P (in_box change f ts)
  every-in_box change along f ts p h = ((p, every-in (change f ts) (along f ts h)), tt)

  -- what is generated of trees without irrelevant boxes
  abbrev pub generated_after : List Tree → List Tree
  generated_after ts =
      all_remade (in_box run_wrapped) (trees_of
      (all_remade broken (trees_of
      (all_remade (in_box in_wrapper) (trees_of
      (all_remade (in_box parented) (trees_of
      (all_remade (in_box child_wrapped) (trees_of ts)))))))))

  pub every-generated : (ts : List Tree) → AllOf P ts → AllOf P (generated_after ts)
  every-generated ts h =
      let t2 = all_remade (in_box child_wrapped) (trees_of ts) in
      let t3 = all_remade (in_box parented) (trees_of t2) in
      let t4 = all_remade (in_box in_wrapper) (trees_of t3) in
      let t5 = all_remade broken (trees_of t4) in
      every-rule (in_box run_wrapped) (every-in_box run_wrapped every-run_wrapped) t5
      (every-rule broken every-broken t4
      (every-rule (in_box in_wrapper) (every-in_box in_wrapper every-in_wrapper) t3
      (every-rule (in_box parented) (every-in_box parented every-parented) t2
      (every-rule (in_box child_wrapped) (every-in_box child_wrapped every-child_wrapped) ts h))))
