-- What holds of each tree of a list holds of each that the rules of box generation make of them, where it holds of the boxes
-- that they put round some.
use Rattle.std.proofs.Common.{◌≡◌, Bool, true, false, ◌&&◌, refl, List, [], ◌∷◌, ◌++◌, filter, if◌then◌else◌, Option, None, Some}
use Rattle.std.specs.List.{list_any}
use Rattle.lay_boxgen.specs.Boxes.{Tree, tree, trees_of, facts_of}
use Rattle.lay_boxgen.specs.Runs.{gathered, gathered_from, run_over, is_some, is_white_box, anonymous_box}
use Rattle.lay_boxgen.specs.Forms.{is_row_group, is_table, is_row, is_column, is_column_group, is_inline, is_block_container, is_white}
use Rattle.lay_boxgen.specs.Irrelevant.{is_irrelevant, kept_gap, kept_from, without_white_space, is_column_box, column_group_children, relevant}
use Rattle.lay_boxgen.specs.MissingChildren.{is_no_proper_table_child, is_no_row, is_no_cell, cell_round, in_cells, in_rows_of_table, in_rows_of_group, row_round, child_wrapped}
use Rattle.lay_boxgen.specs.MissingParents.{is_cell_in_flow, is_misparented, row_of_cells, table_round, cells_in_rows, parented}
use Rattle.lay_boxgen.specs.TableWrappers.{is_caption_box, table_box, captions_and_table, in_wrapper}
use Rattle.lay_boxgen.specs.BrokenInlines.{is_block_box, is_no_text_box, is_unseen, part_over, parts_from, broken}
use Rattle.lay_boxgen.specs.InlineRuns.{is_no_block, is_seen_box, block_round, run_wrapped}
use Rattle.lay_boxgen.specs.declared.facts.Facts.{Facts}
use Rattle.lay_boxgen.specs.declared.facts.Form.{Form}
use Rattle.lay_boxgen.specs.declared.facts.Form.TheVariants.{Row, Cell, Wrapper, InlineWrapper, Block}

-- what the rules put round boxes, beside tables, is no table, no white space and no inline box
abbrev pub IsMade : Form → Type 0
IsMade form = (is_table form ≡ false) × (is_white form ≡ false) × (is_inline form ≡ false)

module _ (S : Tree → Type 0) where
  abbrev pub Each : List Tree → Type 0
  Each [] = Unit {0}
  Each (t ∷ ts) = S t × Each ts

  pub each-append : (xs ys : List Tree) → Each xs → Each ys → Each (xs ++ ys)
  each-append [] ys h g = g
  each-append (x ∷ xs) ys h g = (h.0, each-append xs ys h.1 g)

  each-if : (b : Bool) (xs ys : List Tree) → Each xs → Each ys → Each (if b then xs else ys)
  each-if true xs ys h g = h
  each-if false xs ys h g = g

  pub each-filter : (p : Tree → Bool) (xs : List Tree) → Each xs → Each (filter p xs)
  each-filter p [] h = tt
  each-filter p (x ∷ xs) h = each-if (p x) (x ∷ filter p xs) (filter p xs) (h.0, each-filter p xs h.1) (each-filter p xs h.1)

  module _ (fault : Facts → Bool) (close : List Tree → List Tree) (along : (run : List Tree) → Each run → Each (close run)) where
    each-run_over : (run gap : List Tree) → Each run → Each gap → Each (run_over close run gap)
    each-run_over [] gap h g = g
    each-run_over (t ∷ ts) gap h g = each-append (close (t ∷ ts)) gap (along (t ∷ ts) h) g

    each-gathered_from : (ts run gap : List Tree) → Each ts → Each run → Each gap → Each (gathered_from fault close run gap ts)
    each-gathered_from [] run gap h r g = each-run_over run gap r g
    each-gathered_from (t ∷ ts) run gap h r g =
        each-if (fault (facts_of t))
        (gathered_from fault close (run ++ gap ++ t ∷ []) [] ts)
        (if is_some run && is_white_box t then gathered_from fault close run (gap ++ t ∷ []) ts
        else run_over close run gap ++ t ∷ [] ++ gathered_from fault close [] [] ts)
        (each-gathered_from ts (run ++ gap ++ t ∷ []) [] h.1 (each-append (run ++ gap) (t ∷ []) (each-append run gap r g) (h.0, tt)) tt)
        (each-if (is_some run && is_white_box t)
        (gathered_from fault close run (gap ++ t ∷ []) ts)
        (run_over close run gap ++ t ∷ [] ++ gathered_from fault close [] [] ts)
        (each-gathered_from ts run (gap ++ t ∷ []) h.1 r (each-append gap (t ∷ []) g (h.0, tt)))
        (each-append (run_over close run gap ++ t ∷ []) (gathered_from fault close [] [] ts)
        (each-append (run_over close run gap) (t ∷ []) (each-run_over run gap r g) (h.0, tt))
        (each-gathered_from ts [] [] h.1 tt tt)))

    each-gathered : (ts : List Tree) → Each ts → Each (gathered fault close ts)
    each-gathered ts h = each-gathered_from ts [] [] h tt tt

  -- The first stage.
  each-kept_gap : (p : Form) (b a : Option Facts) (gap : List Tree) → Each gap → Each (kept_gap p b gap a)
  each-kept_gap p b a gap h = each-if (is_irrelevant p b a) [] gap tt h

  each-kept_from : (p : Form) (ts : List Tree) (b : Option Facts) (gap : List Tree) → Each ts → Each gap → Each (kept_from p b gap ts)
  each-kept_from p [] b gap h g = each-kept_gap p b None gap g
  each-kept_from p (t ∷ ts) b gap h g =
      each-if (is_white_box t)
      (kept_from p b (gap ++ t ∷ []) ts)
      (kept_gap p b gap (Some (facts_of t)) ++ t ∷ [] ++ kept_from p (Some (facts_of t)) [] ts)
      (each-kept_from p ts b (gap ++ t ∷ []) h.1 (each-append gap (t ∷ []) g (h.0, tt)))
      (each-append (kept_gap p b gap (Some (facts_of t)) ++ t ∷ []) (kept_from p (Some (facts_of t)) [] ts)
      (each-append (kept_gap p b gap (Some (facts_of t))) (t ∷ []) (each-kept_gap p b (Some (facts_of t)) gap g) (h.0, tt))
      (each-kept_from p ts (Some (facts_of t)) [] h.1 tt))

  pub each-relevant : (f : Facts) (ts : List Tree) → Each ts → Each (relevant f ts)
  each-relevant f ts h =
      each-if (is_column f.form) [] (if is_column_group f.form then column_group_children ts else without_white_space f.form ts)
      tt
      (each-if (is_column_group f.form) (column_group_children ts) (without_white_space f.form ts) (each-filter is_column_box ts h) (each-kept_from f.form ts None [] h tt))

  -- Boxes put round some, by the box with these facts.
  module _ (f : Facts) (made : (form : Form) → IsMade form → (run : List Tree) → Each run → S (anonymous_box f form run)) where
    each-box : (form : Form) → IsMade form → (run : List Tree) → Each run → Each (anonymous_box f form run ∷ [])
    each-box form is run h = (made form is run h, tt)

    -- The second stage.
    each-in_cells : (ts : List Tree) → Each ts → Each (in_cells f ts)
    each-in_cells ts h = each-gathered is_no_cell (cell_round f) (each-box (Cell 1 1) (refl, refl, refl)) ts h

    each-row_round : (run : List Tree) → Each run → Each (row_round f run)
    each-row_round run h = each-box Row (refl, refl, refl) (in_cells f run) (each-in_cells run h)

    pub each-child_wrapped : (ts : List Tree) → Each ts → Each (child_wrapped f ts)
    each-child_wrapped ts h =
        each-if (is_table f.form) (in_rows_of_table f ts) (if is_row_group f.form then in_rows_of_group f ts else (if is_row f.form then in_cells f ts else ts))
        (each-gathered is_no_proper_table_child (row_round f) each-row_round ts h)
        (each-if (is_row_group f.form) (in_rows_of_group f ts) (if is_row f.form then in_cells f ts else ts)
        (each-gathered is_no_row (row_round f) each-row_round ts h)
        (each-if (is_row f.form) (in_cells f ts) ts (each-in_cells ts h) h))

    -- The third stage.
    each-cells_in_rows : (ts : List Tree) → Each ts → Each (cells_in_rows f ts)
    each-cells_in_rows ts h =
        each-if (is_row f.form) ts (gathered is_cell_in_flow (row_of_cells f) ts) h (each-gathered is_cell_in_flow (row_of_cells f) (each-box Row (refl, refl, refl)) ts h)

    pub each-parented : ((run : List Tree) → Each run → S (anonymous_box f (if is_inline f.form then InlineWrapper else Wrapper) run)) → (ts : List Tree) → Each ts
        → Each (parented f ts)
    each-parented round ts h = each-gathered (is_misparented f.form) (table_round f) (λ run g. (round run g, tt)) (cells_in_rows f ts) (each-cells_in_rows ts h)

    -- Wrapping of inline runs.
    each-block_round : (run : List Tree) → Each run → Each (block_round f run)
    each-block_round run h =
        each-if (list_any is_seen_box run) (anonymous_box f Block run ∷ []) (filter is_no_text_box run) (each-box Block (refl, refl, refl) run h) (each-filter is_no_text_box run h)

    pub each-run_wrapped : (ts : List Tree) → Each ts → Each (run_wrapped f ts)
    each-run_wrapped ts h =
        each-if (is_block_container f.form && list_any is_block_box ts) (gathered is_no_block (block_round f) ts) ts
        (each-gathered is_no_block (block_round f) each-block_round ts h) h

  -- Wrappers.
  pub each-in_wrapper : (f : Facts) → ((run : List Tree) → Each run → S (table_box f run)) → (ts : List Tree) → Each ts → Each (in_wrapper f ts)
  each-in_wrapper f made ts h =
      each-if (is_table f.form) (captions_and_table f ts) ts
      (each-append (filter is_caption_box ts) (table_box f ts ∷ []) (each-filter is_caption_box ts h) (made ts h, tt))
      h

  -- Breaking.
  module _ (f : Facts) (part : (held : List Tree) → Each held → S (tree f (trees_of held))) where
    each-part_over : (after : Bool) (held : List Tree) → Each held → Each (part_over f after held)
    each-part_over true held h = each-filter is_no_text_box held h
    each-part_over false held h = (part held h, tt)

    each-parts_from : (ts : List Tree) (after : Bool) (held : List Tree) → Each ts → Each held → Each (parts_from f after held ts)
    each-parts_from [] after held h g = each-part_over false held g
    each-parts_from (t ∷ ts) after held h g =
        each-if (is_block_box t)
        (part_over f after held ++ t ∷ [] ++ parts_from f true [] ts)
        (parts_from f (after && is_unseen (facts_of t)) (held ++ t ∷ []) ts)
        (each-append (part_over f after held ++ t ∷ []) (parts_from f true [] ts)
        (each-append (part_over f after held) (t ∷ []) (each-part_over after held g) (h.0, tt))
        (each-parts_from ts true [] h.1 tt))
        (each-parts_from ts (after && is_unseen (facts_of t)) (held ++ t ∷ []) h.1 (each-append held (t ∷ []) g (h.0, tt)))

    pub each-broken : (ts : List Tree) → Each ts → Each (broken f ts)
    each-broken ts h =
        each-if (is_inline f.form && list_any is_block_box ts) (parts_from f false [] ts) (tree f (trees_of ts) ∷ [])
        (each-parts_from ts false [] h tt) (part ts h, tt)

pub each-map : (S T : Tree → Type 0) → ((t : Tree) → S t → T t) → (ts : List Tree) → Each S ts → Each T ts
each-map S T to [] h = tt
each-map S T to (t ∷ ts) h = (to t h.0, each-map S T to ts h.1)
