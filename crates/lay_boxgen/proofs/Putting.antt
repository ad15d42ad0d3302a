-- Each rule of box generation commutes with setting what is inside the boxes of inner contexts.
use Rattle.std.proofs.Common.{◌≡◌, Bool, true, false, ◌&&◌, not, List, [], ◌∷◌, ◌++◌, refl, ap, ◌∙◌, filter, if◌then◌else◌, Option, None, Some}
use Rattle.std.specs.List.{list_any}
use Rattle.lay_boxgen.specs.Boxes.{Tree, Trees, tree, also, trees_of, facts_of}
use Rattle.lay_boxgen.specs.Runs.{gathered, gathered_from, run_over, is_some, anonymous_box, anonymous_facts}
use Rattle.lay_boxgen.specs.Parts.{is_closed, put, all_put, put_list}
use Rattle.lay_boxgen.specs.Forms.{is_row_group, is_table, is_row, is_caption, is_column, is_column_group, is_inline, is_text, is_white, is_block_container, is_block}
use Rattle.lay_boxgen.specs.Irrelevant.{is_irrelevant, kept_gap, kept_from, without_white_space, column_group_children, relevant}
use Rattle.lay_boxgen.specs.MissingChildren.{is_no_proper_table_child, is_no_row, is_no_cell, cell_round, in_cells, row_round, child_wrapped}
use Rattle.lay_boxgen.specs.MissingParents.{is_cell_in_flow, is_misparented, row_of_cells, table_round, cells_in_rows, parented}
use Rattle.lay_boxgen.specs.TableWrappers.{is_caption_box, is_no_caption_box, table_facts, table_box, captions_and_table, in_wrapper}
use Rattle.lay_boxgen.specs.BrokenInlines.{is_block_box, is_no_text_box, is_unseen, part_over, parts_from, broken}
use Rattle.lay_boxgen.specs.InlineRuns.{is_no_block, is_seen_box, block_round, run_wrapped}
use Rattle.lay_boxgen.specs.declared.facts.Facts.{Facts}
use Rattle.lay_boxgen.specs.declared.facts.Form.{Form}
use Rattle.lay_boxgen.specs.declared.facts.Form.TheVariants.{Row, Cell, Wrapper, InlineWrapper, Block}

module _ (g : Facts → Trees) where
  pub put-append : (xs ys : List Tree) → put_list g (xs ++ ys) ≡ put_list g xs ++ put_list g ys
  put-append [] ys = refl
  put-append (x ∷ xs) ys = ap (λ r. put g x ∷ r) (put-append xs ys)

  pub put-trees_of : (xs : List Tree) → all_put g (trees_of xs) ≡ trees_of (put_list g xs)
  put-trees_of [] = refl
  put-trees_of (x ∷ xs) = ap (also (put g x)) (put-trees_of xs)

  pub put-if : (b : Bool) (xs ys : List Tree) → put_list g (if b then xs else ys) ≡ if b then put_list g xs else put_list g ys
  put-if true xs ys = refl
  put-if false xs ys = refl

  pub is_some-put : (xs : List Tree) → is_some (put_list g xs) ≡ is_some xs
  is_some-put [] = refl
  is_some-put (x ∷ xs) = refl

  module _ (fault : Facts → Bool) (close : List Tree → List Tree)
      (along : (run : List Tree) → put_list g (close run) ≡ close (put_list g run)) where
    pub put-run_over : (run gap : List Tree) → put_list g (run_over close run gap) ≡ run_over close (put_list g run) (put_list g gap)
    put-run_over [] gap = refl
    put-run_over (x ∷ xs) gap = put-append (close (x ∷ xs)) gap ∙ ap (λ r. r ++ put_list g gap) (along (x ∷ xs))

    -- one step, where it holds of the rest
    put-gathered_step : (f : Facts) (us : Trees) (ts : List Tree) (run gap : List Tree)
        → ((r s : List Tree) → put_list g (gathered_from fault close r s ts) ≡ gathered_from fault close (put_list g r) (put_list g s) (put_list g ts))
        → (b : Bool) (s : Bool) → is_some (put_list g run) ≡ s → (w : Bool) →
        put_list g (if b then gathered_from fault close (run ++ gap ++ tree f us ∷ []) [] ts
        else (if s && w then gathered_from fault close run (gap ++ tree f us ∷ []) ts
        else run_over close run gap ++ tree f us ∷ [] ++ gathered_from fault close [] [] ts))
        ≡ (if b then gathered_from fault close (put_list g run ++ put_list g gap ++ put g (tree f us) ∷ []) [] (put_list g ts)
        else (if is_some (put_list g run) && w then gathered_from fault close (put_list g run) (put_list g gap ++ put g (tree f us) ∷ []) (put_list g ts)
        else run_over close (put_list g run) (put_list g gap) ++ put g (tree f us) ∷ [] ++ gathered_from fault close [] [] (put_list g ts)))
    put-gathered_step f us ts run gap ih true s e w = simp (ih, put-append) refl
    put-gathered_step f us ts run gap ih false true e true = simp (e, ih, put-append) refl
    put-gathered_step f us ts run gap ih false true e false = simp (e, ih, put-append, put-run_over) refl
    put-gathered_step f us ts run gap ih false false e w = simp (e, ih, put-append, put-run_over) refl

    pub put-gathered_from : (ts run gap : List Tree) → put_list g (gathered_from fault close run gap ts) ≡ gathered_from fault close (put_list g run) (put_list g gap) (put_list g ts)
    put-gathered_from [] run gap = put-run_over run gap
    put-gathered_from (tree f us ∷ ts) run gap = put-gathered_step f us ts run gap (put-gathered_from ts) (fault f) (is_some run) (is_some-put run) (is_white f.form)

    pub put-gathered : (ts : List Tree) → put_list g (gathered fault close ts) ≡ gathered fault close (put_list g ts)
    put-gathered ts = put-gathered_from ts [] []

  put-filter_by : (p : Facts → Bool) (f : Facts) (us : Trees) (ts : List Tree) → put_list g (filter (λ t. p (facts_of t)) ts) ≡ filter (λ t. p (facts_of t)) (put_list g ts) → (b : Bool)
      → put_list g (if b then tree f us ∷ filter (λ t. p (facts_of t)) ts else filter (λ t. p (facts_of t)) ts)
      ≡ (if b then put g (tree f us) ∷ filter (λ t. p (facts_of t)) (put_list g ts) else filter (λ t. p (facts_of t)) (put_list g ts))
  put-filter_by p f us ts ih true = ap (λ r. put g (tree f us) ∷ r) ih
  put-filter_by p f us ts ih false = ih

  put-filter : (p : Facts → Bool) (ts : List Tree) → put_list g (filter (λ t. p (facts_of t)) ts) ≡ filter (λ t. p (facts_of t)) (put_list g ts)
  put-filter p [] = refl
  put-filter p (tree f us ∷ ts) = put-filter_by p f us ts (put-filter p ts) (p f)

  any-put : (p : Facts → Bool) (ts : List Tree) → list_any (λ t. p (facts_of t)) (put_list g ts) ≡ list_any (λ t. p (facts_of t)) ts
  any-put p [] = refl
  any-put p (tree f us ∷ ts) = simp (any-put p ts) refl

  put-box : (f : Facts) (k : Form) (run : List Tree) → put_list g (anonymous_box f k run ∷ []) ≡ anonymous_box f k (put_list g run) ∷ []
  put-box f k run = ap (λ us. tree (anonymous_facts f k) us ∷ []) (put-trees_of run)

  pub put-open : (f : Facts) (run : List Tree) → is_closed f ≡ false → put g (tree f (trees_of run)) ≡ tree f (trees_of (put_list g run))
  put-open f run h = simp (h, put-trees_of run) refl

  -- The first stage.
  put-kept_gap : (p : Form) (b a : Option Facts) (gap : List Tree) → put_list g (kept_gap p b gap a) ≡ kept_gap p b (put_list g gap) a
  put-kept_gap p b a gap = put-if (is_irrelevant p b a) [] gap

  put-kept_step : (p : Form) (b : Option Facts) (f : Facts) (us : Trees) (ts gap : List Tree)
      → ((c : Option Facts) (s : List Tree) → put_list g (kept_from p c s ts) ≡ kept_from p c (put_list g s) (put_list g ts))
      → (w : Bool)
      → put_list g (if w then kept_from p b (gap ++ tree f us ∷ []) ts else kept_gap p b gap (Some f) ++ tree f us ∷ [] ++ kept_from p (Some f) [] ts)
      ≡ (if w then kept_from p b (put_list g gap ++ put g (tree f us) ∷ []) (put_list g ts) else kept_gap p b (put_list g gap) (Some f) ++ put g (tree f us) ∷ [] ++ kept_from p (Some f) [] (put_list g ts))
  put-kept_step p b f us ts gap ih true = simp (ih, put-append) refl
  put-kept_step p b f us ts gap ih false =
      put-append (kept_gap p b gap (Some f) ++ tree f us ∷ []) (kept_from p (Some f) [] ts)
      ∙ (ap (λ r. r ++ put_list g (kept_from p (Some f) [] ts)) (put-append (kept_gap p b gap (Some f)) (tree f us ∷ [])
      ∙ ap (λ r. r ++ put g (tree f us) ∷ []) (put-kept_gap p b (Some f) gap))
      ∙ ap (λ r. kept_gap p b (put_list g gap) (Some f) ++ put g (tree f us) ∷ [] ++ r) (ih (Some f) []))

  put-kept_from : (p : Form) (ts : List Tree) (b : Option Facts) (gap : List Tree) → put_list g (kept_from p b gap ts) ≡ kept_from p b (put_list g gap) (put_list g ts)
  put-kept_from p [] b gap = put-kept_gap p b None gap
  put-kept_from p (tree f us ∷ ts) b gap = put-kept_step p b f us ts gap (put-kept_from p ts) (is_white f.form)

  relevant_along : (f : Facts) (b c : Bool) (children : List Tree)
      → put_list g (if b then [] else (if c then column_group_children children else without_white_space f.form children))
      ≡ (if b then [] else (if c then column_group_children (put_list g children) else without_white_space f.form (put_list g children)))
  relevant_along f true c children = refl
  relevant_along f false true children = put-filter (λ s. is_column s.form) children
  relevant_along f false false children = put-kept_from f.form children None []

  pub put-relevant : (f : Facts) (children : List Tree) → put_list g (relevant f children) ≡ relevant f (put_list g children)
  put-relevant f children = relevant_along f (is_column f.form) (is_column_group f.form) children

  -- The second stage.
  put-in_cells : (f : Facts) (children : List Tree) → put_list g (in_cells f children) ≡ in_cells f (put_list g children)
  put-in_cells f children = put-gathered is_no_cell (cell_round f) (put-box f (Cell 1 1)) children

  put-row_round : (f : Facts) (run : List Tree) → put_list g (row_round f run) ≡ row_round f (put_list g run)
  put-row_round f run = put-box f Row (in_cells f run) ∙ ap (λ r. anonymous_box f Row r ∷ []) (put-in_cells f run)

  wrapped_along : (f : Facts) (a b c : Bool) (children : List Tree)
      → put_list g (if a then gathered is_no_proper_table_child (row_round f) children else (if b then gathered is_no_row (row_round f) children else (if c then in_cells f children else children)))
      ≡ (if a then gathered is_no_proper_table_child (row_round f) (put_list g children) else (if b then gathered is_no_row (row_round f) (put_list g children) else (if c then in_cells f (put_list g children) else put_list g children)))
  wrapped_along f true b c children = put-gathered is_no_proper_table_child (row_round f) (put-row_round f) children
  wrapped_along f false true c children = put-gathered is_no_row (row_round f) (put-row_round f) children
  wrapped_along f false false true children = put-in_cells f children
  wrapped_along f false false false children = refl

  pub put-child_wrapped : (f : Facts) (children : List Tree) → put_list g (child_wrapped f children) ≡ child_wrapped f (put_list g children)
  put-child_wrapped f children = wrapped_along f (is_table f.form) (is_row_group f.form) (is_row f.form) children

  -- The third stage.
  rows_along : (f : Facts) (b : Bool) (children : List Tree)
      → put_list g (if b then children else gathered is_cell_in_flow (row_of_cells f) children) ≡ (if b then put_list g children else gathered is_cell_in_flow (row_of_cells f) (put_list g children))
  rows_along f true children = refl
  rows_along f false children = put-gathered is_cell_in_flow (row_of_cells f) (put-box f Row) children

  pub put-parented : (f : Facts) (children : List Tree) → put_list g (parented f children) ≡ parented f (put_list g children)
  put-parented f children = put-gathered (is_misparented f.form) (table_round f) (put-box f (if is_inline f.form then InlineWrapper else Wrapper)) (cells_in_rows f children)
      ∙ ap (λ r. gathered (is_misparented f.form) (table_round f) r) (rows_along f (is_row f.form) children)

  -- Wrappers.
  put-table_box : (f : Facts) (children : List Tree) → put g (table_box f children) ≡ table_box f (put_list g children)
  put-table_box f children = ap (tree (table_facts f))
      (put-trees_of (filter is_no_caption_box children) ∙ ap trees_of (put-filter (λ s. not (is_caption s.form)) children))

  put-captions_and_table : (f : Facts) (children : List Tree) → put_list g (captions_and_table f children) ≡ captions_and_table f (put_list g children)
  put-captions_and_table f children = put-append (filter is_caption_box children) (table_box f children ∷ [])
      ∙ (ap (λ r. r ++ put g (table_box f children) ∷ []) (put-filter (λ s. is_caption s.form) children)
      ∙ ap (λ t. filter is_caption_box (put_list g children) ++ t ∷ []) (put-table_box f children))

  wrapper_along : (f : Facts) (b : Bool) (children : List Tree)
      → put_list g (if b then captions_and_table f children else children) ≡ (if b then captions_and_table f (put_list g children) else put_list g children)
  wrapper_along f false children = refl
  wrapper_along f true children = put-captions_and_table f children

  pub put-in_wrapper : (f : Facts) (children : List Tree) → put_list g (in_wrapper f children) ≡ in_wrapper f (put_list g children)
  put-in_wrapper f children = wrapper_along f (is_table f.form) children

  -- Breaking.
  put-texts : (ts : List Tree) → put_list g (filter is_no_text_box ts) ≡ filter is_no_text_box (put_list g ts)
  put-texts ts = put-filter (λ f. not (is_text f.form)) ts

  module _ (f : Facts) (h : is_closed f ≡ false) where
    put-part_over : (after : Bool) (held : List Tree) → put_list g (part_over f after held) ≡ part_over f after (put_list g held)
    put-part_over true held = put-texts held
    put-part_over false held = ap (λ t. t ∷ []) (put-open f held h)

    put-parts_step : (s : Facts) (us : Trees) (ts : List Tree) (after : Bool) (held : List Tree)
        → ((a : Bool) (l : List Tree) → put_list g (parts_from f a l ts) ≡ parts_from f a (put_list g l) (put_list g ts))
        → (b : Bool)
        → put_list g (if b then part_over f after held ++ tree s us ∷ [] ++ parts_from f true [] ts else parts_from f (after && is_unseen s) (held ++ tree s us ∷ []) ts)
        ≡ (if b then part_over f after (put_list g held) ++ put g (tree s us) ∷ [] ++ parts_from f true [] (put_list g ts) else parts_from f (after && is_unseen s) (put_list g held ++ put g (tree s us) ∷ []) (put_list g ts))
    put-parts_step s us ts after held ih true = simp (ih, put-append, put-part_over) refl
    put-parts_step s us ts after held ih false = simp (ih, put-append) refl

    put-parts_from : (ts : List Tree) (after : Bool) (held : List Tree) → put_list g (parts_from f after held ts) ≡ parts_from f after (put_list g held) (put_list g ts)
    put-parts_from [] after held = put-part_over false held
    put-parts_from (tree s us ∷ ts) after held = put-parts_step s us ts after held (put-parts_from ts) (is_block s)

  broken_by : (f : Facts) (children : List Tree) → is_closed f ≡ false → (b c : Bool) → list_any is_block_box (put_list g children) ≡ c
      → put_list g (if b && c then parts_from f false [] children else (tree f (trees_of children) ∷ []))
      ≡ (if b && list_any is_block_box (put_list g children) then parts_from f false [] (put_list g children) else (tree f (trees_of (put_list g children)) ∷ []))
  broken_by f children h true true e = simp e (put-parts_from f h children false [])
  broken_by f children h true false e = simp e (ap (λ t. t ∷ []) (put-open f children h))
  broken_by f children h false c e = ap (λ t. t ∷ []) (put-open f children h)

  pub broken_open : (f : Facts) (children : List Tree) → is_closed f ≡ false → put_list g (broken f children) ≡ broken f (put_list g children)
  broken_open f children h = broken_by f children h (is_inline f.form) (list_any is_block_box children) (any-put is_block children)

  -- Wrapping of inline runs.
  round_by : (f : Facts) (run : List Tree) (c : Bool) → list_any is_seen_box (put_list g run) ≡ c
      → put_list g (if c then (anonymous_box f Block run ∷ []) else filter is_no_text_box run) ≡ (if list_any is_seen_box (put_list g run) then (anonymous_box f Block (put_list g run) ∷ []) else filter is_no_text_box (put_list g run))
  round_by f run true e = simp e (put-box f Block run)
  round_by f run false e = simp e (put-texts run)

  put-block_round : (f : Facts) (run : List Tree) → put_list g (block_round f run) ≡ block_round f (put_list g run)
  put-block_round f run = round_by f run (list_any is_seen_box run) (any-put (λ s. not (is_unseen s)) run)

  run_by : (f : Facts) (children : List Tree) (b c : Bool) → list_any is_block_box (put_list g children) ≡ c
      → put_list g (if b && c then gathered is_no_block (block_round f) children else children)
      ≡ (if b && list_any is_block_box (put_list g children) then gathered is_no_block (block_round f) (put_list g children) else put_list g children)
  run_by f children true true e = simp e (put-gathered is_no_block (block_round f) (put-block_round f) children)
  run_by f children true false e = simp e refl
  run_by f children false c e = refl

  pub put-run_wrapped : (f : Facts) (children : List Tree) → put_list g (run_wrapped f children) ≡ run_wrapped f (put_list g children)
  put-run_wrapped f children = run_by f children (is_block_container f.form) (list_any is_block_box children) (any-put is_block children)
