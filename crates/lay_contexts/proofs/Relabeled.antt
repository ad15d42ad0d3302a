-- Box generation doesn't look at where nodes stand: the same boxes come of nodes at other places.
use Rattle.std.proofs.Common.{◌≡◌, ℕ, Bool, true, false, ◌&&◌, not, List, [], ◌∷◌, ◌++◌, refl, ap, ◌∙◌, sym, filter, if◌then◌else◌, Option, None, Some, option_map}
use Rattle.std.specs.List.{list_any}
use Rattle.lay_boxgen.specs.Boxes.{Tree, Trees, tree, no_trees, also, trees_of, facts_of, remade, all_remade, in_box}
use Rattle.lay_boxgen.specs.Runs.{gathered, gathered_from, run_over, is_some, anonymous_box, anonymous_facts}
use Rattle.lay_boxgen.specs.Forms.{is_row_group, is_table, is_row, is_caption, is_column, is_column_group, is_inline, is_text, is_white, is_block_container, is_block}
use Rattle.lay_boxgen.specs.Generation.{generated}
use Rattle.lay_boxgen.specs.Irrelevant.{is_irrelevant, kept_gap, kept_from, without_white_space, column_group_children, relevant}
use Rattle.lay_boxgen.specs.MissingChildren.{is_no_proper_table_child, is_no_row, is_no_cell, cell_round, in_cells, in_rows_of_table, in_rows_of_group, row_round, child_wrapped}
use Rattle.lay_boxgen.specs.MissingParents.{is_cell_in_flow, is_misparented, row_of_cells, table_round, cells_in_rows, parented}
use Rattle.lay_boxgen.specs.TableWrappers.{is_caption_box, is_no_caption_box, table_facts, table_box, captions_and_table, in_wrapper}
use Rattle.lay_boxgen.specs.BrokenInlines.{is_block_box, is_no_text_box, is_unseen, part_over, parts_from, broken}
use Rattle.lay_boxgen.specs.InlineRuns.{is_no_block, is_seen_box, block_round, run_wrapped}
use Rattle.lay_boxgen.specs.declared.facts.Facts.{Facts}
use Rattle.lay_boxgen.specs.declared.facts.Form.{Form}
use Rattle.lay_boxgen.specs.declared.facts.Form.TheVariants.{Row, Cell, Wrapper, InlineWrapper, Block}

module _ (to : ℕ → ℕ) where
  -- the facts of the same box of a node that stands elsewhere
  abbrev pub put_at : Facts → Facts
  put_at f = record f { place = to f.place }

  abbrev mutual
    pub relabel : Tree → Tree
    relabel (tree f us) = tree (put_at f) (relabel_all us)

    pub relabel_all : Trees → Trees
    relabel_all no_trees = no_trees
    relabel_all (also t ts) = also (relabel t) (relabel_all ts)

  abbrev pub relabel_list : List Tree → List Tree
  relabel_list [] = []
  relabel_list (t ∷ ts) = relabel t ∷ relabel_list ts

  pub append : (xs ys : List Tree) → relabel_list (xs ++ ys) ≡ relabel_list xs ++ relabel_list ys
  append [] ys = refl
  append (x ∷ xs) ys = ap (λ r. relabel x ∷ r) (append xs ys)

  pub trees : (xs : List Tree) → relabel_all (trees_of xs) ≡ trees_of (relabel_list xs)
  trees [] = refl
  trees (x ∷ xs) = ap (also (relabel x)) (trees xs)

  some : (xs : List Tree) → is_some (relabel_list xs) ≡ is_some xs
  some [] = refl
  some (x ∷ xs) = refl

  module _ (fault : Facts → Bool) (same : (f : Facts) → fault (put_at f) ≡ fault f) (close other : List Tree → List Tree)
      (along : (run : List Tree) → relabel_list (close run) ≡ other (relabel_list run)) where
    over : (run gap : List Tree) → relabel_list (run_over close run gap) ≡ run_over other (relabel_list run) (relabel_list gap)
    over [] gap = refl
    over (x ∷ xs) gap = append (close (x ∷ xs)) gap ∙ ap (λ r. r ++ relabel_list gap) (along (x ∷ xs))

    gathered_step : (f : Facts) (us : Trees) (ts : List Tree) (run gap : List Tree)
        → ((r s : List Tree) → relabel_list (gathered_from fault close r s ts) ≡ gathered_from fault other (relabel_list r) (relabel_list s) (relabel_list ts))
        → (b : Bool) (s : Bool) → is_some (relabel_list run) ≡ s → (w : Bool) →
        relabel_list (if b then gathered_from fault close (run ++ gap ++ tree f us ∷ []) [] ts
        else (if s && w then gathered_from fault close run (gap ++ tree f us ∷ []) ts
        else run_over close run gap ++ tree f us ∷ [] ++ gathered_from fault close [] [] ts))
        ≡ (if b then gathered_from fault other (relabel_list run ++ relabel_list gap ++ relabel (tree f us) ∷ []) [] (relabel_list ts)
        else (if is_some (relabel_list run) && w then gathered_from fault other (relabel_list run) (relabel_list gap ++ relabel (tree f us) ∷ []) (relabel_list ts)
        else run_over other (relabel_list run) (relabel_list gap) ++ relabel (tree f us) ∷ [] ++ gathered_from fault other [] [] (relabel_list ts)))
    gathered_step f us ts run gap ih true s e w = simp (ih, append) refl
    gathered_step f us ts run gap ih false true e true = simp (e, ih, append) refl
    gathered_step f us ts run gap ih false true e false = simp (e, ih, append, over) refl
    gathered_step f us ts run gap ih false false e w = simp (e, ih, append, over) refl

    gathered_from_along : (ts run gap : List Tree) → relabel_list (gathered_from fault close run gap ts) ≡ gathered_from fault other (relabel_list run) (relabel_list gap) (relabel_list ts)
    gathered_from_along [] run gap = over run gap
    gathered_from_along (tree f us ∷ ts) run gap =
        rw (same f) (rw (← some run) (gathered_step f us ts run gap (gathered_from_along ts) (fault f) (is_some (relabel_list run)) refl (is_white f.form)))

    gathered_along : (ts : List Tree) → relabel_list (gathered fault close ts) ≡ gathered fault other (relabel_list ts)
    gathered_along ts = gathered_from_along ts [] []

  filter_by : (p : Facts → Bool) (f : Facts) (us : Trees) (ts : List Tree) → relabel_list (filter (λ t. p (facts_of t)) ts) ≡ filter (λ t. p (facts_of t)) (relabel_list ts) → (b : Bool)
      → relabel_list (if b then tree f us ∷ filter (λ t. p (facts_of t)) ts else filter (λ t. p (facts_of t)) ts)
      ≡ (if b then relabel (tree f us) ∷ filter (λ t. p (facts_of t)) (relabel_list ts) else filter (λ t. p (facts_of t)) (relabel_list ts))
  filter_by p f us ts ih true = ap (λ r. relabel (tree f us) ∷ r) ih
  filter_by p f us ts ih false = ih

  filtered : (p : Facts → Bool) → ((f : Facts) → p (put_at f) ≡ p f) → (ts : List Tree) → relabel_list (filter (λ t. p (facts_of t)) ts) ≡ filter (λ t. p (facts_of t)) (relabel_list ts)
  filtered p same [] = refl
  filtered p same (tree f us ∷ ts) = rw (same f) (filter_by p f us ts (filtered p same ts) (p f))

  any : (p : Facts → Bool) → ((f : Facts) → p (put_at f) ≡ p f) → (ts : List Tree) → list_any (λ t. p (facts_of t)) (relabel_list ts) ≡ list_any (λ t. p (facts_of t)) ts
  any p same [] = refl
  any p same (tree f us ∷ ts) = simp (same f, any p same ts) refl

  box : (f : Facts) (k : Form) (run : List Tree) → relabel_list (anonymous_box f k run ∷ []) ≡ anonymous_box (put_at f) k (relabel_list run) ∷ []
  box f k run = ap (λ us. tree (anonymous_facts (put_at f) k) us ∷ []) (trees run)

  pub with : (f : Facts) (run : List Tree) → relabel (tree f (trees_of run)) ≡ tree (put_at f) (trees_of (relabel_list run))
  with f run = ap (tree (put_at f)) (trees run)

  -- The first stage.
  irrelevant_same : (p : Form) (b a : Option Facts) → is_irrelevant p (option_map put_at b) (option_map put_at a) ≡ is_irrelevant p b a
  irrelevant_same p None None = refl
  irrelevant_same p None (Some a) = refl
  irrelevant_same p (Some b) None = refl
  irrelevant_same p (Some b) (Some a) = refl

  if-along : (c : Bool) (gap : List Tree) → relabel_list (if c then [] else gap) ≡ (if c then [] else relabel_list gap)
  if-along true gap = refl
  if-along false gap = refl

  gap_along : (p : Form) (b a : Option Facts) (gap : List Tree) → relabel_list (kept_gap p b gap a) ≡ kept_gap p (option_map put_at b) (relabel_list gap) (option_map put_at a)
  gap_along p b a gap = if-along (is_irrelevant p b a) gap ∙ ap (λ c. if c then [] else relabel_list gap) (sym (irrelevant_same p b a))

  kept_step : (p : Form) (b : Option Facts) (f : Facts) (us : Trees) (ts gap : List Tree)
      → ((c : Option Facts) (s : List Tree) → relabel_list (kept_from p c s ts) ≡ kept_from p (option_map put_at c) (relabel_list s) (relabel_list ts))
      → (w : Bool)
      → relabel_list (if w then kept_from p b (gap ++ tree f us ∷ []) ts else kept_gap p b gap (Some f) ++ tree f us ∷ [] ++ kept_from p (Some f) [] ts)
      ≡ (if w then kept_from p (option_map put_at b) (relabel_list gap ++ relabel (tree f us) ∷ []) (relabel_list ts)
      else kept_gap p (option_map put_at b) (relabel_list gap) (Some (put_at f)) ++ relabel (tree f us) ∷ [] ++ kept_from p (Some (put_at f)) [] (relabel_list ts))
  kept_step p b f us ts gap ih true = simp (ih, append) refl
  kept_step p b f us ts gap ih false =
      append (kept_gap p b gap (Some f) ++ tree f us ∷ []) (kept_from p (Some f) [] ts)
      ∙ (ap (λ r. r ++ relabel_list (kept_from p (Some f) [] ts)) (append (kept_gap p b gap (Some f)) (tree f us ∷ [])
      ∙ ap (λ r. r ++ relabel (tree f us) ∷ []) (gap_along p b (Some f) gap))
      ∙ ap (λ r. kept_gap p (option_map put_at b) (relabel_list gap) (Some (put_at f)) ++ relabel (tree f us) ∷ [] ++ r) (ih (Some f) []))

  kept_along : (p : Form) (ts : List Tree) (b : Option Facts) (gap : List Tree) → relabel_list (kept_from p b gap ts) ≡ kept_from p (option_map put_at b) (relabel_list gap) (relabel_list ts)
  kept_along p [] b gap = gap_along p b None gap
  kept_along p (tree f us ∷ ts) b gap = kept_step p b f us ts gap (kept_along p ts) (is_white f.form)

  relevant_by : (f : Facts) (b c : Bool) (children : List Tree)
      → relabel_list (if b then [] else (if c then column_group_children children else without_white_space f.form children))
      ≡ (if b then [] else (if c then column_group_children (relabel_list children) else without_white_space f.form (relabel_list children)))
  relevant_by f true c children = refl
  relevant_by f false true children = filtered (λ s. is_column s.form) (λ s. refl) children
  relevant_by f false false children = kept_along f.form children None []

  relevant_along : (f : Facts) (children : List Tree) → relabel_list (relevant f children) ≡ relevant (put_at f) (relabel_list children)
  relevant_along f children = relevant_by f (is_column f.form) (is_column_group f.form) children

  -- The second stage.
  in_cells_along : (f : Facts) (children : List Tree) → relabel_list (in_cells f children) ≡ in_cells (put_at f) (relabel_list children)
  in_cells_along f children = gathered_along is_no_cell (λ s. refl) (cell_round f) (cell_round (put_at f)) (box f (Cell 1 1)) children

  row_round_along : (f : Facts) (run : List Tree) → relabel_list (row_round f run) ≡ row_round (put_at f) (relabel_list run)
  row_round_along f run = box f Row (in_cells f run) ∙ ap (λ r. anonymous_box (put_at f) Row r ∷ []) (in_cells_along f run)

  wrapped_by : (f : Facts) (a b c : Bool) (children : List Tree)
      → relabel_list (if a then in_rows_of_table f children else (if b then in_rows_of_group f children else (if c then in_cells f children else children)))
      ≡ (if a then in_rows_of_table (put_at f) (relabel_list children) else (if b then in_rows_of_group (put_at f) (relabel_list children) else (if c then in_cells (put_at f) (relabel_list children) else relabel_list children)))
  wrapped_by f true b c children = gathered_along is_no_proper_table_child (λ s. refl) (row_round f) (row_round (put_at f)) (row_round_along f) children
  wrapped_by f false true c children = gathered_along is_no_row (λ s. refl) (row_round f) (row_round (put_at f)) (row_round_along f) children
  wrapped_by f false false true children = in_cells_along f children
  wrapped_by f false false false children = refl

  child_wrapped_along : (f : Facts) (children : List Tree) → relabel_list (child_wrapped f children) ≡ child_wrapped (put_at f) (relabel_list children)
  child_wrapped_along f children = wrapped_by f (is_table f.form) (is_row_group f.form) (is_row f.form) children

  -- The third stage.
  rows_by : (f : Facts) (b : Bool) (children : List Tree)
      → relabel_list (if b then children else gathered is_cell_in_flow (row_of_cells f) children) ≡ (if b then relabel_list children else gathered is_cell_in_flow (row_of_cells (put_at f)) (relabel_list children))
  rows_by f true children = refl
  rows_by f false children = gathered_along is_cell_in_flow (λ s. refl) (row_of_cells f) (row_of_cells (put_at f)) (box f Row) children

  parented_along : (f : Facts) (children : List Tree) → relabel_list (parented f children) ≡ parented (put_at f) (relabel_list children)
  parented_along f children =
      gathered_along (is_misparented f.form) (λ s. refl) (table_round f) (table_round (put_at f)) (box f (if is_inline f.form then InlineWrapper else Wrapper)) (cells_in_rows f children)
      ∙ ap (λ r. gathered (is_misparented f.form) (table_round (put_at f)) r) (rows_by f (is_row f.form) children)

  -- Wrappers.
  table_box_along : (f : Facts) (children : List Tree) → relabel (table_box f children) ≡ table_box (put_at f) (relabel_list children)
  table_box_along f children = ap (tree (table_facts (put_at f)))
      (trees (filter is_no_caption_box children) ∙ ap trees_of (filtered (λ s. not (is_caption s.form)) (λ s. refl) children))

  captions_along : (f : Facts) (children : List Tree) → relabel_list (captions_and_table f children) ≡ captions_and_table (put_at f) (relabel_list children)
  captions_along f children = append (filter is_caption_box children) (table_box f children ∷ [])
      ∙ (ap (λ r. r ++ relabel (table_box f children) ∷ []) (filtered (λ s. is_caption s.form) (λ s. refl) children)
      ∙ ap (λ t. filter is_caption_box (relabel_list children) ++ t ∷ []) (table_box_along f children))

  wrapper_by : (f : Facts) (b : Bool) (children : List Tree)
      → relabel_list (if b then captions_and_table f children else children) ≡ (if b then captions_and_table (put_at f) (relabel_list children) else relabel_list children)
  wrapper_by f false children = refl
  wrapper_by f true children = captions_along f children

  in_wrapper_along : (f : Facts) (children : List Tree) → relabel_list (in_wrapper f children) ≡ in_wrapper (put_at f) (relabel_list children)
  in_wrapper_along f children = wrapper_by f (is_table f.form) children

  -- Breaking.
  texts_along : (ts : List Tree) → relabel_list (filter is_no_text_box ts) ≡ filter is_no_text_box (relabel_list ts)
  texts_along ts = filtered (λ f. not (is_text f.form)) (λ s. refl) ts

  module _ (f : Facts) where
    part_over_along : (after : Bool) (held : List Tree) → relabel_list (part_over f after held) ≡ part_over (put_at f) after (relabel_list held)
    part_over_along true held = texts_along held
    part_over_along false held = ap (λ t. t ∷ []) (with f held)

    parts_step : (s : Facts) (us : Trees) (ts : List Tree) (after : Bool) (held : List Tree)
        → ((a : Bool) (l : List Tree) → relabel_list (parts_from f a l ts) ≡ parts_from (put_at f) a (relabel_list l) (relabel_list ts))
        → (b : Bool)
        → relabel_list (if b then part_over f after held ++ tree s us ∷ [] ++ parts_from f true [] ts else parts_from f (after && is_unseen s) (held ++ tree s us ∷ []) ts)
        ≡ (if b then part_over (put_at f) after (relabel_list held) ++ relabel (tree s us) ∷ [] ++ parts_from (put_at f) true [] (relabel_list ts) else parts_from (put_at f) (after && is_unseen s) (relabel_list held ++ relabel (tree s us) ∷ []) (relabel_list ts))
    parts_step s us ts after held ih true = simp (ih, append, part_over_along) refl
    parts_step s us ts after held ih false = simp (ih, append) refl

    parts_along : (ts : List Tree) (after : Bool) (held : List Tree) → relabel_list (parts_from f after held ts) ≡ parts_from (put_at f) after (relabel_list held) (relabel_list ts)
    parts_along [] after held = part_over_along false held
    parts_along (tree s us ∷ ts) after held = parts_step s us ts after held (parts_along ts) (is_block s)

  broken_by : (f : Facts) (children : List Tree) (b c : Bool) → list_any is_block_box (relabel_list children) ≡ c
      → relabel_list (if b && c then parts_from f false [] children else (tree f (trees_of children) ∷ []))
      ≡ (if b && list_any is_block_box (relabel_list children) then parts_from (put_at f) false [] (relabel_list children) else (tree (put_at f) (trees_of (relabel_list children)) ∷ []))
  broken_by f children true true e = simp e (parts_along f children false [])
  broken_by f children true false e = simp e (ap (λ t. t ∷ []) (with f children))
  broken_by f children false c e = ap (λ t. t ∷ []) (with f children)

  broken_along : (f : Facts) (children : List Tree) → relabel_list (broken f children) ≡ broken (put_at f) (relabel_list children)
  broken_along f children = broken_by f children (is_inline f.form) (list_any is_block_box children) (any is_block (λ s. refl) children)

  -- Wrapping of inline runs.
  round_by : (f : Facts) (run : List Tree) (c : Bool) → list_any is_seen_box (relabel_list run) ≡ c
      → relabel_list (if c then (anonymous_box f Block run ∷ []) else filter is_no_text_box run)
      ≡ (if list_any is_seen_box (relabel_list run) then (anonymous_box (put_at f) Block (relabel_list run) ∷ []) else filter is_no_text_box (relabel_list run))
  round_by f run true e = simp e (box f Block run)
  round_by f run false e = simp e (texts_along run)

  block_round_along : (f : Facts) (run : List Tree) → relabel_list (block_round f run) ≡ block_round (put_at f) (relabel_list run)
  block_round_along f run = round_by f run (list_any is_seen_box run) (any (λ s. not (is_unseen s)) (λ s. refl) run)

  run_by : (f : Facts) (children : List Tree) (b c : Bool) → list_any is_block_box (relabel_list children) ≡ c
      → relabel_list (if b && c then gathered is_no_block (block_round f) children else children)
      ≡ (if b && list_any is_block_box (relabel_list children) then gathered is_no_block (block_round (put_at f)) (relabel_list children) else relabel_list children)
  run_by f children true true e = simp e (gathered_along is_no_block (λ s. refl) (block_round f) (block_round (put_at f)) (block_round_along f) children)
  run_by f children true false e = simp e refl
  run_by f children false c e = refl

  run_wrapped_along : (f : Facts) (children : List Tree) → relabel_list (run_wrapped f children) ≡ run_wrapped (put_at f) (relabel_list children)
  run_wrapped_along f children = run_by f children (is_block_container f.form) (list_any is_block_box children) (any is_block (λ s. refl) children)

  -- Whole trees.
  module _ (make : Facts → List Tree → List Tree) (along : (f : Facts) (ts : List Tree) → relabel_list (make f ts) ≡ make (put_at f) (relabel_list ts)) where
    mutual
      remade_along : (t : Tree) → relabel_list (remade make t) ≡ remade make (relabel t)
      remade_along (tree f us) = along f (all_remade make us) ∙ ap (make (put_at f)) (all_along us)

      all_along : (us : Trees) → relabel_list (all_remade make us) ≡ all_remade make (relabel_all us)
      all_along no_trees = refl
      all_along (also t ts) =
          append (remade make t) (all_remade make ts) ∙ (ap (λ r. r ++ relabel_list (all_remade make ts)) (remade_along t) ∙ ap (λ r. remade make (relabel t) ++ r) (all_along ts))

    rule_along : (xs ys : List Tree) → relabel_list xs ≡ ys → relabel_list (all_remade make (trees_of xs)) ≡ all_remade make (trees_of ys)
    rule_along xs ys e = all_along (trees_of xs) ∙ ap (all_remade make) (trees xs ∙ ap trees_of e)

  in_box_along : (change : Facts → List Tree → List Tree) → ((f : Facts) (ts : List Tree) → relabel_list (change f ts) ≡ change (put_at f) (relabel_list ts))
      → (f : Facts) (ts : List Tree) → relabel_list (in_box change f ts) ≡ in_box change (put_at f) (relabel_list ts)
  in_box_along change along f ts = ap (λ t. t ∷ []) (with f (change f ts) ∙ ap (λ r. tree (put_at f) (trees_of r)) (along f ts))

  pub generated_along : (t : Tree) → relabel_list (generated t) ≡ generated (relabel t)
  generated_along t =
      rule_along (in_box run_wrapped) (in_box_along run_wrapped run_wrapped_along) _ _
      (rule_along broken broken_along _ _
      (rule_along (in_box in_wrapper) (in_box_along in_wrapper in_wrapper_along) _ _
      (rule_along (in_box parented) (in_box_along parented parented_along) _ _
      (rule_along (in_box child_wrapped) (in_box_along child_wrapped child_wrapped_along) _ _
      (remade_along (in_box relevant) (in_box_along relevant relevant_along) t)))))
