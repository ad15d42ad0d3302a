-- The boxes of an inner context that stand among the boxes of a context, outside those of other inner contexts: no rule of
-- box generation behind the first stage removes or adds one.
use Rattle.std.proofs.Common.{◌≡◌, ℕ, ◌+◌, ◌==◌, Bool, true, false, ◌&&◌, ◌||◌, not, List, [], ◌∷◌, ◌++◌, refl, ap, sym, ◌∙◌, arith, filter, if◌then◌else◌}
use Rattle.std.specs.List.{list_any}
use Rattle.lay_boxgen.specs.Boxes.{Tree, Trees, tree, no_trees, also, trees_of, facts_of, remade, all_remade, in_box}
use Rattle.lay_boxgen.specs.Runs.{gathered, gathered_from, run_over, is_some, is_white_box, anonymous_box}
use Rattle.lay_boxgen.specs.Parts.{is_closed}
use Rattle.lay_boxgen.specs.Forms.{is_row_group, is_table, is_row, is_inline, is_text, is_block_container}
use Rattle.lay_boxgen.specs.MissingChildren.{is_no_proper_table_child, is_no_row, is_no_cell, cell_round, in_cells, in_rows_of_table, in_rows_of_group, row_round, child_wrapped}
use Rattle.lay_boxgen.specs.MissingParents.{is_cell_in_flow, is_misparented, row_of_cells, table_round, cells_in_rows, parented}
use Rattle.lay_boxgen.specs.TableWrappers.{is_caption_box, is_no_caption_box, table_box, captions_and_table, in_wrapper}
use Rattle.lay_boxgen.specs.BrokenInlines.{is_block_box, is_no_text_box, is_unseen, part_over, parts_from, broken}
use Rattle.lay_boxgen.specs.InlineRuns.{is_no_block, is_seen_box, block_round, run_wrapped}
use Rattle.lay_boxgen.specs.declared.facts.Facts.{Facts}
use Rattle.lay_boxgen.specs.declared.facts.Form.{Form}
use Rattle.lay_boxgen.specs.declared.facts.Form.TheVariants.{Row, Cell, Wrapper, InlineWrapper, Block, Inline}

-- the box of an inner context, which is neither an inline box nor a text
abbrev pub is_own : Facts → Bool
is_own f = f.inner && not (is_inline f.form || is_text f.form)

abbrev pub one_if : Bool → ℕ
one_if b = if b then 1 else 0

-- such a box of the node with this id
abbrev pub mark : ℕ → Facts → ℕ
mark id f = one_if (is_own f && (f.node.0 == id))

-- what is inside counts for nothing
abbrev pub is_shut : Facts → Bool
is_shut f = is_closed f || is_text f.form

abbrev pub inside_of : Facts → ℕ → ℕ
inside_of f n = if is_shut f then 0 else n

abbrev mutual
  pub held : ℕ → Tree → ℕ
  held id (tree f us) = mark id f + inside_of f (all_held id us)

  pub all_held : ℕ → Trees → ℕ
  all_held id no_trees = 0
  all_held id (also t ts) = held id t + all_held id ts

abbrev pub sum_held : ℕ → List Tree → ℕ
sum_held id [] = 0
sum_held id (t ∷ ts) = held id t + sum_held id ts

module _ (id : ℕ) where
  pub sum_is : (ts : List Tree) → all_held id (trees_of ts) ≡ sum_held id ts
  sum_is [] = refl
  sum_is (t ∷ ts) = ap (λ n. held id t + n) (sum_is ts)

  pub append : (xs ys : List Tree) → sum_held id (xs ++ ys) ≡ sum_held id xs + sum_held id ys
  append [] ys = omega arith
  append (x ∷ xs) ys = let e = append xs ys in omega (arith, e)

  either : (n : ℕ) (b : Bool) (xs ys : List Tree) → sum_held id xs ≡ n → sum_held id ys ≡ n → sum_held id (if b then xs else ys) ≡ n
  either n true xs ys h g = h
  either n false xs ys h g = g

  -- texts hold none
  no_text : (f : Facts) (us : Trees) → not (is_text f.form) ≡ false → held id (tree f us) ≡ 0
  no_text f us h = by f.inner (is_inline f.form) (is_text f.form) (f.node.0 == id) (is_closed f) h
    where
      by : (i l t e c : Bool) → not t ≡ false → one_if (i && not (l || t) && e) + (if c || t then 0 else all_held id us) ≡ 0
      by i l false e c h = cc
      by false l true e true h = refl
      by false l true e false h = refl
      by true true true e true h = refl
      by true true true e false h = refl
      by true false true e true h = refl
      by true false true e false h = refl

  pub no_text_tree : (t : Tree) → is_no_text_box t ≡ false → held id t ≡ 0
  no_text_tree (tree f us) h = no_text f us h

  pub but_texts : (ts : List Tree) → sum_held id (filter is_no_text_box ts) ≡ sum_held id ts
  but_texts [] = refl
  but_texts (t ∷ ts) = by (is_no_text_box t) refl (but_texts ts)
    where
      by : (b : Bool) → is_no_text_box t ≡ b → sum_held id (filter is_no_text_box ts) ≡ sum_held id ts
          → sum_held id (if b then t ∷ filter is_no_text_box ts else filter is_no_text_box ts) ≡ sum_held id (t ∷ ts)
      by true e h = ap (λ n. held id t + n) h
      by false e h = let z = no_text_tree t e in omega (arith, z, h)

  -- an anonymous box, which is no text, holds what its boxes do
  box_holds : (f : Facts) (form : Form) → is_text form ≡ false → (run : List Tree) → sum_held id (anonymous_box f form run ∷ []) ≡ sum_held id run
  box_holds f form h run = rw h (let e = sum_is run in omega (arith, e))

  module _ (fault : Facts → Bool) (close : List Tree → List Tree) (along : (t : Tree) (ts : List Tree) → sum_held id (close (t ∷ ts)) ≡ sum_held id (t ∷ ts)) where
    over : (run gap : List Tree) → sum_held id (run_over close run gap) ≡ sum_held id run + sum_held id gap
    over [] gap = omega arith
    over (t ∷ ts) gap = let a = append (close (t ∷ ts)) gap in let g = along t ts in omega (arith, a, g)

    gathered_from_holds : (ts run gap : List Tree) → sum_held id (gathered_from fault close run gap ts) ≡ sum_held id run + sum_held id gap + sum_held id ts
    gathered_from_holds [] run gap = let h = over run gap in omega (arith, h)
    gathered_from_holds (t ∷ ts) run gap =
        let n : ℕ = sum_held id run + sum_held id gap + sum_held id (t ∷ ts) in
        let a1 = append (run ++ gap) (t ∷ []) in
        let a2 = append run gap in
        let a3 = append gap (t ∷ []) in
        let a4 = append (run_over close run gap ++ t ∷ []) (gathered_from fault close [] [] ts) in
        let a5 = append (run_over close run gap) (t ∷ []) in
        let h1 = gathered_from_holds ts (run ++ gap ++ t ∷ []) [] in
        let h2 = gathered_from_holds ts run (gap ++ t ∷ []) in
        let h3 = gathered_from_holds ts [] [] in
        let o = over run gap in
        either n (fault (facts_of t))
        (gathered_from fault close (run ++ gap ++ t ∷ []) [] ts)
        (if is_some run && is_white_box t then gathered_from fault close run (gap ++ t ∷ []) ts
        else run_over close run gap ++ t ∷ [] ++ gathered_from fault close [] [] ts)
        (omega (arith, a1, a2, h1))
        (either n (is_some run && is_white_box t)
        (gathered_from fault close run (gap ++ t ∷ []) ts)
        (run_over close run gap ++ t ∷ [] ++ gathered_from fault close [] [] ts)
        (omega (arith, a3, h2))
        (omega (arith, a4, a5, h3, o)))

    gathered_holds : (ts : List Tree) → sum_held id (gathered fault close ts) ≡ sum_held id ts
    gathered_holds ts = let h = gathered_from_holds ts [] [] in omega (arith, h)

  in_cells_holds : (f : Facts) (ts : List Tree) → sum_held id (in_cells f ts) ≡ sum_held id ts
  in_cells_holds f ts = gathered_holds is_no_cell (cell_round f) (λ t us. box_holds f (Cell 1 1) refl (t ∷ us)) ts

  row_round_holds : (f : Facts) (t : Tree) (ts : List Tree) → sum_held id (row_round f (t ∷ ts)) ≡ sum_held id (t ∷ ts)
  row_round_holds f t ts = box_holds f Row refl (in_cells f (t ∷ ts)) ∙ in_cells_holds f (t ∷ ts)

  child_wrapped_holds : (f : Facts) (ts : List Tree) → sum_held id (child_wrapped f ts) ≡ sum_held id ts
  child_wrapped_holds f ts =
      either (sum_held id ts) (is_table f.form) (in_rows_of_table f ts) (if is_row_group f.form then in_rows_of_group f ts else (if is_row f.form then in_cells f ts else ts))
      (gathered_holds is_no_proper_table_child (row_round f) (row_round_holds f) ts)
      (either (sum_held id ts) (is_row_group f.form) (in_rows_of_group f ts) (if is_row f.form then in_cells f ts else ts)
      (gathered_holds is_no_row (row_round f) (row_round_holds f) ts)
      (either (sum_held id ts) (is_row f.form) (in_cells f ts) ts (in_cells_holds f ts) refl))

  cells_in_rows_holds : (f : Facts) (ts : List Tree) → sum_held id (cells_in_rows f ts) ≡ sum_held id ts
  cells_in_rows_holds f ts =
      either (sum_held id ts) (is_row f.form) ts (gathered is_cell_in_flow (row_of_cells f) ts) refl
      (gathered_holds is_cell_in_flow (row_of_cells f) (λ t us. box_holds f Row refl (t ∷ us)) ts)

  wrapper_no_text : (b : Bool) → is_text (if b then InlineWrapper else Wrapper) ≡ false
  wrapper_no_text true = refl
  wrapper_no_text false = refl

  parented_holds : (f : Facts) (ts : List Tree) → sum_held id (parented f ts) ≡ sum_held id ts
  parented_holds f ts =
      gathered_holds (is_misparented f.form) (table_round f)
      (λ t us. box_holds f (if is_inline f.form then InlineWrapper else Wrapper) (wrapper_no_text (is_inline f.form)) (t ∷ us)) (cells_in_rows f ts)
      ∙ cells_in_rows_holds f ts

  split : (ts : List Tree) → sum_held id (filter is_caption_box ts) + sum_held id (filter is_no_caption_box ts) ≡ sum_held id ts
  split [] = refl
  split (t ∷ ts) = by (is_caption_box t) (split ts)
    where
      by : (b : Bool) → sum_held id (filter is_caption_box ts) + sum_held id (filter is_no_caption_box ts) ≡ sum_held id ts
          → sum_held id (if b then t ∷ filter is_caption_box ts else filter is_caption_box ts)
          + sum_held id (if not b then t ∷ filter is_no_caption_box ts else filter is_no_caption_box ts) ≡ sum_held id (t ∷ ts)
      by true h = omega (arith, h)
      by false h = omega (arith, h)

  in_wrapper_holds : (f : Facts) (ts : List Tree) → sum_held id (in_wrapper f ts) ≡ sum_held id ts
  in_wrapper_holds f ts =
      let a = append (filter is_caption_box ts) (table_box f ts ∷ []) in
      let e = sum_is (filter is_no_caption_box ts) in
      let s = split ts in
      either (sum_held id ts) (is_table f.form) (captions_and_table f ts) ts (omega (arith, a, e, s)) refl

  -- an inline box holds what is in it
  inline_holds : (f : Facts) (ts : List Tree) → is_inline f.form ≡ true → held id (tree f (trees_of ts)) ≡ sum_held id ts
  inline_holds f ts h = by f.inner (f.node.0 == id) f.form h
    where
      by : (i e : Bool) (x : Form) → is_inline x ≡ true → one_if (i && not (is_inline x || is_text x) && e) + (if (i && not (is_inline x)) || is_text x then 0 else all_held id (trees_of ts)) ≡ sum_held id ts
      by true e Inline h = let s = sum_is ts in omega (arith, s)
      by false e Inline h = let s = sum_is ts in omega (arith, s)
      by i e _ h = absurd cc

  part_over_holds : (f : Facts) → is_inline f.form ≡ true → (after : Bool) (ts : List Tree) → sum_held id (part_over f after ts) ≡ sum_held id ts
  part_over_holds f h true ts = but_texts ts
  part_over_holds f h false ts = let e = inline_holds f ts h in omega (arith, e)

  parts_hold : (f : Facts) → is_inline f.form ≡ true → (ts : List Tree) (after : Bool) (run : List Tree) → sum_held id (parts_from f after run ts) ≡ sum_held id run + sum_held id ts
  parts_hold f h [] after run = let o = part_over_holds f h false run in omega (arith, o)
  parts_hold f h (t ∷ ts) after run =
      let a1 = append (part_over f after run ++ t ∷ []) (parts_from f true [] ts) in
      let a2 = append (part_over f after run) (t ∷ []) in
      let a3 = append run (t ∷ []) in
      let o = part_over_holds f h after run in
      let h1 = parts_hold f h ts true [] in
      let h2 = parts_hold f h ts (after && is_unseen (facts_of t)) (run ++ t ∷ []) in
      either (sum_held id run + sum_held id (t ∷ ts)) (is_block_box t)
      (part_over f after run ++ t ∷ [] ++ parts_from f true [] ts)
      (parts_from f (after && is_unseen (facts_of t)) (run ++ t ∷ []) ts)
      (omega (arith, a1, a2, o, h1)) (omega (arith, a3, h2))

  broken_holds : (f : Facts) (ts : List Tree) → sum_held id (broken f ts) ≡ held id (tree f (trees_of ts))
  broken_holds f ts = by (is_inline f.form) refl (list_any is_block_box ts)
    where
      one : sum_held id (tree f (trees_of ts) ∷ []) ≡ held id (tree f (trees_of ts))
      one = omega arith

      by : (b : Bool) → is_inline f.form ≡ b → (c : Bool) → sum_held id (if b && c then parts_from f false [] ts else (tree f (trees_of ts) ∷ [])) ≡ held id (tree f (trees_of ts))
      by true e true = let p = parts_hold f e ts false [] in let i = inline_holds f ts e in omega (arith, p, i)
      by true e false = one
      by false e true = one
      by false e false = one

  block_round_holds : (f : Facts) (t : Tree) (ts : List Tree) → sum_held id (block_round f (t ∷ ts)) ≡ sum_held id (t ∷ ts)
  block_round_holds f t ts =
      either (sum_held id (t ∷ ts)) (list_any is_seen_box (t ∷ ts)) (anonymous_box f Block (t ∷ ts) ∷ []) (filter is_no_text_box (t ∷ ts)) (box_holds f Block refl (t ∷ ts)) (but_texts (t ∷ ts))

  run_wrapped_holds : (f : Facts) (ts : List Tree) → sum_held id (run_wrapped f ts) ≡ sum_held id ts
  run_wrapped_holds f ts =
      either (sum_held id ts) (is_block_container f.form && list_any is_block_box ts) (gathered is_no_block (block_round f) ts) ts
      (gathered_holds is_no_block (block_round f) (block_round_holds f) ts) refl

  -- Whole trees.
  module _ (make : Facts → List Tree → List Tree) (keeps : (f : Facts) (ts : List Tree) → sum_held id (make f ts) ≡ held id (tree f (trees_of ts))) where
    mutual
      remade_holds : (t : Tree) → sum_held id (remade make t) ≡ held id t
      remade_holds (tree f us) =
          keeps f (all_remade make us) ∙ ap (λ n. mark id f + inside_of f n) (sum_is (all_remade make us) ∙ all_remade_holds us)

      all_remade_holds : (us : Trees) → sum_held id (all_remade make us) ≡ all_held id us
      all_remade_holds no_trees = refl
      all_remade_holds (also t ts) =
          append (remade make t) (all_remade make ts) ∙ (ap (λ n. n + sum_held id (all_remade make ts)) (remade_holds t) ∙ ap (λ n. held id t + n) (all_remade_holds ts))

    rule_holds : (ts : List Tree) → sum_held id (all_remade make (trees_of ts)) ≡ sum_held id ts
    rule_holds ts = all_remade_holds (trees_of ts) ∙ sum_is ts

  in_box_holds : (change : Facts → List Tree → List Tree) → ((f : Facts) (ts : List Tree) → sum_held id (change f ts) ≡ sum_held id ts)
      → (f : Facts) (ts : List Tree) → sum_held id (in_box change f ts) ≡ held id (tree f (trees_of ts))
  in_box_holds change h f ts =
      let e : held id (tree f (trees_of (change f ts))) ≡ held id (tree f (trees_of ts)) = ap (λ n. mark id f + inside_of f n) (sum_is (change f ts) ∙ (h f ts ∙ sym (sum_is ts))) in
      omega (arith, e)

  -- what is generated of trees without irrelevant boxes
  abbrev pub generated_after : List Tree → List Tree
  generated_after ts =
      all_remade (in_box run_wrapped) (trees_of
      (all_remade broken (trees_of
      (all_remade (in_box in_wrapper) (trees_of
      (all_remade (in_box parented) (trees_of
      (all_remade (in_box child_wrapped) (trees_of ts)))))))))

  pub generated_holds : (ts : List Tree) → sum_held id (generated_after ts) ≡ sum_held id ts
  generated_holds ts =
      let t2 = all_remade (in_box child_wrapped) (trees_of ts) in
      let t3 = all_remade (in_box parented) (trees_of t2) in
      let t4 = all_remade (in_box in_wrapper) (trees_of t3) in
      let t5 = all_remade broken (trees_of t4) in
      rule_holds (in_box run_wrapped) (in_box_holds run_wrapped run_wrapped_holds) t5
      ∙ (rule_holds broken broken_holds t4
      ∙ (rule_holds (in_box in_wrapper) (in_box_holds in_wrapper in_wrapper_holds) t3
      ∙ (rule_holds (in_box parented) (in_box_holds parented parented_holds) t2
      ∙ rule_holds (in_box child_wrapped) (in_box_holds child_wrapped child_wrapped_holds) ts)))
