-- How many boxes come of a tree of boxes by the rules of box generation.
use Rattle.std.proofs.Common.{◌≡◌, ℕ, ◌+◌, ◌*◌, ◌≤◌, Bool, true, false, ◌&&◌, not, List, [], ◌∷◌, ◌++◌, length, refl, arith, filter, if◌then◌else◌}
use Rattle.std.specs.List.{list_any}
use Rattle.lay_boxgen.specs.Boxes.{Tree, Trees, tree, no_trees, also, trees_of, facts_of, remade, all_remade, in_box}
use Rattle.lay_boxgen.specs.Runs.{anonymous_facts}
use Rattle.lay_boxgen.specs.Forms.{is_inline, is_inline_level, is_in_flow, is_table, is_block}
use Rattle.lay_boxgen.specs.Irrelevant.{relevant}
use Rattle.lay_boxgen.specs.MissingChildren.{child_wrapped}
use Rattle.lay_boxgen.specs.MissingParents.{parented}
use Rattle.lay_boxgen.specs.TableWrappers.{table_facts, in_wrapper}
use Rattle.lay_boxgen.specs.BrokenInlines.{is_block_box, is_no_text_box, is_unseen, part_over, parts_from, broken}
use Rattle.lay_boxgen.specs.InlineRuns.{run_wrapped}
use Rattle.lay_boxgen.specs.Generation.{generated}
use Rattle.lay_boxgen.specs.declared.facts.Facts.{Facts}
use Rattle.lay_boxgen.specs.declared.facts.Form.{Form}
use Rattle.lay_boxgen.specs.declared.facts.Form.TheVariants.{Block, InlineBlock, Inline, Text, Replaced, Wrapper, InlineWrapper, Table, Caption, RowGroup, HeaderGroup, FooterGroup, Row, ColumnGroup, Column, Cell, Anchor}
use Rattle.lay_boxgen.proofs.BoxMeasures.{total, totals, sum_with, sum_is, append, filter_less, relevant_less, child_wrapped_less, parented_less, in_wrapper_less, run_wrapped_less, remade_less, all_remade_less, stage_less}

-- each box counts as much
abbrev pub each : ℕ → Facts → Trees → ℕ
each u f us = u

abbrev pub count : Trees → ℕ
count no_trees = 0
count (also t ts) = 1 + count ts

-- the children of inline boxes
abbrev pub in_inline : Facts → Trees → ℕ
in_inline f us = if is_inline f.form then count us else 0

-- for each inline box the children of inline boxes in it
abbrev pub under_inline : Facts → Trees → ℕ
under_inline f us = if is_inline f.form then count us + totals in_inline us else 0

-- Numbers of boxes.
mutual
  no_total : (t : Tree) → total (each 0) t ≡ 0
  no_total (tree f us) = let h = no_totals us in omega (arith, h)

  no_totals : (us : Trees) → totals (each 0) us ≡ 0
  no_totals no_trees = refl
  no_totals (also t ts) = let h = no_total t in let g = no_totals ts in omega (arith, h, g)

length_is : (ts : List Tree) → sum_with (each 0) 1 ts ≡ length ts
length_is [] = refl
length_is (t ∷ ts) = let h = no_total t in let g = length_is ts in omega (arith, h, g)

count_is : (ts : List Tree) → count (trees_of ts) ≡ length ts
count_is [] = refl
count_is (t ∷ ts) = let h = count_is ts in omega (arith, h)

count_remade : (change : Facts → List Tree → List Tree) (us : Trees) → length (all_remade (in_box change) us) ≡ count us
count_remade change no_trees = refl
count_remade change (also (tree f vs) ts) = let h = count_remade change ts in omega (arith, h)

-- Rules that give no inline box more children, and leave measures by inline boxes as they are or less.
module _ (change : Facts → List Tree → List Tree)
    (shorter : (f : Facts) (ts : List Tree) → is_inline f.form ≡ true → length (change f ts) ≤ length ts)
    (keeps : (own : Facts → Trees → ℕ) → ((f : Facts) (form : Form) (us : Trees) → is_inline form ≡ false → own (anonymous_facts f form) us ≤ 0) → ((f : Facts) (us : Trees) → own (table_facts f) us ≤ 0)
    → (f : Facts) (ts : List Tree) → sum_with own 0 (change f ts) ≤ sum_with own 0 ts + 0) where
  in_light : (f : Facts) (form : Form) (us : Trees) → is_inline form ≡ false → in_inline (anonymous_facts f form) us ≤ 0
  in_light f form us h = rw h (omega arith)

  in_cost : (f : Facts) (ts : List Tree) → sum_with in_inline 0 (change f ts) ≤ sum_with in_inline 0 ts + 0
  in_cost = keeps in_inline in_light (λ f us. omega arith)

  shorter_count : (f : Facts) (us : Trees) → is_inline f.form ≡ true → count (trees_of (change f (all_remade (in_box change) us))) ≤ count us
  shorter_count f us e =
      let a = count_is (change f (all_remade (in_box change) us)) in
      let b = shorter f (all_remade (in_box change) us) e in
      let c = count_remade change us in
      omega (arith, a, b, c)

  in_by : (f : Facts) (us vs : Trees) (b : Bool) → (b ≡ true → count vs ≤ count us) → (if b then count vs else 0) + 0 + 0 ≤ (if b then count us else 0)
  in_by f us vs true h = let g = h refl in omega (arith, g)
  in_by f us vs false h = omega arith

  in_fits : (f : Facts) (us : Trees) → in_inline f (trees_of (change f (all_remade (in_box change) us))) + 0 + 0 ≤ in_inline f us
  in_fits f us = in_by f us (trees_of (change f (all_remade (in_box change) us))) (is_inline f.form) (shorter_count f us)

  in_less : (us : Trees) → sum_with in_inline 0 (all_remade (in_box change) us) ≤ totals in_inline us
  in_less us = all_remade_less in_inline change 0 0 in_inline in_cost in_fits us

  under_light : (f : Facts) (form : Form) (us : Trees) → is_inline form ≡ false → under_inline (anonymous_facts f form) us ≤ 0
  under_light f form us h = rw h (omega arith)

  under_cost : (f : Facts) (ts : List Tree) → sum_with under_inline 0 (change f ts) ≤ sum_with under_inline 0 ts + 0
  under_cost = keeps under_inline under_light (λ f us. omega arith)

  under_by : (us vs : Trees) → totals in_inline vs ≤ totals in_inline us → (b : Bool) → (b ≡ true → count vs ≤ count us)
      → (if b then count vs + totals in_inline vs else 0) + 0 + 0 ≤ (if b then count us + totals in_inline us else 0)
  under_by us vs y true h = let g = h refl in omega (arith, g, y)
  under_by us vs y false h = omega arith

  under_fits : (f : Facts) (us : Trees) → under_inline f (trees_of (change f (all_remade (in_box change) us))) + 0 + 0 ≤ under_inline f us
  under_fits f us =
      let made : List Tree = all_remade (in_box change) us in
      let y = in_less us in
      let c = in_cost f made in
      let e = sum_is in_inline (change f made) in
      under_by us (trees_of (change f made)) (omega (arith, y, c, e)) (is_inline f.form) (shorter_count f us)

  pub under_remade : (t : Tree) → sum_with under_inline 0 (remade (in_box change) t) ≤ total under_inline t
  under_remade t = remade_less under_inline change 0 0 under_inline under_cost under_fits t

  pub under_stage : (ts : List Tree) → totals under_inline (trees_of (all_remade (in_box change) (trees_of ts))) ≤ totals under_inline (trees_of ts)
  under_stage ts = stage_less under_inline change 0 0 under_inline under_cost under_fits ts

inline_no_table : (form : Form) → is_inline form ≡ true → is_table form ≡ false
inline_no_table Inline e = refl
inline_no_table Block e = refl
inline_no_table InlineBlock e = refl
inline_no_table (Text t) e = refl
inline_no_table (Replaced w h i) e = refl
inline_no_table Wrapper e = absurd cc
inline_no_table InlineWrapper e = absurd cc
inline_no_table Table e = refl
inline_no_table Caption e = refl
inline_no_table RowGroup e = refl
inline_no_table HeaderGroup e = refl
inline_no_table FooterGroup e = refl
inline_no_table Row e = refl
inline_no_table (ColumnGroup s) e = refl
inline_no_table (Column s) e = refl
inline_no_table (Cell c r) e = refl
inline_no_table Anchor e = refl

relevant_shorter : (f : Facts) (ts : List Tree) → is_inline f.form ≡ true → length (relevant f ts) ≤ length ts
relevant_shorter f ts e = let h = relevant_less (each 0) 1 f ts in let a = length_is (relevant f ts) in let b = length_is ts in omega (arith, h, a, b)

child_wrapped_shorter : (f : Facts) (ts : List Tree) → is_inline f.form ≡ true → length (child_wrapped f ts) ≤ length ts
child_wrapped_shorter f ts e = let h = child_wrapped_less (each 0) 0 (λ g form us no. omega arith) 1 f ts in let a = length_is (child_wrapped f ts) in let b = length_is ts in omega (arith, h, a, b)

parented_shorter : (f : Facts) (ts : List Tree) → is_inline f.form ≡ true → length (parented f ts) ≤ length ts
parented_shorter f ts e = let h = parented_less (each 0) 0 (λ g form us no. omega arith) 1 f ts in let a = length_is (parented f ts) in let b = length_is ts in omega (arith, h, a, b)

in_wrapper_shorter : (f : Facts) (ts : List Tree) → is_inline f.form ≡ true → length (in_wrapper f ts) ≤ length ts
in_wrapper_shorter f ts e = let no = inline_no_table f.form e in rw no (omega arith)

relevant_under : (t : Tree) → sum_with under_inline 0 (remade (in_box relevant) t) ≤ total under_inline t
relevant_under = under_remade relevant relevant_shorter (λ own light table f ts. let h = relevant_less own 0 f ts in omega (arith, h))

child_wrapped_under : (ts : List Tree) → totals under_inline (trees_of (all_remade (in_box child_wrapped) (trees_of ts))) ≤ totals under_inline (trees_of ts)
child_wrapped_under = under_stage child_wrapped child_wrapped_shorter (λ own light table f ts. let h = child_wrapped_less own 0 light 0 f ts in omega (arith, h))

parented_under : (ts : List Tree) → totals under_inline (trees_of (all_remade (in_box parented) (trees_of ts))) ≤ totals under_inline (trees_of ts)
parented_under = under_stage parented parented_shorter (λ own light table f ts. let h = parented_less own 0 light 0 f ts in omega (arith, h))

in_wrapper_under : (ts : List Tree) → totals under_inline (trees_of (all_remade (in_box in_wrapper) (trees_of ts))) ≤ totals under_inline (trees_of ts)
in_wrapper_under = under_stage in_wrapper in_wrapper_shorter (λ own light table f ts. in_wrapper_less own 0 table f ts)

-- The breaking of inline boxes: a part more for each block that comes up to them.
abbrev one_if : Bool → ℕ
one_if b = if b then 1 else 0

abbrev blocks : List Tree → ℕ
blocks [] = 0
blocks (t ∷ ts) = one_if (is_block_box t) + blocks ts

blocks_append : (xs ys : List Tree) → blocks (xs ++ ys) ≡ blocks xs + blocks ys
blocks_append [] ys = omega arith
blocks_append (x ∷ xs) ys = let e = blocks_append xs ys in omega (arith, e)

blocks_by : (n : ℕ) (b : Bool) (xs ys : List Tree) → blocks xs ≤ n → blocks ys ≤ n → blocks (if b then xs else ys) ≤ n
blocks_by n true xs ys h g = h
blocks_by n false xs ys h g = g

blocks_filter : (p : Tree → Bool) (ts : List Tree) → blocks (filter p ts) ≤ blocks ts
blocks_filter p [] = omega arith
blocks_filter p (t ∷ ts) = let h = blocks_filter p ts in blocks_by (blocks (t ∷ ts)) (p t) (t ∷ filter p ts) (filter p ts) (omega (arith, h)) (omega (arith, h))

inline_no_block : (f : Facts) → is_inline f.form ≡ true → is_block f ≡ false
inline_no_block f e = by f.form (is_in_flow f.flow) e
  where
    by : (form : Form) (b : Bool) → is_inline form ≡ true → (b && not (is_inline_level form)) ≡ false
    by Inline true e = refl
    by Inline false e = refl
    by Block b e = absurd cc
    by InlineBlock b e = absurd cc
    by (Text t) b e = absurd cc
    by (Replaced w h i) b e = absurd cc
    by Wrapper b e = absurd cc
    by InlineWrapper b e = absurd cc
    by Table b e = absurd cc
    by Caption b e = absurd cc
    by RowGroup b e = absurd cc
    by HeaderGroup b e = absurd cc
    by FooterGroup b e = absurd cc
    by Row b e = absurd cc
    by (ColumnGroup s) b e = absurd cc
    by (Column s) b e = absurd cc
    by (Cell c r) b e = absurd cc
    by Anchor b e = absurd cc

abbrev two : Facts → Trees → ℕ
two = each 2

over_sum : (f : Facts) (after : Bool) (held : List Tree) → sum_with two 0 (part_over f after held) ≤ 2 + sum_with two 0 held
over_sum f true held = let h = filter_less two 0 is_no_text_box held in omega (arith, h)
over_sum f false held = let e = sum_is two held in omega (arith, e)

over_blocks : (f : Facts) (after : Bool) (held : List Tree) → is_block f ≡ false → blocks (part_over f after held) ≤ blocks held
over_blocks f true held e = blocks_filter is_no_text_box held
over_blocks f false held e = rw e (omega arith)

parts_sum : (f : Facts) (ts : List Tree) (after : Bool) (held : List Tree) → sum_with two 0 (parts_from f after held ts) ≤ 2 + sum_with two 0 held + sum_with two 0 ts + 2 * blocks ts
parts_sum f [] after held = let e = sum_is two held in omega (arith, e)
parts_sum f (t ∷ ts) after held = by (λ a h. parts_sum f ts a h) (is_block_box t)
  where
    by : ((a : Bool) (h : List Tree) → sum_with two 0 (parts_from f a h ts) ≤ 2 + sum_with two 0 h + sum_with two 0 ts + 2 * blocks ts) → (b : Bool) → sum_with two 0 (if b then part_over f after held ++ t ∷ [] ++ parts_from f true [] ts else parts_from f (after && is_unseen (facts_of t)) (held ++ t ∷ []) ts)
        ≤ 2 + sum_with two 0 held + sum_with two 0 (t ∷ ts) + 2 * (one_if b + blocks ts)
    by rest true =
        let a = append two 0 (part_over f after held ++ t ∷ []) (parts_from f true [] ts) in
        let b = append two 0 (part_over f after held) (t ∷ []) in
        let o = over_sum f after held in
        let h = rest true [] in
        omega (arith, a, b, o, h)
    by rest false =
        let a = append two 0 held (t ∷ []) in
        let h = rest (after && is_unseen (facts_of t)) (held ++ t ∷ []) in
        omega (arith, a, h)

parts_blocks : (f : Facts) → is_block f ≡ false → (ts : List Tree) (after : Bool) (held : List Tree) → blocks (parts_from f after held ts) ≤ blocks held + blocks ts
parts_blocks f e [] after held = let o = over_blocks f false held e in omega (arith, o)
parts_blocks f e (t ∷ ts) after held = by (λ a h. parts_blocks f e ts a h) (is_block_box t) refl
  where
    by : ((a : Bool) (h : List Tree) → blocks (parts_from f a h ts) ≤ blocks h + blocks ts) → (b : Bool) → is_block_box t ≡ b → blocks (if b then part_over f after held ++ t ∷ [] ++ parts_from f true [] ts else parts_from f (after && is_unseen (facts_of t)) (held ++ t ∷ []) ts)
        ≤ blocks held + blocks (t ∷ ts)
    by rest true q =
        let a = blocks_append (part_over f after held ++ t ∷ []) (parts_from f true [] ts) in
        let b = blocks_append (part_over f after held) (t ∷ []) in
        let o = over_blocks f after held e in
        let h = rest true [] in
        omega (arith, a, b, o, h)
    by rest false q =
        let a = blocks_append held (t ∷ []) in
        let h = rest (after && is_unseen (facts_of t)) (held ++ t ∷ []) in
        omega (arith, a, h)

one_at_most : (b : Bool) → one_if b ≤ 1
one_at_most true = omega arith
one_at_most false = omega arith

-- of what stands for a box, where its children became these
broken_blocks : (f : Facts) (us : Trees) (cs : List Tree) → blocks cs ≤ count us + totals in_inline us → blocks (broken f cs) ≤ 1 + total in_inline (tree f us)
broken_blocks f us cs h = by (is_inline f.form) refl (list_any is_block_box cs)
  where
    one : blocks (tree f (trees_of cs) ∷ []) ≤ 1
    one = let o = one_at_most (is_block f) in omega (arith, o)

    by : (b : Bool) → is_inline f.form ≡ b → (c : Bool) → blocks (if b && c then parts_from f false [] cs else (tree f (trees_of cs) ∷ [])) ≤ 1 + ((if b then count us else 0) + totals in_inline us)
    by true e true = let p = parts_blocks f (inline_no_block f e) cs false [] in omega (arith, p, h)
    by true e false = omega (arith, one)
    by false e true = omega (arith, one)
    by false e false = omega (arith, one)

broken_sum : (f : Facts) (us : Trees) (cs : List Tree) → blocks cs ≤ count us + totals in_inline us → sum_with two 0 cs ≤ totals two us + 2 * totals under_inline us
    → sum_with two 0 (broken f cs) ≤ total two (tree f us) + 2 * total under_inline (tree f us)
broken_sum f us cs h s = by (is_inline f.form) (list_any is_block_box cs)
  where
    by : (b c : Bool) → sum_with two 0 (if b && c then parts_from f false [] cs else (tree f (trees_of cs) ∷ []))
        ≤ 2 + totals two us + 2 * ((if b then count us + totals in_inline us else 0) + totals under_inline us)
    by true true = let p = parts_sum f cs false [] in omega (arith, p, h, s)
    by true false = let e = sum_is two cs in omega (arith, e, s)
    by false true = let e = sum_is two cs in omega (arith, e, s)
    by false false = let e = sum_is two cs in omega (arith, e, s)

mutual
  remade_blocks : (t : Tree) → blocks (remade broken t) ≤ 1 + total in_inline t
  remade_blocks (tree f us) = broken_blocks f us (all_remade broken us) (all_remade_blocks us)

  all_remade_blocks : (us : Trees) → blocks (all_remade broken us) ≤ count us + totals in_inline us
  all_remade_blocks no_trees = omega arith
  all_remade_blocks (also t ts) =
      let a = blocks_append (remade broken t) (all_remade broken ts) in
      let h = remade_blocks t in
      let g = all_remade_blocks ts in
      omega (arith, a, h, g)

mutual
  remade_sum : (t : Tree) → sum_with two 0 (remade broken t) ≤ total two t + 2 * total under_inline t
  remade_sum (tree f us) = broken_sum f us (all_remade broken us) (all_remade_blocks us) (all_remade_sum us)

  all_remade_sum : (us : Trees) → sum_with two 0 (all_remade broken us) ≤ totals two us + 2 * totals under_inline us
  all_remade_sum no_trees = omega arith
  all_remade_sum (also t ts) =
      let a = append two 0 (remade broken t) (all_remade broken ts) in
      let h = remade_sum t in
      let g = all_remade_sum ts in
      omega (arith, a, h, g)

-- all that is generated
pub generated_total : (t : Tree) → totals (each 1) (trees_of (generated t)) ≤ total (each 36) t + 2 * total under_inline t
generated_total t =
    let t1 : List Tree = remade (in_box relevant) t in
    let t2 : List Tree = all_remade (in_box child_wrapped) (trees_of t1) in
    let t3 : List Tree = all_remade (in_box parented) (trees_of t2) in
    let t4 : List Tree = all_remade (in_box in_wrapper) (trees_of t3) in
    let t5 : List Tree = all_remade broken (trees_of t4) in
    let s1 = remade_less (each 36) relevant 0 0 (each 36) (λ f ts. let h = relevant_less (each 36) 0 f ts in omega (arith, h)) (λ f us. omega arith) t in
    let e1 = sum_is (each 36) t1 in
    let s2 = stage_less (each 12) child_wrapped 24 0 (each 36) (λ f ts. let h = child_wrapped_less (each 12) 12 (λ g form us no. omega arith) 0 f ts in omega (arith, h)) (λ f us. omega arith) t1 in
    let s3 = stage_less (each 4) parented 8 0 (each 12) (λ f ts. let h = parented_less (each 4) 4 (λ g form us no. omega arith) 0 f ts in omega (arith, h)) (λ f us. omega arith) t2 in
    let s4 = stage_less (each 2) in_wrapper 0 2 (each 4) (λ f ts. let h = in_wrapper_less (each 2) 2 (λ g us. omega arith) f ts in omega (arith, h)) (λ f us. omega arith) t3 in
    let s5 = all_remade_sum (trees_of t4) in
    let e5 = sum_is two t5 in
    let s6 = stage_less (each 1) run_wrapped 1 0 (each 2) (λ f ts. let h = run_wrapped_less (each 1) 1 (λ g form us no. omega arith) 0 f ts in omega (arith, h)) (λ f us. omega arith) t5 in
    let u1 = relevant_under t in
    let v1 = sum_is under_inline t1 in
    let u2 = child_wrapped_under t1 in
    let u3 = parented_under t2 in
    let u4 = in_wrapper_under t3 in
    omega (arith, s1, e1, s2, s3, s4, s5, e5, s6, u1, v1, u2, u3, u4)
