-- At most as many boxes of inner contexts of a node are generated as stand in the tree that box generation starts from.
use Rattle.std.proofs.Common.{◌≡◌, ℕ, ◌+◌, ◌≤◌, ◌==◌, Bool, true, false, ◌&&◌, not, List, [], ◌∷◌, ◌++◌, refl, arith, if◌then◌else◌}
use Rattle.std.specs.List.{list_any}
use Rattle.lay_boxgen.specs.Boxes.{Tree, Trees, tree, no_trees, also, trees_of, facts_of, remade, all_remade, in_box}
use Rattle.lay_boxgen.specs.BrokenInlines.{is_block_box, is_no_text_box, is_unseen, part_over, parts_from, broken}
use Rattle.lay_boxgen.specs.Forms.{is_inline}
use Rattle.lay_boxgen.specs.Generation.{generated}
use Rattle.lay_boxgen.specs.InlineRuns.{run_wrapped}
use Rattle.lay_boxgen.specs.Irrelevant.{relevant}
use Rattle.lay_boxgen.specs.MissingChildren.{child_wrapped}
use Rattle.lay_boxgen.specs.MissingParents.{parented}
use Rattle.lay_boxgen.specs.Parts.{is_closed}
use Rattle.lay_boxgen.specs.TableWrappers.{in_wrapper}
use Rattle.lay_boxgen.specs.declared.facts.Facts.{Facts}
use Rattle.lay_contexts.proofs.Cited.{append, child_wrapped_less, filter_less, in_wrapper_less, parented_less, relevant_less, remade_less, run_wrapped_less, stage_less, sum_is, sum_with, total, totals}
use Rattle.lay_contexts.proofs.Kept.{one_if}

-- the box of the inner context of the node with this id
abbrev pub closed : ℕ → Facts → Trees → ℕ
closed id f us = one_if (is_closed f && (f.node.0 == id))

module _ (id : ℕ) where
  abbrev own : Facts → Trees → ℕ
  own = closed id

  shut : (i b e : Bool) → b ≡ true → one_if (i && not b && e) ≡ 0
  shut true true e h = refl
  shut false true e h = refl
  shut i false e h = cc

  -- an inline box isn't one
  inline_none : (f : Facts) (us : Trees) → is_inline f.form ≡ true → own f us ≡ 0
  inline_none f us h = shut f.inner (is_inline f.form) (f.node.0 == id) h

  part_over_less : (f : Facts) → is_inline f.form ≡ true → (after : Bool) (ts : List Tree) → sum_with own 0 (part_over f after ts) ≤ sum_with own 0 ts
  part_over_less f h true ts = filter_less own 0 is_no_text_box ts
  part_over_less f h false ts = let e = inline_none f (trees_of ts) h in let s = sum_is own ts in omega (arith, e, s)

  parts_less : (f : Facts) → is_inline f.form ≡ true → (ts : List Tree) (after : Bool) (run : List Tree) → sum_with own 0 (parts_from f after run ts) ≤ sum_with own 0 run + sum_with own 0 ts
  parts_less f h [] after run = let o = part_over_less f h false run in omega (arith, o)
  parts_less f h (t ∷ ts) after run = by (parts_less f h ts) (is_block_box t)
    where
      by : ((a : Bool) (r : List Tree) → sum_with own 0 (parts_from f a r ts) ≤ sum_with own 0 r + sum_with own 0 ts) → (b : Bool)
          → sum_with own 0 (if b then part_over f after run ++ t ∷ [] ++ parts_from f true [] ts else parts_from f (after && is_unseen (facts_of t)) (run ++ t ∷ []) ts)
          ≤ sum_with own 0 run + sum_with own 0 (t ∷ ts)
      by rest true =
          let a = append own 0 (part_over f after run ++ t ∷ []) (parts_from f true [] ts) in
          let b = append own 0 (part_over f after run) (t ∷ []) in
          let o = part_over_less f h after run in
          let r = rest true [] in
          omega (arith, a, b, o, r)
      by rest false =
          let a = append own 0 run (t ∷ []) in
          let r = rest (after && is_unseen (facts_of t)) (run ++ t ∷ []) in
          omega (arith, a, r)

  broken_less : (f : Facts) (us : Trees) (ts : List Tree) → sum_with own 0 ts ≤ totals own us → sum_with own 0 (broken f ts) ≤ total own (tree f us)
  broken_less f us ts g = by (is_inline f.form) refl (list_any is_block_box ts)
    where
      one : sum_with own 0 (tree f (trees_of ts) ∷ []) ≤ total own (tree f us)
      one = let s = sum_is own ts in omega (arith, s, g)

      by : (b : Bool) → is_inline f.form ≡ b → (c : Bool) → sum_with own 0 (if b && c then parts_from f false [] ts else (tree f (trees_of ts) ∷ [])) ≤ total own (tree f us)
      by true e true = let p = parts_less f e ts false [] in omega (arith, p, g)
      by true e false = one
      by false e true = one
      by false e false = one

  mutual
    remade_broken : (t : Tree) → sum_with own 0 (remade broken t) ≤ total own t
    remade_broken (tree f us) = broken_less f us (all_remade broken us) (all_remade_broken us)

    all_remade_broken : (us : Trees) → sum_with own 0 (all_remade broken us) ≤ totals own us
    all_remade_broken no_trees = omega arith
    all_remade_broken (also t ts) =
        let a = append own 0 (remade broken t) (all_remade broken ts) in
        let h = remade_broken t in
        let g = all_remade_broken ts in
        omega (arith, a, h, g)

  pub generated_less : (t : Tree) → totals own (trees_of (generated t)) ≤ total own t
  generated_less t =
      let t1 : List Tree = remade (in_box relevant) t in
      let t2 : List Tree = all_remade (in_box child_wrapped) (trees_of t1) in
      let t3 : List Tree = all_remade (in_box parented) (trees_of t2) in
      let t4 : List Tree = all_remade (in_box in_wrapper) (trees_of t3) in
      let t5 : List Tree = all_remade broken (trees_of t4) in
      let s1 = remade_less own relevant 0 0 own (λ f ts. let h = relevant_less own 0 f ts in omega (arith, h)) (λ f us. omega arith) t in
      let e1 = sum_is own t1 in
      let s2 = stage_less own child_wrapped 0 0 own (λ f ts. let h = child_wrapped_less own 0 (λ g form us isnt. omega arith) 0 f ts in omega (arith, h)) (λ f us. omega arith) t1 in
      let s3 = stage_less own parented 0 0 own (λ f ts. let h = parented_less own 0 (λ g form us isnt. omega arith) 0 f ts in omega (arith, h)) (λ f us. omega arith) t2 in
      let s4 = stage_less own in_wrapper 0 0 own (λ f ts. let h = in_wrapper_less own 0 (λ g us. omega arith) f ts in omega (arith, h)) (λ f us. omega arith) t3 in
      let s5 = all_remade_broken (trees_of t4) in
      let e5 = sum_is own t5 in
      let s6 = stage_less own run_wrapped 0 0 own (λ f ts. let h = run_wrapped_less own 0 (λ g form us isnt. omega arith) 0 f ts in omega (arith, h)) (λ f us. omega arith) t5 in
      omega (arith, s1, e1, s2, s3, s4, s5, e5, s6)
