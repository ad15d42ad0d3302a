-- Anonymous boxes are in flow: no rule of box generation makes one that isn't, and no node has one.
use Rattle.std.proofs.Common.{◌≡◌, ℕ, ◌+◌, ◌≤◌, ◌&&◌, Bool, true, false, not, List, [], ◌∷◌, ◌++◌, refl, arith, if◌then◌else◌, Option, None, Some}
use Rattle.std.specs.List.{list_any}
use Rattle.lay_style.specs.declared.style.Style.{Style}
use Rattle.lay_doc.specs.declared.node.Node.{Node}
use Rattle.lay_boxgen.specs.Boxes.{Tree, Trees, tree, no_trees, also, trees_of, facts_of, all_remade, in_box, remade}
use Rattle.lay_boxgen.specs.BrokenInlines.{broken, is_block_box, is_no_text_box, is_unseen, part_over, parts_from}
use Rattle.lay_boxgen.specs.Forms.{is_in_flow, is_inline}
use Rattle.lay_boxgen.specs.Generation.{generated}
use Rattle.lay_boxgen.specs.InlineRuns.{run_wrapped}
use Rattle.lay_boxgen.specs.InnerBoxes.{AllBoxes, AllIn, AllOf}
use Rattle.lay_boxgen.specs.Irrelevant.{relevant}
use Rattle.lay_boxgen.specs.MissingChildren.{child_wrapped}
use Rattle.lay_boxgen.specs.MissingParents.{parented}
use Rattle.lay_boxgen.specs.NodeTrees.{as_own, tree_at}
use Rattle.lay_boxgen.specs.Parts.{generated_of}
use Rattle.lay_boxgen.specs.Runs.{anonymous_facts}
use Rattle.lay_boxgen.specs.TableWrappers.{in_wrapper, table_facts}
use Rattle.lay_boxgen.specs.declared.facts.Facts.{Facts}
use Rattle.lay_box_tree.specs.declared.box_tree.Flow.{Flow}
use Rattle.lay_box_tree.specs.declared.box_tree.Flow.TheVariants.{InFlow, Floating, Absolute}
use Rattle.lay_boxgen.specs.declared.facts.Form.{Form}
use Rattle.lay_contexts.proofs.Cited.{append, child_wrapped_less, filter_less, in_wrapper_less, parented_less, relevant_less, remade_less, run_wrapped_less, stage_less, sum_is, sum_with, total, totals}
use Rattle.lay_contexts.specs.FlowLaws.{AnonymousBoxesAreInFlow, IsInFlowWhereAnonymous}
use Rattle.lay_contexts.proofs.ListedFacts.{all_boxes}
use Rattle.lay_contexts.proofs.NodeFacts.{IsNodeTree, node_tree}

-- anonymous boxes out of flow are counted
abbrev one_if : Bool → ℕ
one_if b = if b then 1 else 0

abbrev out : Facts → Trees → ℕ
out f us = one_if (f.anonymous && not (is_in_flow f.flow))

-- the rules make none
and_false : (b : Bool) → one_if (b && false) ≤ 0
and_false true = omega arith
and_false false = omega arith

made : (f : Facts) (form : Form) (us : Trees) → is_inline form ≡ false → out (anonymous_facts f form) us ≤ 0
made f form us e = omega arith

table_made : (f : Facts) (us : Trees) → out (table_facts f) us ≤ 0
table_made f us = and_false f.anonymous

same_out : (f : Facts) (us vs : Trees) → out f vs + 0 + 0 ≤ out f us
same_out f us vs = (let e : out f vs ≡ out f us = refl in omega (arith, e))

module _ (change : Facts → List Tree → List Tree) (cost : (f : Facts) (ts : List Tree) → sum_with out 0 (change f ts) ≤ sum_with out 0 ts + 0) where
  remade_out : (t : Tree) → sum_with out 0 (remade (in_box change) t) ≤ total out t
  remade_out = remade_less out change 0 0 out cost (λ f us. same_out f us (trees_of (change f (all_remade (in_box change) us))))

  stage_out : (ts : List Tree) → totals out (trees_of (all_remade (in_box change) (trees_of ts))) ≤ totals out (trees_of ts)
  stage_out = stage_less out change 0 0 out cost (λ f us. same_out f us (trees_of (change f (all_remade (in_box change) us))))

-- nor does the breaking of inline boxes, where there was none
over_out : (f : Facts) → out f no_trees ≤ 0 → (after : Bool) (held : List Tree) → sum_with out 0 held ≤ 0 → sum_with out 0 (part_over f after held) ≤ 0
over_out f none true held h = (let l = filter_less out 0 is_no_text_box held in omega (arith, l, h))
over_out f none false held h = (let e = sum_is out held in let o : out f (trees_of held) ≡ out f no_trees = refl in omega (arith, e, o, none, h))

parts_out : (f : Facts) → out f no_trees ≤ 0 → (ts : List Tree) (after : Bool) (held : List Tree) → sum_with out 0 held ≤ 0 → sum_with out 0 ts ≤ 0
    → sum_with out 0 (parts_from f after held ts) ≤ 0
parts_out f none [] after held h g = over_out f none false held h
parts_out f none (t ∷ ts) after held h g =
    by (λ a r s. parts_out f none ts a r s (omega (arith, g))) (is_block_box t)
  where
    by : ((a : Bool) (r : List Tree) → sum_with out 0 r ≤ 0 → sum_with out 0 (parts_from f a r ts) ≤ 0) → (b : Bool)
        → sum_with out 0 (if b then part_over f after held ++ t ∷ [] ++ parts_from f true [] ts else parts_from f (after && is_unseen (facts_of t)) (held ++ t ∷ []) ts) ≤ 0
    by rest true =
        let a = append out 0 (part_over f after held ++ t ∷ []) (parts_from f true [] ts) in
        let b = append out 0 (part_over f after held) (t ∷ []) in
        let o = over_out f none after held h in
        let r = rest true [] (omega arith) in
        omega (arith, a, b, o, r, g)
    by rest false =
        let a = append out 0 held (t ∷ []) in
        rest (after && is_unseen (facts_of t)) (held ++ t ∷ []) (omega (arith, a, h, g))

broken_out : (f : Facts) (ts : List Tree) → out f no_trees ≤ 0 → sum_with out 0 ts ≤ 0 → sum_with out 0 (broken f ts) ≤ 0
broken_out f ts none g = by (is_inline f.form && list_any is_block_box ts)
  where
    by : (b : Bool) → sum_with out 0 (if b then parts_from f false [] ts else (tree f (trees_of ts) ∷ [])) ≤ 0
    by true = parts_out f none ts false [] (omega arith) g
    by false = (let e = sum_is out ts in let o : out f (trees_of ts) ≡ out f no_trees = refl in omega (arith, e, o, none, g))

mutual
  remade_broken : (t : Tree) → total out t ≤ 0 → sum_with out 0 (remade broken t) ≤ 0
  remade_broken (tree f us) h =
      let o : out f us ≡ out f no_trees = refl in
      broken_out f (all_remade broken us) (omega (arith, h, o)) (all_remade_broken us (omega (arith, h)))

  all_remade_broken : (us : Trees) → totals out us ≤ 0 → sum_with out 0 (all_remade broken us) ≤ 0
  all_remade_broken no_trees h = omega arith
  all_remade_broken (also t ts) h =
      let a = append out 0 (remade broken t) (all_remade broken ts) in
      let one = remade_broken t (omega (arith, h)) in
      let more = all_remade_broken ts (omega (arith, h)) in
      omega (arith, a, one, more)

generated_out : (t : Tree) → total out t ≤ 0 → totals out (trees_of (generated t)) ≤ 0
generated_out t h =
    let t1 : List Tree = remade (in_box relevant) t in
    let t2 : List Tree = all_remade (in_box child_wrapped) (trees_of t1) in
    let t3 : List Tree = all_remade (in_box parented) (trees_of t2) in
    let t4 : List Tree = all_remade (in_box in_wrapper) (trees_of t3) in
    let t5 : List Tree = all_remade broken (trees_of t4) in
    let s1 = remade_out relevant (λ f ts. let c = relevant_less out 0 f ts in omega (arith, c)) t in
    let e1 = sum_is out t1 in
    let s2 = stage_out child_wrapped (λ f ts. let c = child_wrapped_less out 0 made 0 f ts in omega (arith, c)) t1 in
    let s3 = stage_out parented (λ f ts. let c = parented_less out 0 made 0 f ts in omega (arith, c)) t2 in
    let s4 = stage_out in_wrapper (λ f ts. in_wrapper_less out 0 table_made f ts) t3 in
    let s5 = all_remade_broken (trees_of t4) (omega (arith, h, s1, e1, s2, s3, s4)) in
    let e5 = sum_is out t5 in
    let s6 = stage_out run_wrapped (λ f ts. let c = run_wrapped_less out 0 made 0 f ts in omega (arith, c)) t5 in
    omega (arith, s5, e5, s6)

-- none is counted where no box is anonymous
abbrev IsPlain : Facts → Type 0
IsPlain f = f.anonymous ≡ false

plain_out : (f : Facts) (us : Trees) → IsPlain f → out f us ≤ 0
plain_out f us e = rw e (omega arith)

mutual
  none_in : (t : Tree) → AllBoxes IsPlain t → total out t ≤ 0
  none_in (tree f us) h = (let o = plain_out f us h.0 in let r = none_in_all us h.1 in omega (arith, o, r))

  none_in_all : (us : Trees) → AllIn IsPlain us → totals out us ≤ 0
  none_in_all no_trees h = omega arith
  none_in_all (also t ts) h = (let o = none_in t h.0 in let r = none_in_all ts h.1 in omega (arith, o, r))

-- and where none is counted the anonymous ones are in flow
abbrev IsCalm : Facts → Type 0
IsCalm f = f.anonymous ≡ true → f.flow ≡ InFlow

calm_flow : (x : Flow) → one_if (not (is_in_flow x)) ≤ 0 → x ≡ InFlow
calm_flow InFlow h = refl
calm_flow Floating h = absurd (omega (arith, h))
calm_flow Absolute h = absurd (omega (arith, h))

calm : (f : Facts) (us : Trees) → out f us ≤ 0 → IsCalm f
calm f us h = λ e. calm_flow f.flow (rw e at h)

mutual
  all_calm : (t : Tree) → total out t ≤ 0 → AllBoxes IsCalm t
  all_calm (tree f us) h = (calm f us (omega (arith, h)), all_calm_in us (omega (arith, h)))

  all_calm_in : (us : Trees) → totals out us ≤ 0 → AllIn IsCalm us
  all_calm_in no_trees h = tt
  all_calm_in (also t ts) h = (all_calm t (omega (arith, h)), all_calm_in ts (omega (arith, h)))

list_calm : (ts : List Tree) → AllIn IsCalm (trees_of ts) → AllOf IsCalm ts
list_calm [] h = tt
list_calm (t ∷ ts) h = (h.0, list_calm ts h.1)

calm_generated : (nodes : List Node) (styles : List Style) (o : Option Tree) → IsNodeTree nodes styles IsPlain o → AllOf IsCalm (generated_of o)
calm_generated nodes styles None h = tt
calm_generated nodes styles (Some (tree f us)) h =
    let n = h.0 in
    let t : Tree = tree (as_own f) us in
    let own : AllBoxes IsPlain t = (n.plain, h.1) in
    list_calm (generated t) (all_calm_in (trees_of (generated t)) (generated_out t (none_in t own)))

pub anonymous_flows : AnonymousBoxesAreInFlow
anonymous_flows d styles k doc same =
    all_boxes d.nodes styles IsCalm IsInFlowWhereAnonymous (λ above parent f calm. calm) k
    (calm_generated d.nodes styles (tree_at d.nodes styles k)
    (node_tree d styles doc same IsPlain (λ f n e. n.plain) (λ f n e. n.plain) (λ f n. n.plain) k))
