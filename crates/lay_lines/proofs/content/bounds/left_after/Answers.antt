use Rattle.std.proofs.Common.{◌≡◌, ◌∙◌, ◌∷◌, ◌+◌, drop, rules, ap, sym, subst, arith}
use Rattle.std.proofs.lemmas.List.{drop_more}
use Rattle.lay_lines.specs.declared.content.content.Stretch.{Stretch}
use Rattle.lay_lines.specs.Content.Budgets.{Leaves, need_of_stretch}
use Rattle.lay_lines.specs.Content.LineContents.{StretchWithin, boxes_of, hulls_of, spread_of, weight_of}
use Rattle.lay_lines.proofs.ContentLemmas.AllLists.{all_more, all_of}
use Rattle.lay_lines.proofs.content.bounds.left_after.Goals as goal

pub returns-in_err-left-clause-none : goal.returns-in_err-left-clause-none
returns-in_err-left-clause-none c =
    let ss = c.args.stretches.now in
    let s = c.index-stretches-k.result in
    let k = c.loop-k.k in
    let more : drop k ss ≡ s ∷ drop (k + 1) ss = drop_more ss k s (search rules) ∙ ap (λ x. x ∷ drop (k + 1) ss) (sym c.index-stretches-k.is) in
    let spread = ap (spread_of c.args.tab.0) more in
    let hulls = ap hulls_of more in
    let boxes = ap boxes_of more in
    let weight = ap weight_of more in
    let old = c.loop-k.invariant in
    λ _ all covers. c.in_err-left.ensures.none (search rules) (subst (λ (x : Stretch). StretchWithin x) (sym c.index-stretches-k.is) (all k s (search rules))) record {
      spread = omega (arith, spread, old.spread, covers.spread);
      hulls = omega (arith, hulls, old.hulls, covers.hulls);
      boxes = omega (arith, boxes, old.boxes, covers.boxes);
      weight = omega (arith, weight, old.weight, covers.weight);
    }

pub loop-k-preserved : goal.loop-k-preserved
loop-k-preserved c =
    let ss = c.args.stretches.now in
    let s = c.index-stretches-k.result in
    let k = c.loop-k.k in
    let more : drop k ss ≡ s ∷ drop (k + 1) ss = drop_more ss k s (search rules) ∙ ap (λ x. x ∷ drop (k + 1) ss) (sym c.index-stretches-k.is) in
    let spread = ap (spread_of c.args.tab.0) more in
    let hulls = ap hulls_of more in
    let boxes = ap boxes_of more in
    let weight = ap weight_of more in
    let old = c.loop-k.invariant in
    let now : Leaves (need_of_stretch c.args.tab.0 s) c.loop-k.left c.in_ok-left.left = c.in_ok-left.ensures.some in
    let within : StretchWithin s = c.in_ok-left.ensures.within in
    record {
      spread = omega (arith, spread, old.spread, now.spread);
      hulls = omega (arith, hulls, old.hulls, now.hulls);
      boxes = omega (arith, boxes, old.boxes, now.boxes);
      weight = omega (arith, weight, old.weight, now.weight);
      within = all_more StretchWithin ss k s old.within (subst (λ (x : Stretch). StretchWithin x) c.index-stretches-k.is within);
    }

pub returns-clause-within : goal.returns-clause-within
returns-clause-within c = all_of StretchWithin c.args.stretches.now c.loop-k.k c.loop-k.invariant.within (search rules)
