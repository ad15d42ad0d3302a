use Rattle.std.proofs.Common.{rules, ◌≡◌, ◌++◌, ◌-◌, [], List, take, drop, ap, sym, ◌∙◌, subst, arith, length}
use Rattle.std.proofs.lemmas.List.{length-drop, take_all}
use Rattle.lay_style.specs.declared.style.Style.{Style}
use Rattle.lay_style.specs.ComputedStyle.{HasStyles}
use Rattle.lay_doc.specs.Document.{declarations_of, parents_of}
use Rattle.lay_inherit.specs.StylesTo.{StylesTo}
use Rattle.lay_after_edits.proofs.StylesLemmas.StyleLists.{front_known, joined_styles}
use Rattle.lay_after_edits.proofs.styles.kept_styles.restyled_stretch.Goals as goal

pub loop-k-init : goal.loop-k-init
loop-k-init c =
    let kept : c.as_slice-kept.result.now ≡ c.args.was.now = search rules in
    let none : c.in_ok-styles.styles.items ≡ [] = search rules in
    let pushed : c.push_all.new.styles.items ≡ take c.args.stretch.from c.args.was.now =
    c.in_ok-push_all.ensures {u = tt} ∙ (ap (λ (l : List Style). l ++ take c.args.stretch.from c.as_slice-kept.result.now) none ∙ ap (take c.args.stretch.from) kept) in
    subst (λ (l : List Style). StylesTo (parents_of c.args.nodes.now) (declarations_of c.args.nodes.now) l c.args.stretch.from) (sym pushed)
    (front_known (parents_of c.args.nodes.now) (declarations_of c.args.nodes.now) c.args.was.now c.args.stretch c.requires.tree c.requires.kept)

pub returns : goal.returns
returns c =
    let kept : c.as_slice-kept.result.now ≡ c.args.was.now = search rules in
    let rest : List Style = drop c.args.stretch.until c.as_slice-kept.result.now in
    let whole = take_all (length c.as_slice-kept.result.now - c.args.stretch.until) rest
    (let l = length-drop c.args.stretch.until c.as_slice-kept.result.now in omega (arith, l)) in
    let pushed : c.new.result ≡ c.loop-k.styles.items ++ drop c.args.stretch.until c.args.was.now =
    c.new.ensures ∙ (c.in_ok-push_all-2.ensures {u = tt} ∙ (ap (λ (l : List Style). c.loop-k.styles.items ++ l) whole
    ∙ ap (λ (l : List Style). c.loop-k.styles.items ++ drop c.args.stretch.until l) kept)) in
    let all : c.loop-k.k ≡ c.args.stretch.to = (let e = c.requires.kept.ends in omega (arith, c.loop-k-test.false, c.loop-k.auto.k-end, e)) in
    let made = subst (StylesTo (parents_of c.args.nodes.now) (declarations_of c.args.nodes.now) c.loop-k.styles.items) all c.loop-k.invariant in
    subst (HasStyles (parents_of c.args.nodes.now) (declarations_of c.args.nodes.now)) (sym pushed)
    (joined_styles (parents_of c.args.nodes.now) (declarations_of c.args.nodes.now) c.args.was.now c.args.stretch c.requires.tree c.requires.kept c.loop-k.styles.items made)
