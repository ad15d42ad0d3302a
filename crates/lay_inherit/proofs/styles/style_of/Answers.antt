use Rattle.std.proofs.Common.{ap, sym, ◌∙◌, arith}
use Rattle.lay_style.specs.ComputedStyle.{style_at, parent_style, declarations_at}
use Rattle.lay_doc.specs.Document.{parents_of, declarations_of}
use Rattle.lay_inherit.proofs.StyleSteps.{inner, outer, same_style}
use Rattle.lay_inherit.proofs.styles.style_of.Goals as goal

pub returns-then-k-eq0 : goal.returns-then-k-eq0
returns-then-k-eq0 c =
    let parents = parents_of c.args.nodes.now in
    same_style c.initial_style.result.now (parent_style parents c.args.styles.now c.args.k) c.decls_at.result.now (declarations_at (declarations_of c.args.nodes.now) c.args.k) c.computed_style.result
    c.computed_style.ensures (c.initial_style.ensures ∙ sym (outer parents c.args.styles.now c.args.k (omega arith))) c.decls_at.ensures

pub returns : goal.returns
returns c =
    let parents = parents_of c.args.nodes.now in
    same_style c.style_at.result.now (parent_style parents c.args.styles.now c.args.k) c.decls_at-2.result.now (declarations_at (declarations_of c.args.nodes.now) c.args.k) c.computed_style-2.result
    c.computed_style-2.ensures (c.style_at.ensures ∙ ap (style_at c.args.styles.now) c.parent_at-parent.ensures ∙ sym (inner parents c.args.styles.now c.args.k (omega arith))) c.decls_at-2.ensures
