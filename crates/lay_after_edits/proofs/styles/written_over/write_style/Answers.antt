use Rattle.std.proofs.Common.{◌≡◌, ◌∙◌, List, ap, arith, length, slice_set}
use Rattle.lay_style.specs.declared.style.Style.{Style}
use Rattle.lay_style.specs.ComputedStyle.{computed_style, declarations_at, parent_style}
use Rattle.lay_doc.specs.Document.{declarations_of, parents_of}
use Rattle.lay_after_edits.proofs.styles.written_over.write_style.Goals as goal

pub style_of-style-requires-clause-there : goal.style_of-style-requires-clause-there
style_of-style-requires-clause-there c = let count = ap length c.deref.ensures.value in omega (arith, count, c.requires.there)

pub returns : goal.returns
returns c =
    let parents = parents_of c.args.nodes.now in
    let decls = declarations_of c.args.nodes.now in
    let k = c.args.k in
    let styles = c.args.styles.now.items in
    let is : c.style_of-style.result ≡ computed_style (parent_style parents styles k) (declarations_at decls k) =
    c.style_of-style.ensures ∙ ap (λ (xs : List Style). computed_style (parent_style parents xs k) (declarations_at decls k)) c.deref.ensures.value in
    ap (slice_set styles k) is
