use Rattle.std.proofs.Common.{rules, ◌≡◌, ◌∙◌, ◌<◌, ◌++◌, ◌∷◌, [], ap, arith, length}
use Rattle.lay_style.specs.ComputedStyle.{computed_style, declarations_at, parent_style, style_at}
use Rattle.lay_doc.specs.Document.{declarations_of, parents_of}
use Rattle.lay_after_edits.proofs.Cited.{length-parents, one_more}
use Rattle.lay_after_edits.proofs.contexts.restyled.push_styled.Goals as goal

pub returns-clause-styles : goal.returns-clause-styles
returns-clause-styles c =
    let nodes = c.args.nodes.now in
    let parents = parents_of nodes in
    let decls = declarations_of nodes in
    let styles = c.args.styles.now.items in
    let n = length styles in
    let k : c.len-k.result ≡ n = search rules in
    let pushed : c.push.new.styles.items ≡ styles ++ c.style_at.result.now ∷ [] = c.in_ok-push.ensures {u = tt} in
    let read : c.style_at.result.now ≡ style_at c.args.was.now n = c.style_at.ensures ∙ ap (style_at c.args.was.now) k in
    let is : c.style_at.result.now ≡ computed_style (parent_style parents styles n) (declarations_at decls n) = read ∙ c.requires.kept c.if-is_made.false in
    let within : n < length parents = omega (arith, length-parents nodes, c.requires.here) in
    rw pushed (one_more parents decls styles n c.style_at.result.now c.requires.tree within c.requires.known is)
