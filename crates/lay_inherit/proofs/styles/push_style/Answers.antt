use Rattle.std.proofs.Common.{◌≡◌, ◌<◌, length, ap, ◌∙◌, arith, List}
use Rattle.std.proofs.lemmas.List.{length-map}
use Rattle.lay_style.specs.declared.style.Style.{Style}
use Rattle.lay_style.specs.ComputedStyle.{computed_style, parent_style, declarations_at}
use Rattle.lay_doc.specs.declared.node.Node.{Node}
use Rattle.lay_doc.specs.Document.{parents_of, declarations_of}
use Rattle.lay_inherit.proofs.StyleSteps.{one_more}
use Rattle.lay_inherit.proofs.styles.push_style.Goals as goal

pub returns : goal.returns
returns c =
    let pushed = c.in_ok-push.ensures {u = tt} in
    let parents = parents_of c.args.nodes.now in
    let decls = declarations_of c.args.nodes.now in
    let is : c.style_of-style.result ≡ computed_style (parent_style parents c.args.styles.now.items c.args.k) (declarations_at decls c.args.k) =
    c.style_of-style.ensures ∙ ap (λ (xs : List Style). computed_style (parent_style parents xs c.args.k) (declarations_at decls c.args.k)) c.deref.ensures.value in
    let within : c.args.k < length parents = omega (arith, length-map c.args.nodes.now (λ (n : Node). n.parent), c.requires.place) in
    rw pushed (one_more parents decls c.args.styles.now.items c.args.k c.style_of-style.result c.requires.tree within c.requires.known is)
