use Rattle.std.proofs.Common.{◌≡◌, ◌∙◌, ap, arith, rules}
use Rattle.std.specs.Prelude.{slice_index}
use Rattle.std.proofs.lemmas.Grind.{common_steps}
use Rattle.lay_doc.specs.Document.{ids_of}
use Rattle.lay_doc.specs.Changes.{with_style, after_change}
use Rattle.lay_cascade.proofs.StyledLemmas.Restyling.{no_fault, changes_here}
use Rattle.lay_cascade.proofs.styled.styling.set_at.Goals as goal

pub apply-requires : goal.apply-requires
apply-requires c =
    let is = c.id_at-node.ensures ∙ ap (λ z. slice_index (ids_of z) c.args.k) c.nodes.ensures.nodes in
    no_fault c.args.doc.now c.args.k c.id_at-node.result.0 c.nodes.ensures.valid c.requires.place is c.requires.no_text

pub returns : goal.returns
returns c =
    let is = c.id_at-node.ensures ∙ ap (λ z. slice_index (ids_of z) c.args.k) c.nodes.ensures.nodes in
    let made : c.apply.new.self ≡ after_change c.args.doc.now c.id_at-node.result.0 (with_style c.args.decl) = first_of (search rules, grind (arith, common_steps)) in
    made ∙ changes_here c.args.doc.now c.args.k c.id_at-node.result.0 c.nodes.ensures.valid c.requires.place is (with_style c.args.decl)
