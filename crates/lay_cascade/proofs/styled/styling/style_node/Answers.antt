use Rattle.std.proofs.Common.{◌≡◌, ◌∙◌, true, false, ap, arith, rules}
use Rattle.std.proofs.lemmas.Grind.{common_steps}
use Rattle.lay_doc.specs.Document.{Document, is_text_at}
use Rattle.lay_doc.specs.Changes.{changed_at}
use Rattle.lay_cascade.specs.Styled.Cascade.{AreWinners}
use Rattle.lay_cascade.specs.Styled.Taken.{takes}
use Rattle.lay_cascade.proofs.StyledLemmas.Restyling.{cascaded_more, cascaded_text, old_within, old_text}
use Rattle.lay_cascade.proofs.styled.styling.style_node.Goals as goal

pub returns-then-is_text_at-clause-nodes : goal.returns-then-is_text_at-clause-nodes
returns-then-is_text_at-clause-nodes c =
    let text : is_text_at c.args.cascade.named.nodes.now c.args.k ≡ true = first_of (search rules, grind (arith, common_steps)) in
    cascaded_text c.args.cascade.rules.now c.args.cascade.named.nodes.now c.args.cascade.named.names.now c.args.k c.args.doc.now.nodes c.requires.place text c.requires.so_far

pub take_all-requires-clause-place : goal.take_all-requires-clause-place
take_all-requires-clause-place c =
    old_within c.args.cascade.rules.now c.args.cascade.named.nodes.now c.args.cascade.named.names.now c.args.k c.args.k c.args.doc.now.nodes c.requires.so_far c.requires.place

pub take_all-requires-clause-no_text : goal.take_all-requires-clause-no_text
take_all-requires-clause-no_text c =
    let text : is_text_at c.args.cascade.named.nodes.now c.args.k ≡ false = first_of (search rules, grind (arith, common_steps)) in
    old_text c.args.cascade.rules.now c.args.cascade.named.nodes.now c.args.cascade.named.names.now c.args.k c.args.k c.args.doc.now.nodes c.requires.so_far ∙ text

pub returns-clause-nodes : goal.returns-clause-nodes
returns-clause-nodes c =
    let sheet = c.args.cascade.rules.now in
    let nodes = c.args.cascade.named.nodes.now in
    let names = c.args.cascade.named.names.now in
    let old = c.args.doc.now.nodes in
    let winners = c.in_ok-winners.winners.items in
    let are : AreWinners sheet nodes names c.args.k winners = first_of (search rules, grind (arith, common_steps)) in
    let made = c.in_ok-take_all.ensures {u = tt} in
    cascaded_more sheet nodes names c.args.k old c.take_all.new.doc.nodes winners c.requires.place c.requires.so_far are
    (ap (λ (z : Document). z.nodes) made ∙ ap (λ z. changed_at c.args.k (takes z) old) c.as_slice.ensures.value)
