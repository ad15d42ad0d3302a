use Rattle.std.proofs.Common.{◌≡◌, ◌∙◌, ◌+◌, ◌*◌, ◌++◌, ◌∷◌, [], ℕ, refl, ap}
use Rattle.std.proofs.lemmas.Result.{IfOk-weaker}
use Rattle.lay_doc.specs.declared.node.NodeId.{NodeId}
use Rattle.lay_doc.specs.NewNodes.{NewNodeValue}
use Rattle.lay_generator.specs.Nodes.{container, float_node, id, more_count, section_nodes, text}
use Rattle.lay_generator.specs.Draws.{state_after, next}
use Rattle.lay_generator.specs.Generated.{with_node, with_nodes}
use Rattle.lay_generator.proofs.Faultless.{fits_as_well, second_fits, third_fits, fourth_fits, section_put}
use Rattle.lay_generator.proofs.Steps.{four_more}
use Rattle.lay_generator.proofs.generated.push_section.Goals as goal

-- each node is as it should be, and so is the document with those before
pub put-requires : goal.put-requires
put-requires c = fits_as_well c.args.doc.now c.args.doc.now 1 c.in_ok-context.context (container c.args.section c.args.draws.now) refl c.in_ok-context.ensures.node c.requires.fit.0

pub put-requires-2 : goal.put-requires-2
put-requires-2 c =
    let is-float = c.in_ok-float.ensures.node ∙ ap (float_node c.args.section) c.in_ok-context.ensures.state in
    second_fits c.args.section c.args.draws.now c.args.doc.now c.put.new.doc c.in_ok-context.context c.in_ok-float.float c.requires.fit c.in_ok-context.ensures.node is-float
    c.in_ok-put.ensures.doc

pub put-requires-3 : goal.put-requires-3
put-requires-3 c =
    let is-float = c.in_ok-float.ensures.node ∙ ap (float_node c.args.section) c.in_ok-context.ensures.state in
    third_fits c.args.section c.args.draws.now c.args.doc.now c.put.new.doc c.put-2.new.doc c.in_ok-context.context c.in_ok-float.float c.in_ok-block.field-0 c.requires.fit
    c.in_ok-context.ensures.node is-float c.in_ok-block.ensures c.in_ok-put.ensures.doc c.in_ok-put-2.ensures.doc

pub put-requires-4 : goal.put-requires-4
put-requires-4 c =
    let is-float = c.in_ok-float.ensures.node ∙ ap (float_node c.args.section) c.in_ok-context.ensures.state in
    let four : c.float_box.new.draws ≡ state_after 4 c.args.draws.now = c.in_ok-float.ensures.state ∙ ap (state_after 3) c.in_ok-context.ensures.state in
    let is-text = c.in_ok-text.ensures.node ∙ ap (text c.args.section) four in
    fourth_fits c.args.section c.args.draws.now c.args.doc.now c.put.new.doc c.put-2.new.doc c.put-3.new.doc c.in_ok-context.context c.in_ok-float.float c.in_ok-block.field-0 c.in_ok-text.text
    c.requires.fit c.in_ok-context.ensures.node is-float c.in_ok-block.ensures is-text c.in_ok-put.ensures.doc c.in_ok-put-2.ensures.doc c.in_ok-put-3.ensures.doc

pub returns-clause-doc : goal.returns-clause-doc
returns-clause-doc c =
    let is-float = c.in_ok-float.ensures.node ∙ ap (float_node c.args.section) c.in_ok-context.ensures.state in
    let four : c.float_box.new.draws ≡ state_after 4 c.args.draws.now = c.in_ok-float.ensures.state ∙ ap (state_after 3) c.in_ok-context.ensures.state in
    let is-text = c.in_ok-text.ensures.node ∙ ap (text c.args.section) four in
    IfOk-weaker c.put-4.result (λ x. c.put-4.new.doc ≡ with_node c.put-3.new.doc (id (4 + 4 * c.args.section), c.in_ok-text.text))
    (λ x. c.put-4.new.doc ≡ with_nodes c.args.doc.now (section_nodes c.args.section c.args.draws.now))
    (λ x last. section_put c.args.section c.args.draws.now c.args.doc.now c.put.new.doc c.put-2.new.doc c.put-3.new.doc c.put-4.new.doc
    c.in_ok-context.context c.in_ok-float.float c.in_ok-block.field-0 c.in_ok-text.text c.in_ok-context.ensures.node is-float c.in_ok-block.ensures is-text
    c.in_ok-put.ensures.doc c.in_ok-put-2.ensures.doc c.in_ok-put-3.ensures.doc last) c.put-4.ensures.doc

pub returns-clause-ids : goal.returns-clause-ids
returns-clause-ids c =
    let a : c.in_ok-context.context.id ≡ id (2 + 4 * c.args.section) = ap (λ (n : NewNodeValue). n.id) c.in_ok-context.ensures.node in
    let b : c.in_ok-float.float.id ≡ id (3 + 4 * c.args.section) = ap (λ (n : NewNodeValue). n.id) c.in_ok-float.ensures.node in
    let d : c.in_ok-block.field-0.id ≡ id (4 + 4 * c.args.section) = ap (λ (n : NewNodeValue). n.id) c.in_ok-block.ensures in
    let e : c.in_ok-text.text.id ≡ id (5 + 4 * c.args.section) = ap (λ (n : NewNodeValue). n.id) c.in_ok-text.ensures.node in
    IfOk-weaker c.put-4.result _ _ (λ x last.
    four_more c.args.listed.now c.put.new.listed c.put-2.new.listed c.put-3.new.listed c.put-4.new.listed _ _ _ _
    (c.in_ok-put.ensures.ids ∙ ap (λ (i : NodeId). c.args.listed.now ++ i ∷ []) a) (c.in_ok-put-2.ensures.ids ∙ ap (λ (i : NodeId). c.put.new.listed ++ i ∷ []) b)
    (c.in_ok-put-3.ensures.ids ∙ ap (λ (i : NodeId). c.put-2.new.listed ++ i ∷ []) d) (last ∙ ap (λ (i : NodeId). c.put-3.new.listed ++ i ∷ []) e)) c.put-4.ensures.ids

pub returns-clause-listed : goal.returns-clause-listed
returns-clause-listed c = IfOk-weaker c.put-4.result _ _ (λ x last. λ is. last (c.in_ok-put-3.ensures.listed (c.in_ok-put-2.ensures.listed (c.in_ok-put.ensures.listed is)))) c.put-4.ensures.listed

pub returns-clause-state : goal.returns-clause-state
returns-clause-state c =
    let four : c.float_box.new.draws ≡ state_after 4 c.args.draws.now = c.in_ok-float.ensures.state ∙ ap (state_after 3) c.in_ok-context.ensures.state in
    IfOk-weaker c.put-4.result _ _ (λ x last. c.in_ok-text.ensures.state ∙ ap (λ (s : ℕ). state_after (1 + more_count s) (next s)) four) c.put-4.ensures.ids
