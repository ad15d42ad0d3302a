use Rattle.std.proofs.Common.{◌≡◌, ◌∙◌, ◌+◌, ◌-◌, ◌<◌, ◌++◌, List, sym, ap, subst, arith, append_assoc, append-nil}
use Rattle.lay_doc.specs.declared.node.NodeId.{NodeId}
use Rattle.lay_generator.specs.Nodes.{section_end, section_nodes, sections, sections_end}
use Rattle.lay_generator.specs.Commands.{scripts}
use Rattle.lay_generator.specs.Generated.{generated, ids, with_nodes}
use Rattle.lay_generator.specs.Laws.{AreFaultless}
use Rattle.lay_generator.proofs.Faultless.{faultless_parts}
use Rattle.lay_generator.proofs.Steps.{ids_more, nodes_more, same_run, sections_end_step, sections_step}
use Rattle.lay_generator.proofs.generated.generated_run.Goals as goal

pub push_section-requires-clause-fit : goal.push_section-requires-clause-fit
push_section-requires-clause-fit c =
    let k = c.loop-section.section in
    let n = c.args.size - k in
    let state = c.loop-section.draws in
    let some : 0 < n = omega (arith, c.loop-section-test.true) in
    (faultless_parts c.loop-section.doc (section_nodes k state) (sections (n - 1) (k + 1) (section_end state))
    (subst (AreFaultless c.loop-section.doc) (sections_step n k state some) c.loop-section.invariant.fit)).first

pub loop-section-preserved : goal.loop-section-preserved
loop-section-preserved c =
    let k = c.loop-section.section in
    let n = c.args.size - k in
    let state = c.loop-section.draws in
    let some : 0 < n = omega (arith, c.loop-section-test.true) in
    let fewer : c.args.size - (k + 1) ≡ n - 1 = omega arith in
    let nodes = section_nodes k state in
    let rest = sections (n - 1) (k + 1) (section_end state) in
    let step : sections n k state ≡ nodes ++ rest = sections_step n k state some in
    let pushed = c.in_ok-push_section.ensures in
    let parts = faultless_parts c.loop-section.doc nodes rest (subst (AreFaultless c.loop-section.doc) step c.loop-section.invariant.fit) in
    rw (fewer, pushed.state, pushed.doc, pushed.ids) (record {
      doc = sym (nodes_more c.loop-section.doc nodes rest) ∙ (ap (with_nodes c.loop-section.doc) (sym step) ∙ c.loop-section.invariant.doc);
      listed = append_assoc c.loop-section.listed (ids nodes) (ids rest) ∙ (ap (λ (is : List NodeId). c.loop-section.listed ++ is) (sym (ids_more nodes rest) ∙ ap ids (sym step)) ∙ c.loop-section.invariant.listed);
      order = rw (pushed.doc, pushed.ids) at (pushed.listed c.loop-section.invariant.order);
      fit = parts.rest;
      state = sym (sections_end_step n state some) ∙ c.loop-section.invariant.state;
    })

pub returns : goal.returns
returns c =
    let none : c.args.size - c.loop-section.section ≡ 0 = omega (arith, c.loop-section-test.false) in
    let inv = c.loop-section.invariant in
    let doc : c.loop-section.doc ≡ (generated c.args.size c.args.seed).doc = rw none at inv.doc in
    let listed : c.loop-section.listed ≡ (generated c.args.size c.args.seed).listed = sym (append-nil c.loop-section.listed) ∙ rw none at inv.listed in
    let state : c.loop-section.draws ≡ sections_end c.args.size c.args.seed = rw none at inv.state in
    c.new.ensures ∙ same_run _ _ _ _ _ _ _ _ doc c.in_ok-face.ensures (c.in_ok-scripts.ensures ∙ ap (scripts c.args.size 4 1) state) listed
