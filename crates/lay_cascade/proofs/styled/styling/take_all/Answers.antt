use Rattle.std.proofs.Common.{◌∙◌, ◌<◌, ◌≤◌, ◌∷◌, [], length, ap, arith, rules}
use Rattle.std.proofs.lemmas.Grind.{common_steps}
use Rattle.lay_doc.specs.Document.{Document, is_text_at}
use Rattle.lay_doc.specs.Changes.{changed_at}
use Rattle.lay_cascade.specs.Styled.Taken.{takes}
use Rattle.lay_cascade.proofs.StyledLemmas.Restyling.{takes_next, takes_end, length_taken, text_taken, with_nodes}
use Rattle.lay_cascade.proofs.styled.styling.take_all.Goals as goal

pub loop-i-preserved : goal.loop-i-preserved
loop-i-preserved c =
    let winners = c.args.winners.now in
    let k = c.args.k in
    let now = c.loop-i.doc.nodes in
    let w = c.winner_at.result in
    let here : c.loop-i.i < length winners = first_of (search rules, grind (arith, common_steps)) in
    let made = c.in_ok-take_winner.ensures {u = tt} in
    record {
      width = ap (λ (z : Document). z.width) made ∙ c.loop-i.invariant.width;
      height = ap (λ (z : Document). z.height) made ∙ c.loop-i.invariant.height;
      count = ap (λ (z : Document). length z.nodes) made ∙ length_taken (w ∷ []) k now ∙ c.loop-i.invariant.count;
      no_text = ap (λ (z : Document). is_text_at z.nodes k) made ∙ text_taken (w ∷ []) k now k ∙ c.loop-i.invariant.no_text;
      goes_on = takes_next winners c.loop-i.i k w now c.take_winner.new.doc.nodes (changed_at k (takes winners) c.args.doc.now.nodes) here c.winner_at.ensures (ap (λ (z : Document). z.nodes) made) c.loop-i.invariant.goes_on;
    }

pub returns : goal.returns
returns c =
    let winners = c.args.winners.now in
    let k = c.args.k in
    let all : length winners ≤ c.loop-i.i = first_of (omega (arith, c.loop-i-test.false, c.loop-i.auto.i-end), search rules, grind (arith, common_steps)) in
    let wanted = changed_at k (takes winners) c.args.doc.now.nodes in
    with_nodes c.loop-i.doc c.args.doc.now wanted c.loop-i.invariant.width c.loop-i.invariant.height (takes_end winners c.loop-i.i k c.loop-i.doc.nodes wanted all c.loop-i.invariant.goes_on)
