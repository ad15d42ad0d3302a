use Rattle.std.proofs.Common.{◌+◌, ◌≤◌, ◌∷◌, get_or, take, drop, sym, ap, ◌∙◌, subst, arith}
use Rattle.std.proofs.lemmas.List.{drop_more, take_more}
use Rattle.json.specs.Lex.{class, between}
use Rattle.lay_json.specs.Spans.Modes.{behind_byte, behind}
use Rattle.lay_json.specs.Spans.Readings.{EndsValue}
use Rattle.lay_json.proofs.SpansLemmas.Steps.{behind_more, ends_at_comma, ends_at}
use Rattle.lay_json.proofs.spans.span.span_of.Goals as goal
use Rattle.lay_json.proofs.spans.span.span_of.Goals.{then-is_closed+in-123, then-is_closed+in-125+else-depth-eq0, then-is_closed+in-44+then-depth-eq0-2+else-count-most+else-at-ge-MANY_BYTES, then-is_closed+in-44+else-depth-eq0-2, then-is_closed+in_default, else-is_closed}

pub returns-then-depth-eq0-clause-ends : goal.returns-then-depth-eq0-clause-ends
returns-then-depth-eq0-clause-ends c =
    let text = c.args.text.now in
    let k = c.loop-byte.byte-index in
    let next = ap (λ n. drop n text) c.loop-byte.invariant.at ∙ drop_more text k 0 c.loop-byte-test.true in
    subst EndsValue (sym next) (ends_at (get_or text k 0) (drop (k + 1) text) c.in-125.is)

pub returns-then-count-most-clause-ends : goal.returns-then-count-most-clause-ends
returns-then-count-most-clause-ends c =
    let text = c.args.text.now in
    let k = c.loop-byte.byte-index in
    let next = ap (λ n. drop n text) c.loop-byte.invariant.at ∙ drop_more text k 0 c.loop-byte-test.true ∙ ap (λ x. x ∷ drop (k + 1) text) c.in-44.is in
    subst EndsValue (sym next) (ends_at_comma (drop (k + 1) text))

pub loop-byte-preserved : goal.loop-byte-preserved
loop-byte-preserved c =
    let text = c.args.text.now in
    let k = c.loop-byte.byte-index in
    let x = get_or text k 0 in
    let deep : c.if-is_closed.depth ≤ k + 1 = elim c.if-is_closed.branch [
      | then-is_closed+in-123 w ↦ omega (arith, w.depth-is, c.loop-byte.invariant.depth)
      | then-is_closed+in-125+else-depth-eq0 w ↦ omega (arith, w.depth-is, c.loop-byte.invariant.depth)
      | then-is_closed+in-44+then-depth-eq0-2+else-count-most+else-at-ge-MANY_BYTES w ↦ omega (arith, w.depth-is, c.loop-byte.invariant.depth)
      | then-is_closed+in-44+else-depth-eq0-2 w ↦ omega (arith, w.depth-is, c.loop-byte.invariant.depth)
      | then-is_closed+in_default w ↦ omega (arith, w.depth-is, c.loop-byte.invariant.depth)
      | else-is_closed w ↦ omega (arith, w.depth-is, c.loop-byte.invariant.depth)
    ] in
    let many : c.if-is_closed.count ≤ k + 1 + 1 = elim c.if-is_closed.branch [
      | then-is_closed+in-123 w ↦ omega (arith, w.count-is, c.loop-byte.invariant.count)
      | then-is_closed+in-125+else-depth-eq0 w ↦ omega (arith, w.count-is, c.loop-byte.invariant.count)
      | then-is_closed+in-44+then-depth-eq0-2+else-count-most+else-at-ge-MANY_BYTES w ↦ omega (arith, w.count-is, c.loop-byte.invariant.count)
      | then-is_closed+in-44+else-depth-eq0-2 w ↦ omega (arith, w.count-is, c.loop-byte.invariant.count)
      | then-is_closed+in_default w ↦ omega (arith, w.count-is, c.loop-byte.invariant.count)
      | else-is_closed w ↦ omega (arith, w.count-is, c.loop-byte.invariant.count)
    ] in
    record {
      at = ap (λ n. n + 1) c.loop-byte.invariant.at;
      mode = c.behind-mode.ensures ∙ ap (λ m. behind_byte m (class x)) c.loop-byte.invariant.mode ∙ sym (behind_more between (take k text) x)
          ∙ sym (ap (behind between) (take_more text k 0 c.loop-byte-test.true));
      depth = deep;
      count = many;
    }
