use Rattle.std.proofs.Common.{◌≡◌, ◌+◌, ◌∷◌, Some, false, nat_lt, get_or, take, drop, sym, ap, ◌∙◌, append-nil, arith, rules}
use Rattle.std.proofs.lemmas.Bool.{ne_eqb}
use Rattle.std.proofs.lemmas.List.{drop_more, take_more}
use Rattle.json.specs.Text.{content, plain, prepend}
use Rattle.json.specs.Lex.{in_string, lex}
use Rattle.lay_json.proofs.SpansLemmas.Steps.{plain_read, plain_passed, quote_read, quote_passed}
use Rattle.lay_json.proofs.spans.cursor.plain_text.Goals as goal

pub returns-then-byte-eq34-clause-content : goal.returns-then-byte-eq34-clause-content
returns-then-byte-eq34-clause-content c =
    let text = c.args.text.now in
    let k = c.loop-byte.byte-index in
    let rest = c.in_ok-after.field-0.now in
    let at : drop k text ≡ 34 ∷ rest = ap (λ n. drop n text) (sym c.loop-byte.invariant.at) ∙ sym c.split_at.ensures.back ∙ c.in_ok-after.ensures in
    let front : take k text ≡ c.split_at.result.0.now = ap (λ n. take n text) (sym c.loop-byte.invariant.at) ∙ sym c.split_at.ensures.front in
    c.loop-byte.invariant.content ∙ ap (λ xs. prepend (take k text) (content plain xs)) at ∙ quote_read (take k text) rest ∙ ap Some (append-nil (take k text) ∙ front)

pub returns-then-byte-eq34-clause-rest : goal.returns-then-byte-eq34-clause-rest
returns-then-byte-eq34-clause-rest c =
    let text = c.args.text.now in
    let k = c.loop-byte.byte-index in
    let rest = c.in_ok-after.field-0.now in
    let at : drop k text ≡ 34 ∷ rest = ap (λ n. drop n text) (sym c.loop-byte.invariant.at) ∙ sym c.split_at.ensures.back ∙ c.in_ok-after.ensures in
    c.loop-byte.invariant.passed ∙ ap (lex in_string) at ∙ quote_passed rest

pub loop-byte-preserved : goal.loop-byte-preserved
loop-byte-preserved c =
    let text = c.args.text.now in
    let k = c.loop-byte.byte-index in
    let x = get_or text k 0 in
    let next = drop_more text k 0 c.loop-byte-test.true in
    let q = ne_eqb x 34 c.if-byte-eq34.false in
    let b = ne_eqb x 92 c.if-byte-eq92.false in
    let low : nat_lt x 32 ≡ false = first_of (search rules, grind arith) in
    record {
      at = ap (λ n. n + 1) c.loop-byte.invariant.at;
      content = c.loop-byte.invariant.content ∙ ap (λ xs. prepend (take k text) (content plain xs)) next ∙ plain_read (take k text) x (drop (k + 1) text) q b low
          ∙ ap (λ front. prepend front (content plain (drop (k + 1) text))) (sym (take_more text k 0 c.loop-byte-test.true));
      passed = c.loop-byte.invariant.passed ∙ ap (lex in_string) next ∙ plain_passed x (drop (k + 1) text) q b;
    }
