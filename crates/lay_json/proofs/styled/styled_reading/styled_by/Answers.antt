use Rattle.std.proofs.Common.{◌<◌, ◌≤◌, refl, arith, rules}
use Rattle.std.proofs.lemmas.Grind.{common_steps}
use Rattle.lay_sheet.specs.Sheets.{IsSheet, selector_count}
use Rattle.lay_json.specs.Styled.StyledReading.{IsStyledRun, too_many, by_sheet}
use Rattle.lay_json.proofs.StyledLemmas.Naming.{counted_more, counted_few}
use Rattle.lay_json.proofs.styled.styled_reading.styled_by.Goals as goal

pub returns-then-selectors-gt-MOST_SELECTORS : goal.returns-then-selectors-gt-MOST_SELECTORS
returns-then-selectors-gt-MOST_SELECTORS c = λ named.
    let more : 4096 < c.selectors.result = omega (arith, c.if-selectors-gt-MOST_SELECTORS.true) in
    let sheet : IsSheet c.args.text.now c.in_ok-sheet.sheet = first_of (search rules, grind (arith, common_steps)) in
    too_many c.in_ok-sheet.sheet sheet (counted_more (selector_count c.in_ok-sheet.sheet) c.selectors.result c.selectors.ensures more) refl

pub returns : goal.returns
returns c = λ named.
    let few : c.selectors.result ≤ 4096 = omega (arith, c.if-selectors-gt-MOST_SELECTORS.false) in
    let sheet : IsSheet c.args.text.now c.in_ok-sheet.sheet = first_of (search rules, grind (arith, common_steps)) in
    let styled : IsStyledRun c.args.run c.in_ok-sheet.sheet c.args.names c.in_ok-styled_run.field-0 = first_of (search rules, grind (arith, common_steps)) in
    by_sheet c.in_ok-sheet.sheet c.in_ok-styled_run.field-0 sheet (counted_few (selector_count c.in_ok-sheet.sheet) c.selectors.result c.selectors.ensures few) styled refl
