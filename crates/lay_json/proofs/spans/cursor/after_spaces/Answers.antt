use Rattle.std.proofs.Common.{◌≡◌, ◌∷◌, true, sym, ap, ◌∙◌, arith, rules}
use Rattle.json.specs.Word.{is_space}
use Rattle.json.specs.Lex.{between, lex}
use Rattle.lay_json.proofs.SpansLemmas.Steps.{space_passed}
use Rattle.lay_json.proofs.spans.cursor.after_spaces.Goals as goal

pub spaces-preserved : goal.spaces-preserved
spaces-preserved c =
    let first = c.in-Some.first.now in
    let behind = c.in-Some.behind.now in
    let is : c.spaces.rest.now ≡ first ∷ behind = first_of (search rules, grind arith) in
    let passes : is_space first ≡ true = first_of (search rules, grind arith) in
    sym (space_passed first behind passes) ∙ sym (ap (lex between) is) ∙ c.spaces.invariant
