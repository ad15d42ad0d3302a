use Rattle.std.proofs.Common.{◌≡◌, length, arith, rules}
use Rattle.lay_json.proofs.SpansLemmas.Steps.{nothing, at_end}
use Rattle.lay_json.proofs.spans.cursor.Cursor.is_at_end.Goals as goal

pub returns : goal.returns
returns c = λ ends.
    let zero : length c.self.inside.rest.now ≡ 0 = first_of (search rules, grind arith) in
    let over = at_end c.self.inside.place c.self.inside.rest.now c.in_default.not-AfterComma (nothing c.self.inside.rest.now zero) in
    grind (arith, over)
