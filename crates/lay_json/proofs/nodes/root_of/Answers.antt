use Rattle.std.proofs.Common.{Err, ap, arith}
use Rattle.std.proofs.lemmas.Grind.{common_steps}
use Rattle.lay_json.proofs.nodes.root_of.Goals as goal

pub returns-in-Err-Bad : goal.returns-in-Err-Bad
returns-in-Err-Bad c = λ named.
    let bad = (c.in-Err-Bad.ensures.bad c.in-Err-Bad.fault).0 (ap Err c.in-Err-Bad.field-0-is) in
    grind (arith, common_steps, bad)
