use Rattle.std.proofs.Common.{refl}
use Rattle.lay_cli.proofs.HitEndings.{ends_line}
use Rattle.lay_cli.proofs.checking.judged.Goals as goal

pub returns-in-Ok-clause-ends : goal.returns-in-Ok-clause-ends
returns-in-Ok-clause-ends g c =
    let told = rw c.as_str.ensures at c.told.ensures.told in
    let front = rw c.as_str.ensures at (c.told.ensures.front (λ w. cc)) in
    ends_line _ _ _ _ c.in-Ok.line c.told.result (refl, c.in-Ok.ensures {u = tt}) told (c.told.ensures.failed (λ w. cc)) front c.told.ensures.either
