use Rattle.std.proofs.Common.{Some}
use Rattle.lay_cli.proofs.Endings.{ends_failed}
use Rattle.lay_cli.proofs.drive.generate.Goals as goal

pub returns-in-Err-write_all-clause-ends : goal.returns-in-Err-write_all-clause-ends
returns-in-Err-write_all-clause-ends g c =
    let e = c.in-Err-write_all.ensures {u = tt} in
    let front = rw (c.as_bytes.ensures.value, c.as_str.ensures) at e.front in
    rw c.requires.kept (ends_failed _ _ _ _ (Some c.in-Ok.core) c.in-Ok.text (c.in-Ok.ensures {u = tt}) front e.failed)
