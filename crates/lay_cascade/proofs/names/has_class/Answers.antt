use Rattle.std.proofs.Common.{◌<◌, length, arith}
use Rattle.lay_cascade.proofs.names.has_class.Goals as goal

pub returns-then-classes-gt-FEW : goal.returns-then-classes-gt-FEW
returns-then-classes-gt-FEW c =
    let many : 16 < length c.args.classes.now = omega (arith, c.if-classes-gt-FEW.true) in
    c.has.ensures c.args.classes.now (c.requires many)
