use Rattle.std.proofs.Common.{Err, ap, sym, ◌∙◌}
use Rattle.lay_run.proofs.gathered.walk.root_of.Goals as goal

pub unreachable-requires : goal.unreachable-requires
unreachable-requires c =
    let bad = (c.in-Err-Bad.ensures.bad c.in-Err-Bad.field-0-0).0 (ap Err c.in-Err-Bad.field-0-is) in
    let both = sym bad ∙ c.requires.root in
    absurd cc
