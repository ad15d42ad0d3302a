use Rattle.std.proofs.Common.{vec_len}
use Rattle.lay_abspos.specs.Relative.OpenParts.{AreOpen}
use Rattle.lay_abspos.proofs.relative.former_parent.former_parent.Given as goal

abbrev pub invariant-loop-parts : goal.invariant-loop-parts
invariant-loop-parts l = AreOpen l.boxes l.k l.parts.items

abbrev pub decreases-loop-parts : goal.decreases-loop-parts
decreases-loop-parts l = vec_len l.parts
