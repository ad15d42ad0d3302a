use Rattle.std.proofs.Common.{◌≡◌, arith, inl, inr, rules}
use Rattle.std.proofs.lemmas.Bool.{cases_lt}
use Rattle.lay_placement.proofs.corners.has_atomics.Goals as goal

pub loop-j-preserved : goal.loop-j-preserved
loop-j-preserved c i lt = elim (cases_lt i c.loop-j.j) [
  | inl low ↦ c.loop-j.invariant i low
  | inr high ↦ (let q : i ≡ c.loop-j.j = omega (arith, lt, high) in rw q (search rules))
]
