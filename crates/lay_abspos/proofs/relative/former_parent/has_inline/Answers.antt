use Rattle.std.proofs.Common.{◌≡◌, arith, inl, inr, rules}
use Rattle.std.proofs.lemmas.Bool.{cases_lt}
use Rattle.lay_abspos.proofs.relative.former_parent.has_inline.Goals as goal

pub loop-k-preserved : goal.loop-k-preserved
loop-k-preserved c j lt = elim (cases_lt j c.loop-k.k) [
  | inl low ↦ c.loop-k.invariant j low
  | inr high ↦ (let q : j ≡ c.loop-k.k = omega (arith, lt, high) in rw q (search rules))
]
