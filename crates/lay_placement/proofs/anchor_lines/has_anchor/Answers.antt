use Rattle.std.proofs.Common.{◌≡◌, ◌∙◌, arith, inl, inr, sym}
use Rattle.std.proofs.lemmas.Bool.{cases_lt}
use Rattle.lay_placement.proofs.AnchorKinds.{no_anchor}
use Rattle.lay_placement.proofs.anchor_lines.has_anchor.Goals as goal

pub loop-k-preserved : goal.loop-k-preserved
loop-k-preserved c j lt = elim (cases_lt j c.loop-k.k) [
  | inl low ↦ c.loop-k.invariant j low
  | inr high ↦ (let q : j ≡ c.loop-k.k = omega (arith, lt, high) in rw q (no_anchor c.args.boxes.now c.loop-k.k _ c.loop-k-test.true (sym c.is_anchor_kind.ensures ∙ c.if-is_anchor_kind.false)))
]
