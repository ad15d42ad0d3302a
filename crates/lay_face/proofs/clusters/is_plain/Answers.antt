use Rattle.std.proofs.Common.{arith}
use Rattle.std.proofs.lemmas.Bool.{false≢true}
use Rattle.lay_face.proofs.PlainTexts.{plain_at}
use Rattle.lay_face.proofs.clusters.is_plain.Goals as goal
use Rattle.lay_face.proofs.clusters.is_plain.Goals.{then-text-k-gt127-via-then-text-k-gt127, then-text-k-gt127-via-else-text-k-gt127+then-text-k-eq13}

pub returns-then-text-k-gt127 : goal.returns-then-text-k-gt127
returns-then-text-k-gt127 c = (
  λ t. absurd (false≢true t),
  λ plain.
      let at = plain_at c.args.text.now c.loop-k.k 0 (omega (arith, c.loop-k-test.true, c.loop-k.auto.k-end)) plain in
      let below = at.0 in
      elim c.then-text-k-gt127.branch [
        | then-text-k-gt127-via-then-text-k-gt127 w ↦ (let is = w.if-text-k-gt127 in absurd (omega (arith, is, below)))
        | then-text-k-gt127-via-else-text-k-gt127+then-text-k-eq13 w ↦ (let is = w.if-text-k-eq13 in absurd (at.1 (grind (arith, is))))
      ],
)
