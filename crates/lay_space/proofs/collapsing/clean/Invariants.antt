use Rattle.std.proofs.Common.{◌≡◌, drop}
use Rattle.lay_space.specs.WhiteSpace.{ends_in_space}
use Rattle.lay_space.specs.CleanTexts.{IsClean}
use Rattle.lay_space.proofs.collapsing.clean.Given as goal

abbrev pub invariant-loop-k : goal.invariant-loop-k
invariant-loop-k l = (IsClean l.space (drop l.k l.text) → IsClean l.after_space l.text) × (ends_in_space l.space (drop l.k l.text) ≡ ends_in_space l.after_space l.text)
