use Rattle.std.proofs.Common.{◌≡◌, ◌<◌, ℕ}
use Rattle.lay_cascade.specs.Words.{is_in, spread}
use Rattle.lay_cascade.proofs.words.spread.Given as goal

abbrev pub invariant-loop-turn : goal.invariant-loop-turn
invariant-loop-turn l = (j : ℕ) → j < l._turn → j < 64 → is_in l.word j ≡ spread l.start l.run j
