use Rattle.std.proofs.Common.{◌≡◌, ◌≤◌, ◌+◌, ◌*◌, ◌^◌, drop}
use Rattle.lay_words.specs.Grammar.{value_from}
use Rattle.lay_words.proofs.number.value.Given as goal

abbrev pub invariant-loop-digit : goal.invariant-loop-digit
invariant-loop-digit l = (value_from 0 l.digits ≡ value_from l.n (drop l.digit-index l.digits)) × (l.n + 23 ≤ 23 * 10 ^ l.digit-index)
