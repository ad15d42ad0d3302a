use Rattle.std.proofs.Common.{◌≤◌, length, All}
use Rattle.lay_units.specs.declared.length.Unit.{Unit}
use Rattle.lay_box_cases.specs.Small.{IsSmall}
use Rattle.lay_box_cases.proofs.lengths.lengths.Given as goal

abbrev pub invariant-loop-word : goal.invariant-loop-word
invariant-loop-word l = record { few : length l.lengths.items ≤ 255; small : All (λ (u : Unit). IsSmall u.0) l.lengths.items }
