use Rattle.std.proofs.Common.{◌≤◌, All}
use Rattle.lay_face.specs.declared.pairs.AdvancePair.{AdvancePair as Pair}
use Rattle.lay_doc_cases.proofs.faces.pairs_of.Given as goal

abbrev pub invariant-loop-word : goal.invariant-loop-word
invariant-loop-word l =
    (goal.iterator-loop-word).can_next l.word-iterator × (goal.iterator-loop-word).is_finite l.word-iterator
    × All (λ (p : Pair). p.advance ≤ 10000) l.pairs.items
