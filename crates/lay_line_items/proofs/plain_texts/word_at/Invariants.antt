use Rattle.std.proofs.Common.{◌≡◌, Bool, false, None, Some, drop}
use Rattle.lay_space.specs.CleanTexts.{IsClean}
use Rattle.lay_line_items.proofs.PlainWords.{WithinLetters, gathered_from}
use Rattle.lay_line_items.proofs.plain_texts.word_at.Given as goal

abbrev pub invariant-loop-to : goal.invariant-loop-to
invariant-loop-to l =
    (gathered_from l.face l.setting l.text None l.from ≡ gathered_from l.face l.setting l.text (Some (record { place = l.from; width = l.width })) l.to)
    × ((before : Bool) → IsClean false (drop l.to l.text) → IsClean before (drop l.from l.text)) × WithinLetters l.to l.width.0
