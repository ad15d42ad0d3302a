use Rattle.std.proofs.Common.{◌≡◌, ◌++◌, ◌≤◌, ◌-◌, false, length, drop, None}
use Rattle.lay_face.specs.PlainTexts.{plain_widths}
use Rattle.lay_space.specs.CleanTexts.{IsClean}
use Rattle.lay_line_items.specs.GatheredWidths.{gathered}
use Rattle.lay_line_items.proofs.PlainWords.{gathered_from}
use Rattle.lay_line_items.proofs.plain_texts.clean_gathered.Given as goal

abbrev pub invariant-loop-from : goal.invariant-loop-from
invariant-loop-from l =
    (l.out.items ++ gathered_from l.face l.setting l.text None l.from ≡ gathered l.text (plain_widths l.face l.setting 0 l.text)) × (l.from ≤ length l.text)
    × (IsClean l.after_space (drop l.from l.text) → IsClean false l.text)

abbrev pub decreases-loop-from : goal.decreases-loop-from
decreases-loop-from l = length l.text - l.from
