use Rattle.std.proofs.Common.{List, Option, length}
use Rattle.lay_sheet.specs.declared.selector.Step.{Step}
use Rattle.lay_sheet.specs.declared.selector.Joint.TheVariants.{Descendant}
use Rattle.lay_sheet.specs.Lists.{continued}
use Rattle.lay_sheet.specs.SelectorTexts.{AreSteps}
use Rattle.lay_sheet.proofs.selector_text.steps_of.Given as goal

abbrev pub invariant-loop-steps : goal.invariant-loop-steps
invariant-loop-steps l =
    (found : Option (List Step)) → AreSteps l.joint l.rest found → AreSteps Descendant l.text (continued l.steps.items found)

abbrev pub decreases-loop-steps : goal.decreases-loop-steps
decreases-loop-steps l = length l.rest
