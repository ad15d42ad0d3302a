use Rattle.std.proofs.Common.{List, Option, length}
use Rattle.lay_sheet.specs.declared.selector.Step.{Step}
use Rattle.lay_sheet.specs.Lists.{continued}
use Rattle.lay_sheet.specs.SelectorTexts.{AreSelectors}
use Rattle.lay_sheet.proofs.selector_text.selectors_of.Given as goal

abbrev pub invariant-loop-selectors : goal.invariant-loop-selectors
invariant-loop-selectors l =
    (found : Option (List (List Step))) → AreSelectors l.rest found → AreSelectors l.prelude (continued l.selectors.items found)

abbrev pub decreases-loop-selectors : goal.decreases-loop-selectors
decreases-loop-selectors l = length l.rest
