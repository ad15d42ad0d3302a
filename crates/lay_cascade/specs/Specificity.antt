-- Specificity (CSS 2.2, 6.4.3): how many labels, classes and tags a selector names.
use Rattle.std.specs.Prelude.{◌+◌, List, [], ◌∷◌}
use Rattle.lay_sheet.specs.declared.selector.Simple.{Simple}
use Rattle.lay_sheet.specs.declared.selector.Simple.TheVariants.{Universal, Tag, Class, Label}
use Rattle.lay_sheet.specs.declared.selector.Step.{Step}
use Rattle.lay_cascade.specs.declared.counts.Specificity.{Specificity}

abbrev pub counted : Simple → Specificity → Specificity
counted Universal s = s
counted (Tag name) s = record s { tags = s.tags + 1 }
counted (Class name) s = record s { classes = s.classes + 1 }
counted (Label name) s = record s { labels = s.labels + 1 }

abbrev pub specificity_of : List Step → Specificity
specificity_of [] = record { labels = 0; classes = 0; tags = 0 }
specificity_of (step ∷ steps) = counted step.simple (specificity_of steps)
