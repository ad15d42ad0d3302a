use Rattle.std.proofs.Common.{take}
use Rattle.std.specs.List.{list_any}
use Rattle.lay_cascade.specs.declared.windows.Place.TheVariants.{Classes}
use Rattle.lay_cascade.specs.Windows.{IsMask, asks_name}
use Rattle.lay_cascade.proofs.fitting.class_word.Given as goal

abbrev pub invariant-loop-i : goal.invariant-loop-i
invariant-loop-i l = IsMask l.window.steps.now l.window.from l.window.count (λ s. list_any (λ class. asks_name Classes class s) (take l.i l.classes)) l.word
