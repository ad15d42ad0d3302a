use Rattle.std.proofs.Common.{◌≡◌, ◌++◌, take}
use Rattle.lay_table.specs.PlaceBounds.{AllFit}
use Rattle.lay_table.specs.WrapperFlow.{captions_inside}
use Rattle.lay_table.proofs.wrapper_flow.push_captions.Given as goal

abbrev pub invariant-loop-n : goal.invariant-loop-n
invariant-loop-n l = record {
  are : l.boxes.items ≡ l.fn.boxes.items ++ captions_inside l.input (take l.n l.places);
  fit : AllFit l.boxes.items;
}
