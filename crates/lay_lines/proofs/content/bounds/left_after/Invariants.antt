use Rattle.std.proofs.Common.{◌≡◌, ◌+◌, drop}
use Rattle.lay_lines.specs.Content.LineContents.{StretchWithin, boxes_of, hulls_of, spread_of, weight_of}
use Rattle.lay_lines.proofs.ContentLemmas.AllLists.{AllTo}
use Rattle.lay_lines.proofs.content.bounds.left_after.Given as goal

abbrev pub invariant-loop-k : goal.invariant-loop-k
invariant-loop-k l = record {
  spread : spread_of l.tab.0 (drop l.k l.stretches) + l.fn.full.spread ≡ spread_of l.tab.0 l.stretches + l.left.spread;
  hulls : hulls_of (drop l.k l.stretches) + l.fn.full.hulls ≡ hulls_of l.stretches + l.left.hulls;
  boxes : boxes_of (drop l.k l.stretches) + l.fn.full.boxes ≡ boxes_of l.stretches + l.left.boxes;
  weight : weight_of (drop l.k l.stretches) + l.fn.full.weight ≡ weight_of l.stretches + l.left.weight;
  within : AllTo StretchWithin l.stretches l.k;
}
