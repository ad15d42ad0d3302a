use Rattle.std.proofs.Common.{◌≡◌, ◌+◌, drop}
use Rattle.lay_lines.specs.Content.LineContents.{boxes_of_part, hull_of_part, spread_of_parts, total}
use Rattle.lay_lines.proofs.content.budgets.Budget.after_parts.Given as goal

abbrev pub invariant-loop-k : goal.invariant-loop-k
invariant-loop-k l = record {
  spread : spread_of_parts l.tab.0 (drop l.k l.parts) + l.fn.self.spread ≡ spread_of_parts l.tab.0 l.parts + l.left.spread;
  hulls : total hull_of_part (drop l.k l.parts) + l.fn.self.hulls ≡ total hull_of_part l.parts + l.left.hulls;
  boxes : total boxes_of_part (drop l.k l.parts) + l.fn.self.boxes ≡ total boxes_of_part l.parts + l.left.boxes;
  weight : l.fn.self.weight ≡ l.left.weight;
}
