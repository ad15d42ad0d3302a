use Rattle.std.proofs.Common.{◌≡◌, ◌++◌, drop, map, All}
use Rattle.lay_table_grid.specs.Pass.CellLists.{IsRowOf}
use Rattle.lay_table_grid.specs.TableBoxes.{is_ranked, places_from, ranked_places, row_at}
use Rattle.lay_table_grid.proofs.rows.push_ranked.Given as goal

abbrev pub invariant-loop-k : goal.invariant-loop-k
invariant-loop-k l = record {
  rows : l.rows.items ++ map (row_at l.boxes) (places_from (is_ranked l.boxes l.rank) l.k (drop l.k l.boxes))
      ≡ l.initial.rows.items ++ map (row_at l.boxes) (ranked_places l.boxes l.rank);
  are : All (IsRowOf l.boxes) l.rows.items;
}
