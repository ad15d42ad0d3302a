use Rattle.std.proofs.Common.{◌≡◌, drop}
use Rattle.lay_table_grid.specs.TableBoxes.{is_table_kind, places_from, places_of}
use Rattle.lay_table_grid.proofs.rows.table_place.Given as goal

abbrev pub invariant-loop-k : goal.invariant-loop-k
invariant-loop-k l = places_from (λ b. is_table_kind b.kind) l.k (drop l.k l.boxes) ≡ places_of (λ b. is_table_kind b.kind) l.boxes
