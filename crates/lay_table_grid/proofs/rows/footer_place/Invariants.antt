use Rattle.std.proofs.Common.{◌≡◌, drop}
use Rattle.lay_table_grid.specs.TableBoxes.{is_footer_group, places_from, places_of}
use Rattle.lay_table_grid.proofs.rows.footer_place.Given as goal

abbrev pub invariant-loop-k : goal.invariant-loop-k
invariant-loop-k l = places_from (λ b. is_footer_group b.kind) l.k (drop l.k l.boxes) ≡ places_of (λ b. is_footer_group b.kind) l.boxes
