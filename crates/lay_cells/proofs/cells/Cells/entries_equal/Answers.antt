use Rattle.std.proofs.Common.{◌≡◌, List, map, subst}
use Rattle.std.specs.Prelude.{◌↔◌, IsTrue}
use Rattle.lay_cells.specs.Shapes.{Entry}
use Rattle.lay_cells.specs.Rows.{State, entry_of, row_of}
use Rattle.lay_cells.proofs.cells.Cells.entries_equal.Goals as goal

pub returns : goal.returns
returns g c =
    subst (λ (s : State _ _ _). IsTrue c.same_entries.result ↔ (map entry_of s.rows ≡ c.args.shape.now)) c.self.view_is
    (subst (λ (xs : List _). IsTrue c.same_entries.result ↔ (map entry_of (map row_of xs) ≡ c.args.shape.now)) c.as_slice.ensures.value
    (subst (λ (es : List (Entry _)). IsTrue c.same_entries.result ↔ (map entry_of (map row_of c.as_slice.result.now) ≡ es)) c.plans.ensures c.same_entries.ensures))
