use Rattle.std.proofs.Common.{rules, ◌≡◌, length, ◌∙◌, subst}
use Rattle.lay_grid.specs.declared.heights.RowsIn.{RowsIn}
use Rattle.lay_table.specs.RowNeeds.{needs_of, rows_in}
use Rattle.lay_table.specs.TableRows.{AreTracks, bottoms_of}
use Rattle.lay_table.proofs.row_heights.table_rows.Goals as goal

pub row_baselines-requires-2 : goal.row_baselines-requires-2
row_baselines-requires-2 c =
    let edges = c.in_ok-edges.ensures {u = tt} in
    let counted : c.len-count.result ≡ length c.args.input.now.table.grid.rows = search rules in
    let read = c.deref-3.ensures.value in
    rw (read, counted) edges.fit

pub returns-clause-rows : goal.returns-clause-rows
returns-clause-rows c =
    let counted : c.len-count.result ≡ length c.args.input.now.table.grid.rows = search rules in
    let rows : c.in_ok-rows_in.rows_in ≡ rows_in c.args.input.now c.in_ok-cells.cells.items = search rules in
    let tracks : AreTracks (rows_in c.args.input.now c.in_ok-cells.cells.items) c.in_ok-tracks.tracks =
    subst (λ (r : RowsIn). AreTracks r c.in_ok-tracks.tracks) rows (c.in_ok-tracks.ensures {u = tt}).tracks in
    let needs : c.as_slice.result.now ≡ needs_of c.args.input.now c.in_ok-cells.cells.items = search rules in
    let edges : c.deref-3.result.now ≡ bottoms_of c.args.input.now c.in_ok-cells.cells.items c.in_ok-tracks.tracks = search rules in
    record {
      cells = (c.in_ok-cells.ensures {u = tt}).sizes;
      tracks = tracks;
      baselines = rw (← counted, ← needs) (c.in_ok-baselines.ensures {u = tt}).baselines;
      bottoms = rw (← counted, ← edges) (c.in_ok-bottoms.ensures {u = tt}).baselines;
    }

pub returns-clause-fit : goal.returns-clause-fit
returns-clause-fit c =
    let counted : c.len-count.result ≡ length c.args.input.now.table.grid.rows = search rules in
    let tracks : length c.in_ok-tracks.tracks.lengths ≡ length c.args.input.now.table.grid.rows = search rules in
    record {
      cells = (c.in_ok-cells.ensures {u = tt}).sizes.count;
      tracks = tracks;
      baselines = (c.in_ok-baselines.ensures {u = tt}).baselines.as_many ∙ counted;
      bottoms = (c.in_ok-bottoms.ensures {u = tt}).baselines.as_many ∙ counted;
      sizes = (c.in_ok-cells.ensures {u = tt}).fit;
    }
