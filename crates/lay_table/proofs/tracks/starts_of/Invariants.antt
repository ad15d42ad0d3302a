use Rattle.std.proofs.Common.{◌≡◌}
use Rattle.lay_table.specs.Tracks.{start_of}
use Rattle.lay_table.specs.TrackStarts.{AreStarts}
use Rattle.lay_table.proofs.tracks.starts_of.Given as goal

abbrev pub invariant-loop-k : goal.invariant-loop-k
invariant-loop-k l = record {
  are : AreStarts (record { lengths = l.lengths; spacing = l.spacing }) l.k l.starts.items;
  next : l.start.0 ≡ start_of (record { lengths = l.lengths; spacing = l.spacing }) l.k;
}
