use Rattle.lay_line_items.proofs.ClusterPlaces.{clusters_begin_at_characters}
use Rattle.lay_line_items.proofs.laws.clusters_begin_at_characters.Goals as goal

pub returns : goal.returns
returns c = clusters_begin_at_characters
