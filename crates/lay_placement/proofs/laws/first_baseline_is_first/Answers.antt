use Rattle.lay_placement.proofs.FirstSeen.{first_box_lem, first_seen_line_lem}
use Rattle.lay_placement.proofs.laws.first_baseline_is_first.Goals as goal

pub returns : goal.returns
returns c = record { line = first_seen_line_lem; in_box = first_box_lem }
