use Rattle.lay_placement.proofs.LastSeen.{last_seen_line_lem, unseen_lines_lem}
use Rattle.lay_placement.proofs.laws.last_seen_line_gives_baseline.Goals as goal

pub returns : goal.returns
returns c = record { seen = last_seen_line_lem; unseen = unseen_lines_lem }
