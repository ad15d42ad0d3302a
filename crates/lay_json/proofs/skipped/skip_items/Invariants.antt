use Rattle.std.proofs.Common.{length}
use Rattle.serde_json.specs.Data.{Items}
use Rattle.lay_json.specs.Spans.Readings.{ReadsItems}
use Rattle.lay_json.proofs.skipped.skip_items.Given as goal

abbrev pub invariant-items : goal.invariant-items
invariant-items l = (ds : Items) × ReadsItems 124 l.fn.cursor ds l.cursor

abbrev pub decreases-items : goal.decreases-items
decreases-items l = length l.cursor
