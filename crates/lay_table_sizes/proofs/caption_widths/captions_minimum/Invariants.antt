use Rattle.std.proofs.Common.{◌≡◌, ◌-◌, drop}
use Rattle.lay_table_sizes.specs.CaptionWidths.{captions_from}
use Rattle.lay_table_sizes.proofs.caption_widths.captions_minimum.Given as goal

-- the last boxes are done
abbrev pub invariant-loop-done : goal.invariant-loop-done
invariant-loop-done l = l.least.0 ≡ captions_from l.inner (l.count - l.done) (drop (l.count - l.done) l.boxes)
