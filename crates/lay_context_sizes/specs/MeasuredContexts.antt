-- What a formatting context answers of widths before it is sized: its preferred widths (CSS 2.2, 10.3.5), and of a table that is laid out
-- by the automatic algorithm the bounds of its columns and its captions (17.5.2.2).
use Rattle.lay_measure.specs.MeasureInValue.{no_widths}
use Rattle.lay_measure.specs.declared.preferred_widths.PreferredWidths.{PreferredWidths}
use Rattle.lay_table_sizes.specs.TableBounds.{TableBoundsValue, no_bounds}

pub record MeasuredContext : Type 0 where
  pub widths : PreferredWidths
  -- of a table
  pub table : TableBoundsValue

abbrev pub not_measured : MeasuredContext
not_measured = record { widths = no_widths; table = no_bounds }
