-- What the values of `white-space` ask for (CSS 2.2, 16.6): the table of that section, a column each.
use Rattle.std.specs.Prelude.{Bool, true, false}
use Rattle.lay_space.specs.declared.item.Mode.{Mode}
use Rattle.lay_space.specs.declared.item.Mode.TheVariants.{Normal, Pre, NoWrap, PreWrap, PreLine}

-- rows of spaces and tabs collapse
abbrev pub collapses : Mode → Bool
collapses Normal = true
collapses Pre = false
collapses NoWrap = true
collapses PreWrap = false
collapses PreLine = true

-- linefeeds become spaces
abbrev pub joins_lines : Mode → Bool
joins_lines Normal = true
joins_lines Pre = false
joins_lines NoWrap = true
joins_lines PreWrap = false
joins_lines PreLine = false

-- a line may break at spaces
abbrev pub wraps : Mode → Bool
wraps Normal = true
wraps Pre = false
wraps NoWrap = false
wraps PreWrap = true
wraps PreLine = true
