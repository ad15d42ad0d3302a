-- Which boxes are positioned (CSS 2.2, 9.3.2): an element is positioned "if its 'position' property has a value other than 'static'".
use Rattle.std.specs.Prelude.{Bool, true, false}
use Rattle.lay_style.specs.declared.style_words.Position.{Position}
use Rattle.lay_style.specs.declared.style_words.Position.TheVariants.{Static}

abbrev pub is_positioned : Position → Bool
is_positioned Static = false
is_positioned _ = true
