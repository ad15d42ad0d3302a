-- Declarations of some properties.
use Rattle.std.specs.Prelude.{ℕ, Bool, ◌&&◌, nat_le}
use Rattle.lay_units.specs.declared.length.Unit.{Unit as Length}
use Rattle.lay_style.specs.declared.style.Edges.{Edges}
use Rattle.lay_style.specs.declared.style_words.BorderStyle.{BorderStyle}
use Rattle.lay_style.specs.ComputedStyle.{width_of_style}
use Rattle.lay_style.specs.PropertyNumbers.{number_of}
use Rattle.lay_style.specs.Values.{Declaration}

-- a declaration of a property with one of these numbers
abbrev pub is_within : ℕ → ℕ → Declaration → Bool
is_within first last d = nat_le first (number_of d.property) && nat_le (number_of d.property) last

-- the widths of borders of these styles, where these are declared
abbrev pub widths_of_styles : Edges BorderStyle → Edges Length → Edges Length
widths_of_styles style width = record {
  top = width_of_style style.top width.top;
  right = width_of_style style.right width.right;
  bottom = width_of_style style.bottom width.bottom;
  left = width_of_style style.left width.left;
}
