-- The initial value of each property, as the table in docs/PROPERTIES.md has them. The initial width of a
-- border is `medium`; that it is 0 where there is no border is for the computed style to say.
use Rattle.lay_style.specs.declared.style.Edges.{Edges}
use Rattle.lay_style.specs.declared.style.Style.{Style}
use Rattle.lay_style.specs.declared.style_words.Display.TheVariants as display
use Rattle.lay_style.specs.declared.style_words.Position.TheVariants as position
use Rattle.lay_style.specs.declared.style_words.Float.TheVariants as float
use Rattle.lay_style.specs.declared.style_words.Clear.TheVariants as clear
use Rattle.lay_style.specs.declared.style_words.BorderStyle.TheVariants as border
use Rattle.lay_style.specs.declared.style_words.Overflow.TheVariants as overflow
use Rattle.lay_style.specs.declared.style_words.Visibility.TheVariants as visibility
use Rattle.lay_style.specs.declared.style_words.TextAlign.TheVariants as align
use Rattle.lay_style.specs.declared.style_words.WhiteSpace.TheVariants as space
use Rattle.lay_style.specs.declared.style_words.TableLayout.TheVariants as layout
use Rattle.lay_style.specs.declared.style_words.BorderCollapse.TheVariants as borders
use Rattle.lay_style.specs.declared.style_words.CaptionSide.TheVariants as caption
use Rattle.lay_style.specs.declared.style_words.EmptyCells.TheVariants as cells
use Rattle.lay_style.specs.declared.style_lengths.LengthPercentageOrAuto.TheVariants as or_auto
use Rattle.lay_style.specs.declared.style_lengths.LengthPercentage.TheVariants as measure
use Rattle.lay_style.specs.declared.style_lengths.LengthPercentageOrNone.TheVariants as or_none
use Rattle.lay_style.specs.declared.style_lengths.LineHeight.TheVariants as line
use Rattle.lay_style.specs.declared.style_lengths.VerticalAlign.TheVariants as vertical
use Rattle.lay_style.specs.declared.style_lengths.ZIndex.TheVariants as index
use Rattle.lay_style.specs.LengthValues.{px}

abbrev pub all_sides : {A : Type 0} → A → Edges A
all_sides v = record { top = v; right = v; bottom = v; left = v }

abbrev pub initial_style : Style
initial_style = record {
  display = display.Inline;
  position = position.Static;
  float = float.None;
  clear = clear.None;
  offset = all_sides or_auto.Auto;
  z_index = index.Auto;
  sizing = record {
    width = or_auto.Auto;
    height = or_auto.Auto;
    min_width = measure.Length (px 0);
    min_height = measure.Length (px 0);
    max_width = or_none.None;
    max_height = or_none.None;
  };
  margin = all_sides (or_auto.Length (px 0));
  padding = all_sides (measure.Length (px 0));
  border = record { width = all_sides (px 3); style = all_sides border.None };
  overflow = overflow.Visible;
  visibility = visibility.Visible;
  text = record {
    font_size = px 16;
    line_height = line.Normal;
    text_indent = measure.Length (px 0);
    text_align = align.Left;
    white_space = space.Normal;
    letter_spacing = px 0;
    word_spacing = px 0;
    vertical_align = vertical.Baseline;
  };
  table = record {
    layout = layout.Auto;
    border_collapse = borders.Separate;
    border_spacing = record { horizontal = px 0; vertical = px 0 };
    caption_side = caption.Top;
    empty_cells = cells.Show;
  };
}
