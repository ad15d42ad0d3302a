-- White space (16.6.1) in one text: whether it is white space alone, and whether it would then be collapsed
-- away where it stands alone in its lines (9.2.2.1).
use Rattle.std.specs.Prelude.{ℕ, Bool, false, ◌&&◌, ◌||◌, not, List, ◌==◌, if◌then◌else◌}
use Rattle.std.specs.List.{list_any, list_all}
use Rattle.lay_style.specs.declared.style_words.WhiteSpace.{WhiteSpace}
use Rattle.lay_style.specs.declared.style_words.WhiteSpace.TheVariants.{Normal, Pre, Nowrap, PreWrap, PreLine}
use Rattle.lay_boxgen.specs.declared.facts.TextForm.{TextForm}
use Rattle.lay_boxgen.specs.declared.facts.TextForm.TheVariants.{Seen, White, Blank}

abbrev pub is_linefeed_byte : ℕ → Bool
is_linefeed_byte b = b == 10

abbrev pub is_carriage_return : ℕ → Bool
is_carriage_return b = b == 13

-- space, tab, linefeed and carriage return, as bytes of UTF-8
abbrev pub is_white_byte : ℕ → Bool
is_white_byte b = b == 32 || b == 9 || is_linefeed_byte b || is_carriage_return b

-- Under `normal` and `nowrap` spaces, tabs and linefeeds collapse, and carriage returns where a linefeed
-- takes them along; without one a carriage return is an ordinary character. Under `pre-line` a linefeed
-- stays, and under `pre` and `pre-wrap` all.
abbrev pub space_collapses : WhiteSpace → Bool → Bool → Bool
space_collapses Normal has_linefeed has_return = has_linefeed || not has_return
space_collapses Nowrap has_linefeed has_return = has_linefeed || not has_return
space_collapses PreLine has_linefeed has_return = not has_linefeed && not has_return
space_collapses Pre has_linefeed has_return = false
space_collapses PreWrap has_linefeed has_return = false

abbrev pub white_form : WhiteSpace → List ℕ → TextForm
white_form mode text = if space_collapses mode (list_any is_linefeed_byte text) (list_any is_carriage_return text) then Blank else White

abbrev pub text_form : WhiteSpace → List ℕ → TextForm
text_form mode text = if list_all is_white_byte text then white_form mode text else Seen
