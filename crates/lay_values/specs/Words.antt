-- The keywords of the properties' values. Their letters are read in any case of ASCII (CSS 2.2, 4.1.3).
-- `inherit` is apart, since each property takes it (6.2.1).
use Rattle.std.specs.Prelude.{ℕ, ◌==◌, List, [], ◌∷◌, filter, Option, option_map, codes, find, if◌then◌else◌, Some}
use Rattle.std.specs.Char.{to_ascii_lowercase}
use Rattle.std.specs.Str.{str_eq_ignore_ascii_case}
use Rattle.lay_style.specs.declared.property.Given.{Given}
use Rattle.lay_style.specs.declared.property.Given.TheVariants.{Keyword, Inherit}
use Rattle.lay_style.specs.declared.property.Word.{Word}
use Rattle.lay_style.specs.declared.property.Word.TheVariants as word

abbrev pub word_name : Word → List ℕ
word_name word.Inline = codes "inline"
word_name word.Block = codes "block"
word_name word.ListItem = codes "list-item"
word_name word.InlineBlock = codes "inline-block"
word_name word.Table = codes "table"
word_name word.InlineTable = codes "inline-table"
word_name word.TableRowGroup = codes "table-row-group"
word_name word.TableHeaderGroup = codes "table-header-group"
word_name word.TableFooterGroup = codes "table-footer-group"
word_name word.TableRow = codes "table-row"
word_name word.TableColumnGroup = codes "table-column-group"
word_name word.TableColumn = codes "table-column"
word_name word.TableCell = codes "table-cell"
word_name word.TableCaption = codes "table-caption"
word_name word.None = codes "none"
word_name word.Static = codes "static"
word_name word.Relative = codes "relative"
word_name word.Absolute = codes "absolute"
word_name word.Fixed = codes "fixed"
word_name word.Left = codes "left"
word_name word.Right = codes "right"
word_name word.Both = codes "both"
word_name word.Auto = codes "auto"
word_name word.Thin = codes "thin"
word_name word.Medium = codes "medium"
word_name word.Thick = codes "thick"
word_name word.Hidden = codes "hidden"
word_name word.Dotted = codes "dotted"
word_name word.Dashed = codes "dashed"
word_name word.Solid = codes "solid"
word_name word.Double = codes "double"
word_name word.Groove = codes "groove"
word_name word.Ridge = codes "ridge"
word_name word.Inset = codes "inset"
word_name word.Outset = codes "outset"
word_name word.Visible = codes "visible"
word_name word.Scroll = codes "scroll"
word_name word.XxSmall = codes "xx-small"
word_name word.XSmall = codes "x-small"
word_name word.Small = codes "small"
word_name word.Large = codes "large"
word_name word.XLarge = codes "x-large"
word_name word.XxLarge = codes "xx-large"
word_name word.Larger = codes "larger"
word_name word.Smaller = codes "smaller"
word_name word.Normal = codes "normal"
word_name word.Center = codes "center"
word_name word.Justify = codes "justify"
word_name word.Pre = codes "pre"
word_name word.Nowrap = codes "nowrap"
word_name word.PreWrap = codes "pre-wrap"
word_name word.PreLine = codes "pre-line"
word_name word.Baseline = codes "baseline"
word_name word.Sub = codes "sub"
word_name word.Super = codes "super"
word_name word.Top = codes "top"
word_name word.TextTop = codes "text-top"
word_name word.Middle = codes "middle"
word_name word.Bottom = codes "bottom"
word_name word.TextBottom = codes "text-bottom"
word_name word.Separate = codes "separate"
word_name word.Collapse = codes "collapse"
word_name word.Show = codes "show"
word_name word.Hide = codes "hide"

unfoldable pub all_words : List Word
all_words =
    word.Inline ∷ word.Block ∷ word.ListItem ∷ word.InlineBlock ∷ word.Table ∷ word.InlineTable ∷
    word.TableRowGroup ∷ word.TableHeaderGroup ∷ word.TableFooterGroup ∷ word.TableRow ∷
    word.TableColumnGroup ∷ word.TableColumn ∷ word.TableCell ∷ word.TableCaption ∷ word.None ∷
    word.Static ∷ word.Relative ∷ word.Absolute ∷ word.Fixed ∷ word.Left ∷ word.Right ∷ word.Both ∷
    word.Auto ∷ word.Thin ∷ word.Medium ∷ word.Thick ∷ word.Hidden ∷ word.Dotted ∷ word.Dashed ∷
    word.Solid ∷ word.Double ∷ word.Groove ∷ word.Ridge ∷ word.Inset ∷ word.Outset ∷ word.Visible ∷
    word.Scroll ∷ word.XxSmall ∷ word.XSmall ∷ word.Small ∷ word.Large ∷ word.XLarge ∷
    word.XxLarge ∷ word.Larger ∷ word.Smaller ∷ word.Normal ∷ word.Center ∷ word.Justify ∷
    word.Pre ∷ word.Nowrap ∷ word.PreWrap ∷ word.PreLine ∷ word.Baseline ∷ word.Sub ∷ word.Super ∷
    word.Top ∷ word.TextTop ∷ word.Middle ∷ word.Bottom ∷ word.TextBottom ∷ word.Separate ∷
    word.Collapse ∷ word.Show ∷ word.Hide ∷ []

-- the small letter that a text begins with
abbrev pub first_letter : List ℕ → ℕ
first_letter [] = 0
first_letter (b ∷ bs) = to_ascii_lowercase b

-- those that begin with this letter
abbrev pub beginning_with : ℕ → List Word
beginning_with n = filter (λ w. first_letter (word_name w) == n) all_words

-- the keyword that a text spells
abbrev pub word_of : List ℕ → Option Word
word_of text = find (λ w. str_eq_ignore_ascii_case (word_name w) text) all_words

abbrev pub keyword_of : List ℕ → Option Given
keyword_of text = if str_eq_ignore_ascii_case (codes "inherit") text then Some Inherit else option_map Keyword (word_of text)
