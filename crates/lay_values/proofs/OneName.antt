-- Properties and keywords are found by their names, and by nothing else.
use Rattle.std.proofs.Common.{◌≡◌, ℕ, refl, Bool, true, List, [], ◌∷◌, map, find, Some, arith}
use Rattle.std.specs.Str.{bytes_eq}
use Rattle.std.specs.Char.{to_ascii_lowercase}
use Rattle.std.proofs.lemmas.Slice.Eq.{bytes_eq-Decides}
use Rattle.std.proofs.lemmas.Grind.{common_steps}
use Rattle.lay_style.specs.declared.property.Property.{Property}
use Rattle.lay_style.specs.declared.property.Property.TheVariants.{Display, Position, Float, Clear, Top, Right, Bottom, Left, ZIndex, Width, Height, MinWidth, MinHeight, MaxWidth, MaxHeight, MarginTop, MarginRight, MarginBottom, MarginLeft, PaddingTop, PaddingRight, PaddingBottom, PaddingLeft, BorderTopWidth, BorderRightWidth, BorderBottomWidth, BorderLeftWidth, BorderTopStyle, BorderRightStyle, BorderBottomStyle, BorderLeftStyle, Overflow, FontSize, LineHeight, TextIndent, TextAlign, WhiteSpace, LetterSpacing, WordSpacing, VerticalAlign, TableLayout, BorderCollapse, BorderSpacing, CaptionSide, Visibility, EmptyCells}
use Rattle.lay_style.specs.declared.property.Word.{Word}
use Rattle.lay_style.specs.declared.property.Word.TheVariants as word
use Rattle.lay_values.specs.Names.{name_of, all_properties, property_of}
use Rattle.lay_values.specs.Words.{word_name, all_words, word_of}

pub find-passes : {X : Type 0} (test : X → Bool) (xs : List X) (x : X) → find test xs ≡ Some x → test x ≡ true
find-passes test [] x found = grind (arith, common_steps)
find-passes test (y ∷ ys) x found = grind (arith, common_steps, find-passes test ys x)

pub own_property : (p : Property) → property_of (name_of p) ≡ Some p
unfolding all_properties
own_property Display = refl
own_property Position = refl
own_property Float = refl
own_property Clear = refl
own_property Top = refl
own_property Right = refl
own_property Bottom = refl
own_property Left = refl
own_property ZIndex = refl
own_property Width = refl
own_property Height = refl
own_property MinWidth = refl
own_property MinHeight = refl
own_property MaxWidth = refl
own_property MaxHeight = refl
own_property MarginTop = refl
own_property MarginRight = refl
own_property MarginBottom = refl
own_property MarginLeft = refl
own_property PaddingTop = refl
own_property PaddingRight = refl
own_property PaddingBottom = refl
own_property PaddingLeft = refl
own_property BorderTopWidth = refl
own_property BorderRightWidth = refl
own_property BorderBottomWidth = refl
own_property BorderLeftWidth = refl
own_property BorderTopStyle = refl
own_property BorderRightStyle = refl
own_property BorderBottomStyle = refl
own_property BorderLeftStyle = refl
own_property Overflow = refl
own_property FontSize = refl
own_property LineHeight = refl
own_property TextIndent = refl
own_property TextAlign = refl
own_property WhiteSpace = refl
own_property LetterSpacing = refl
own_property WordSpacing = refl
own_property VerticalAlign = refl
own_property TableLayout = refl
own_property BorderCollapse = refl
own_property BorderSpacing = refl
own_property CaptionSide = refl
own_property Visibility = refl
own_property EmptyCells = refl

pub property_named : (name : List ℕ) (p : Property) → property_of name ≡ Some p → name_of p ≡ name
property_named name p found = (bytes_eq-Decides (name_of p) name).0 (find-passes (λ q. bytes_eq (name_of q) name) all_properties p found)

pub own_word : (w : Word) → word_of (word_name w) ≡ Some w
unfolding all_words
own_word word.Inline = refl
own_word word.Block = refl
own_word word.ListItem = refl
own_word word.InlineBlock = refl
own_word word.Table = refl
own_word word.InlineTable = refl
own_word word.TableRowGroup = refl
own_word word.TableHeaderGroup = refl
own_word word.TableFooterGroup = refl
own_word word.TableRow = refl
own_word word.TableColumnGroup = refl
own_word word.TableColumn = refl
own_word word.TableCell = refl
own_word word.TableCaption = refl
own_word word.None = refl
own_word word.Static = refl
own_word word.Relative = refl
own_word word.Absolute = refl
own_word word.Fixed = refl
own_word word.Left = refl
own_word word.Right = refl
own_word word.Both = refl
own_word word.Auto = refl
own_word word.Thin = refl
own_word word.Medium = refl
own_word word.Thick = refl
own_word word.Hidden = refl
own_word word.Dotted = refl
own_word word.Dashed = refl
own_word word.Solid = refl
own_word word.Double = refl
own_word word.Groove = refl
own_word word.Ridge = refl
own_word word.Inset = refl
own_word word.Outset = refl
own_word word.Visible = refl
own_word word.Scroll = refl
own_word word.XxSmall = refl
own_word word.XSmall = refl
own_word word.Small = refl
own_word word.Large = refl
own_word word.XLarge = refl
own_word word.XxLarge = refl
own_word word.Larger = refl
own_word word.Smaller = refl
own_word word.Normal = refl
own_word word.Center = refl
own_word word.Justify = refl
own_word word.Pre = refl
own_word word.Nowrap = refl
own_word word.PreWrap = refl
own_word word.PreLine = refl
own_word word.Baseline = refl
own_word word.Sub = refl
own_word word.Super = refl
own_word word.Top = refl
own_word word.TextTop = refl
own_word word.Middle = refl
own_word word.Bottom = refl
own_word word.TextBottom = refl
own_word word.Separate = refl
own_word word.Collapse = refl
own_word word.Show = refl
own_word word.Hide = refl

pub word_spelled : (text : List ℕ) (w : Word) → word_of text ≡ Some w → map to_ascii_lowercase (word_name w) ≡ map to_ascii_lowercase text
word_spelled text w found =
    (bytes_eq-Decides (map to_ascii_lowercase (word_name w)) (map to_ascii_lowercase text)).0
    (find-passes (λ v. bytes_eq (map to_ascii_lowercase (word_name v)) (map to_ascii_lowercase text)) all_words w found)
