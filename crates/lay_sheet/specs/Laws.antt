-- What a sheet's text means is settled by these laws, which say it apart from how it is found.
use Rattle.std.specs.Prelude.{ℕ, ◌≡◌, ◌+◌, ◌-◌, ◌==◌, ◌||◌, List, [], ◌∷◌, ◌++◌, Bool, true, false, if◌then◌else◌}
use Rattle.std.specs.Char.{is_ascii_whitespace}
use Rattle.std.specs.List.{list_all, list_any, AllZip}
use Rattle.lay_sheet.specs.declared.plain.Place.{Place}
use Rattle.lay_sheet.specs.declared.plain.Place.TheVariants.{Outside}
use Rattle.lay_sheet.specs.PlainText.{is_mark, ends_comment, place_behind, plain_text}
use Rattle.lay_sheet.specs.Sheets.{RuleValue, IsSheet}
use Rattle.lay_sheet.specs.Printing.{PrintedRule, SpellsRule, sheet_text}

-- a byte that ends a string with this mark, or is a backslash
abbrev pub parts_string : ℕ → ℕ → Bool
parts_string mark b = (b == mark) || (b == 10) || (b == 92)

-- of a string, from one mark to the same one, the first mark alone is seen (4.3.7)
abbrev pub StringHides : Type 0
StringHides = (mark : ℕ) (inner rest : List ℕ) → is_mark mark ≡ true → list_any (parts_string mark) inner ≡ false →
    plain_text (mark ∷ inner ++ mark ∷ rest) ≡ mark ∷ plain_text rest

-- whether a text has `*/` in it
abbrev pub has_comment_end : List ℕ → Bool
has_comment_end [] = false
has_comment_end (b ∷ bs) = ends_comment b bs || has_comment_end bs

-- a comment is seen as one space (4.1.9)
abbrev pub CommentIsSpace : Type 0
CommentIsSpace = (inner rest : List ℕ) → has_comment_end inner ≡ false →
    plain_text (47 ∷ 42 ∷ inner ++ 42 ∷ 47 ∷ rest) ≡ 32 ∷ plain_text rest

-- of a backslash and the byte behind it, the backslash alone is seen (4.1.3)
abbrev pub EscapeHides : Type 0
EscapeHides = (b : ℕ) (rest : List ℕ) → plain_text (92 ∷ b ∷ rest) ≡ 92 ∷ plain_text rest

-- a text is one sheet at most
abbrev pub OneSheet : Type 0
OneSheet = (text : List ℕ) (rules others : List RuleValue) → IsSheet text rules → IsSheet text others → rules ≡ others

-- each text is a sheet: whatever stands in it, it can be read (4.2)
abbrev pub SomeSheet : Type 0
SomeSheet = (text : List ℕ) → (rules : List RuleValue) × IsSheet text rules

-- a string and a comment that are open at the end of a text are closed there (4.2)
abbrev pub OpenStringEnds : Type 0
OpenStringEnds = (mark : ℕ) (inner : List ℕ) → is_mark mark ≡ true → list_any (parts_string mark) inner ≡ false →
    plain_text (mark ∷ inner) ≡ plain_text (mark ∷ inner ++ mark ∷ [])

abbrev pub OpenCommentEnds : Type 0
OpenCommentEnds = (inner : List ℕ) → has_comment_end inner ≡ false →
    plain_text (47 ∷ 42 ∷ inner) ≡ plain_text (47 ∷ 42 ∷ inner ++ 42 ∷ 47 ∷ [])

-- where a text ends: outside of strings, comments and escapes, or in one
abbrev pub place_after_text : Place → List ℕ → Place
place_after_text place [] = place
place_after_text place (b ∷ bs) = place_after_text (place_behind place b bs) bs

-- how many braces are open at the end of what is seen of a text, with so many before it; one that closes nothing doesn't count
abbrev pub depth_after : ℕ → List ℕ → ℕ
depth_after depth [] = depth
depth_after depth (b ∷ bs) =
    if b == 123 then depth_after (depth + 1) bs
    else (if b == 125 then depth_after (depth - 1) bs else depth_after depth bs)

-- a text whose last statement lacks its `}`
pub record LacksBrace (text : List ℕ) : Type 0 where
  pub outside : place_after_text Outside text ≡ Outside
  pub one_open : depth_after 0 (plain_text text) ≡ 1

-- such a text and the same with its `}` are one sheet (4.2)
abbrev pub OpenBlockEnds : Type 0
OpenBlockEnds = (text : List ℕ) (rules : List RuleValue) → LacksBrace text → IsSheet text rules → IsSheet (text ++ 125 ∷ []) rules

-- a text that ends with the `}` of its last statement, and a second one: both together are the sheet of the first, and then of the second
abbrev pub SheetsFollow : Type 0
SheetsFollow = (text second : List ℕ) (rules others : List RuleValue) → LacksBrace text →
    IsSheet (text ++ 125 ∷ []) rules → IsSheet second others →
    IsSheet ((text ++ 125 ∷ []) ++ second) (rules ++ others)

-- a semicolon, or the brace that begins a block
abbrev pub ends_at_rule : ℕ → Bool
ends_at_rule b = (b == 59) || (b == 123)

-- a statement that begins with `@` and has no block ends with its first semicolon; what stands behind it is a sheet as it is alone (4.1.5)
abbrev pub AtRuleSaysNothing : Type 0
AtRuleSaysNothing = (inner rest : List ℕ) (rules : List RuleValue) → place_after_text Outside inner ≡ Outside →
    list_any ends_at_rule (plain_text inner) ≡ false → IsSheet rest rules → IsSheet (64 ∷ inner ++ 59 ∷ rest) rules

-- a printed sheet reads as itself: as the rule sets that it spells, in their order, whatever white space stands where the grammar lets
-- some stand (Appendix G)
abbrev pub PrintedSheetReads : Type 0
PrintedSheetReads = (space : List ℕ) (sheet : List PrintedRule) (rules : List RuleValue) → list_all is_ascii_whitespace space ≡ true →
    AllZip SpellsRule sheet rules → IsSheet (sheet_text space sheet) rules
