-- The text of a sheet as its grammar sees it (CSS 2.2, 4.1.3, 4.1.9 and 4.3.7).
-- A string is seen as its opening mark, a backslash with the byte behind it as a backslash, a comment as one
-- space; all else as it stands. So a brace, a comma, a colon or a semicolon that is seen is neither in a string
-- nor in a comment nor escaped. No selector, no property's name and no value has a mark or a backslash.
use Rattle.std.specs.Prelude.{ℕ, ◌==◌, ◌&&◌, ◌||◌, List, [], ◌∷◌, Bool, false, Option, Some, None, if◌then◌else◌}
use Rattle.lay_sheet.specs.Lists.{with_found}
use Rattle.lay_sheet.specs.declared.plain.Place.{Place}
use Rattle.lay_sheet.specs.declared.plain.Place.TheVariants.{Outside, Escape, InString, StringEscape, CommentOpen, InComment, CommentEnd}

-- `"` or `'`
abbrev pub is_mark : ℕ → Bool
is_mark b = (b == 34) || (b == 39)

-- what may begin a string, an escape or a comment
abbrev pub may_open : ℕ → Bool
may_open b = is_mark b || (b == 92) || (b == 47)

abbrev pub begins_with : ℕ → List ℕ → Bool
begins_with c [] = false
begins_with c (b ∷ bs) = b == c

-- `/*`, and `*/`
abbrev pub opens_comment : ℕ → List ℕ → Bool
opens_comment b bs = (b == 47) && begins_with 42 bs

abbrev pub ends_comment : ℕ → List ℕ → Bool
ends_comment b bs = (b == 42) && begins_with 47 bs

-- where the byte behind b stands: a string ends with its mark or a linefeed, a comment with the first `*/`
abbrev pub place_behind : Place → ℕ → List ℕ → Place
place_behind Outside b bs =
    if is_mark b then InString b else (if b == 92 then Escape else (if opens_comment b bs then CommentOpen else Outside))
place_behind Escape b bs = Outside
place_behind (InString mark) b bs =
    if (b == mark) || (b == 10) then Outside else (if b == 92 then StringEscape mark else InString mark)
place_behind (StringEscape mark) b bs = InString mark
place_behind CommentOpen b bs = InComment
place_behind InComment b bs = if ends_comment b bs then CommentEnd else InComment
place_behind CommentEnd b bs = Outside

-- what is seen of a byte
abbrev pub seen_of : Place → ℕ → List ℕ → Option ℕ
seen_of Outside b bs = Some (if opens_comment b bs then 32 else b)
seen_of Escape b bs = None
seen_of (InString mark) b bs = None
seen_of (StringEscape mark) b bs = None
seen_of CommentOpen b bs = None
seen_of InComment b bs = None
seen_of CommentEnd b bs = None

abbrev pub plain_from : Place → List ℕ → List ℕ
plain_from place [] = []
plain_from place (b ∷ bs) = with_found (seen_of place b bs) (plain_from (place_behind place b bs) bs)

-- what is seen of a text
abbrev pub plain_text : List ℕ → List ℕ
plain_text text = plain_from Outside text
