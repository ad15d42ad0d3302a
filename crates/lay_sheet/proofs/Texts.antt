-- Strings, comments and escapes of a sheet's text.
use Rattle.std.proofs.Common.{◌≡◌, ℕ, refl, List, [], ◌∷◌, ◌++◌, false, arith}
use Rattle.std.specs.List.{list_any}
use Rattle.std.proofs.lemmas.Grind.{common_steps}
use Rattle.lay_sheet.specs.declared.plain.Place.TheVariants.{Outside, InString, InComment}
use Rattle.lay_sheet.specs.PlainText.{plain_from}
use Rattle.lay_sheet.specs.Laws.{parts_string, has_comment_end, StringHides, CommentIsSpace, EscapeHides}

in_string : (mark : ℕ) (inner rest : List ℕ) → list_any (parts_string mark) inner ≡ false → plain_from (InString mark) (inner ++ mark ∷ rest) ≡ plain_from Outside rest
in_string mark [] rest h = grind (arith, common_steps)
in_string mark (b ∷ bs) rest h = grind (arith, common_steps, in_string mark bs rest)

pub string_hides_lem : StringHides
string_hides_lem mark inner rest is_mark h = grind (arith, common_steps, in_string mark inner rest h)

in_comment : (inner rest : List ℕ) → has_comment_end inner ≡ false → plain_from InComment (inner ++ 42 ∷ 47 ∷ rest) ≡ plain_from Outside rest
in_comment [] rest h = refl
in_comment (b ∷ []) rest h = grind (arith, common_steps)
in_comment (b ∷ c ∷ cs) rest h = grind (arith, common_steps, in_comment (c ∷ cs) rest)

pub comment_is_space_lem : CommentIsSpace
comment_is_space_lem inner rest h = grind (arith, common_steps, in_comment inner rest h)

pub escape_hides_lem : EscapeHides
escape_hides_lem b rest = refl
