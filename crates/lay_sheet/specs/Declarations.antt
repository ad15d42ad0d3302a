-- The declarations of a rule set's block (CSS 2.2, 4.1.8 and 6.4.2).
-- A block is parted by `;` outside braces. A part is a property's name in any case of ASCII, `:`, and one of that
-- property's values, which may end in `!` and `important`; white space may stand before and behind each. Any other
-- part is ignored.
use Rattle.std.specs.Prelude.{ℕ, ◌-◌, ◌==◌, List, [], ◌∷◌, length, take, drop, map, slice_index}
use Rattle.std.specs.Prelude.{codes, Bool, true, false, Option, Some, None, option_map, if◌then◌else◌}
use Rattle.std.specs.Char.{to_ascii_lowercase}
use Rattle.std.specs.Result.{result_ok}
use Rattle.std.specs.Str.{str_eq_ignore_ascii_case, is_utf8}
use Rattle.lay_values.specs.Numbers.{leading, behind}
use Rattle.lay_values.specs.Reading.{trimmed, without_end, read_declaration}
use Rattle.lay_sheet.specs.declared.declaration.SheetDecl.{SheetDecl}
use Rattle.lay_sheet.specs.Lists.{with_found}
use Rattle.lay_sheet.specs.Pieces.{is_other, part_to, behind_part}

-- a text without the `!` at its end
abbrev pub before_exclamation : List ℕ → Option (List ℕ)
before_exclamation text = if slice_index text (length text - 1) == 33 then Some (take (length text - 1) text) else None

-- what stands before `!important`
abbrev pub before_important : List ℕ → Option (List ℕ)
before_important text =
    if str_eq_ignore_ascii_case (codes "important") (drop (length text - 9) text)
    then before_exclamation (without_end (take (length text - 9) text)) else None

-- a text that is UTF-8. What isn't, as where a backslash parted a character, is no name and no value
abbrev pub text_of : List ℕ → Option (List ℕ)
text_of bytes = if is_utf8 bytes then Some bytes else None

abbrev pub named_by : Bool → Option (List ℕ) → Option (List ℕ) → Option SheetDecl
named_by important None value = None
named_by important (Some name) None = None
named_by important (Some name) (Some value) =
    option_map (λ d. record { decl = d; important = important }) (result_ok (read_declaration (map to_ascii_lowercase name) value))

-- the declaration of a name and a value
abbrev pub declaration_named : Bool → List ℕ → List ℕ → Option SheetDecl
declaration_named important name value = named_by important (text_of name) (text_of value)

abbrev pub weighed : List ℕ → List ℕ → Option (List ℕ) → Option SheetDecl
weighed name value None = declaration_named false name value
weighed name value (Some front) = declaration_named true name front

abbrev pub declared : List ℕ → List ℕ → Option SheetDecl
declared name rest = if length rest == 0 then None else weighed name (trimmed (drop 1 rest)) (before_important (trimmed (drop 1 rest)))

-- the declaration that a part is
abbrev pub declaration_of_part : List ℕ → Option SheetDecl
declaration_of_part part = declared (trimmed (leading (is_other 58) part)) (behind (is_other 58) part)

-- the declarations of a block, in its order
pub data AreDeclarations : List ℕ → List SheetDecl → Type 0 where
  no_part : AreDeclarations [] []
  one_part : (b : ℕ) (bs : List ℕ) (decls : List SheetDecl) → AreDeclarations (behind_part 0 (b ∷ bs)) decls →
      AreDeclarations (b ∷ bs) (with_found (declaration_of_part (part_to 0 (b ∷ bs))) decls)
