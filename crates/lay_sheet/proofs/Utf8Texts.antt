-- Texts that are UTF-8, and those that aren't.
use Rattle.std.proofs.Common.{◌≡◌, ℕ, List, Bool, true, false, refl, map, Some, None}
use Rattle.std.specs.Str.{IsUtf8, is_utf8}
use Rattle.std.specs.Char.{to_ascii_lowercase}
use Rattle.std.specs.Result.{result_ok}
use Rattle.std.proofs.lemmas.Str.{is_utf8-from_IsUtf8, IsUtf8-from_is_utf8}
use Rattle.std.specs.Prelude.{if◌then◌else◌}
use Rattle.lay_style.specs.Values.{Declaration}
use Rattle.lay_values.specs.Reading.{read_declaration}
use Rattle.lay_sheet.specs.Declarations.{text_of, declaration_named}

pub text_is : (bytes : List ℕ) → IsUtf8 bytes → text_of bytes ≡ Some bytes
text_is bytes h = rw (is_utf8-from_IsUtf8 bytes h) refl

picked : (bytes : List ℕ) (b : Bool) → (b ≡ true → ⊥) → (if b then Some bytes else None) ≡ None
picked bytes true h = absurd (h refl)
picked bytes false h = refl

pub text_is_none : (bytes : List ℕ) → (IsUtf8 bytes → ⊥) → text_of bytes ≡ None
text_is_none bytes h = picked bytes (is_utf8 bytes) (λ e. h (IsUtf8-from_is_utf8 bytes e))

-- what is read of a name without capitals and a value, both UTF-8
pub named_is : (important : Bool) (name value : List ℕ) → map to_ascii_lowercase name ≡ name → (d : Declaration) → Some d ≡ result_ok (read_declaration name value) → is_utf8 name ≡ true → is_utf8 value ≡ true → Some (record { decl = d; important = important }) ≡ declaration_named important name value
named_is important name value small d is name_utf8 value_utf8 =
    rw (name_utf8, value_utf8, small, ← is) refl
