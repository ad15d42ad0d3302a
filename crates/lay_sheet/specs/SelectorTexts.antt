-- How selectors are written (CSS 2.2, 5.1, 5.2 and 4.1.3).
-- A compound is a name or `*` or nothing, then any number of `.name` and `#name`, and it isn't empty. Compounds
-- are joined by white space, `>` or `+`, with white space allowed round the last two. A name begins with an
-- ASCII letter, `_` or a character from U+0080 on, or with `-` and such a one, and goes on with these, digits
-- and `-`. Pseudo-classes, pseudo-elements and attribute selectors aren't selectors here.
use Rattle.std.specs.Prelude.{ℕ, ◌≡◌, ◌<◌, ◌==◌, ◌||◌, List, [], ◌∷◌, length, drop, Bool, true}
use Rattle.std.specs.Prelude.{false, Option, Some, None, option_map, nat_le, if◌then◌else◌}
use Rattle.std.specs.Char.{is_ascii_alphabetic, is_ascii_digit, is_ascii_whitespace}
use Rattle.lay_values.specs.Numbers.{leading, behind}
use Rattle.lay_values.specs.Reading.{without_front, trimmed}
use Rattle.lay_sheet.specs.declared.selector.Simple.{Simple}
use Rattle.lay_sheet.specs.declared.selector.Simple.TheVariants.{Universal, Tag, Class, Label}
use Rattle.lay_sheet.specs.declared.selector.Joint.{Joint}
use Rattle.lay_sheet.specs.declared.selector.Joint.TheVariants.{Same, Descendant, Child, Adjacent}
use Rattle.lay_sheet.specs.declared.selector.Step.{Step}
use Rattle.lay_sheet.specs.Lists.{preceded}
use Rattle.lay_sheet.specs.Pieces.{is_other}

-- a byte that a name may begin with after its `-`; those from 128 on are of characters from U+0080 on
abbrev pub is_name_start : ℕ → Bool
is_name_start b = is_ascii_alphabetic b || (b == 95) || nat_le 128 b

abbrev pub is_name_part : ℕ → Bool
is_name_part b = is_name_start b || is_ascii_digit b || (b == 45)

abbrev pub begins_plain_name : List ℕ → Bool
begins_plain_name [] = false
begins_plain_name (b ∷ bs) = is_name_start b

abbrev pub begins_name : List ℕ → Bool
begins_name [] = false
begins_name (b ∷ bs) = if b == 45 then begins_plain_name bs else is_name_start b

-- the name that a text begins with
abbrev pub name_at_front : List ℕ → Option (List ℕ)
name_at_front text = if begins_name text then Some (leading is_name_part text) else None

-- whether a tag or `*` may stand behind the joint
abbrev pub begins_compound : Joint → Bool
begins_compound Same = false
begins_compound Descendant = true
begins_compound Child = true
begins_compound Adjacent = true

-- the simple selector that a text begins with, behind a joint, and what stands behind it
abbrev pub simple_of : Joint → List ℕ → Option Simple
simple_of joint [] = None
simple_of joint (b ∷ bs) =
    if b == 46 then option_map Class (name_at_front bs)
    else (if b == 35 then option_map Label (name_at_front bs)
    else (if begins_compound joint then (if b == 42 then Some Universal else option_map Tag (name_at_front (b ∷ bs)))
    else None))

abbrev pub behind_simple : List ℕ → List ℕ
behind_simple [] = []
behind_simple (b ∷ bs) = if b == 42 then bs else behind is_name_part bs

-- the joint that a text begins with, and what stands behind it
abbrev pub begins_with_space : List ℕ → Bool
begins_with_space [] = false
begins_with_space (b ∷ bs) = is_ascii_whitespace b

abbrev pub joined : Bool → List ℕ → Joint
joined spaced [] = Same
joined spaced (b ∷ bs) =
    if b == 62 then Child else (if b == 43 then Adjacent else (if spaced then Descendant else Same))

abbrev pub joint_of : List ℕ → Joint
joint_of text = joined (begins_with_space text) (without_front text)

abbrev pub behind_sign : List ℕ → List ℕ
behind_sign [] = []
behind_sign (b ∷ bs) = if (b == 62) || (b == 43) then without_front bs else b ∷ bs

abbrev pub behind_joint : List ℕ → List ℕ
behind_joint text = behind_sign (without_front text)

-- the steps that a text spells behind a joint; None where it isn't a selector
pub data AreSteps : Joint → List ℕ → Option (List Step) → Type 0 where
  no_step : (joint : Joint) (text : List ℕ) → simple_of joint text ≡ None → AreSteps joint text None
  last_step : (joint : Joint) (text : List ℕ) (simple : Simple) → simple_of joint text ≡ Some simple → length (behind_simple text) ≡ 0 →
      AreSteps joint text (Some (record { joint = joint; simple = simple } ∷ []))
  more_steps : (joint : Joint) (text : List ℕ) (simple : Simple) (found : Option (List Step)) → simple_of joint text ≡ Some simple →
      0 < length (behind_simple text) →
      AreSteps (joint_of (behind_simple text)) (behind_joint (behind_simple text)) found →
      AreSteps joint text (preceded (record { joint = joint; simple = simple }) found)

-- the selector that a text spells, or None
abbrev pub IsSelectorText : List ℕ → Option (List Step) → Type 0
IsSelectorText text found = AreSteps Descendant (trimmed text) found

-- the selectors that a rule set's prelude lists, parted by `,`; None where one of its parts is none (4.1.7)
pub data AreSelectors : List ℕ → Option (List (List Step)) → Type 0 where
  no_selector : (text : List ℕ) → IsSelectorText (leading (is_other 44) text) None → AreSelectors text None
  last_selector : (text : List ℕ) (selector : List Step) → IsSelectorText (leading (is_other 44) text) (Some selector) →
      length (behind (is_other 44) text) ≡ 0 → AreSelectors text (Some (selector ∷ []))
  more_selectors : (text : List ℕ) (selector : List Step) (found : Option (List (List Step))) →
      IsSelectorText (leading (is_other 44) text) (Some selector) → 0 < length (behind (is_other 44) text) →
      AreSelectors (drop 1 (behind (is_other 44) text)) found → AreSelectors text (preceded selector found)
