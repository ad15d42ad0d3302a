-- Sheets as they are printed: plain text in the grammar of the standard (CSS 2.2, 4.1.1, 4.1.3, 4.1.5 to 4.1.8, 5.2 to 5.9, 6.4.2 and
-- Appendix G), with the same white space, or none, wherever the grammar lets some stand. It has no comments, strings and escapes.
use Rattle.std.specs.Prelude.{ℕ, ◌≡◌, ◌<◌, ◌==◌, ◌&&◌, ◌||◌, List, [], ◌∷◌, ◌++◌, length, map, reverse, codes, Bool, true}
use Rattle.std.specs.Prelude.{false, not, Ok, flat_map, nat_le, if◌then◌else◌, ⊤}
use Rattle.std.specs.List.{list_all, AllByRecursion, AllZip}
use Rattle.std.specs.Char.{is_ascii_alphabetic, is_ascii_digit, is_ascii_whitespace, to_ascii_lowercase}
use Rattle.lay_values.specs.Reading.{read_declaration}
use Rattle.lay_sheet.specs.declared.selector.Simple.{Simple}
use Rattle.lay_sheet.specs.declared.selector.Simple.TheVariants.{Universal, Tag, Class, Label}
use Rattle.lay_sheet.specs.declared.selector.Joint.{Joint}
use Rattle.lay_sheet.specs.declared.selector.Joint.TheVariants.{Same, Descendant, Child, Adjacent}
use Rattle.lay_sheet.specs.declared.selector.Step.{Step}
use Rattle.lay_sheet.specs.declared.declaration.SheetDecl.{SheetDecl}
use Rattle.lay_sheet.specs.Sheets.{RuleValue}

-- a declaration of a printed sheet: a property's name in any case and a value, and whether `!important` stands behind it
pub record PrintedDecl : Type 0 where
  pub name : List ℕ
  pub value : List ℕ
  pub important : Bool

-- a rule set of a printed sheet
pub record PrintedRule : Type 0 where
  pub selectors : List (List Step)
  pub decls : List PrintedDecl

-- a type selector, the universal selector, a class and an id
abbrev pub simple_text : Simple → List ℕ
simple_text Universal = codes "*"
simple_text (Tag name) = name
simple_text (Class name) = codes "." ++ name
simple_text (Label name) = codes "#" ++ name

-- a sign with white space round it
abbrev pub spaced : List ℕ → List ℕ → List ℕ
spaced space sign = space ++ (sign ++ space)

-- the combinators: white space for descendants, `>` for children, `+` for the next sibling; nothing stands within a compound
abbrev pub joint_text : List ℕ → Joint → List ℕ
joint_text space Same = []
joint_text space Descendant = codes " " ++ space
joint_text space Child = spaced space (codes ">")
joint_text space Adjacent = spaced space (codes "+")

abbrev pub joined_text : List ℕ → List Step → List ℕ
joined_text space [] = []
joined_text space (s ∷ ss) = joint_text space s.joint ++ (simple_text s.simple ++ joined_text space ss)

abbrev pub selector_text : List ℕ → List Step → List ℕ
selector_text space [] = []
selector_text space (s ∷ ss) = simple_text s.simple ++ joined_text space ss

-- `!important`, where it stands
abbrev pub weight_text : List ℕ → Bool → List ℕ
weight_text space important = if important then spaced space (codes "!") ++ codes "important" else []

abbrev pub declaration_text : List ℕ → PrintedDecl → List ℕ
declaration_text space d = d.name ++ (spaced space (codes ":") ++ (d.value ++ weight_text space d.important))

-- texts with a sign between each two
abbrev pub parted_text : List ℕ → List ℕ → List (List ℕ) → List ℕ
parted_text space sign [] = []
parted_text space sign (x ∷ []) = x
parted_text space sign (x ∷ y ∷ more) = x ++ (spaced space sign ++ parted_text space sign (y ∷ more))

-- selectors are parted by `,` and declarations by `;`, and braces stand round the block
abbrev pub rule_text : List ℕ → PrintedRule → List ℕ
rule_text space r =
    parted_text space (codes ",") (map (selector_text space) r.selectors)
    ++ (spaced space (codes "{") ++ (parted_text space (codes ";") (map (declaration_text space) r.decls) ++ spaced space (codes "}")))

abbrev pub sheet_text : List ℕ → List PrintedRule → List ℕ
sheet_text space rs = flat_map (rule_text space) rs

-- Names (4.1.3): letters, digits, hyphens, underscores and bytes of characters from U+0080 on. "They cannot start with a digit, two
-- hyphens, or a hyphen followed by a digit", and a hyphen alone is none.
abbrev pub is_of_name : ℕ → Bool
is_of_name b = is_ascii_alphabetic b || is_ascii_digit b || (b == 45) || (b == 95) || nat_le 128 b

abbrev pub starts_badly : List ℕ → Bool
starts_badly [] = true
starts_badly (b ∷ []) = is_ascii_digit b || (b == 45)
starts_badly (b ∷ c ∷ cs) = is_ascii_digit b || ((b == 45) && ((c == 45) || is_ascii_digit c))

pub record IsName (name : List ℕ) : Type 0 where
  pub bytes : list_all is_of_name name ≡ true
  pub starts : starts_badly name ≡ false

abbrev pub IsNamed : Simple → Type 0
IsNamed Universal = ⊤
IsNamed (Tag name) = IsName name
IsNamed (Class name) = IsName name
IsNamed (Label name) = IsName name

-- a type selector and `*` begin a compound, a class and an id may go on with one
abbrev pub begins_only : Simple → Bool
begins_only Universal = true
begins_only (Tag name) = true
begins_only (Class name) = false
begins_only (Label name) = false

abbrev pub goes_on : Joint → Bool
goes_on Same = true
goes_on Descendant = false
goes_on Child = false
goes_on Adjacent = false

pub record IsStep (s : Step) : Type 0 where
  pub named : IsNamed s.simple
  pub fits : (goes_on s.joint && begins_only s.simple) ≡ false

-- a selector, whose first simple selector counts as a descendant of nothing
abbrev pub IsSelector : List Step → Type 0
IsSelector [] = ⊥
IsSelector (s ∷ ss) = (s.joint ≡ Descendant) × IsNamed s.simple × AllByRecursion IsStep ss

-- the name of a property, in any case
abbrev pub is_of_property : ℕ → Bool
is_of_property b = is_ascii_alphabetic b || (b == 45)

-- a value: words, numbers and percentages, with white space between them
abbrev pub is_of_value : ℕ → Bool
is_of_value b = is_ascii_alphabetic b || is_ascii_digit b || (b == 43) || (b == 45) || (b == 46) || (b == 37) || is_ascii_whitespace b

-- a text that begins with a byte other than white space
abbrev pub begins_solid : List ℕ → Bool
begins_solid [] = false
begins_solid (b ∷ bs) = not (is_ascii_whitespace b)

pub record IsValueText (value : List ℕ) : Type 0 where
  pub bytes : list_all is_of_value value ≡ true
  pub begins : begins_solid value ≡ true
  pub ends : begins_solid (reverse value) ≡ true

-- a printed declaration spells the one that its name and its value give
pub record SpellsDecl (printed : PrintedDecl) (d : SheetDecl) : Type 0 where
  pub name : list_all is_of_property printed.name ≡ true
  pub value : IsValueText printed.value
  pub says : read_declaration (map to_ascii_lowercase printed.name) printed.value ≡ Ok d.decl
  pub important : printed.important ≡ d.important

pub record SpellsRule (printed : PrintedRule) (rule : RuleValue) : Type 0 where
  pub selectors : printed.selectors ≡ rule.selectors
  pub some : 0 < length printed.selectors
  pub each : AllByRecursion IsSelector printed.selectors
  pub decls : AllZip SpellsDecl printed.decls rule.decls
