-- Where the selectors of a sheet are looked up: by the name that the last simple selector asks for, of which each has its list,
-- or in a list of their own where it asks for none. A list may have other selectors too.
use Rattle.std.specs.Prelude.{ℕ, ◌≡◌, ◌+◌, ◌-◌, ◌*◌, ◌%◌, ◌<◌, ◌⊎◌, ◌++◌, List, [], ◌∷◌}
use Rattle.std.specs.Prelude.{length, map, Option, Some, None, set, slice_index_or, option_and_then}
use Rattle.std.specs.List.{slice_get, Contains, flat_map}
use Rattle.lay_cascade.specs.declared.node_names.names.Names.{Names}
use Rattle.lay_sheet.specs.declared.selector.Simple.{Simple}
use Rattle.lay_sheet.specs.declared.selector.Simple.TheVariants.{Universal, Tag, Class, Label}
use Rattle.lay_sheet.specs.declared.selector.Step.{Step}
use Rattle.lay_sheet.specs.Sheets.{RuleValue}
use Rattle.lay_cascade.specs.declared.styled.entry.Entry.{Entry}

-- the name that a simple selector asks for
abbrev pub name_in : Simple → Option (List ℕ)
name_in Universal = None
name_in (Tag name) = Some name
name_in (Class name) = Some name
name_in (Label name) = Some name

abbrev pub last_name : List Step → Option (List ℕ)
last_name steps = option_and_then (λ s. name_in s.simple) (slice_get steps (length steps - 1))

-- the number of the list that a name has
abbrev pub list_from : ℕ → List ℕ → ℕ
list_from sum [] = sum
list_from sum (b ∷ bs) = list_from ((sum * 31 + b) % 4096) bs

abbrev pub list_of : List ℕ → ℕ
list_of name = list_from 0 name

-- the lists and the rest with one selector more
abbrev pub by_name_with : Option (List ℕ) → Entry → List (List Entry) → List (List Entry)
by_name_with None e by_name = by_name
by_name_with (Some name) e by_name = set by_name (list_of name) (slice_index_or by_name (list_of name) [] ++ e ∷ [])

abbrev pub rest_with : Option (List ℕ) → Entry → List Entry → List Entry
rest_with None e rest = rest ++ e ∷ []
rest_with (Some name) e rest = rest

-- the list of a name, or the rest
abbrev pub listed : List (List Entry) → List Entry → Option (List ℕ) → List Entry
listed by_name rest None = rest
listed by_name rest (Some name) = slice_index_or by_name (list_of name) []

-- the selectors of the first rule sets, and the first ones of the next rule set, stand where they are looked up
pub record IsIndexedTo (rules : List RuleValue) (by_name : List (List Entry)) (rest : List Entry) (r s : ℕ) : Type 0 where
  pub count : length by_name ≡ 4096
  pub each : (e : Entry) (rule : RuleValue) (selector : List Step) → slice_get rules e.rule ≡ Some rule →
      slice_get rule.selectors e.selector ≡ Some selector → (e.rule < r) ⊎ ((e.rule ≡ r) × (e.selector < s)) →
      Contains (listed by_name rest (last_name selector)) e

-- all selectors stand where they are looked up
abbrev pub IsIndexed : List RuleValue → List (List Entry) → List Entry → Type 0
IsIndexed rules by_name rest = IsIndexedTo rules by_name rest (length rules) 0

-- the selectors that are looked up for a node of these names
abbrev pub of_classes : List (List Entry) → List Entry → List (List ℕ) → List Entry
of_classes by_name rest classes = flat_map (λ class. listed by_name rest (Some class)) classes

-- the selectors of the lists with these numbers
abbrev pub of_lists : List (List Entry) → List ℕ → List Entry
of_lists by_name numbers = flat_map (λ n. slice_index_or by_name n []) numbers

-- these are the numbers of the lists of some classes, in any order
pub record AreListsOf (classes : List (List ℕ)) (numbers : List ℕ) : Type 0 where
  pub sound : (n : ℕ) → Contains numbers n → Contains (map list_of classes) n
  pub complete : (n : ℕ) → Contains (map list_of classes) n → Contains numbers n

abbrev pub looked_up : List (List Entry) → List Entry → Names → List Entry
looked_up by_name rest names =
    ((listed by_name rest (Some names.tag) ++ listed by_name rest (Some names.label)) ++ of_classes by_name rest names.classes) ++ rest
