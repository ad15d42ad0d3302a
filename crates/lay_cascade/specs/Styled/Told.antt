-- What is told of the nodes before they are styled: of a selector of many steps, which of them it matches. Of any other nothing is told,
-- and it is asked about a node when that is styled.
use Rattle.std.specs.Prelude.{ℕ, ◌≡◌, ◌⊎◌, Bool, List, [], length, Some, slice_index_or}
use Rattle.std.specs.List.{slice_get}
use Rattle.lay_doc.specs.declared.node.Node.{Node}
use Rattle.lay_cascade.specs.declared.node_names.names.Names.{Names}
use Rattle.lay_sheet.specs.Sheets.{RuleValue}
use Rattle.lay_sheet.specs.declared.selector.Step.{Step}
use Rattle.lay_cascade.specs.Matching.{IsMatched}
use Rattle.lay_cascade.specs.Columns.{IsColumn}
use Rattle.lay_cascade.specs.declared.styled.entry.Entry.{Entry}

-- a column is empty, or says of each node whether a selector matches it
abbrev pub IsTold : List Node → List Names → List Step → List Bool → Type 0
IsTold nodes names selector column = (column ≡ []) ⊎ IsColumn (length nodes) (IsMatched nodes names selector) column

-- the columns of a rule set's selectors; where there is none it counts as empty
abbrev pub AreTold : List Node → List Names → List (List Step) → List (List Bool) → Type 0
AreTold nodes names selectors columns =
    (s : ℕ) (selector : List Step) → slice_get selectors s ≡ Some selector → IsTold nodes names selector (slice_index_or columns s [])

-- and those of all rule sets
abbrev pub AreColumns : List RuleValue → List Node → List Names → List (List (List Bool)) → Type 0
AreColumns rules nodes names columns =
    (r : ℕ) (rule : RuleValue) → slice_get rules r ≡ Some rule → AreTold nodes names rule.selectors (slice_index_or columns r [])

-- the column of a selector
abbrev pub column_at : List (List (List Bool)) → Entry → List Bool
column_at columns e = slice_index_or (slice_index_or columns e.rule []) e.selector []
