-- The greatest declarations of a sheet for a node, of those by some of its selectors.
use Rattle.std.specs.Prelude.{ℕ, ◌≡◌, List, length, Option, None, slice_index_or}
use Rattle.std.specs.List.{Contains}
use Rattle.lay_style.specs.declared.property.Property.{Property}
use Rattle.lay_style.specs.PropertyNumbers.{number_of}
use Rattle.lay_doc.specs.declared.node.Node.{Node}
use Rattle.lay_cascade.specs.declared.node_names.names.Names.{Names}
use Rattle.lay_sheet.specs.Sheets.{RuleValue}
use Rattle.lay_cascade.specs.declared.styled.entry.Entry.{Entry}
use Rattle.lay_cascade.specs.declared.styled.candidates.Candidate.{Candidate}
use Rattle.lay_cascade.specs.Styled.Cascade.{IsBy, IsGreatest}

-- by one of these selectors the sheet has this declaration for the property p of the node at k
abbrev pub IsBySome : List RuleValue → List Node → List Names → ℕ → List Entry → Property → Candidate → Type 0
IsBySome rules nodes names k seen p c = (e : Entry) × Contains seen e × IsBy rules nodes names k p e c

-- these are the greatest of them, by the numbers of the 46 properties
pub record AreWinnersOf (rules : List RuleValue) (nodes : List Node) (names : List Names) (k : ℕ)
    (seen : List Entry) (winners : List (Option Candidate)) : Type 0 where
  pub count : length winners ≡ 46
  pub each : (p : Property) → IsGreatest (IsBySome rules nodes names k seen p) (slice_index_or winners (number_of p) None)
