-- The cascade (CSS 2.2, 6.4). A sheet has a declaration for a node where a selector of its rule set matches the node. Among
-- those for one property the greatest weight decides. A node's own declaration stands above those of the sheet that aren't
-- important, and below those that are.
use Rattle.std.specs.Prelude.{ℕ, ◌≡◌, ◌<◌, List, [], length, true, false, Option, Some, None, slice_index_or}
use Rattle.std.specs.List.{slice_get}
use Rattle.lay_style.specs.declared.property.Property.{Property}
use Rattle.lay_style.specs.PropertyNumbers.{number_of, is_same_property}
use Rattle.lay_doc.specs.declared.node.Node.{Node}
use Rattle.lay_doc.specs.Document.{Document, is_text_at}
use Rattle.lay_cascade.specs.declared.node_names.names.Names.{Names}
use Rattle.lay_sheet.specs.Sheets.{RuleValue}
use Rattle.lay_sheet.specs.declared.selector.Step.{Step}
use Rattle.lay_sheet.specs.declared.declaration.SheetDecl.{SheetDecl}
use Rattle.lay_cascade.specs.Matching.{IsMatched}
use Rattle.lay_cascade.specs.Specificity.{specificity_of}
use Rattle.lay_cascade.specs.declared.styled.entry.Entry.{Entry}
use Rattle.lay_cascade.specs.declared.styled.candidates.Candidate.{Candidate}
use Rattle.lay_cascade.specs.Styled.Weights.{is_lighter}
use Rattle.lay_cascade.specs.Styled.Winners.{sheet_candidate, restyled}

-- the rule set at r has, for the property p of the node at k, this declaration by its selector at s; a text has none
pub record IsBy (rules : List RuleValue) (nodes : List Node) (names : List Names) (k : ℕ) (p : Property) (e : Entry) (c : Candidate)
    : Type 0 where
  pub rule : RuleValue
  pub selector : List Step
  pub place : ℕ
  pub decl : SheetDecl
  pub is_rule : slice_get rules e.rule ≡ Some rule
  pub is_selector : slice_get rule.selectors e.selector ≡ Some selector
  pub is_decl : slice_get rule.decls place ≡ Some decl
  pub no_text : is_text_at nodes k ≡ false
  pub matched : IsMatched nodes names selector k
  pub property : is_same_property p decl.decl.property ≡ true
  pub is : c ≡ sheet_candidate (specificity_of selector) e.rule place decl

-- the same by any selector of the sheet
abbrev pub IsInSheet : List RuleValue → List Node → List Names → ℕ → Property → Candidate → Type 0
IsInSheet rules nodes names k p c = (e : Entry) × IsBy rules nodes names k p e c

-- of those that a fact holds of, one that none is greater than, or none where there is none
pub record IsGreatest (Holds : Candidate → Type 0) (found : Option Candidate) : Type 0 where
  pub some : (c : Candidate) → found ≡ Some c → Holds c
  pub none : (c : Candidate) → found ≡ None → Holds c → ⊥
  pub greatest : (c d : Candidate) → found ≡ Some c → Holds d → is_lighter c.weight d.weight ≡ false

-- these are the greatest of the sheet's for the node at k, by the numbers of the 46 properties
pub record AreWinners (rules : List RuleValue) (nodes : List Node) (names : List Names) (k : ℕ) (winners : List (Option Candidate))
    : Type 0 where
  pub count : length winners ≡ 46
  pub each : (p : Property) → IsGreatest (IsInSheet rules nodes names k p) (slice_index_or winners (number_of p) None)

-- the same for each of the first n nodes
pub record AreAllWinners (rules : List RuleValue) (nodes : List Node) (names : List Names) (n : ℕ)
    (winners : List (List (Option Candidate))) : Type 0 where
  pub count : length winners ≡ n
  pub each : (k : ℕ) → k < n → AreWinners rules nodes names k (slice_index_or winners k [])

-- the document of which each node takes what is greatest for it
pub record IsCascaded (doc : Document) (rules : List RuleValue) (names : List Names) (new : Document) : Type 0 where
  pub winners : List (List (Option Candidate))
  pub are : AreAllWinners rules doc.nodes names (length doc.nodes) winners
  pub is : new ≡ record { width = doc.width; height = doc.height; nodes = restyled winners doc.nodes }
