-- Laws of the cascade (CSS 2.2, 6.4). The second says it of all declarations that a node may have, its own among them, by
-- their keys: the greatest key is that of the declaration which counts.
use Rattle.std.specs.Prelude.{ℕ, ◌≡◌, List, false, Some, None}
use Rattle.std.specs.List.{slice_get}
use Rattle.lay_style.specs.declared.property.Property.{Property}
use Rattle.lay_style.specs.declared.property.Given.{Given}
use Rattle.lay_style.specs.Declarations.{declared_value}
use Rattle.lay_doc.specs.declared.node.Node.{Node}
use Rattle.lay_doc.specs.Document.{Document}
use Rattle.lay_cascade.specs.declared.node_names.names.Names.{Names}
use Rattle.lay_sheet.specs.Sheets.{RuleValue}
use Rattle.lay_cascade.specs.declared.styled.candidates.Candidate.{Candidate}
use Rattle.lay_cascade.specs.Styled.Weights.{key_of, own_key, is_less_key}
use Rattle.lay_cascade.specs.Styled.Cascade.{IsInSheet, IsCascaded}

-- a document is styled in one way
abbrev pub OneStyled : Type 0
OneStyled = (doc : Document) (rules : List RuleValue) (names : List Names) (a b : Document) →
    IsCascaded doc rules names a → IsCascaded doc rules names b → a ≡ b

-- a node may have this value for a property, with this key: by the sheet, or by its own declaration
pub data MayHave (rules : List RuleValue) (nodes : List Node) (names : List Names) (k : ℕ) (p : Property) : List ℕ → Given → Type 0 where
  by_sheet : (c : Candidate) → IsInSheet rules nodes names k p c → MayHave rules nodes names k p (key_of c.weight) c.decl.value
  by_itself : (node : Node) (value : Given) → slice_get nodes k ≡ Some node → declared_value p node.decls ≡ Some value →
      MayHave rules nodes names k p own_key value

-- no key is greater than that of the value that a node has in the end, and where it has none it may have none
abbrev pub StyledDeclares : Type 0
StyledDeclares = (doc : Document) (rules : List RuleValue) (names : List Names) (new : Document) → IsCascaded doc rules names new →
    (k : ℕ) (node : Node) → slice_get new.nodes k ≡ Some node → (p : Property) →
    ((value : Given) → declared_value p node.decls ≡ Some value → (key : List ℕ) × MayHave rules doc.nodes names k p key value
    × ((other : List ℕ) (v : Given) → MayHave rules doc.nodes names k p other v → is_less_key key other ≡ false))
    × (declared_value p node.decls ≡ None → (key : List ℕ) (v : Given) → MayHave rules doc.nodes names k p key v → ⊥)
