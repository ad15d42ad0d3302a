-- What a node may be: an element with spans, a text, or a replaced element with a natural size.
use Rattle.std.specs.Prelude.{ℕ, ◌≤◌, List, ◌≡◌, [], Bool, true, false, pos, ◌≤ℤ◌}
use Rattle.lay_style.specs.Values.{Declaration}
use Rattle.lay_doc.specs.declared.node.NodeId.{NodeId}
use Rattle.lay_doc.specs.declared.node.Kind.{Kind}
use Rattle.lay_doc.specs.declared.node.Kind.TheVariants.{Element, Text, Replaced}

-- a node that is to be put into a document, as contracts see it
pub record NewNodeValue : Type 0 where
  pub id : NodeId
  pub kind : Kind
  pub decls : List Declaration
  pub text : List ℕ

-- a text has no declarations, and another node no text; spans are 1 to 64, and natural sizes 1 to
-- 1,000,000 px
abbrev pub IsNodeForm : Kind → List Declaration → List ℕ → Type 0
IsNodeForm (Element colspan rowspan) decls text = (text ≡ []) × (1 ≤ colspan) × (colspan ≤ 64) × (1 ≤ rowspan) × (rowspan ≤ 64)
IsNodeForm Text decls text = decls ≡ []
IsNodeForm (Replaced w h) decls text =
    (text ≡ []) × (pos 64 ≤ℤ w.0) × (w.0 ≤ℤ pos 64000000) × (pos 64 ≤ℤ h.0) × (h.0 ≤ℤ pos 64000000)

abbrev pub is_element : Kind → Bool
is_element (Element colspan rowspan) = true
is_element Text = false
is_element (Replaced w h) = false

abbrev pub is_text : Kind → Bool
is_text (Element colspan rowspan) = false
is_text Text = true
is_text (Replaced w h) = false
