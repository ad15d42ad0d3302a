-- A text has no declarations, so styles stay where one changes.
use Rattle.std.proofs.Common.{◌≡◌, ℕ, All, zero, suc, List, [], ◌∷◌, map, length, arith, refl, ap, sym, subst, Option, None, Some}
use Rattle.std.proofs.lemmas.List.Elements.{All-head, All-tail}
use Rattle.lay_style.specs.declared.style.Style.{Style}
use Rattle.lay_style.specs.ComputedStyle.{HasStyles, style_at}
use Rattle.lay_style.specs.Places.{place_of}
use Rattle.lay_doc.specs.declared.edit.Edit.{Edit}
use Rattle.lay_doc.specs.declared.edit.Edit.TheVariants.{SetStyle, ClearStyle, SetText, Insert, Remove, Bad}
use Rattle.lay_doc.specs.declared.node.Node.{Node}
use Rattle.lay_doc.specs.declared.node.NodeId.{NodeId}
use Rattle.lay_doc.specs.Changes.{changed_at, with_text}
use Rattle.lay_doc.specs.Document.{Document, declarations_of, ids_of, parents_of}
use Rattle.lay_doc.specs.Edits.{after}
use Rattle.lay_history.specs.Edits.EditLists.{after_all}
use Rattle.lay_after_edits.specs.Styles.WrittenOver.{AreSameOutside}
use Rattle.lay_document_cells.specs.TextEdits.{IsTextEdit}

column-stays : {X : Type 0} (g : Node → X) (text : List ℕ) → ((n : Node) → g (with_text text n) ≡ g n) → (p : ℕ) (ns : List Node) → map g (changed_at p (with_text text) ns) ≡ map g ns
column-stays g text same p [] = refl
column-stays g text same zero (x ∷ xs) = ap (λ y. y ∷ map g xs) (same x)
column-stays g text same (suc p) (x ∷ xs) = ap (λ ys. g x ∷ ys) (column-stays g text same p xs)

abbrev AreStyled : Document → List Style → Type 0
AreStyled d styles = HasStyles (parents_of d.nodes) (declarations_of d.nodes) styles

changed-text : (d : Document) (text : List ℕ) (styles : List Style) (p : ℕ) → AreStyled d styles → AreStyled (record d { nodes = changed_at p (with_text text) d.nodes }) styles
changed-text d text styles p are =
    subst (λ (ps : List ℕ). HasStyles ps (declarations_of (changed_at p (with_text text) d.nodes)) styles) (sym (column-stays (λ n. n.parent) text (λ n. refl) p d.nodes))
    (subst (λ ds. HasStyles (parents_of d.nodes) ds styles) (sym (column-stays (λ n. n.decls) text (λ n. refl) p d.nodes)) are)

pub texts-have-no-styles : (d : Document) (node : NodeId) (text : List ℕ) (styles : List Style) → AreStyled d styles → AreStyled (after d (SetText node text)) styles
texts-have-no-styles d node text styles are = by (place_of node.0 (ids_of d.nodes)) refl
  where
    by : (o : Option ℕ) → place_of node.0 (ids_of d.nodes) ≡ o → AreStyled (after d (SetText node text)) styles
    by None e = rw e are
    by (Some p) e = rw e (changed-text d text styles p are)

one-text : (d : Document) (e : Edit) (styles : List Style) → IsTextEdit e → AreStyled d styles → AreStyled (after d e) styles
one-text d (SetStyle node decl) styles is are = absurd is
one-text d (ClearStyle node property) styles is are = absurd is
one-text d (SetText node text) styles is are = texts-have-no-styles d node text styles are
one-text d (Insert parent index new) styles is are = absurd is
one-text d (Remove node) styles is are = absurd is
one-text d (Bad bad) styles is are = absurd is

-- so they do where several change
pub texts-keep-styles : (d : Document) (edits : List Edit) (styles : List Style) → All IsTextEdit edits → AreStyled d styles → AreStyled (after_all d edits) styles
texts-keep-styles d [] styles all are = are
texts-keep-styles d (e ∷ es) styles all are =
    texts-keep-styles (after d e) es styles (All-tail IsTextEdit e es all) (one-text d e styles (All-head IsTextEdit e es all) are)

-- styles that stay are the same outside a part without nodes
pub none_written_over : (styles later : List Style) → later ≡ styles → AreSameOutside styles later (record { from = 0; until = 0 })
none_written_over styles later same = record {
  count = ap length same;
  within = omega arith;
  same = λ k outside. ap (λ (xs : List Style). style_at xs k) same;
}
