-- Among the same contexts a cell is given what it was, where the cells that it depends on keep the same.
use Rattle.std.proofs.Common.{◌≡◌, ◌<◌, ℕ, List, length, refl, ap, subst}
use Rattle.lay_style.specs.declared.style.Style.{Style}
use Rattle.lay_doc.specs.Document.{Document, IsDocument}
use Rattle.lay_cells.specs.Shapes.{IsIn}
use Rattle.lay_contexts.specs.Contexts.{Context}
use Rattle.lay_contexts.specs.ContextList.{AreContextsOf}
use Rattle.lay_contexts.specs.FormattingContexts.{FormattingContext}
use Rattle.lay_contexts.specs.FormattingContextList.{AreFormattingContextsOf}
use Rattle.lay_context.specs.declared.task.Phase.{Phase}
use Rattle.lay_context.specs.Medium.{Medium}
use Rattle.lay_shape.specs.declared.cell_key.CellKey.{CellKey}
use Rattle.lay_shape.specs.Dependencies.{in_phase, needs_in}
use Rattle.lay_shape.specs.Keys.{AreOfOwnNodes}
use Rattle.lay_cell_work.specs.KeptValues.{kept_value}
use Rattle.lay_cell_work.specs.CellLaws.SameContexts.{IsSameContext, IsTable, Table}
use Rattle.lay_cell_work.specs.CellLaws.SoundCells.{CellRow, input_now}
use Rattle.lay_cell_work.specs.CellLaws.KeptInputs.{InputsAreKept, IsSameCell}

-- contexts with what these rows keep
abbrev pub table : List Context → List FormattingContext → List CellRow → Table
table contexts all rows = record { contexts = contexts; formatting_contexts = all; kept = kept_value rows contexts }

pub is_table : (d : Document) (styles : List Style) (contexts : List Context) (all : List FormattingContext) (rows : List CellRow) → IsDocument d → length styles ≡ length d.nodes
    → AreContextsOf d.nodes styles contexts → AreFormattingContextsOf contexts all → IsTable (table contexts all rows)
is_table d styles contexts all rows is counted are of = record { document = d; styles = styles; is_document = is; counted = counted; are_contexts = are; are_formatting_contexts = of }

module _ (kept : InputsAreKept) (medium : Medium) (d : Document) (styles : List Style) (contexts : List Context) (all : List FormattingContext) (is : IsDocument d) (counted : length styles ≡ length d.nodes)
    (are : AreContextsOf d.nodes styles contexts) (of : AreFormattingContextsOf contexts all) (apart : AreOfOwnNodes contexts) (old new : List CellRow) where
  itself : (c : ℕ) → c < length contexts → IsSameContext (table contexts all old) (table contexts all new) c c
  itself c lt = record { within = lt; there = lt; root = (λ z. z, λ z. z); boxes = refl }

  same_cell : (x y : ℕ) (p : Phase) → x < length contexts → x ≡ y → kept_value old contexts x p ≡ kept_value new contexts x p → IsSameCell (table contexts all old) (table contexts all new) x y p
  same_cell x y p lt e same = subst (λ (n : ℕ). IsSameCell (table contexts all old) (table contexts all new) x n p) e (record { own = itself x lt; kept = same })

  pub inputs_same : (c : ℕ) (p : Phase) → c < length contexts
      → ((x : ℕ) (needed : Phase) → x < length contexts → IsIn (needs_in contexts (in_phase p c)) (in_phase needed x) → kept_value old contexts x needed ≡ kept_value new contexts x needed)
      → input_now medium contexts all old c p ≡ input_now medium contexts all new c p
  inputs_same c p lt same =
      kept medium (table contexts all old) (table contexts all new) c c p (is_table d styles contexts all old is counted are of) (is_table d styles contexts all new is counted are of)
      (record { own = itself c lt; measured = λ _. refl }) refl
      (λ x y needed in_x in_y has key. same_cell x y needed in_x (apart x y in_x in_y (ap (λ (k : CellKey). k.node) key)) (same x needed in_x has))
