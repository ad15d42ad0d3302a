-- A cell is given one input in the layout of a document: what it depends on stands before it, so the values that are right there are the
-- same, cell by cell.
use Rattle.std.proofs.Common.{◌≡◌, ◌<◌, ℕ, zero, suc, length, slice_get, Some, refl, ap, sym, subst, ◌∙◌, arith}
use Rattle.lay_doc.specs.Document.{Document, IsDocument}
use Rattle.lay_doc.specs.Laws.{OneStyleColumn}
use Rattle.lay_face.specs.FaceValue.{FaceValue}
use Rattle.lay_cells.specs.Shapes.{IsIn}
use Rattle.lay_contexts.specs.FormattingLaws.{OneFormattingContextList}
use Rattle.lay_contexts.specs.Laws.{OneContextList}
use Rattle.lay_context.specs.declared.task.Phase.{Phase}
use Rattle.lay_context.specs.Medium.{Medium}
use Rattle.lay_context.specs.Solves.{medium_of}
use Rattle.lay_shape.specs.Touched.ContextFlags.{ContextLists}
use Rattle.lay_shape.specs.declared.cell_key.CellKey.{CellKey}
use Rattle.lay_shape.specs.declared.context_phase.ContextPhase.{ContextPhase}
use Rattle.lay_shape.specs.Dependencies.{in_phase, needs_in}
use Rattle.lay_shape.specs.Shapes.{cells_of}
use Rattle.lay_core.proofs.Cited.{cell_in, cell_within, key_apart, need_before}
use Rattle.lay_cell_work.specs.CellLaws.KeptInputs.{InputsAreKept, IsSameCell}
use Rattle.lay_cell_work.specs.CellLaws.Laws.{OneCellLocal, PresentInputsLeadInward}
use Rattle.lay_cell_work.specs.CellLaws.SameContexts.{IsSameContext, IsTable, Table}
use Rattle.lay_cell_work.specs.CellInputs.{CellInput}
use Rattle.lay_cell_work.specs.CellLocal.{IsCellLocal}
use Rattle.lay_cell_work.specs.CellValues.{CellValue}
use Rattle.lay_cell_work.specs.KeptValues.{workings_of}
use Rattle.lay_document_cells.specs.State.{AreListsOf}
use Rattle.lay_core.specs.CoreLaws.GivenInputs.{DependsOn, IsCellOfKey, IsGivenAmong, IsRightAmong, directly, input_among, through}
use Rattle.lay_core.specs.CoreLaws.Laws.{OneGivenInput}
use Rattle.lay_core.proofs.CoreLawsLemmas.OneLists.{apart, counted, in_order, one_lists}

module _ (kept : InputsAreKept) (one : OneCellLocal) (inward : PresentInputsLeadInward) (d : Document) (face : FaceValue) (is : IsDocument d)
    (lists : ContextLists) (are : AreListsOf d lists) where
  abbrev M : Medium
  M = medium_of d face

  -- what a cell depends on depends on what that depends on
  beyond : (cell mid need : ContextPhase) → IsIn (needs_in lists.contexts cell) mid → DependsOn lists.contexts mid need → DependsOn lists.contexts cell need
  beyond cell mid need has (directly _ next) = through mid need (directly mid has) next
  beyond cell mid need has (through last _ before next) = through last need (beyond cell mid last has before) next

  abbrev AllRight : (ℕ → Phase → CellValue) → ContextPhase → Type 0
  AllRight values cell = (need : ContextPhase) → DependsOn lists.contexts cell need → IsRightAmong M lists values need

  abbrev table : (ℕ → Phase → CellValue) → Table
  table values = record { contexts = lists.contexts; formatting_contexts = lists.formatting_contexts; kept = values }

  is_table : (values : ℕ → Phase → CellValue) → IsTable (table values)
  is_table values = record {
    document = d;
    styles = are.0;
    is_document = is;
    counted = counted d lists is are;
    are_contexts = are.1.are_contexts;
    are_formatting_contexts = are.1.are_formatting_contexts;
  }

  module _ (v w : ℕ → Phase → CellValue) where
    itself : (c : ℕ) → c < length lists.contexts → IsSameContext (table v) (table w) c c
    itself c lt = record { within = lt; there = lt; root = (λ z. z, λ z. z); boxes = refl }

    same_cell : (x y : ℕ) (p : Phase) → x < length lists.contexts → x ≡ y → v x p ≡ w x p → IsSameCell (table v) (table w) x y p
    same_cell x y p lt e same = subst (λ (n : ℕ). IsSameCell (table v) (table w) x n p) e (record { own = itself x lt; kept = same })

    inputs_same : (cell : ContextPhase) → cell.context < length lists.contexts
        → ((need : ContextPhase) → IsIn (needs_in lists.contexts cell) need → v need.context need.phase ≡ w need.context need.phase)
        → input_among M lists v cell ≡ input_among M lists w cell
    inputs_same cell lt same =
        kept M (table v) (table w) cell.context cell.context cell.phase (is_table v) (is_table w)
        (record { own = itself cell.context lt; measured = λ _. refl }) refl
        (λ x y needed in_x in_y has key.
        same_cell x y needed in_x (apart d lists is are x y in_x in_y (ap (λ (k : CellKey). k.node) key)) (same (in_phase needed x) has))

    value_same : (cell : ContextPhase) → cell.context < length lists.contexts → IsRightAmong M lists v cell → IsRightAmong M lists w cell
        → input_among M lists v cell ≡ input_among M lists w cell → v cell.context cell.phase ≡ w cell.context cell.phase
    value_same cell lt right_v right_w same =
        one (input_among M lists v cell) (v cell.context cell.phase) (w cell.context cell.phase)
        (inward M lists.contexts lists.formatting_contexts (workings_of lists.contexts v) cell.context cell.phase (in_order d lists is are) are.1.are_formatting_contexts lt)
        right_v (subst (λ (i : CellInput). IsCellLocal i (w cell.context cell.phase)) (sym same) right_w)

    -- cell by cell in the order of their places
    agree : (bound place : ℕ) (cell : ContextPhase) → place < bound → slice_get (cells_of lists.contexts) place ≡ Some cell → AllRight v cell → AllRight w cell
        → input_among M lists v cell ≡ input_among M lists w cell
    agree zero place cell lt at right_v right_w = absurd (omega (arith, lt))
    agree (suc bound) place cell lt at right_v right_w =
        inputs_same cell (cell_within lists.contexts (in_order d lists is are) cell (place, at))
        (λ need has.
        let b = need_before lists.contexts (in_order d lists is are) place cell need at has in
        let before : b.0 < place = b.1 in
        value_same need (cell_within lists.contexts (in_order d lists is are) need (b.0, b.2)) (right_v need (directly need has)) (right_w need (directly need has))
        (agree bound b.0 need (omega (arith, lt, before)) b.2 (λ n on. right_v n (beyond cell need n has on)) (λ n on. right_w n (beyond cell need n has on))))

    one_among : (cell : ContextPhase) → cell.context < length lists.contexts → AllRight v cell → AllRight w cell → input_among M lists v cell ≡ input_among M lists w cell
    one_among cell lt right_v right_w =
        let there = cell_in lists.contexts (in_order d lists is are) cell.phase cell.context lt in
        agree (suc there.0) there.0 cell (omega arith) there.1 right_v right_w

  one_cell : (key : CellKey) (a b : ContextPhase) → IsCellOfKey lists.contexts key a → IsCellOfKey lists.contexts key b → a ≡ b
  one_cell key a b x y = key_apart lists.contexts (in_order d lists is are) (apart d lists is are) a b x.within y.within (sym x.key_is ∙ y.key_is)

  pub given_once : (key : CellKey) (i j : CellInput) → IsGivenAmong M lists key i → IsGivenAmong M lists key j → i ≡ j
  given_once key i j a b =
      let same : a.cell ≡ b.cell = one_cell key a.cell b.cell a.cell_is b.cell_is in
      let right : AllRight a.values b.cell = subst (λ (c : ContextPhase). AllRight a.values c) same a.right in
      a.input_is ∙ ap (input_among M lists a.values) same ∙ one_among a.values b.values b.cell b.cell_is.within right b.right ∙ sym b.input_is

pub one_given_input_lem : OneStyleColumn → OneContextList → OneFormattingContextList → InputsAreKept → OneCellLocal → PresentInputsLeadInward → OneGivenInput
one_given_input_lem columns contexts all kept one inward d face key i j a b =
    let same : a.lists ≡ b.lists = one_lists columns contexts all d a.lists b.lists a.is_document a.lists_are b.lists_are in
    given_once kept one inward d face a.is_document a.lists a.lists_are key i j a.among
    (subst (λ (l : ContextLists). IsGivenAmong (medium_of d face) l key j) (sym same) b.among)
