-- The rows of cells that have the shape of contexts: each is of a context and phase, has the dependencies of that, and its value is read
-- under its key.
use Rattle.std.proofs.Common.{◌≡◌, ◌<◌, ℕ, zero, suc, Bool, true, false, List, [], ◌∷◌, length, map, slice_get, Some, refl, ap, sym, ◌∙◌}
use Rattle.lay_cells.specs.Shapes.{Entry, IsIn, IsShape}
use Rattle.lay_cells.specs.Rows.{entry_of}
use Rattle.lay_kept_cells.proofs.Cited.{cell_in, cell_within, is_same_key, key_apart, key_is, map_at, map_got, one_by_key}
use Rattle.lay_contexts.specs.Contexts.{AreContexts, Context}
use Rattle.lay_context.specs.declared.task.Phase.{Phase}
use Rattle.lay_shape.specs.declared.cell_key.CellKey.{CellKey}
use Rattle.lay_shape.specs.declared.context_phase.ContextPhase.{ContextPhase}
use Rattle.lay_shape.specs.Dependencies.{in_phase, needs_of}
use Rattle.lay_shape.specs.Keys.{AreOfOwnNodes, key_of as key_of_cell}
use Rattle.lay_shape.specs.Shapes.{cells_of, entry_of as entry_of_cell, shape_of}
use Rattle.lay_cell_work.specs.KeptValues.{is_key, value_or_none, value_under}
use Rattle.lay_cell_work.specs.PresentInputs.{key_of}
use Rattle.lay_cell_work.specs.CellLaws.SoundCells.{CellRow, IsCellOf}

module _ (contexts : List Context) (are : AreContexts contexts) (rows : List CellRow) (shaped : map entry_of rows ≡ shape_of contexts) where
  record IsOfCell (r : CellRow) : Type 0 where
    cell : ContextPhase
    within : cell.context < length contexts
    is : entry_of r ≡ entry_of_cell contexts cell

  of_cell : (place : ℕ) (r : CellRow) → slice_get rows place ≡ Some r → IsOfCell r
  of_cell place r at =
      let there : slice_get (shape_of contexts) place ≡ Some (entry_of r) = ap (λ (es : List (Entry CellKey)). slice_get es place) (sym shaped) ∙ map_at entry_of rows place r at in
      let c = map_got (entry_of_cell contexts) (cells_of contexts) place (entry_of r) there in
      record { cell = c.0; within = cell_within contexts are c.0 (place, c.1); is = c.2 }

  -- the cell of a row
  pub record IsRowOf (r : CellRow) : Type 0 where
    pub context : ℕ
    pub phase : Phase
    pub within : context < length contexts
    pub key : r.key ≡ key_of contexts context phase

  pub row_of : (r : CellRow) → IsIn rows r → IsRowOf r
  row_of r there =
      let o = of_cell there.0 r there.1 in
      record { context = o.cell.context; phase = o.cell.phase; within = o.within; key = ap (λ (e : Entry CellKey). e.key) o.is }

  -- its dependencies
  pub needs_are : AreOfOwnNodes contexts → (c : ℕ) (p : Phase) (r : CellRow) → c < length contexts → IsIn rows r → r.key ≡ key_of contexts c p → r.needs ≡ needs_of contexts (in_phase p c)
  needs_are apart c p r lt there key =
      let o = of_cell there.0 r there.1 in
      let k : key_of_cell contexts o.cell ≡ key_of_cell contexts (in_phase p c) = sym (ap (λ (e : Entry CellKey). e.key) o.is) ∙ key in
      let one : o.cell ≡ in_phase p c = key_apart contexts are apart o.cell (in_phase p c) o.within lt k in
      ap (λ (e : Entry CellKey). e.needs) o.is ∙ ap (needs_of contexts) one

  pub cell_there : (c : ℕ) (p : Phase) → c < length contexts → (r : CellRow) × IsCellOf rows contexts c p r
  cell_there c p lt =
      let place = cell_in contexts are p c lt in
      let at : slice_get (map entry_of rows) place.0 ≡ Some (entry_of_cell contexts (in_phase p c)) =
      ap (λ (es : List (Entry CellKey)). slice_get es place.0) shaped ∙ map_at (entry_of_cell contexts) (cells_of contexts) place.0 (in_phase p c) place.1 in
      let r = map_got entry_of rows place.0 (entry_of_cell contexts (in_phase p c)) at in
      (r.0, record { there = (place.0, r.1); key = sym (ap (λ (e : Entry CellKey). e.key) r.2) })

-- cells of one key are of one context and one phase
pub same_context : (contexts : List Context) → AreOfOwnNodes contexts → (c e : ℕ) (p q : Phase) → c < length contexts → e < length contexts → key_of contexts c p ≡ key_of contexts e q → c ≡ e
same_context contexts apart c e p q in_c in_e key = apart c e in_c in_e (ap (λ (k : CellKey). k.node) key)

pub same_phase : (contexts : List Context) (c e : ℕ) (p q : Phase) → key_of contexts c p ≡ key_of contexts e q → p ≡ q
same_phase contexts c e p q key = ap (λ (k : CellKey). k.phase) key

value_at : (rows : List CellRow) (key : CellKey) (r : CellRow) (place : ℕ) → slice_get rows place ≡ Some r → r.key ≡ key → ((q : CellRow) → IsIn rows q → q.key ≡ key → q ≡ r)
    → value_under rows key ≡ value_or_none key.phase r.kept
value_at [] key r place at is only = absurd cc
value_at (q ∷ rows) key r place at is only = by (is_key q.key key) refl place at (λ k there. value_at rows key r k there is (λ x has. only x (suc has.0, has.1)))
  where
    by : (b : Bool) → is_key q.key key ≡ b → (place : ℕ) → slice_get (q ∷ rows) place ≡ Some r
        → ((k : ℕ) → slice_get rows k ≡ Some r → value_under rows key ≡ value_or_none key.phase r.kept) → value_under (q ∷ rows) key ≡ value_or_none key.phase r.kept
    by true e place there rest = let one : q ≡ r = only q (0, refl) (key_is q.key key e) in rw e (ap (λ (x : CellRow). value_or_none key.phase x.kept) one)
    by false e zero there rest = absurd (let own : is_key q.key key ≡ true = (let s : q ≡ r = cc in rw (s, is) (is_same_key key)) in let never : false ≡ true = sym e ∙ own in cc)
    by false e (suc k) there rest = rw e (rest k there)

-- what is read under the key of a row
pub value_is : (rows : List CellRow) → IsShape (map entry_of rows) → (key : CellKey) (r : CellRow) → IsIn rows r → r.key ≡ key → value_under rows key ≡ value_or_none key.phase r.kept
value_is rows shape key r there is = value_at rows key r there.0 there.1 is (λ z has same. (one_by_key rows shape has.0 there.0 z r has.1 there.1 (same ∙ sym is)).1)
