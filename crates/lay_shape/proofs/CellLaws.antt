-- The laws of ways, cells and their order.
use Rattle.std.proofs.Common.{◌≡◌, ℕ, ◌≤◌, ◌^◌, List, length, slice_get, Some, ap, sym, subst, ◌∙◌, arith}
use Rattle.std.proofs.lemmas.List.{length-map}
use Rattle.lay_units.specs.Limits.{most_nodes}
use Rattle.lay_cells.specs.Shapes.{Entry, IsEachOnce, IsIn, IsShape, StandsBefore}
use Rattle.lay_contexts.specs.Contexts.{AreContexts, Context}
use Rattle.lay_shape.specs.declared.cell_key.CellKey.{CellKey}
use Rattle.lay_shape.specs.declared.context_phase.ContextPhase.{ContextPhase}
use Rattle.lay_shape.specs.Keys.{AreOfOwnNodes}
use Rattle.lay_shape.specs.Laws.{CellsAreOfContexts, CellsHaveAShape, CellsStandOnce, NeedsStandBefore, WaysAreLists}
use Rattle.lay_shape.specs.Shapes.{cells_of, entry_of, shape_of}
use Rattle.lay_shape.proofs.BuildSteps.{from_take, key_apart, next_entry}
use Rattle.lay_shape.proofs.CellOrder.{cell_in, cell_once, cell_within, cells_few, need_before}
use Rattle.lay_shape.proofs.Members.{from_map, map_at, mapped_at}
use Rattle.lay_shape.proofs.WaySteps.{in_way_on, on_way_in}

pub ways_are_lists_lem : WaysAreLists
ways_are_lists_lem contexts i j are within = (in_way_on contexts are i j within, on_way_in contexts are i j within)

pub cells_stand_once_lem : CellsStandOnce
cells_stand_once_lem contexts i phase are within =
    let there = cell_in contexts are phase i within in
    record { place = there.0; at = there.1; only = λ other at. cell_once contexts are other there.0 (record { context = i; phase = phase }) at there.1 }

pub cells_are_of_contexts_lem : CellsAreOfContexts
cells_are_of_contexts_lem contexts c are has = cell_within contexts are c has

pub needs_stand_before_lem : NeedsStandBefore
needs_stand_before_lem contexts place c need are at has = need_before contexts are place c need at has

module _ (contexts : List Context) (are : AreContexts contexts) (small : length contexts ≤ most_nodes) (apart : AreOfOwnNodes contexts) where
  -- the cell of an entry
  record IsEntryOf (i : ℕ) (e : Entry CellKey) : Type 0 where
    pub cell : ContextPhase
    pub at : slice_get (cells_of contexts) i ≡ Some cell
    pub is : e ≡ entry_of contexts cell

  of_entry : (i : ℕ) (e : Entry CellKey) → slice_get (shape_of contexts) i ≡ Some e → IsEntryOf i e
  of_entry i e at = let r = map_at (entry_of contexts) (cells_of contexts) i e at in record { cell = r.0; at = r.1; is = r.2 }

  few : length (shape_of contexts) ≤ 2 ^ 18
  few = let a = length-map (cells_of contexts) (entry_of contexts) in let b = cells_few contexts in omega (arith, a, b, small)

  apart_entries : (i j : ℕ) (e f : Entry CellKey) → slice_get (shape_of contexts) i ≡ Some e → slice_get (shape_of contexts) j ≡ Some f → e.key ≡ f.key → i ≡ j
  apart_entries i j e f a b same =
      let x = of_entry i e a in
      let y = of_entry j f b in
      let key = sym (ap (λ (z : Entry CellKey). z.key) x.is) ∙ same ∙ ap (λ (z : Entry CellKey). z.key) y.is in
      let one = key_apart contexts are apart x.cell y.cell (cell_within contexts are x.cell (i, x.at)) (cell_within contexts are y.cell (j, y.at)) key in
      cell_once contexts are i j y.cell (x.at ∙ ap Some one) y.at

  earlier : (i : ℕ) (e : Entry CellKey) → slice_get (shape_of contexts) i ≡ Some e → (key : CellKey) → IsIn e.needs key → StandsBefore (shape_of contexts) i key
  earlier i e at key has =
      let x = of_entry i e at in
      let next = next_entry contexts are small apart i x.cell x.at in
      let there = next.named key (subst (λ (z : Entry CellKey). IsIn z.needs key) x.is has) in
      let place = there.1 in
      let r = from_map (entry_of contexts) _ there.0 place in
      let q = r.there in
      let cell = from_take i (cells_of contexts) q.0 r.x q.1 in
      (q.0, entry_of contexts r.x, cell.0, ap_at q.0 r.x cell.1, sym (ap (λ (z : Entry CellKey). z.key) r.is) ∙ there.2)
    where
      ap_at : (j : ℕ) (c : ContextPhase) → slice_get (cells_of contexts) j ≡ Some c → slice_get (shape_of contexts) j ≡ Some (entry_of contexts c)
      ap_at j c h = mapped_at (entry_of contexts) (cells_of contexts) j c h

  once : (i : ℕ) (e : Entry CellKey) → slice_get (shape_of contexts) i ≡ Some e → IsEachOnce e.needs
  once i e at =
      let x = of_entry i e at in
      subst (λ (z : Entry CellKey). IsEachOnce z.needs) (sym x.is) (next_entry contexts are small apart i x.cell x.at).once

  shaped : IsShape (shape_of contexts)
  shaped = record { few = few; apart = apart_entries; earlier = earlier; once = once }

pub cells_have_a_shape_lem : CellsHaveAShape
cells_have_a_shape_lem contexts are small apart = shaped contexts are small apart
