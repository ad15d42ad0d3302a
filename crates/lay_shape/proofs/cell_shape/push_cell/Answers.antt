use Rattle.std.proofs.Common.{rules, ◌≡◌, ◌≢◌, ◌<◌, ◌≤◌, ◌+◌, ◌^◌, ◌++◌, ◌∷◌, [], List, Some, arith, length, slice_get, ap, subst, sym, ◌∙◌}
use Rattle.lay_units.specs.Limits.{most_nodes}
use Rattle.lay_cells.specs.Shapes.{Entry, IsEachOnce, IsIn}
use Rattle.lay_shape.specs.declared.cell_key.CellKey.{CellKey}
use Rattle.lay_shape.specs.declared.context_phase.ContextPhase.{ContextPhase}
use Rattle.lay_shape.specs.Dependencies.{needs_of}
use Rattle.lay_shape.specs.Keys.{key_of}
use Rattle.lay_shape.specs.Shapes.{entry_of}
use Rattle.lay_shape.proofs.BuildSteps.{entries_more, next_entry}
use Rattle.lay_shape.proofs.cell_shape.push_cell.Goals as goal

abbrev entry : CellKey → List CellKey → Entry CellKey
entry key needs = record { key = key; needs = needs }

pub push-requires-clause-few : goal.push-requires-clause-few
push-requires-clause-few c =
    let contexts = c.args.contexts.now in
    let at = subst (λ (l : List ContextPhase). slice_get l c.args.k ≡ Some c.cell_at-cell.result) c.requires.cells c.cell_at-cell.ensures.cell in
    let small : length contexts ≤ most_nodes = omega (arith, c.len.ensures.few, c.len.ensures.count) in
    let next = next_entry contexts c.len.ensures.are small c.requires.apart c.args.k c.cell_at-cell.result at in
    subst (λ (es : List (Entry CellKey)). length es < 2 ^ 18) (sym c.requires.before) next.few

pub push-requires-clause-fresh : goal.push-requires-clause-fresh
push-requires-clause-fresh c =
    let contexts = c.args.contexts.now in
    let cell = c.cell_at-cell.result in
    let at = subst (λ (l : List ContextPhase). slice_get l c.args.k ≡ Some cell) c.requires.cells c.cell_at-cell.ensures.cell in
    let small : length contexts ≤ most_nodes = omega (arith, c.len.ensures.few, c.len.ensures.count) in
    let next = next_entry contexts c.len.ensures.are small c.requires.apart c.args.k cell at in
    let key : c.key_of.result ≡ key_of contexts cell = search rules in
    subst (λ (k : CellKey). (e : Entry CellKey) → IsIn c.args.shape.now e → e.key ≢ k) (sym key)
    (subst (λ (es : List (Entry CellKey)). (e : Entry CellKey) → IsIn es e → e.key ≢ key_of contexts cell) (sym c.requires.before) next.fresh)

pub push-requires-clause-named : goal.push-requires-clause-named
push-requires-clause-named c =
    let contexts = c.args.contexts.now in
    let cell = c.cell_at-cell.result in
    let at = subst (λ (l : List ContextPhase). slice_get l c.args.k ≡ Some cell) c.requires.cells c.cell_at-cell.ensures.cell in
    let small : length contexts ≤ most_nodes = omega (arith, c.len.ensures.few, c.len.ensures.count) in
    let next = next_entry contexts c.len.ensures.are small c.requires.apart c.args.k cell at in
    let needs : c.as_slice.result.now ≡ needs_of contexts cell = search rules in
    subst (λ (ks : List CellKey). (k : CellKey) → IsIn ks k → (e : Entry CellKey) × IsIn c.args.shape.now e × (e.key ≡ k)) (sym needs)
    (subst (λ (es : List (Entry CellKey)). (k : CellKey) → IsIn (needs_of contexts cell) k → (e : Entry CellKey) × IsIn es e × (e.key ≡ k)) (sym c.requires.before) next.named)

pub push-requires-clause-once : goal.push-requires-clause-once
push-requires-clause-once c =
    let contexts = c.args.contexts.now in
    let cell = c.cell_at-cell.result in
    let at = subst (λ (l : List ContextPhase). slice_get l c.args.k ≡ Some cell) c.requires.cells c.cell_at-cell.ensures.cell in
    let small : length contexts ≤ most_nodes = omega (arith, c.len.ensures.few, c.len.ensures.count) in
    let next = next_entry contexts c.len.ensures.are small c.requires.apart c.args.k cell at in
    let needs : c.as_slice.result.now ≡ needs_of contexts cell = search rules in
    subst IsEachOnce (sym needs) next.once

pub returns : goal.returns
returns c =
    let contexts = c.args.contexts.now in
    let cell = c.cell_at-cell.result in
    let at = subst (λ (l : List ContextPhase). slice_get l c.args.k ≡ Some cell) c.requires.cells c.cell_at-cell.ensures.cell in
    let key : c.key_of.result ≡ key_of contexts cell = search rules in
    let needs : c.as_slice.result.now ≡ needs_of contexts cell = search rules in
    let pushed : c.push.new.self ≡ c.args.shape.now ++ entry c.key_of.result c.as_slice.result.now ∷ [] = search rules in
    pushed ∙ ap (λ (k : CellKey). c.args.shape.now ++ entry k c.as_slice.result.now ∷ []) key
    ∙ ap (λ (ks : List CellKey). c.args.shape.now ++ entry (key_of contexts cell) ks ∷ []) needs
    ∙ ap (λ (es : List (Entry CellKey)). es ++ entry_of contexts cell ∷ []) c.requires.before
    ∙ sym (entries_more contexts c.len.ensures.are c.args.k cell at)
