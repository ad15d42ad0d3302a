-- What is read of the cell at a place is what is kept under its key.
use Rattle.std.proofs.Common.{◌≡◌, ◌<◌, ℕ, zero, suc, Bool, true, false, List, [], ◌∷◌, length, map, slice_get, slice_index_or, None, Some, option_map, refl, ap, sym, ◌∙◌, arith}
use Rattle.std.proofs.lemmas.List.{length-map}
use Rattle.std.proofs.lemmas.Option.{same_Some, slice_get-map, slice_get_within}
use Rattle.lay_cells.specs.Rows.{entry_of}
use Rattle.lay_cells.specs.Shapes.{Entry, IsShape}
use Rattle.lay_context.specs.declared.task.Phase.{Phase}
use Rattle.lay_contexts.specs.Contexts.{Context}
use Rattle.lay_shape.specs.declared.cell_key.CellKey.{CellKey}
use Rattle.lay_shape.specs.declared.context_phase.ContextPhase.{ContextPhase}
use Rattle.lay_shape.specs.Dependencies.{in_phase}
use Rattle.lay_shape.specs.Keys.{key_of}
use Rattle.lay_shape.specs.Shapes.{cells_of, entry_of as entry_of_cell, shape_of}
use Rattle.lay_cell_work.specs.KeptValues.{is_key, kept_value, value_or_none, value_under}
use Rattle.lay_cell_work.specs.CellLaws.SoundCells.{CellRow}
use Rattle.lay_kept_cells.proofs.Cited.{is_same_key, key_is}

-- no two cells have one key
abbrev pub AreApart : List CellRow → Type 0
AreApart rows = (i j : ℕ) (q r : CellRow) → slice_get rows i ≡ Some q → slice_get rows j ≡ Some r → q.key ≡ r.key → i ≡ j

entry_there : (rows : List CellRow) (i : ℕ) (r : CellRow) → slice_get rows i ≡ Some r → slice_get (map entry_of rows) i ≡ Some (entry_of r)
entry_there rows i r e = slice_get-map entry_of rows i ∙ ap (option_map entry_of) e

pub are_apart : (rows : List CellRow) → IsShape (map entry_of rows) → AreApart rows
are_apart rows shape i j q r a b same = shape.apart i j (entry_of q) (entry_of r) (entry_there rows i q a) (entry_there rows j r b) same

pub value_at : (rows : List CellRow) (key : CellKey) (place : ℕ) (r : CellRow) → slice_get rows place ≡ Some r → r.key ≡ key → AreApart rows → value_under rows key ≡ value_or_none key.phase r.kept
value_at [] key place r e same apart = absurd cc
value_at (q ∷ rows) key zero r e same apart =
    let here : q ≡ r = same_Some q r e in
    let own : is_key q.key key ≡ true = rw (here, same) (is_same_key key) in
    rw own (ap (λ (x : CellRow). value_or_none key.phase x.kept) here)
value_at (q ∷ rows) key (suc k) r e same apart =
    by (is_key q.key key) refl (value_at rows key k r e same (λ i j x y a b is_same. (let n : suc i ≡ suc j = apart (suc i) (suc j) x y a b is_same in omega (arith, n))))
  where
    by : (b : Bool) → is_key q.key key ≡ b → value_under rows key ≡ value_or_none key.phase r.kept → value_under (q ∷ rows) key ≡ value_or_none key.phase r.kept
    by true is rest = absurd (let never : 0 ≡ suc k = apart 0 (suc k) q r refl e (key_is q.key key is ∙ sym same) in omega (arith, never))
    by false is rest = rw is rest

module _ (rows : List CellRow) (contexts : List Context) (shaped : map entry_of rows ≡ shape_of contexts) where
  pub rows_counted : length rows ≡ length (cells_of contexts)
  rows_counted = sym (length-map rows entry_of) ∙ ap length shaped ∙ length-map (cells_of contexts) (entry_of_cell contexts)

  pub place_within : (cell : ContextPhase) (place : ℕ) → slice_get (cells_of contexts) place ≡ Some cell → place < length rows
  place_within cell place at = (let low = slice_get_within (cells_of contexts) place cell at in let count = rows_counted in omega (arith, low, count))

  -- the cell at a place has the key of the context and the phase there
  pub key_there : (cell : ContextPhase) (place : ℕ) (r : CellRow) → slice_get (cells_of contexts) place ≡ Some cell → slice_get rows place ≡ Some r → r.key ≡ key_of contexts cell
  key_there cell place r at there =
      let there_too : slice_get (map entry_of rows) place ≡ Some (entry_of_cell contexts cell) =
      ap (λ (es : List (Entry CellKey)). slice_get es place) shaped ∙ slice_get-map (entry_of_cell contexts) (cells_of contexts) place ∙ ap (option_map (entry_of_cell contexts)) at in
      let same : entry_of r ≡ entry_of_cell contexts cell = same_Some (entry_of r) (entry_of_cell contexts cell) (sym (entry_there rows place r there) ∙ there_too) in
      ap (λ (e : Entry CellKey). e.key) same

  -- and what it keeps is read under that
  pub kept_there : IsShape (map entry_of rows) → (c : ℕ) (p : Phase) (place : ℕ) (r : CellRow) → slice_get (cells_of contexts) place ≡ Some (in_phase p c) → slice_get rows place ≡ Some r
      → kept_value rows contexts c p ≡ value_or_none p r.kept
  kept_there shape c p place r at there = value_at rows (key_of contexts (in_phase p c)) place r there (key_there (in_phase p c) place r at there) (are_apart rows shape)

pub read_none : {X : Type 0} (xs : List X) (k : ℕ) (nothing : X) → slice_get xs k ≡ None → nothing ≡ slice_index_or xs k nothing
read_none [] zero nothing e = refl
read_none [] (suc k) nothing e = refl
read_none (x ∷ xs) zero nothing e = absurd cc
read_none (x ∷ xs) (suc k) nothing e = read_none xs k nothing e
