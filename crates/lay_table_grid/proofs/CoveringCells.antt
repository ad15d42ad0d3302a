-- The cell that covers a slot, by its number.
use Rattle.std.proofs.Common.{◌≡◌, ℕ, ◌+◌, ◌<◌, Bool, true, false, Option, Some, List, [], ◌∷◌, ◌++◌, length, get_or, slice_get, if◌then◌else◌, refl, sym, ap, ◌∙◌, append_assoc, arith}
use Rattle.std.proofs.lemmas.List.{get_or_default, length-append}
use Rattle.lay_table_grid.specs.declared.placed.PlacedCell.{PlacedCell}
use Rattle.lay_table_grid.specs.MeetingBorders.{covering, covers, item}
use Rattle.lay_table_grid.specs.Pass.Slots.{AreSlots, covering_from, entry_at, first_present, only_if}

at_end : (earlier cells : List PlacedCell) (x : PlacedCell) → slice_get (earlier ++ x ∷ cells) (length earlier) ≡ Some x
at_end [] cells x = refl
at_end (y ∷ earlier) cells x = at_end earlier cells x

by_test : (earlier cells : List PlacedCell) (x : PlacedCell) (rest : Option PlacedCell) (found : Option ℕ) (b : Bool) → item (earlier ++ x ∷ cells) found ≡ rest
    → item (earlier ++ x ∷ cells) (first_present (only_if b (length earlier)) found) ≡ (if b then Some x else rest)
by_test earlier cells x rest found true e = at_end earlier cells x
by_test earlier cells x rest found false e = e

pub covering_numbered : (earlier cells : List PlacedCell) (r c : ℕ) → item (earlier ++ cells) (covering_from (length earlier) cells r c) ≡ covering cells r c
covering_numbered earlier [] r c = refl
covering_numbered earlier (x ∷ cells) r c =
    let more = covering_numbered (earlier ++ x ∷ []) cells r c in
    let count : length (earlier ++ x ∷ []) ≡ length earlier + 1 = length-append earlier (x ∷ []) in
    let whole = append_assoc earlier (x ∷ []) cells in
    by_test earlier cells x (covering cells r c) (covering_from (length earlier + 1) cells r c) (covers x r c)
    (sym (ap (λ (xs : List PlacedCell). item xs (covering_from (length earlier + 1) cells r c)) whole)
    ∙ sym (ap (λ (n : ℕ). item ((earlier ++ x ∷ []) ++ cells) (covering_from n cells r c)) count) ∙ more)

-- where the slots of the rows are known, and this is the row
pub covering_at : (cells : List PlacedCell) (rows r c : ℕ) (slots : List (List (Option ℕ))) (row : List (Option ℕ)) → AreSlots cells rows slots → r < rows
    → row ≡ get_or slots r row → item cells (entry_at row c) ≡ covering cells r c
covering_at cells rows r c slots row are less is =
    let many = are.as_many in
    let same : row ≡ get_or slots r [] = is ∙ get_or_default slots r row [] (omega arith) in
    ap (λ (xs : List (Option ℕ)). item cells (entry_at xs c)) same ∙ ap (item cells) (are.each r c less) ∙ covering_numbered [] cells r c
