-- Whether cells are clean.
use Rattle.std.proofs.Common.{◌≡◌, ◌↔◌, zero, suc, not, Bool, true, false, List, [], ◌∷◌, refl, sym, ap, subst}
use Rattle.std.proofs.lemmas.Option.{same_Some, none-some}
use Rattle.std.proofs.lemmas.Bool.{and_from, not-true, and_parts}
use Rattle.lay_cells.specs.Reads.{AllClean}
use Rattle.lay_cell_work.specs.CellLaws.SoundCells.{CellRow}
use Rattle.lay_core.specs.State.{are_clean}

pub clean_told : (rows : List CellRow) → AllClean rows → are_clean rows ≡ true
clean_told [] clean = refl
clean_told (r ∷ rows) clean =
    and_from (not r.dirty) (are_clean rows) (ap not (clean r (0, refl))) (clean_told rows (λ q is. clean q (suc is.0, is.1)))

pub told_clean : (rows : List CellRow) → are_clean rows ≡ true → AllClean rows
told_clean [] e q is = absurd (none-some q is.1)
told_clean (r ∷ rows) e q (zero, at) = subst (λ (x : CellRow). x.dirty ≡ false) (same_Some r q at) (not-true r.dirty (and_parts (not r.dirty) (are_clean rows) e).0)
told_clean (r ∷ rows) e q (suc k, at) = told_clean rows (and_parts (not r.dirty) (are_clean rows) e).1 q (k, at)

same_by : (a b : Bool) → (a ≡ true → b ≡ true) → (b ≡ true → a ≡ true) → a ≡ b
same_by true b to from = sym (to refl)
same_by false true to from = from refl
same_by false false to from = refl

-- what tells exactly where cells are clean tells that
pub told_by : (b : Bool) (rows : List CellRow) → (b ≡ true) ↔ AllClean rows → b ≡ are_clean rows
told_by b rows tells = same_by b (are_clean rows) (λ e. clean_told rows (tells.0 e)) (λ e. tells.1 (told_clean rows e))
