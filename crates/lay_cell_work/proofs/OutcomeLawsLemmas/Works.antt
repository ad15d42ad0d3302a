-- The works of claims.
use Rattle.std.proofs.Common.{◌≡◌, ◌∙◌, ℕ, sym, ap, subst, Some}
use Rattle.lay_cell_work.specs.CellLaws.Laws.{OneCellLocal}
use Rattle.lay_cell_work.specs.CellInputs.{CellInput}
use Rattle.lay_cell_work.specs.CellLocal.{IsCellLocal}
use Rattle.lay_cell_work.specs.CellValues.{CellValue}
use Rattle.lay_cell_work.specs.Claims.{Claim}
use Rattle.lay_shape.specs.declared.cell_key.CellKey.{CellKey}
use Rattle.lay_cell_work.specs.ClaimLists.Outcomes.{IsOutcomeAt, IsWorkOf, Work}
use Rattle.lay_cell_work.specs.declared.claim_lists.outcome.Outcome.TheVariants.{Done}
use Rattle.lay_cell_work.specs.OutcomeLaws.Laws.{BatchesAreOneByOne, OneWork}

abbrev made : CellKey → ℕ → CellInput → CellValue → Work
made key number input value = record { key = key; number = number; input = input; value = value }

pub one_work_lem : OneCellLocal → OneWork
one_work_lem one c d e leads x y =
    ap (λ k. made k d.number d.input d.value) (x.key ∙ sym y.key)
    ∙ ap (λ n. made e.key n d.input d.value) (x.number ∙ sym y.number)
    ∙ ap (λ i. made e.key e.number i d.value) (x.input ∙ sym y.input)
    ∙ ap (made e.key e.number e.input) (one c.input d.value e.value leads
    (subst (λ i. IsCellLocal i d.value) x.input x.value) (subst (λ i. IsCellLocal i e.value) y.input y.value))

same_claim : (a b : Claim) → Some a ≡ Some b → a ≡ b
same_claim a b e = cc

pub batches_are_one_by_one_lem : OneWork → BatchesAreOneByOne
batches_are_one_by_one_lem one claims outcomes place c d e are claim_at leads done_at alone =
    one c d e leads (subst (λ a. IsWorkOf a d) (same_claim found.0 c (sym found.1 ∙ claim_at)) found.2) alone
  where
    found : IsOutcomeAt claims place (Done d)
    found = are.each place (Done d) done_at
