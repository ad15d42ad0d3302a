-- What the work of guests comes to.
use Rattle.std.proofs.Common.{◌≡◌, ◌≤◌, ◌+◌, ◌^◌, ◌⊎◌, ◌∙◌, inl, inr, ℕ, List, [], Option, Some, None, Result, Ok, Err, refl, ap, arith, subst}
use Rattle.std.specs.Prelude.{⊤, IfOk}
use Rattle.lay_units.specs.declared.memory.NoMemory.{NoMemory as Want}
use Rattle.lay_cell_work.specs.Claims.{Claim}
use Rattle.lay_document_cells.specs.Batches.{CellsClaimSome, fewer, full, none}
use Rattle.lay_document_cells.specs.State.{State as DocumentCells}
use Rattle.lay_document_cells.specs.declared.idle.IdleKind.{IdleKind}
use Rattle.lay_core.specs.Claims.{ClaimsSome, DrawsFew}
use Rattle.lay_core.specs.State.{State, document_cells}
use Rattle.lay_core.specs.Work.{ChangesCells}
use Rattle.lay_board.specs.Batches.{GivesBatch, GrantsBatch, IsCoreFrom}
use Rattle.lay_board.specs.Cores.{IsQuiet, origin_of}
use Rattle.lay_board.specs.declared.batches.Batch.{Batch}
use Rattle.lay_board.specs.declared.views.Origin.{Origin}

draws_then : (a b c : ℕ) → ((b ≤ a) ⊎ (b ≤ 2 ^ 63 + 2 ^ 20)) → ((c ≤ b) ⊎ (c ≤ 2 ^ 63 + 2 ^ 20)) → ((c ≤ a) ⊎ (c ≤ 2 ^ 63 + 2 ^ 20))
draws_then a b c (inl x) (inl y) = inl (omega (arith, x, y))
draws_then a b c (inr x) (inl y) = inr (omega (arith, x, y))
draws_then a b c first (inr y) = inr y

-- work on the cells of a core that draws few numbers leaves what others know of it
pub quiet : (Does : DocumentCells → DocumentCells → Type 0) (s t : State) → ChangesCells Does s t → DrawsFew s t → IsQuiet s t
quiet Does s t changes few = record {
  origin = ap origin_of changes.state;
  history = ap (λ (x : State). x.history) changes.state;
  calls_left = ap (λ (x : State). x.calls_left) changes.state;
  draws = few;
}

-- one after another
pub quiet_then : (s m t : State) → IsQuiet s m → IsQuiet m t → IsQuiet s t
quiet_then s m t first second = record {
  origin = second.origin ∙ first.origin;
  history = second.history ∙ first.history;
  calls_left = second.calls_left ∙ first.calls_left;
  draws = draws_then (s.cells.draws) (m.cells.draws) (t.cells.draws) first.draws second.draws;
}

pub unchanged : (s : State) → IsQuiet s s
unchanged s = record { origin = refl; history = refl; calls_left = refl; draws = inl (omega arith) }

abbrev IsNoClaim : Result (Option IdleKind) Want → Type 0
IsNoClaim (Ok None) = ⊥
IsNoClaim (Ok (Some kind)) = ⊤
IsNoClaim (Err want) = ⊤

no_claim : (d e : DocumentCells) (limit : ℕ) (claims : List Claim) (answer : Result (Option IdleKind) Want) → CellsClaimSome d limit claims answer e → IsNoClaim answer → claims ≡ []
no_claim d e limit claims answer (full claims-1 e-1 grants count) is = absurd is
no_claim d e limit claims answer (fewer claims-1 a mid e-1 grants some few ended) is = absurd is
no_claim d e limit claims answer (none a answer-1 e-1 ended named) is = refl

-- where a reason is answered, no claim is handed out
pub idle_grants : (s t : State) (limit : ℕ) (claims : List Claim) (kind : IdleKind) → ClaimsSome s limit claims (Ok (Some kind)) t → ClaimsSome s limit [] (Ok (Some kind)) t
idle_grants s t limit claims kind claimed =
    subst (λ l. ClaimsSome s limit l (Ok (Some kind)) t) (no_claim (document_cells s) (document_cells t) limit claims (Ok (Some kind)) claimed.does tt) claimed

-- what a batch is granted in a turn
pub gives : (origin : Origin) (limit : ℕ) (s t : State) (r : Result Batch Want) → IsCoreFrom origin s → IfOk r (λ b. GrantsBatch s limit b t) → IfOk r (GivesBatch origin limit)
gives origin limit s t (Ok b) core grants = record { before = s; after = t; core = core; grants = grants }
gives origin limit s t (Err want) core grants = tt

pub grants_then : (limit : ℕ) (s t : State) (r : Result Batch Want) → IfOk r (λ b. GrantsBatch s limit b t) → IfOk r (λ b. (after : State) × GrantsBatch s limit b after)
grants_then limit s t (Ok b) grants = (t, grants)
grants_then limit s t (Err want) grants = tt
