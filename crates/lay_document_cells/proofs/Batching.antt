-- Claims by the batch, and outcomes that are handed in.
use Rattle.std.proofs.Common.{◌≡◌, inl, inr, Bool, ℕ, ◌+◌, ◌≤◌, ◌<◌, List, [], ◌∷◌, ◌++◌, length, Option, None, Some, Result, Ok, Err, cond, count_by, refl, arith, ap, sym, subst, ◌∙◌, append-nil, length-append}
use Rattle.std.proofs.lemmas.List.Sums.{sum_by_push}
use Rattle.lay_units.specs.declared.memory.NoMemory.{NoMemory}
use Rattle.lay_cells.specs.declared.answers.Finished.{Finished}
use Rattle.lay_cells.specs.declared.answers.Released.{Released}
use Rattle.lay_shape.specs.declared.cell_key.CellKey.{CellKey}
use Rattle.lay_cell_work.specs.Claims.{Claim}
use Rattle.lay_cell_work.specs.declared.claim_lists.outcome.Outcome.{Outcome}
use Rattle.lay_document_cells.specs.Batches.{CellsClaimSome, Grants, GrantsNone, IsBatchAnswer, IsNoGrant, fewer, full, more, none, start}
use Rattle.lay_document_cells.specs.Claims.{CellsAnswerNext}
use Rattle.lay_document_cells.specs.Outcomes.{CellsFinishAll, HandsIn, HandsInEach, Reply, Tally, tallied, is_back, is_cleaned, is_gone, is_stored, is_superseded, no_answers, tally_of, tally_sum}
use Rattle.lay_document_cells.specs.Outcomes.{more as one_more, start as no_outcomes}
use Rattle.lay_document_cells.specs.State.{State}
use Rattle.lay_document_cells.specs.Steps.{CellsFinishTo, CellsGiveBackTo}
use Rattle.lay_cell_work.specs.ClaimLists.Outcomes.{Work}
use Rattle.lay_cell_work.specs.CellLaws.SoundCells.{CellState}
use Rattle.lay_document_cells.specs.declared.answers.Next.{Next}
use Rattle.lay_document_cells.specs.declared.answers.Next.TheVariants as next
use Rattle.lay_document_cells.specs.declared.idle.IdleKind.{IdleKind}

no_grant : (a : Next) → ((c : Claim) → a ≡ next.Granted c → ⊥) → IsNoGrant a
no_grant (next.Granted c) other = absurd (other c refl)
no_grant next.Settled other = tt
no_grant (next.Busy number) other = tt
no_grant next.Spent other = tt
no_grant next.NoMemory other = tt

pub grants_none : (s t : State) (a : Next) → CellsAnswerNext s a t → ((c : Claim) → a ≡ next.Granted c → ⊥) → GrantsNone s a t
grants_none s t a answers other = record { answers = answers; none = no_grant a other }

pub push_length : {X : Type 0} (xs : List X) (x : X) (n : ℕ) → length xs ≡ n → length (xs ++ x ∷ []) ≡ n + 1
push_length xs x n e = let l = length-append xs (x ∷ []) in omega (arith, l, e)

-- where no claim was granted before
no_steps : (s : State) (claims : List Claim) (m : State) → length claims ≡ 0 → Grants s claims m → (claims ≡ []) × (m ≡ s)
no_steps s claims m e start = (refl, refl)
no_steps s claims m e (more before c mid m-1 g a) = absurd (let l = push_length before c (length before) refl in omega (arith, l, e))

pub claims_end : (s m t : State) (limit : ℕ) (claims : List Claim) (a : Next) (r : Result (Option IdleKind) NoMemory) → length claims < limit
    → Grants s claims m → GrantsNone m a t → (length claims ≡ 0 → IsBatchAnswer a r) → (0 < length claims → r ≡ Ok None)
    → CellsClaimSome s limit claims r t
claims_end s m t limit [] a r lt g end none_is some_is =
    none a r t (subst (λ x. GrantsNone x a t) (no_steps s [] m refl g).1 end) (none_is refl)
claims_end s m t limit (c ∷ claims) a r lt g end none_is some_is =
    subst (λ x. CellsClaimSome s limit (c ∷ claims) x t) (sym (some_is (omega arith)))
    (fewer (c ∷ claims) a m t g (omega arith) lt end)

pub claims_full : (s t : State) (limit n : ℕ) (claims : List Claim) → Grants s claims t → length claims ≡ n → n ≡ limit → CellsClaimSome s limit claims (Ok None) t
claims_full s t limit n claims g count is = full claims t g (count ∙ is)

pub all_yielded : {X : Type 0} (xs rest all : List X) → xs ++ rest ≡ all → length rest ≡ 0 → xs ≡ all
all_yielded xs [] all e n = sym (append-nil xs) ∙ e
all_yielded xs (x ∷ rest) all e n = absurd (omega (arith, n))

-- the counts with one more reply
pub same_tally : (t u : Tally) → t.cleaned ≡ u.cleaned → t.stored ≡ u.stored → t.superseded ≡ u.superseded → t.gone ≡ u.gone → t.back ≡ u.back → t ≡ u
same_tally t u a b c d e =
    ap (λ n. record { cleaned = n; stored = t.stored; superseded = t.superseded; gone = t.gone; back = t.back }) a
    ∙ ap (λ n. record { cleaned = u.cleaned; stored = n; superseded = t.superseded; gone = t.gone; back = t.back }) b
    ∙ ap (λ n. record { cleaned = u.cleaned; stored = u.stored; superseded = n; gone = t.gone; back = t.back }) c
    ∙ ap (λ n. record { cleaned = u.cleaned; stored = u.stored; superseded = u.superseded; gone = n; back = t.back }) d
    ∙ ap (λ n. record { cleaned = u.cleaned; stored = u.stored; superseded = u.superseded; gone = u.gone; back = n }) e

pub tally_more : (replies : List Reply) (reply : Reply) → tallied (tally_of replies) reply ≡ tally_of (replies ++ reply ∷ [])
tally_more replies reply =
    same_tally (tallied (tally_of replies) reply) (tally_of (replies ++ reply ∷ [])) (more_of is_cleaned) (more_of is_stored) (more_of is_superseded)
    (more_of is_gone) (more_of is_back)
  where
    more_of : (p : Reply → Bool) → count_by p replies + cond (p reply) 1 0 ≡ count_by p (replies ++ reply ∷ [])
    more_of p = sym (sum_by_push (λ x. cond (p x) 1 0) replies reply)

-- what is handed in so far, with its counts
pub record IsHanded (s : State) (outcomes : List Outcome) (tally : Tally) (t : State) : Type 0 where
  pub finishes : CellsFinishAll s outcomes tally t
  pub sum : tally_sum tally ≡ length outcomes
  pub draws : t.cells.draws ≡ s.cells.draws

pub handed_none : (s : State) (tally : Tally) → tally ≡ no_answers → IsHanded s [] tally s
handed_none s tally e = record {
  finishes = record { replies = []; each = no_outcomes; counts = e };
  sum = ap tally_sum e;
  draws = refl;
}

pub handed_more : (s m t : State) (outcomes : List Outcome) (tally after : Tally) (o : Outcome) (reply : Reply) → IsHanded s outcomes tally m
    → HandsIn m o reply t → after ≡ tallied tally reply → tally_sum after ≡ tally_sum tally + 1 → t.cells.draws ≡ m.cells.draws
    → IsHanded s (outcomes ++ o ∷ []) after t
handed_more s m t outcomes tally after o reply h hands counts sum draws = record {
  finishes = record {
    replies = h.finishes.replies ++ reply ∷ [];
    each = one_more outcomes h.finishes.replies o reply m t h.finishes.each hands;
    counts = counts ∙ ap (λ (x : Tally). tallied x reply) h.finishes.counts ∙ tally_more h.finishes.replies reply;
  };
  sum = let a = h.sum in let l = length-append outcomes (o ∷ []) in omega (arith, a, l, sum);
  draws = draws ∙ h.draws;
}

pub finish_draws : (s : State) (d : Work) (a : Finished) (t : State) → CellsFinishTo s d a t → t.cells.draws ≡ s.cells.draws
finish_draws s d a t does = ap (λ (x : State). x.cells.draws) does.state ∙ elim does.finishes [
  | inl gone ↦ ap (λ (x : CellState). x.draws) gone.2
  | inr done ↦ ap (λ (x : CellState). x.draws) done.5
]

pub back_draws : (s : State) (key : CellKey) (number : ℕ) (a : Released) (t : State) → CellsGiveBackTo s key number a t → t.cells.draws ≡ s.cells.draws
back_draws s key number a t does = ap (λ (x : State). x.cells.draws) does.state ∙ elim does.gives_back [
  | inl gone ↦ ap (λ (x : CellState). x.draws) gone.2
  | inr back ↦ ap (λ (x : CellState). x.draws) back.5
]
