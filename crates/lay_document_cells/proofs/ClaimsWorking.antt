-- Claims are steps of work, and so is what comes of them.
use Rattle.std.proofs.Common.{◌≡◌, ◌+◌, ◌≤◌, ℕ, inl, inr, ⊎_elim, List, arith, ap, sym, subst, ◌∙◌}
use Rattle.lay_cells.specs.Looks.{IsAt}
use Rattle.lay_cells.specs.Places.{AtPlace}
use Rattle.lay_cells.specs.Steps.{draws_after}
use Rattle.lay_document_cells.proofs.Cited.{one_at}
use Rattle.lay_cells.specs.declared.answers.Claimed.TheVariants.{Granted, Reused, Taken}
use Rattle.lay_cells.specs.declared.answers.Claimed.{Claimed}
use Rattle.lay_shape.specs.declared.cell_key.CellKey.{CellKey}
use Rattle.lay_cell_work.specs.CellInputs.{CellInput}
use Rattle.lay_cell_work.specs.Claims.{Claim}
use Rattle.lay_cell_work.specs.declared.claim_lists.outcome.Outcome.{Outcome}
use Rattle.lay_cell_work.specs.declared.claim_lists.outcome.Outcome.TheVariants as outcome
use Rattle.lay_document_cells.specs.Batches.{CellsClaimSome, Grants, fewer, full, more, none as no_grants, start}
use Rattle.lay_document_cells.specs.Claims.{CellsAnswerClaim, CellsAnswerNext, ClaimsFor, CellsDrawFew, IsOpenToClaims, Passes, none as none_passed, reused, taken}
use Rattle.lay_document_cells.specs.Laws.{BatchesWork, ClaimsWork, NextClaimsWork, OutcomesWork}
use Rattle.lay_document_cells.specs.Outcomes.{HandsIn, HandsInEach, Reply, finished, more as one_more, released, start as no_outcomes}
use Rattle.lay_document_cells.specs.State.{State}
use Rattle.lay_cell_work.specs.CellLaws.SoundCells.{CellRow, CellState}
use Rattle.lay_document_cells.specs.Steps.{ClaimsTo, Step, Works, claim, finish, give_back, none, step}
use Rattle.lay_document_cells.specs.declared.answers.Answer.{Answer}
use Rattle.lay_document_cells.specs.declared.answers.Answer.TheVariants as answer
use Rattle.lay_document_cells.specs.declared.answers.Next.{Next}
use Rattle.lay_document_cells.specs.declared.answers.Next.TheVariants as next

same_works : (s t : State) → t ≡ s → Works s t
same_works s t same = subst (Works s) (sym same) none

one_works : (s t : State) → Step s t → Works s t
one_works s t does = step s t none does

then_works : (s m t : State) → Works s m → Works m t → Works s t
then_works s m t a none = a
then_works s m t a (step mid t-1 before last) = step mid t (then_works s m mid a before) last

claimed_works : (s : State) (key : CellKey) (input : CellInput) (a : Claimed) (t : State) → ClaimsTo s key input a t → Works s t
claimed_works s key input a t does = one_works s t (claim key input a t does)

for_works : (s : State) (key : CellKey) (a : Claimed) (t : State) → ClaimsFor s key a t → Works s t
for_works s key a t does = claimed_works s key does.input a t does.claims

passes_works : (s t : State) → Passes s t → Works s t
passes_works s t none_passed = none
passes_works s t (reused key mid t-1 before does) = then_works s mid t (passes_works s mid before) (for_works mid key _ t does)
passes_works s t (taken key number mid t-1 before does) = then_works s mid t (passes_works s mid before) (for_works mid key _ t does)

pub claim_works : ClaimsWork
claim_works s t key answer.Gone does = same_works s t does.1
claim_works s t key answer.Clean does = same_works s t does.1
claim_works s t key (answer.Waiting need) does = same_works s t does.1
claim_works s t key answer.Spent does = same_works s t does.2
claim_works s t key answer.NoMemory does = same_works s t does.2
claim_works s t key (answer.Taken number) does = for_works s key _ t does.1
claim_works s t key answer.Reused does = for_works s key _ t does.1
claim_works s t key (answer.Granted c) does = claimed_works s key _ _ t does.1.claims

pub next_works : NextClaimsWork
next_works s t next.Settled does = ⊎_elim (λ same. same_works s t same) (λ passed. passes_works s t passed.1) does.0
next_works s t next.Spent does = same_works s t does.2
next_works s t (next.Busy number) does = passes_works s t does.1
next_works s t (next.Granted c) does =
    then_works s does.1.before t (passes_works s does.1.before does.1.passes) (claimed_works does.1.before _ _ _ t does.1.grants.claims)
next_works s t next.NoMemory does = passes_works s t does.1

grants_work : (s t : State) (claims : List Claim) → Grants s claims t → Works s t
grants_work s t claims start = none
grants_work s t claims (more before c mid t-1 g last) = then_works s mid t (grants_work s mid before g) (next_works mid t (next.Granted c) last)

pub batch_works : BatchesWork
batch_works s t limit claims a (full claims-1 t-1 g long) = grants_work s t claims g
batch_works s t limit claims a (fewer claims-1 last mid t-1 g some short end) = then_works s mid t (grants_work s mid claims g) (next_works mid t last end.answers)
batch_works s t limit claims a (no_grants first result t-1 end is) = next_works s t first end.answers

hands_in_works : (s t : State) (o : Outcome) (reply : Reply) → HandsIn s o reply t → Works s t
hands_in_works s t (outcome.Done d) (finished a) does = one_works s t (finish d a t does)
hands_in_works s t (outcome.Done d) (released a) does = absurd does
hands_in_works s t (outcome.NoMemory c) (finished a) does = absurd does
hands_in_works s t (outcome.NoMemory c) (released a) does = one_works s t (give_back c.key c.number a t does)

each_works : (s t : State) (outcomes : List Outcome) (replies : List Reply) → HandsInEach s outcomes replies t → Works s t
each_works s t outcomes replies no_outcomes = none
each_works s t outcomes replies (one_more os rs o reply mid t-1 before last) = then_works s mid t (each_works s mid os rs before) (hands_in_works mid t o reply last)

pub outcomes_work : OutcomesWork
outcomes_work s t outcomes tally does = each_works s t outcomes does.replies does.each

-- a claim draws at most one number
one_draw : (a : Claimed) (draws : ℕ) → draws_after a draws ≤ draws + 1
one_draw (Taken n) draws = omega arith
one_draw Reused draws = omega arith
one_draw (Granted n) draws = omega arith

same_draws : (s t : State) → t ≡ s → CellsDrawFew s t
same_draws s t same = inl (ap (λ (x : State). x.cells.draws) same)

claimed_draws : (s : State) (key : CellKey) (input : CellInput) (a : Claimed) (t : State) → IsOpenToClaims s → ClaimsTo s key input a t → CellsDrawFew s t
claimed_draws s key input a t few does =
    let cells = ap (λ (x : State). x.cells.draws) does.state in
    let drawn = ap (λ (x : CellState). x.draws) does.claims.5 in
    let one = one_draw a s.cells.draws in
    inr (few, omega (arith, cells, drawn, one))

pub answer_draws : (s t : State) (key : CellKey) (a : Answer) → CellsAnswerClaim s key a t → CellsDrawFew s t
answer_draws s t key answer.Gone does = same_draws s t does.1
answer_draws s t key answer.Clean does = same_draws s t does.1
answer_draws s t key (answer.Waiting need) does = same_draws s t does.1
answer_draws s t key answer.Spent does = same_draws s t does.2
answer_draws s t key answer.NoMemory does = same_draws s t does.2
answer_draws s t key (answer.Taken number) does = claimed_draws s key _ _ t does.0 does.1.claims
answer_draws s t key answer.Reused does = claimed_draws s key _ _ t does.0 does.1.claims
answer_draws s t key (answer.Granted c) does = claimed_draws s key _ _ t does.0 does.1.claims

-- the answer at a place is that of the key there
pub answer_of : (s t : State) (place : ℕ) (key : CellKey) (a : Answer) (r : CellRow) → IsAt s.cells.rows key place r
    → AtPlace s.cells.rows place (λ q. CellsAnswerClaim s q.key a t) → CellsAnswerClaim s key a t
answer_of s t place key a r at h =
    subst (λ k. CellsAnswerClaim s k a t) (ap (λ (z : CellRow). z.key) (one_at s.cells.rows place h.0 r h.1 at.0) ∙ at.1) h.2
