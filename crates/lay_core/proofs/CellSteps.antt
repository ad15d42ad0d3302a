-- Calls but edits are steps of work on cells.
use Rattle.std.proofs.Common.{◌≡◌, Bool, true, false, sym, ap, subst, inl, inr}
use Rattle.lay_history.specs.declared.edits.command.Reply.{Reply}
use Rattle.lay_history.specs.declared.edits.command.Reply.TheVariants.{Accepted, Refused, Shown, NoMemory}
use Rattle.lay_cells.specs.declared.answers.Claimed.{Claimed}
use Rattle.lay_shape.specs.declared.cell_key.CellKey.{CellKey}
use Rattle.lay_cell_work.specs.CellInputs.{CellInput}
use Rattle.lay_document_cells.specs.Laws.{BatchesWork, ClaimsWork, NextClaimsWork, OutcomesWork}
use Rattle.lay_document_cells.specs.Settling.{GivesUp, Settles, SettlesFirst, CellsStopAt, computed, granted, next as next_settled, none as none_settled, reused, taken, unclaimed}
use Rattle.lay_document_cells.specs.State.{State as DocumentCells}
use Rattle.lay_document_cells.specs.Steps.{ClaimsTo, Step, Works, claim, finish, give_back, none, step}
use Rattle.lay_core.specs.CellLaws.{BatchesAreWork, ClaimsAreWork, FinishesAreWork, GiveBacksAreWork, LatestIsWork, NextClaimsAreWork, OutcomesAreWork, PublishingIsWork, RefreshingIsWork, SettlingIsWork, StoppingIsWork, SyncIsWork}
use Rattle.lay_core.specs.Publishing.{Publishes}
use Rattle.lay_core.specs.State.{State, document_cells}
use Rattle.lay_core.specs.Steps.{ShowsLatest, ShowsPresent, is_due}
use Rattle.lay_core.specs.Work.{MaySettle}
use Rattle.lay_core.specs.declared.answers.Publish.TheVariants.{Published, Unsettled, NoMemory as no_publishing}
use Rattle.lay_core.proofs.ShownKept.{published_cells}

same_works : (s t : DocumentCells) → t ≡ s → Works s t
same_works s t same = subst (λ x. Works s x) (sym same) none

one_works : (s t : DocumentCells) → Step s t → Works s t
one_works s t does = step s t none does

then_works : (s m t : DocumentCells) → Works s m → Works m t → Works s t
then_works s m t a none = a
then_works s m t a (step mid t-1 before last) = step mid t (then_works s m mid a before) last

claim_works : (s : DocumentCells) (key : CellKey) (input : CellInput) (a : Claimed) (t : DocumentCells) → ClaimsTo s key input a t → Works s t
claim_works s key input a t does = one_works s t (claim key input a t does)

-- settling
first_works : (s t : DocumentCells) → SettlesFirst s t → Works s t
first_works s t (reused key input t-1 does) = claim_works s key input _ t does.claims
first_works s t (computed key input value a number mid t-1 claims number_is finishes) =
    then_works s mid t (claim_works s key input a mid claims.claims) (one_works mid t (finish _ _ t finishes))

settles_works : (s t : DocumentCells) → Settles s t → Works s t
settles_works s t none_settled = none
settles_works s t (next_settled mid t-1 before first) = then_works s mid t (settles_works s mid before) (first_works mid t first)

gives_up_works : (s t : DocumentCells) → GivesUp s t → Works s t
gives_up_works s t unclaimed = none
gives_up_works s t (taken key input number t-1 does) = claim_works s key input _ t does.claims
gives_up_works s t (granted key input number mid t-1 does back) =
    then_works s mid t (claim_works s key input _ mid does.claims) (one_works mid t (give_back key number _ t back))

stops_works : (s t : DocumentCells) → CellsStopAt s t → Works s t
stops_works s t does = then_works s does.before t (settles_works s does.before does.settles) (gives_up_works does.before t does.gives_up)

pub settling : SettlingIsWork
settling s t does = settles_works (document_cells s) (document_cells t) does.does.settles

pub stopping : StoppingIsWork
stopping s t does = stops_works (document_cells s) (document_cells t) does.does

may_settle : (s t : State) → MaySettle s t → Works (document_cells s) (document_cells t)
may_settle s t does = elim does [ inl all ↦ settling s t all | inr some ↦ stopping s t some ]

-- publishing and showing
publishes_works : (s t : State) → Publishes s t → Works (document_cells s) (document_cells t)
publishes_works s t does = same_works (document_cells s) (document_cells t) (published_cells s t does)

pub publishing : PublishingIsWork
publishing (Published v) s t does = publishes_works s t does.2
publishing (Unsettled k) s t does = same_works (document_cells s) (document_cells t) (ap document_cells does.1)
publishing no_publishing s t does = same_works (document_cells s) (document_cells t) (ap document_cells does.2)

pub refreshing : RefreshingIsWork
refreshing s t does =
    then_works (document_cells s) (document_cells does.settled) (document_cells t) (settling s does.settled does.settles)
    (publishes_works does.settled t does.publishes)

present : (s t : State) (r : Reply) → ShowsPresent s r t → Works (document_cells s) (document_cells t)
present s t (Accepted v) shows = absurd shows
present s t (Refused place f) shows = absurd shows
present s t (Shown v) shows = refreshing s t shows.1
present s t NoMemory shows = may_settle s t shows

latest_by : (due : Bool) (s t : State) (r : Reply) → ShowsLatest due s r t → Works (document_cells s) (document_cells t)
latest_by true s t r shows = present s t r shows
latest_by false s t r shows = same_works (document_cells s) (document_cells t) (ap document_cells shows.1)

pub latest : LatestIsWork
latest editor index r s t does =
    subst (λ d. Works (document_cells s) d) (sym (ap document_cells does.state)) (latest_by (is_due s) s does.before r does.shows)

pub sync : SyncIsWork
sync editor index r s t does =
    subst (λ d. Works (document_cells s) d) (sym (ap document_cells does.state)) (present s does.before r does.shows)

-- claims
pub claims : ClaimsWork → ClaimsAreWork
claims law key a s t does = law (document_cells s) (document_cells t) key a does.does

pub next_claims : NextClaimsWork → NextClaimsAreWork
next_claims law n s t does = law (document_cells s) (document_cells t) n does.does

pub batches : BatchesWork → BatchesAreWork
batches law limit claims a s t does = law (document_cells s) (document_cells t) limit claims a does.does

pub outcomes : OutcomesWork → OutcomesAreWork
outcomes law os tally s t does = law (document_cells s) (document_cells t) os tally does.does

pub finishes : FinishesAreWork
finishes done a s t does = one_works (document_cells s) (document_cells t) (finish done a (document_cells t) does.does)

pub give_backs : GiveBacksAreWork
give_backs key number a s t does = one_works (document_cells s) (document_cells t) (give_back key number a (document_cells t) does.does)
