-- Calls but edits: the origin of the core stays and no list of edits is accepted, and what is done to the cells is work.
use Rattle.std.proofs.Common.{◌≡◌, ℕ, Bool, true, false, List, [], inl, inr, refl, ap, sym, subst, ◌∙◌}
use Rattle.lay_doc.specs.Document.{Document}
use Rattle.lay_doc.specs.declared.edit.Edit.{Edit as Change}
use Rattle.lay_history.specs.declared.edits.command.Reply.{Reply}
use Rattle.lay_history.specs.declared.edits.command.Reply.TheVariants.{Accepted, NoMemory, Refused, Shown}
use Rattle.lay_history.specs.declared.edits.history.Entry.{Entry}
use Rattle.lay_history.specs.declared.edits.history.Entry.TheVariants as entry
use Rattle.lay_frag.specs.Pieces.{Context}
use Rattle.lay_history.specs.Histories.{accepted, list_in}
use Rattle.lay_document_cells.specs.Laws.{BatchesWork, ClaimsWork, NextClaimsWork, OutcomesWork}
use Rattle.lay_document_cells.specs.State.{State as DocumentCells}
use Rattle.lay_document_cells.specs.Steps.{Works, none}
use Rattle.lay_core.specs.Publishing.{Publishes, PublishesTo, PublishesUnless, RefreshesTo, is_last, with_tree}
use Rattle.lay_core.specs.State.{State, document_cells}
use Rattle.lay_core.specs.Steps.{EditsTo, LatestTo, ShowsLatest, ShowsPresent, SyncTo, called, is_due}
use Rattle.lay_core.specs.Work.{ChangesCells, MaySettle}
use Rattle.lay_core.specs.declared.answers.Publish.{Publish}
use Rattle.lay_core.specs.declared.answers.Publish.TheVariants.{NoMemory as no_publishing, Published, Unsettled}
use Rattle.lay_core.proofs.CellSteps.{batches, claims, finishes, give_backs, latest as latest_works, next_claims, outcomes, publishing, refreshing, settling, stopping, sync as sync_works}
use Rattle.lay_core.specs.CoreLaws.ReachedCores.{CallsTo, claim, claim_next, claim_some, edit, finish, finish_all, give_back, latest, publish, refresh, settle, sync}
use Rattle.lay_core.proofs.CoreLawsLemmas.LaterHistories.{Rests, rests_both, rests_itself, rests_one}

-- the origin stays, and no list of edits is accepted
pub record Stays (s t : State) : Type 0 where
  pub init : t.init ≡ s.init
  pub face : t.face ≡ s.face
  pub history : Rests s.init s.history t.history

same_stays : (s t : State) → t ≡ s → Stays s t
same_stays s t e = record {
  init = ap (λ (x : State). x.init) e;
  face = ap (λ (x : State). x.face) e;
  history = rests_itself s.init s.history t.history (ap (λ (x : State). x.history) e);
}

both_stay : (s m t : State) → Stays s m → Stays m t → Stays s t
both_stay s m t a b = record {
  init = b.init ∙ a.init;
  face = b.face ∙ a.face;
  history = rests_both s.init s.history m.history t.history a.history (subst (λ (d : Document). Rests d m.history t.history) a.init b.history);
}

pub change_stays : (Does : DocumentCells → DocumentCells → Type 0) (s t : State) → ChangesCells Does s t → Stays s t
change_stays Does s t does = record {
  init = ap (λ (x : State). x.init) does.state;
  face = ap (λ (x : State). x.face) does.state;
  history = rests_itself s.init s.history t.history (ap (λ (x : State). x.history) does.state);
}

tree_stays : (s : State) (tree : List Context) → Stays s (with_tree s tree)
tree_stays s tree = record { init = refl; face = refl; history = rests_one s.init s.history (entry.Publish (accepted s.history)) refl }

unless_stays : (b : Bool) (s t : State) → PublishesUnless b s t → Stays s t
unless_stays true s t does = same_stays s t does
unless_stays false s t does = subst (λ (x : State). Stays s x) (sym does.state) (tree_stays s does.tree)

publishes_stay : (s t : State) → Publishes s t → Stays s t
publishes_stay s t does = unless_stays (is_last s) s t does

pub publish_stays : (p : Publish) (s t : State) → PublishesTo s p t → Stays s t
publish_stays (Published v) s t does = publishes_stay s t does.2
publish_stays (Unsettled k) s t does = same_stays s t does.1
publish_stays no_publishing s t does = same_stays s t does.2

pub refresh_stays : (s t : State) → RefreshesTo s t → Stays s t
refresh_stays s t does =
    both_stay s does.settled t (change_stays _ s does.settled does.settles) (publishes_stay does.settled t does.publishes)

pub may_settle_stays : (s t : State) → MaySettle s t → Stays s t
may_settle_stays s t does = elim does [ inl all ↦ change_stays _ s t all | inr some ↦ change_stays _ s t some ]

may_settle_works : (s t : State) → MaySettle s t → Works (document_cells s) (document_cells t)
may_settle_works s t does = elim does [ inl all ↦ settling s t all | inr some ↦ stopping s t some ]

present_stays : (s t : State) (r : Reply) → ShowsPresent s r t → Stays s t
present_stays s t (Accepted v) shows = absurd shows
present_stays s t (Refused place f) shows = absurd shows
present_stays s t (Shown v) shows = refresh_stays s t shows.1
present_stays s t NoMemory shows = may_settle_stays s t shows

latest_by : (due : Bool) (s t : State) (r : Reply) → ShowsLatest due s r t → Stays s t
latest_by true s t r shows = present_stays s t r shows
latest_by false s t r shows = same_stays s t shows.1

called_stays : (s : State) (e : Entry) → list_in e ≡ [] → Stays s (called s e)
called_stays s e no_list = record { init = refl; face = refl; history = rests_one s.init s.history e no_list }

pub latest_stays : (editor index : ℕ) (r : Reply) (s t : State) → LatestTo s editor index r t → Stays s t
latest_stays editor index r s t does =
    subst (λ (x : State). Stays s x) (sym does.state)
    (both_stay s does.before (called does.before (entry.Latest editor index r)) (latest_by (is_due s) s does.before r does.shows)
    (called_stays does.before (entry.Latest editor index r) refl))

pub sync_stays : (editor index : ℕ) (r : Reply) (s t : State) → SyncTo s editor index r t → Stays s t
sync_stays editor index r s t does =
    subst (λ (x : State). Stays s x) (sym does.state)
    (both_stay s does.before (called does.before (entry.Sync editor index r)) (present_stays s does.before r does.shows)
    (called_stays does.before (entry.Sync editor index r) refl))

-- such a call
pub record IsQuiet (s t : State) : Type 0 where
  pub stays : Stays s t
  pub works : Works (document_cells s) (document_cells t)

pub called_quiet : (s t : State) (e : Entry) → list_in e ≡ [] → t ≡ called s e → IsQuiet s t
called_quiet s t e no_list is = record {
  stays = subst (λ (x : State). Stays s x) (sym is) (called_stays s e no_list);
  works = subst (λ (x : State). Works (document_cells s) (document_cells x)) (sym is) none_done;
}
  where
    none_done : Works (document_cells s) (document_cells s)
    none_done = none

-- an edit that was accepted, or a call that is quiet
pub data Called (s : State) : State → Type 0 where
  accepts : (editor index : ℕ) (edits : List Change) (version : ℕ) (t : State) → EditsTo s editor index edits (Accepted version) t → Called s t
  rests : (t : State) → IsQuiet s t → Called s t

edit_called : (s t : State) (editor index : ℕ) (edits : List Change) (r : Reply) → EditsTo s editor index edits r t → Called s t
edit_called s t editor index edits (Accepted v) does = accepts editor index edits v t does
edit_called s t editor index edits (Refused place f) does = rests t (called_quiet s t (entry.Edit editor index edits (Refused place f)) refl does.1)
edit_called s t editor index edits (Shown v) does = absurd does
edit_called s t editor index edits NoMemory does = rests t (called_quiet s t (entry.Edit editor index edits NoMemory) refl does.1)

module _ (claims_law : ClaimsWork) (next_law : NextClaimsWork) (batches_law : BatchesWork) (outcomes_law : OutcomesWork) where
  pub what_called : (s t : State) → CallsTo s t → Called s t
  what_called s t (edit editor index edits r _ does) = edit_called s t editor index edits r does
  what_called s t (latest editor index r _ does) =
      rests t (record { stays = latest_stays editor index r s t does; works = latest_works editor index r s t does })
  what_called s t (sync editor index r _ does) =
      rests t (record { stays = sync_stays editor index r s t does; works = sync_works editor index r s t does })
  what_called s t (settle _ does) = rests t (record { stays = may_settle_stays s t does; works = may_settle_works s t does })
  what_called s t (refresh _ does) = rests t (record { stays = refresh_stays s t does; works = refreshing s t does })
  what_called s t (publish p _ does) = rests t (record { stays = publish_stays p s t does; works = publishing p s t does })
  what_called s t (claim key a _ does) = rests t (record { stays = change_stays _ s t does; works = claims claims_law key a s t does })
  what_called s t (claim_next n _ does) = rests t (record { stays = change_stays _ s t does; works = next_claims next_law n s t does })
  what_called s t (claim_some limit cs a _ does) =
      rests t (record { stays = change_stays _ s t does; works = batches batches_law limit cs a s t does })
  what_called s t (finish done a _ does) = rests t (record { stays = change_stays _ s t does; works = finishes done a s t does })
  what_called s t (finish_all os tally _ does) = rests t (record { stays = change_stays _ s t does; works = outcomes outcomes_law os tally s t does })
  what_called s t (give_back key number a _ does) = rests t (record { stays = change_stays _ s t does; works = give_backs key number a s t does })
