-- Each call leads on from a core that calls led to: it accepts a list of edits, or the versions stay.
use Rattle.std.proofs.Common.{◌≡◌, ℕ, List, refl, ap, subst, sym, ◌∙◌}
use Rattle.lay_doc.specs.Document.{Document}
use Rattle.lay_doc.specs.declared.edit.Edit.{Edit as Change}
use Rattle.lay_face.specs.FaceValue.{FaceValue}
use Rattle.lay_history.specs.declared.edits.command.Reply.{Reply}
use Rattle.lay_history.specs.declared.edits.command.Reply.TheVariants.{Accepted, NoMemory, Refused, Shown}
use Rattle.lay_history.specs.declared.edits.history.Entry.TheVariants as entry
use Rattle.lay_core.specs.State.{IsCore, State}
use Rattle.lay_core.specs.Steps.{EditsTo}
use Rattle.lay_core.specs.CoreLaws.ReachedCores.{CallsTo, IsReached, called, claim, claim_next, claim_some, edit, finish, finish_all, give_back, latest, new, publish, refresh, settle, sync}
use Rattle.lay_core.proofs.CoreLawsLemmas.QuietCalls.{Stays, called_quiet, change_stays, latest_stays, may_settle_stays, publish_stays, refresh_stays, sync_stays}

-- an edit that was accepted, or a call that accepts none
pub data Leaves (s : State) : State → Type 0 where
  accepts : (editor index : ℕ) (edits : List Change) (version : ℕ) (t : State) → EditsTo s editor index edits (Accepted version) t → Leaves s t
  rests : (t : State) → Stays s t → Leaves s t

edit_left : (s t : State) (editor index : ℕ) (edits : List Change) (r : Reply) → EditsTo s editor index edits r t → Leaves s t
edit_left s t editor index edits (Accepted v) does = accepts editor index edits v t does
edit_left s t editor index edits (Refused place f) does =
    rests t (called_quiet s t (entry.Edit editor index edits (Refused place f)) refl does.1).stays
edit_left s t editor index edits (Shown v) does = absurd does
edit_left s t editor index edits NoMemory does = rests t (called_quiet s t (entry.Edit editor index edits NoMemory) refl does.1).stays

pub what_left : (s t : State) → CallsTo s t → Leaves s t
what_left s t (edit editor index edits r _ does) = edit_left s t editor index edits r does
what_left s t (latest editor index r _ does) = rests t (latest_stays editor index r s t does)
what_left s t (sync editor index r _ does) = rests t (sync_stays editor index r s t does)
what_left s t (settle _ does) = rests t (may_settle_stays s t does)
what_left s t (refresh _ does) = rests t (refresh_stays s t does)
what_left s t (publish p _ does) = rests t (publish_stays p s t does)
what_left s t (claim key a _ does) = rests t (change_stays _ s t does)
what_left s t (claim_next n _ does) = rests t (change_stays _ s t does)
what_left s t (claim_some limit cs a _ does) = rests t (change_stays _ s t does)
what_left s t (finish done a _ does) = rests t (change_stays _ s t does)
what_left s t (finish_all os tally _ does) = rests t (change_stays _ s t does)
what_left s t (give_back key number a _ does) = rests t (change_stays _ s t does)

-- the document before any edit and the face stay
origin_left : (s t : State) → Leaves s t → (t.init ≡ s.init) × (t.face ≡ s.face)
origin_left s t (accepts editor index edits v _ does) = (ap (λ (x : State). x.init) does.2.state, ap (λ (x : State). x.face) does.2.state)
origin_left s t (rests _ stays) = (stays.init, stays.face)

pub origin_stays : (init : Document) (face : FaceValue) (s : State) → IsReached init face s → (s.init ≡ init) × (s.face ≡ face)
origin_stays init face s (new calls _ is core) = (ap (λ (x : State). x.init) is.state, ap (λ (x : State). x.face) is.state)
origin_stays init face s (called before _ reached call core) =
    let was = origin_stays init face before reached in
    let now = origin_left before s (what_left before s call) in
    (now.0 ∙ was.0, now.1 ∙ was.1)

pub leads_on : (s t : State) → IsReached s.init s.face s → CallsTo s t → IsCore t → IsReached t.init t.face t
leads_on s t reached call core =
    let stays = origin_left s t (what_left s t call) in
    subst (λ (d : Document). IsReached d t.face t) (sym stays.0)
    (subst (λ (f : FaceValue). IsReached s.init f t) (sym stays.1) (called s t reached call core))
