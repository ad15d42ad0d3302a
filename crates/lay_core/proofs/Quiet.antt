-- To settle and to publish answers no call.
use Rattle.std.proofs.Common.{◌≡◌, List, Bool, true, false, refl, ap, ◌∙◌, subst, sym, append-nil, inl, inr}
use Rattle.lay_history.specs.declared.edits.command.Reply.{Reply}
use Rattle.lay_history.specs.declared.edits.command.Reply.TheVariants.{Accepted, Refused, Shown, NoMemory}
use Rattle.lay_history.specs.declared.edits.history.Entry.TheVariants.{Publish}
use Rattle.lay_frag.specs.Pieces.{Context}
use Rattle.lay_history.specs.Histories.{accepted}
use Rattle.lay_history.specs.Calls.{calls}
use Rattle.lay_core.proofs.Cited.{calls_more}
use Rattle.lay_document_cells.specs.State.{State as DocumentCells}
use Rattle.lay_core.specs.State.{State}
use Rattle.lay_core.specs.Publishing.{PublishesUnless, RefreshesTo, is_last, with_tree}
use Rattle.lay_core.specs.Steps.{ShowsLatest, ShowsPresent}
use Rattle.lay_core.specs.Work.{ChangesCells, MaySettle}

-- no call is answered
pub record IsQuiet (s t : State) : Type 0 where
  pub init : t.init ≡ s.init
  pub face : t.face ≡ s.face
  pub left : t.calls_left ≡ s.calls_left
  pub call : calls t.history ≡ calls s.history

same_quiet : (s t : State) → t ≡ s → IsQuiet s t
same_quiet s t e = record {
  init = ap (λ x. x.init) e;
  face = ap (λ x. x.face) e;
  left = ap (λ x. x.calls_left) e;
  call = ap (λ x. calls x.history) e;
}

pub change_quiet : (Does : DocumentCells → DocumentCells → Type 0) (s t : State) → ChangesCells Does s t → IsQuiet s t
change_quiet Does s t does = record {
  init = ap (λ x. x.init) does.state;
  face = ap (λ x. x.face) does.state;
  left = ap (λ x. x.calls_left) does.state;
  call = ap (λ x. calls x.history) does.state;
}

tree_quiet : (s : State) (tree : List Context) → IsQuiet s (with_tree s tree)
tree_quiet s tree = record {
  init = refl;
  face = refl;
  left = refl;
  call = calls_more s.history (Publish (accepted s.history)) ∙ append-nil (calls s.history);
}

unless_quiet : (b : Bool) (s t : State) → PublishesUnless b s t → IsQuiet s t
unless_quiet true s t does = same_quiet s t does
unless_quiet false s t does = subst (λ x. IsQuiet s x) (sym does.state) (tree_quiet s does.tree)

then_quiet : (s m t : State) → IsQuiet s m → IsQuiet m t → IsQuiet s t
then_quiet s m t a b = record { init = b.init ∙ a.init; face = b.face ∙ a.face; left = b.left ∙ a.left; call = b.call ∙ a.call }

pub refresh_quiet : (s t : State) → RefreshesTo s t → IsQuiet s t
refresh_quiet s t does =
    then_quiet s does.settled t (change_quiet _ s does.settled does.settles) (unless_quiet (is_last does.settled) does.settled t does.publishes)

may_settle_quiet : (s t : State) → MaySettle s t → IsQuiet s t
may_settle_quiet s t does = elim does [ inl all ↦ change_quiet _ s t all | inr some ↦ change_quiet _ s t some ]

pub present_quiet : (s t : State) (r : Reply) → ShowsPresent s r t → IsQuiet s t
present_quiet s t (Accepted v) shows = absurd shows
present_quiet s t (Refused place f) shows = absurd shows
present_quiet s t (Shown v) shows = refresh_quiet s t shows.1
present_quiet s t NoMemory shows = may_settle_quiet s t shows

pub latest_quiet : (due : Bool) (s t : State) (r : Reply) → ShowsLatest due s r t → IsQuiet s t
latest_quiet true s t r shows = present_quiet s t r shows
latest_quiet false s t r shows = same_quiet s t shows.1
