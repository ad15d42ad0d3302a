-- What the calls of editors on a core add to its history.
use Rattle.std.proofs.Common.{◌≡◌, ◌≢◌, ℕ, ◌+◌, ◌-◌, ◌<◌, ◌≤◌, ◌^◌, List, [], ◌∷◌, ◌++◌, Bool, true, false, refl, sym, ap, ◌∙◌, subst, arith, append_assoc, append-nil, if◌then◌else◌, ◌==◌, eq-eqb, ne_eqb, ⊎_elim}
use Rattle.lay_doc.specs.declared.edit.Edit.{Edit as Change}
use Rattle.lay_history.specs.declared.edits.command.Reply.{Reply}
use Rattle.lay_history.specs.declared.edits.command.Reply.TheVariants.{Accepted, Refused, Shown, NoMemory}
use Rattle.lay_history.specs.declared.edits.history.Entry.{Entry}
use Rattle.lay_history.specs.declared.edits.history.Entry.TheVariants.{Edit, Publish, Latest, Sync}
use Rattle.lay_history.specs.Histories.{accepted}
use Rattle.lay_core.specs.State.{State}
use Rattle.lay_core.specs.Steps.{EditsTo, LatestTo, ShowsLatest, ShowsPresent, SyncTo, called, is_due}
use Rattle.lay_core.specs.Publishing.{PublishesUnless, is_last}
use Rattle.lay_core.specs.Work.{SettlesTo, StopsAt}
use Rattle.lay_board.specs.Cores.{Adds, origin_of}
use Rattle.lay_board.specs.Entries.{by_editor, own_if}
use Rattle.lay_board.proofs.Lists.{by_editor_append}

-- the entry is this editor's alone
record IsEntryOf (editor : ℕ) (e : Entry) : Type 0 where
  own : by_editor editor (e ∷ []) ≡ e ∷ []
  others : (n : ℕ) → n ≢ editor → by_editor n (e ∷ []) ≡ []

of_editor : (e : Entry) (editor : ℕ) → ((n : ℕ) → own_if n e ≡ (if editor == n then e ∷ [] else [])) → IsEntryOf editor e
of_editor e editor is = record {
  own = ap (λ (l : List Entry). l ++ []) (is editor ∙ ap (λ b. if b then e ∷ [] else []) (eq-eqb editor editor refl));
  others = λ n other. ap (λ (l : List Entry). l ++ []) (is n ∙ ap (λ b. if b then e ∷ [] else []) (ne_eqb editor n (λ z. other (sym z))));
}

-- a call that is recorded behind entries that are nobody's
record IsBefore (s t : State) : Type 0 where
  origin : origin_of t ≡ origin_of s
  more : List Entry
  history : t.history ≡ s.history ++ more
  nobody : (n : ℕ) → by_editor n more ≡ []
  left : t.calls_left ≡ s.calls_left

same : (s t : State) → origin_of t ≡ origin_of s → t.history ≡ s.history → t.calls_left ≡ s.calls_left → IsBefore s t
same s t o h l = record { origin = o; more = []; history = h ∙ sym (append-nil s.history); nobody = λ n. refl; left = l }

settled : (s t : State) → SettlesTo s t → IsBefore s t
settled s t settles = same s t (ap origin_of settles.state) (ap (λ (x : State). x.history) settles.state) (ap (λ (x : State). x.calls_left) settles.state)

stopped : (s t : State) → StopsAt s t → IsBefore s t
stopped s t stops = same s t (ap origin_of stops.state) (ap (λ (x : State). x.history) stops.state) (ap (λ (x : State). x.calls_left) stops.state)

published : (s m t : State) (b : Bool) → IsBefore s m → m.history ≡ s.history → PublishesUnless b m t → IsBefore s t
published s m t true was same_history is = subst (IsBefore s) (sym is) was
published s m t false was same_history is = record {
  origin = ap origin_of is.state ∙ was.origin;
  more = Publish (accepted m.history) ∷ [];
  history = ap (λ (x : State). x.history) is.state ∙ ap (λ (l : List Entry). l ++ Publish (accepted m.history) ∷ []) same_history;
  nobody = λ n. refl;
  left = ap (λ (x : State). x.calls_left) is.state ∙ was.left;
}

present : (s t : State) (reply : Reply) → ShowsPresent s reply t → IsBefore s t
present s t (Shown version) shows =
    let r = shows.1 in published s r.settled t (is_last r.settled) (settled s r.settled r.settles) (ap (λ (x : State). x.history) r.settles.state) r.publishes
present s t NoMemory shows = ⊎_elim (settled s t) (stopped s t) shows
present s t (Accepted version) shows = absurd shows
present s t (Refused place f) shows = absurd shows

latest : (s t : State) (reply : Reply) (b : Bool) → ShowsLatest b s reply t → IsBefore s t
latest s t reply true shows = present s t reply shows
latest s t reply false shows = subst (IsBefore s) (sym shows.1) (same s s refl refl refl)

recorded : (s m t : State) (editor : ℕ) (e : Entry) → IsEntryOf editor e → IsBefore s m → t ≡ called m e → 0 < s.calls_left → t.cells.draws ≤ s.cells.draws + 2 ^ 18 → Adds editor s e t
recorded s m t editor e of was is some draws = record {
  origin = ap origin_of is ∙ was.origin;
  more = was.more ++ e ∷ [];
  history = ap (λ (x : State). x.history) is ∙ (ap (λ (l : List Entry). l ++ e ∷ []) was.history ∙ append_assoc s.history was.more (e ∷ []));
  left = let l = ap (λ (x : State). x.calls_left) is in let k = was.left in omega (arith, l, k, some);
  draws = omega (arith, draws);
  before = was.more;
  last = refl;
  own = by_editor_append editor was.more (e ∷ []) ∙ (ap (λ (l : List Entry). l ++ by_editor editor (e ∷ [])) (was.nobody editor) ∙ of.own);
  others = λ n other. by_editor_append n was.more (e ∷ []) ∙ (ap (λ (l : List Entry). l ++ by_editor n (e ∷ [])) (was.nobody n) ∙ of.others n other);
}

pub latest_adds : (s t : State) (editor index : ℕ) (reply : Reply) → 0 < s.calls_left → t.cells.draws ≤ s.cells.draws + 2 ^ 18
    → LatestTo s editor index reply t → Adds editor s (Latest editor index reply) t
latest_adds s t editor index reply some draws to =
    recorded s to.before t editor (Latest editor index reply) (of_editor (Latest editor index reply) editor (λ n. refl)) (latest s to.before reply (is_due s) to.shows) to.state some draws

pub sync_adds : (s t : State) (editor index : ℕ) (reply : Reply) → 0 < s.calls_left → t.cells.draws ≤ s.cells.draws + 2 ^ 18
    → SyncTo s editor index reply t → Adds editor s (Sync editor index reply) t
sync_adds s t editor index reply some draws to =
    recorded s to.before t editor (Sync editor index reply) (of_editor (Sync editor index reply) editor (λ n. refl)) (present s to.before reply to.shows) to.state some draws

-- an edit leaves what the record of its call leaves, but for the document and its cells
edited : (s t : State) (editor index : ℕ) (edits : List Change) (reply : Reply) → EditsTo s editor index edits reply t
    → (origin_of t ≡ origin_of s) × (t.history ≡ s.history ++ Edit editor index edits reply ∷ []) × (t.calls_left ≡ s.calls_left - 1)
edited s t editor index edits (Accepted version) to = let e = to.2.state in (ap origin_of e, ap (λ (x : State). x.history) e, ap (λ (x : State). x.calls_left) e)
edited s t editor index edits (Refused place f) to = let e = to.1 in (ap origin_of e, ap (λ (x : State). x.history) e, ap (λ (x : State). x.calls_left) e)
edited s t editor index edits (Shown version) to = absurd to
edited s t editor index edits NoMemory to = let e = to.1 in (ap origin_of e, ap (λ (x : State). x.history) e, ap (λ (x : State). x.calls_left) e)

pub edit_adds : (s t : State) (editor index : ℕ) (edits : List Change) (reply : Reply) → 0 < s.calls_left → t.cells.draws ≤ s.cells.draws + 2 ^ 18
    → EditsTo s editor index edits reply t → Adds editor s (Edit editor index edits reply) t
edit_adds s t editor index edits reply some draws to =
    let is = edited s t editor index edits reply to in
    let of = of_editor (Edit editor index edits reply) editor (λ n. refl) in
    record {
      origin = is.0;
      more = Edit editor index edits reply ∷ [];
      history = is.1;
      left = let l = is.2 in omega (arith, l, some);
      draws = omega (arith, draws);
      before = [];
      last = refl;
      own = of.own;
      others = of.others;
    }
