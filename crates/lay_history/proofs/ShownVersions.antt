-- The versions that a legal history shows.
use Rattle.std.proofs.Common.{◌≡◌, ◌<◌, ◌≤◌, ℕ, List, [], ◌∷◌, ◌++◌, take, Option, Some, None, refl, sym, ap, ◌∙◌, subst, arith, append-nil, inl, inr, slice_get, All}
use Rattle.std.proofs.lemmas.Option.{same_Some, none-some, slice_get_within}
use Rattle.lay_doc.specs.Document.{Document}
use Rattle.lay_history.specs.declared.edits.command.Reply.{Reply}
use Rattle.lay_history.specs.declared.edits.command.Reply.TheVariants.{Accepted, Refused, Shown, NoMemory}
use Rattle.lay_history.specs.declared.edits.history.Entry.{Entry}
use Rattle.lay_history.specs.declared.edits.history.Entry.TheVariants.{Edit, Publish, Latest, Sync}
use Rattle.lay_history.specs.Histories.{accepted, last_or, last_published, published, shown_by, shown_version, version_in}
use Rattle.lay_history.specs.Legal.{AnswersLatest, AnswersSync, IsLegal, MayFollow}
use Rattle.lay_history.specs.Laws.{ShownRise, ShownVersionsRise, SyncsShowAll}
use Rattle.lay_history.proofs.Lists.{get_more, get_take}
use Rattle.lay_history.proofs.OneMore.{front_holds, last_of_more, published_more}
use Rattle.lay_history.proofs.Versions.{last_of_all}

-- no older version than this was published last
abbrev IsReached : ℕ → Option ℕ → Type 0
IsReached v None = ⊥
IsReached v (Some w) = v ≤ w

abbrev AreReached : List Entry → Type 0
AreReached h = (j v : ℕ) (a : Entry) → slice_get h j ≡ Some a → shown_version a ≡ Some v → IsReached v (last_published h)

latest_shows : (o : Option ℕ) (reply : Reply) (v : ℕ) → AnswersLatest o reply → shown_by reply ≡ Some v → o ≡ Some v
latest_shows o (Accepted n) v answers e = absurd answers
latest_shows o (Refused place f) v answers e = absurd answers
latest_shows o (Shown n) v answers e = answers ∙ e
latest_shows o NoMemory v answers e = absurd (none-some v e)

sync_shows : (o : Option ℕ) (n : ℕ) (reply : Reply) (v : ℕ) → AnswersSync o n reply → shown_by reply ≡ Some v → (o ≡ Some v) × (v ≡ n)
sync_shows o n (Accepted m) v answers e = absurd answers
sync_shows o n (Refused place f) v answers e = absurd answers
sync_shows o n (Shown m) v answers e = (answers.0 ∙ e, sym (same_Some m v e) ∙ answers.1)
sync_shows o n NoMemory v answers e = absurd (none-some v e)

-- what an entry shows was published last
pub shown_last : (init : Document) (h : List Entry) (e : Entry) (v : ℕ) → MayFollow init h e → shown_version e ≡ Some v → last_published h ≡ Some v
shown_last init h (Edit editor index edits reply) v follows e = absurd (none-some v e)
shown_last init h (Publish w) v follows e = absurd (none-some v e)
shown_last init h (Latest editor index reply) v follows e = latest_shows (last_published h) reply v follows e
shown_last init h (Sync editor index reply) v follows e = (sync_shows (last_published h) (accepted h) reply v follows e).0

reached_later : (v w : ℕ) (o : Option ℕ) (xs : List ℕ) → last_or None xs ≡ o → All (λ u. u < w) xs → IsReached v o → v ≤ w
reached_later v w None xs e below is = absurd is
reached_later v w (Some u) xs e below is = let lt = last_of_all (λ n. n < w) xs u below e in omega (arith, lt, is)

same_last : (h : List Entry) (e : Entry) → version_in e ≡ [] → last_published (h ++ e ∷ []) ≡ last_published h
same_last h e none = ap (last_or None) (published_more h e ∙ (ap (λ v. published h ++ v) none ∙ append-nil (published h)))

-- what was reached stays so
reached_more : (init : Document) (h : List Entry) (e : Entry) (v : ℕ) → MayFollow init h e → IsReached v (last_published h) → IsReached v (last_published (h ++ e ∷ []))
reached_more init h (Edit editor index edits reply) v follows is = subst (IsReached v) (sym (same_last h (Edit editor index edits reply) refl)) is
reached_more init h (Publish w) v follows is =
    subst (IsReached v) (sym (ap (last_or None) (published_more h (Publish w)) ∙ last_of_more None (published h) w))
    (reached_later v w (last_published h) (published h) refl follows.1 is)
reached_more init h (Latest editor index reply) v follows is = subst (IsReached v) (sym (same_last h (Latest editor index reply) refl)) is
reached_more init h (Sync editor index reply) v follows is = subst (IsReached v) (sym (same_last h (Sync editor index reply) refl)) is

one_more : (init : Document) (h : List Entry) (e : Entry) → MayFollow init h e → AreReached h → AreReached (h ++ e ∷ [])
one_more init h e follows are j v a at shows = reached_more init h e v follows (elim (get_more h e a j at) [
  | inl old ↦ are j v a old.1 shows
  | inr new ↦ subst (IsReached v) (sym (shown_last init h e v follows (ap shown_version new.1 ∙ shows))) (omega arith)
])

shown_rise : (init : Document) (h : List Entry) → IsLegal init h → ShownRise h
shown_rise init h legal j k v w a b lt at_j at_k shows_a shows_b =
    subst (IsReached v) (shown_last init (take k h) b w (legal k b at_k) shows_b) (reached j v a (get_take h j k lt ∙ at_j) shows_a)
  where
    reached : AreReached (take k h)
    reached = front_holds AreReached init h k (let below = slice_get_within h k b at_k in omega (arith, below)) legal
        (λ j v a at shows. absurd (none-some a at)) (one_more init)

syncs_show_all : (init : Document) (h : List Entry) → IsLegal init h → SyncsShowAll h
syncs_show_all init h legal k v editor index reply at shows =
    (sync_shows (last_published (take k h)) (accepted (take k h)) reply v (legal k (Sync editor index reply) at) shows).1

pub shown_versions_rise : ShownVersionsRise
shown_versions_rise init h legal = (shown_rise init h legal, syncs_show_all init h legal)
