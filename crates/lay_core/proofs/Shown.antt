-- What a core shows, and what that makes of the history.
use Rattle.std.proofs.Common.{◌≡◌, ℕ, Bool, true, false, Option, Some, None, sym, ap, ◌∙◌, subst, arith, rules, refl}
use Rattle.std.proofs.lemmas.Bool.{eqb-true}
use Rattle.lay_history.specs.declared.edits.command.Reply.{Reply}
use Rattle.lay_history.specs.declared.edits.command.Reply.TheVariants.{Accepted, Refused, Shown, NoMemory}
use Rattle.lay_history.specs.declared.edits.history.Entry.TheVariants.{Publish}
use Rattle.lay_history.specs.Histories.{accepted, last_or, last_published, published}
use Rattle.lay_history.specs.Legal.{AnswersLatest, AnswersSync, IsWhole}
use Rattle.lay_core.proofs.Cited.{accepted_more, last_of_more, published_more}
use Rattle.lay_core.specs.State.{State}
use Rattle.lay_core.specs.Publishing.{PublishesUnless, RefreshesTo, is_last, is_version}
use Rattle.lay_core.specs.Steps.{ShowsLatest, ShowsPresent, ShowsVersion, is_due}

-- the present version of s was published last
pub record IsPresent (s t : State) : Type 0 where
  pub last : last_published t.history ≡ Some (accepted s.history)
  pub count : accepted t.history ≡ accepted s.history

pub last_is : (o : Option ℕ) (n : ℕ) → is_version o n ≡ true → o ≡ Some n
last_is None n e = absurd (search rules)
last_is (Some v) n e = ap (λ m. Some m) (eqb-true v n e)

present_by : (b : Bool) (s t : State) → is_last s ≡ b → PublishesUnless b s t → IsPresent s t
present_by true s t e does = record {
  last = ap (λ x. last_published x.history) does ∙ last_is (last_published s.history) (accepted s.history) e;
  count = ap (λ x. accepted x.history) does;
}
present_by false s t e does = subst (λ x. IsPresent s x) (sym does.state) record {
  last = ap (last_or None) (published_more s.history (Publish (accepted s.history))) ∙ last_of_more None (published s.history) (accepted s.history);
  count = let a = accepted_more s.history (Publish (accepted s.history)) in omega (arith, a);
}

pub is_present : (s t : State) → RefreshesTo s t → IsPresent s t
is_present s t does = record { last = p.last ∙ ap (λ h. Some (accepted h)) same; count = p.count ∙ ap accepted same }
  where
    same : does.settled.history ≡ s.history
    same = ap (λ x. x.history) does.settles.state

    p : IsPresent does.settled t
    p = present_by (is_last does.settled) does.settled t refl does.publishes

pub whole_of : (s t : State) → RefreshesTo s t → IsWhole t.history
whole_of s t does = let p = is_present s t does in p.last ∙ ap (λ n. Some n) (sym p.count)

-- the entry of the reply may follow
pub sync_follows : (s m : State) (r : Reply) → ShowsPresent s r m → AnswersSync (last_published m.history) (accepted m.history) r
sync_follows s m (Accepted v) shows = shows
sync_follows s m (Refused place f) shows = shows
sync_follows s m (Shown v) shows =
    let p = is_present s m shows.1 in (p.last ∙ ap (λ n. Some n) (sym shows.0), shows.0 ∙ sym p.count)
sync_follows s m NoMemory shows = tt

latest_of_sync : (o : Option ℕ) (n : ℕ) (r : Reply) → AnswersSync o n r → AnswersLatest o r
latest_of_sync o n (Accepted v) answers = answers
latest_of_sync o n (Refused place f) answers = answers
latest_of_sync o n (Shown v) answers = answers.0
latest_of_sync o n NoMemory answers = answers

latest_of_version : (o : Option ℕ) (r : Reply) → ShowsVersion o r → AnswersLatest o r
latest_of_version o (Accepted v) shows = shows
latest_of_version o (Refused place f) shows = shows
latest_of_version o (Shown v) shows = shows
latest_of_version o NoMemory shows = absurd shows

follows_by : (b : Bool) (s m : State) (r : Reply) → ShowsLatest b s r m → AnswersLatest (last_published m.history) r
follows_by true s m r shows = latest_of_sync (last_published m.history) (accepted m.history) r (sync_follows s m r shows)
follows_by false s m r shows = subst (λ x. AnswersLatest (last_published x.history) r) (sym shows.1) (latest_of_version (last_published s.history) r shows.0)

pub latest_follows : (s m : State) (r : Reply) → ShowsLatest (is_due s) s r m → AnswersLatest (last_published m.history) r
latest_follows s m r shows = follows_by (is_due s) s m r shows
