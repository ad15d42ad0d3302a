-- The versions that a legal history publishes.
use Rattle.std.proofs.Common.{◌≡◌, ◌<◌, ◌≤◌, ℕ, ◌+◌, suc, List, [], ◌∷◌, ◌++◌, length, Option, Some, None, IfSome, refl, sym, ap, ◌∙◌, subst, arith, append-nil, length-append, inl, inr, slice_get, All}
use Rattle.std.proofs.lemmas.Bool.{cases_lt}
use Rattle.std.proofs.lemmas.List.Elements.{All-push}
use Rattle.std.proofs.lemmas.Option.{none-some}
use Rattle.lay_doc.specs.Document.{Document}
use Rattle.lay_history.specs.declared.edits.history.Entry.{Entry}
use Rattle.lay_history.specs.declared.edits.history.Entry.TheVariants.{Edit, Publish, Latest, Sync}
use Rattle.lay_history.specs.Histories.{accepted, last_or, last_published, published, version_in}
use Rattle.lay_history.specs.Legal.{IsLegal, MayFollow}
use Rattle.lay_history.specs.Calls.{call_in, calls}
use Rattle.lay_history.specs.Laws.{FewVersions, VersionsRise}
use Rattle.lay_history.proofs.Lists.{all_at, get_more}
use Rattle.lay_history.proofs.OneMore.{accepted_more, last_of_more, legal_holds, published_more}

-- each of these is smaller than those behind it
abbrev pub AreRising : List ℕ → Type 0
AreRising xs = (j k v w : ℕ) → j < k → slice_get xs j ≡ Some v → slice_get xs k ≡ Some w → v < w

rising_more : (xs : List ℕ) (n : ℕ) → AreRising xs → All (λ v. v < n) xs → AreRising (xs ++ n ∷ [])
rising_more xs n rising below j k v w lt at_j at_k = elim (get_more xs n v j at_j) [
  | inl old_j ↦ elim (get_more xs n w k at_k) [
    | inl old_k ↦ rising j k v w lt old_j.1 old_k.1
    | inr new_k ↦ subst (λ m. v < m) new_k.1 (all_at (λ m. m < n) xs j v below old_j.1)
  ]
  | inr new_j ↦ absurd (elim (get_more xs n w k at_k) [
    | inl old_k ↦ (let a = old_k.0 in let b = new_j.0 in omega (arith, lt, a, b))
    | inr new_k ↦ (let a = new_k.0 in let b = new_j.0 in omega (arith, lt, a, b))
  ])
]

some_last : (x : ℕ) (xs : List ℕ) → last_or (Some x) xs ≡ None → ⊥
some_last x [] e = none-some x (sym e)
some_last x (y ∷ xs) e = some_last y xs e

pub none_last : (xs : List ℕ) → last_or None xs ≡ None → xs ≡ []
none_last [] e = refl
none_last (x ∷ xs) e = absurd (some_last x xs e)

-- the last of these is one of them
last_holds : (P : ℕ → Type 0) (x : ℕ) (xs : List ℕ) (w : ℕ) → P x → All P xs → last_or (Some x) xs ≡ Some w → P w
last_holds P x [] w p all e = subst (λ o. IfSome o P) e p
last_holds P x (y ∷ ys) w p all e = last_holds P y ys w (all 0 y (omega arith)) (λ k d lt. all (suc k) d (omega (arith, lt))) e

pub last_of_all : (P : ℕ → Type 0) (xs : List ℕ) (w : ℕ) → All P xs → last_or None xs ≡ Some w → P w
last_of_all P [] w all e = absurd (none-some w e)
last_of_all P (y ∷ ys) w all e = last_holds P y ys w (all 0 y (omega arith)) (λ k d lt. all (suc k) d (omega (arith, lt))) e

-- the last version is the greatest, and there are at most one more
abbrev pub IsGreatest : ℕ → List ℕ → ℕ → Type 0
IsGreatest n xs v = (v ≤ n) × (length xs ≤ v + 1) × All (λ w. w ≤ v) xs

abbrev pub HasGreatest : ℕ → List ℕ → Type 0
HasGreatest n xs = IfSome (last_or None xs) (IsGreatest n xs)

pub record ArePublished (h : List Entry) : Type 0 where
  pub rising : AreRising (published h)
  pub greatest : HasGreatest (accepted h) (published h)

grown : (n m : ℕ) (xs : List ℕ) (o : Option ℕ) → n ≤ m → IfSome o (IsGreatest n xs) → IfSome o (IsGreatest m xs)
grown n m xs None le p = tt
grown n m xs (Some v) le p = let q = p.0 in (omega (arith, le, q), p.1, p.2)

-- how many versions there are, where all are smaller than n
few_below : (n : ℕ) (xs : List ℕ) (o : Option ℕ) → last_or None xs ≡ o → IfSome o (IsGreatest n xs) → All (λ v. v < n) xs → length xs ≤ n
few_below n xs None e p below = rw (none_last xs e) (omega arith)
few_below n xs (Some v) e p below = let lt = last_of_all (λ w. w < n) xs v below e in let few = p.1 in omega (arith, lt, few)

same_more : (h : List Entry) (e : Entry) → version_in e ≡ [] → ArePublished h → ArePublished (h ++ e ∷ [])
same_more h e none is = record {
  rising = subst AreRising (sym same) is.rising;
  greatest = subst (λ xs. HasGreatest (accepted (h ++ e ∷ [])) xs) (sym same)
      (grown (accepted h) (accepted (h ++ e ∷ [])) (published h) (last_published h) (let a = accepted_more h e in omega (arith, a)) is.greatest);
}
  where
    same : published (h ++ e ∷ []) ≡ published h
    same = published_more h e ∙ (ap (λ v. published h ++ v) none ∙ append-nil (published h))

published_again : (h : List Entry) (v : ℕ) → v ≡ accepted h → All (λ w. w < v) (published h) → ArePublished h → ArePublished (h ++ Publish v ∷ [])
published_again h v v_is below is = record {
  rising = subst AreRising (sym (published_more h (Publish v))) (rising_more (published h) v is.rising below);
  greatest = subst (λ xs. HasGreatest (accepted (h ++ Publish v ∷ [])) xs) (sym (published_more h (Publish v)))
      (subst (λ o. IfSome o (IsGreatest (accepted (h ++ Publish v ∷ [])) (published h ++ v ∷ []))) (sym (last_of_more None (published h) v)) (
        (let a = accepted_more h (Publish v) in omega (arith, a, v_is)),
        (let l = length-append (published h) (v ∷ []) in omega (arith, l, few)),
        All-push (λ w. w ≤ v) (published h) v (λ k d lt. let w = below k d lt in omega (arith, w)) (omega arith),
      ));
}
  where
    few : length (published h) ≤ v
    few = few_below v (published h) (last_published h) refl (subst (λ n. HasGreatest n (published h)) (sym v_is) is.greatest) below

one_more : (init : Document) (h : List Entry) (e : Entry) → MayFollow init h e → ArePublished h → ArePublished (h ++ e ∷ [])
one_more init h (Edit editor index edits reply) follows is = same_more h (Edit editor index edits reply) refl is
one_more init h (Publish v) follows is = published_again h v follows.0 follows.1 is
one_more init h (Latest editor index reply) follows is = same_more h (Latest editor index reply) refl is
one_more init h (Sync editor index reply) follows is = same_more h (Sync editor index reply) refl is

none_yet : ArePublished []
none_yet = record { rising = λ j k v w lt at_j at_k. absurd (none-some v at_j); greatest = tt }

pub are_published : (init : Document) (h : List Entry) → IsLegal init h → ArePublished h
are_published init h legal = legal_holds ArePublished init h legal none_yet (one_more init)

few_of : (n : ℕ) (xs : List ℕ) (o : Option ℕ) → last_or None xs ≡ o → IfSome o (IsGreatest n xs) → length xs ≤ n + 1
few_of n xs None e p = rw (none_last xs e) (omega arith)
few_of n xs (Some v) e p = let a = p.0 in let b = p.1 in omega (arith, a, b)

pub few_versions : FewVersions
few_versions init h legal = few_of (accepted h) (published h) (last_published h) refl (are_published init h legal).greatest

not_greater : (n : ℕ) (xs : List ℕ) (o : Option ℕ) → last_or None xs ≡ o → IfSome o (IsGreatest n xs) → All (λ v. v ≤ n) xs
not_greater n xs None e p = rw (none_last xs e) (λ k d lt. absurd (omega (arith, lt)))
not_greater n xs (Some v) e p = λ k d lt. let a = p.0 in let b = p.2 k d lt in omega (arith, a, b)

pub none_greater : (init : Document) (h : List Entry) → IsLegal init h → All (λ v. v ≤ accepted h) (published h)
none_greater init h legal = not_greater (accepted h) (published h) (last_published h) refl (are_published init h legal).greatest

pub versions_rise : VersionsRise
versions_rise init h legal = ((are_published init h legal).rising, none_greater init h legal)

by_ne : (a b : ℕ) → (a ≡ b → ⊥) → a ≤ b → a < b
by_ne a b ne le = elim (cases_lt a b) [ inl low ↦ low | inr high ↦ absurd (ne (omega (arith, le, high))) ]

-- where the last is not n, all are smaller
below_other : (n : ℕ) (xs : List ℕ) (o : Option ℕ) → last_or None xs ≡ o → (o ≡ Some n → ⊥) → IfSome o (IsGreatest n xs)
    → (length xs ≤ n) × All (λ w. w < n) xs
below_other n xs None e other p = rw (none_last xs e) (omega arith, λ k d lt. absurd (omega (arith, lt)))
below_other n xs (Some v) e other p =
    let few = p.1 in
    let less : v < n = by_ne v n (λ q. other (ap (λ y. Some y) q)) p.0 in
    (omega (arith, less, few), λ k d lt. let w = p.2 k d lt in omega (arith, w, less))

pub all_below : (init : Document) (h : List Entry) → IsLegal init h → (last_published h ≡ Some (accepted h) → ⊥)
    → (length (published h) ≤ accepted h) × All (λ w. w < accepted h) (published h)
all_below init h legal other = below_other (accepted h) (published h) (last_published h) refl other (are_published init h legal).greatest

-- an entry is of a call or publishes a version, and each accepted list is of a call
entry_is : (e : Entry) → 1 ≡ length (call_in e) + length (version_in e)
entry_is (Edit editor index edits reply) = refl
entry_is (Publish v) = refl
entry_is (Latest editor index reply) = refl
entry_is (Sync editor index reply) = refl

pub entries_are : (h : List Entry) → length h ≡ length (calls h) + length (published h)
entries_are [] = refl
entries_are (x ∷ h) =
    let r = entries_are h in let one = entry_is x in
    let c = length-append (call_in x) (calls h) in let p = length-append (version_in x) (published h) in
    omega (arith, r, one, c, p)
