-- What is kept while the outcomes of a batch are put together: those of the claims so far are there, each at its place.
use Rattle.std.proofs.Common.{◌≡◌, ◌⊎◌, inl, inr, ⊎_elim, ℕ, zero, suc, ◌+◌, List, [], ◌∷◌, ◌++◌, length, slice_get, Option, Some, None, IfSome, refl, sym, ap, ◌∙◌, subst, arith, append_assoc, length-append}
use Rattle.std.proofs.lemmas.Option.{same_Some, none-some}
use Rattle.lay_cell_work.specs.Claims.{Claim}
use Rattle.lay_cell_work.specs.declared.claim_lists.outcome.Outcome.{Outcome}
use Rattle.lay_cell_work.specs.ClaimLists.Outcomes.{IsOutcomeAt, IsOutcomeOf, IsWorkOf, Work}
use Rattle.lay_pool.specs.Finds.{AreNotesOf, IsOfPlace}

pub record IsDrained (claims yielded left : List Claim) (place : ℕ) (notes : List (Option (Option Work))) (outcomes : List Outcome) : Type 0 where
  pub all : yielded ++ left ≡ claims
  pub place_is : place ≡ length yielded
  pub done : length outcomes ≡ place
  pub noted : AreNotesOf claims notes
  pub notes_len : length notes ≡ length claims
  pub each : (at : ℕ) (o : Outcome) → slice_get outcomes at ≡ Some o → IsOutcomeAt claims at o

middle_at : {X : Type 0} (xs ys : List X) (x : X) → slice_get (xs ++ x ∷ ys) (length xs) ≡ Some x
middle_at [] ys x = refl
middle_at (a ∷ xs) ys x = middle_at xs ys x

-- what stands in a list with one more stood in it before, or is the last one
snoc_at : {X : Type 0} (xs : List X) (x : X) (i : ℕ) (y : X) → slice_get (xs ++ x ∷ []) i ≡ Some y → (slice_get xs i ≡ Some y) ⊎ ((i ≡ length xs) × (x ≡ y))
snoc_at [] x zero y h = inr (refl, same_Some x y h)
snoc_at [] x (suc i) y h = absurd (none-some y h)
snoc_at (a ∷ xs) x zero y h = inl h
snoc_at (a ∷ xs) x (suc i) y h = ⊎_elim (λ g. inl g) (λ (g : (i ≡ length xs) × (x ≡ y)). inr (ap suc g.0, g.1)) (snoc_at xs x i y h)

pub is_at : (claims yielded rest : List Claim) (c : Claim) (place : ℕ) → yielded ++ c ∷ rest ≡ claims → place ≡ length yielded → slice_get claims place ≡ Some c
is_at claims yielded rest c place all place_is = ap (slice_get claims) place_is ∙ ap (λ xs. slice_get xs (length yielded)) (sym all) ∙ middle_at yielded rest c

-- what is noted at the place of a claim is that of the claim
pub noted_at : (claims : List Claim) (c : Claim) (place : ℕ) (notes : List (Option (Option Work))) → slice_get claims place ≡ Some c → AreNotesOf claims notes
    → (d : Option Work) → slice_get notes place ≡ Some (Some d) → IfSome d (IsWorkOf c)
noted_at claims c place notes at noted d h = of_done d (noted place d h)
  where
    of_done : (d : Option Work) → IsOfPlace claims place d → IfSome d (IsWorkOf c)
    of_done None p = tt
    of_done (Some e) p = subst (λ z. IsWorkOf z e) (same_Some p.0 c (sym p.1 ∙ at)) p.2

pub drained_more : (claims yielded rest : List Claim) (c : Claim) (place : ℕ) (notes notes' : List (Option (Option Work))) (os os' : List Outcome) (o : Outcome)
    → IsDrained claims yielded (c ∷ rest) place notes os → IsOutcomeOf c o → os' ≡ os ++ o ∷ []
    → ((i : ℕ) (d : Option Work) → slice_get notes' i ≡ Some (Some d) → slice_get notes i ≡ Some (Some d)) → length notes' ≡ length notes
    → IsDrained claims (yielded ++ c ∷ []) rest (place + 1) notes' os'
drained_more claims yielded rest c place notes notes' os os' o was own os_is kept len = record {
  all = append_assoc yielded (c ∷ []) rest ∙ was.all;
  place_is = let a = was.place_is in let l = length-append yielded (c ∷ []) in omega (arith, a, l);
  done = let a = was.done in let l = ap length os_is ∙ length-append os (o ∷ []) in omega (arith, a, l);
  noted = λ i d h. was.noted i d (kept i d h);
  notes_len = len ∙ was.notes_len;
  each = subst (λ all. (i : ℕ) (p : Outcome) → slice_get all i ≡ Some p → IsOutcomeAt claims i p) (sym os_is)
      (λ i p h. ⊎_elim (λ g. was.each i p g)
      (λ (g : (i ≡ length os) × (o ≡ p)). subst (IsOutcomeAt claims i) g.1 (c, ap (slice_get claims) (g.0 ∙ was.done) ∙ is_at claims yielded rest c place was.all was.place_is, own))
      (snoc_at os o i p h));
}
