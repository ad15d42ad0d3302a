-- Lists of views and histories.
use Rattle.std.proofs.Common.{◌≡◌, ◌≢◌, ◌⊎◌, inl, inr, ⊎_elim, ℕ, zero, suc, ◌+◌, ◌≤◌, List, [], ◌∷◌, ◌++◌, ◌<◌, length, set, Some, None, Option, refl, sym, ap, ◌∙◌, arith, append-nil, append_assoc, IfSome}
use Rattle.std.proofs.lemmas.Option.{none-some}
use mathlib.Core.Option as opt
use mathlib.Core.Option.{some-ne-none, some-injective}
use lib.ListN.{get_elem?}
use Rattle.atomic_table.proofs.Lists.{at_set}
use Rattle.lay_history.specs.declared.edits.history.Entry.{Entry}
use Rattle.lay_board.specs.declared.views.View.{View}
use Rattle.lay_board.specs.Entries.{Begins, by_editor, own_if}
use Rattle.lay_board.specs.Rules.{At, all_calls, view_calls}

pub if_some : {A : Type 0} (P : A → Type 0) (o : Option A) → ((a : A) → o ≡ Some a → P a) → IfSome o P
if_some P None f = tt
if_some P (Some a) f = f a refl

-- a reading of the views after one of them changes
pub at_read : {A : Type 0} (read : View → Option A) (views : List View) (id j : ℕ) (v : View) (a : A) → At read (set views id v) j a
    → ((j ≡ id) × (read v ≡ Some a)) ⊎ ((j ≢ id) × At read views j a)
at_read read views id j v a h =
    ⊎_elim (λ (t : (j ≡ id) × (v ≡ h.0)). inl (t.0, ap read t.1 ∙ h.2)) (λ (t : (j ≢ id) × (get_elem? views j ≡ opt.some h.0)). inr (t.0, (h.0, t.1, h.2))) (at_set views id j v h.0 h.1)

-- where the reading of the changed view is as it was, all readings are
pub same_read : {A : Type 0} (read : View → Option A) (views : List View) (id : ℕ) (v w : View) → get_elem? views id ≡ opt.some v → read w ≡ read v
    → (j : ℕ) (a : A) → At read (set views id w) j a → At read views j a
same_read read views id v w at same j a h =
    ⊎_elim (λ t. (v, ap (get_elem? views) t.0 ∙ at, sym same ∙ t.1)) (λ t. t.1) (at_read read views id j w a h)

-- where it is none, only the others are left
pub lost_read : {A : Type 0} (read : View → Option A) (views : List View) (id : ℕ) (w : View) → read w ≡ None
    → (j : ℕ) (a : A) → At read (set views id w) j a → (j ≢ id) × At read views j a
lost_read read views id w none j a h = ⊎_elim (λ t. absurd (none-some a (sym none ∙ t.1))) (λ t. t) (at_read read views id j w a h)

-- the reading at a known place
pub here : {A : Type 0} (read : View → Option A) (views : List View) (id j : ℕ) (v : View) (a : A) → get_elem? views id ≡ opt.some v → At read views j a → j ≡ id → read v ≡ Some a
here read views id j v a at t same = ap read (some-injective v t.0 (sym at ∙ ap (get_elem? views) (sym same) ∙ t.1)) ∙ t.2

pub at_end : {A : Type 0} (l : List A) (a b : A) (j : ℕ) → get_elem? (l ++ a ∷ []) j ≡ opt.some b → (get_elem? l j ≡ opt.some b) ⊎ ((j ≡ length l) × (a ≡ b))
at_end [] a b zero e = inr (refl, some-injective a b e)
at_end [] a b (suc j) e = absurd (some-ne-none b (sym e))
at_end (x ∷ xs) a b zero e = inl e
at_end (x ∷ xs) a b (suc j) e = ⊎_elim inl (λ h. inr (ap suc h.0, h.1)) (at_end xs a b j e)

-- a reading with one view more
pub more_read : {A : Type 0} (read : View → Option A) (views : List View) (w : View) (j : ℕ) (a : A) → At read (views ++ w ∷ []) j a → (At read views j a) ⊎ ((j ≡ length views) × (read w ≡ Some a))
more_read read views w j a t = ⊎_elim (λ h. inl (t.0, h, t.2)) (λ (h : (j ≡ length views) × (w ≡ t.0)). inr (h.0, ap read h.1 ∙ t.2)) (at_end views w t.0 j t.1)

pub calls_set : (views : List View) (id : ℕ) (v w : View) → get_elem? views id ≡ opt.some v → all_calls (set views id w) + view_calls v ≡ all_calls views + view_calls w
calls_set [] id v w at = absurd (some-ne-none v (sym at))
calls_set (x ∷ xs) zero v w at = let e = ap view_calls (some-injective x v at) in omega (arith, e)
calls_set (x ∷ xs) (suc id) v w at = let h = calls_set xs id v w at in omega (arith, h)

pub calls_at : (views : List View) (id : ℕ) (v : View) → get_elem? views id ≡ opt.some v → view_calls v ≤ all_calls views
calls_at [] id v at = absurd (some-ne-none v (sym at))
calls_at (x ∷ xs) zero v at = let e = ap view_calls (some-injective x v at) in omega (arith, e)
calls_at (x ∷ xs) (suc id) v at = let h = calls_at xs id v at in omega (arith, h)

pub calls_more : (views : List View) (w : View) → all_calls (views ++ w ∷ []) ≡ all_calls views + view_calls w
calls_more [] w = omega arith
calls_more (x ∷ xs) w = let h = calls_more xs w in omega (arith, h)

pub begins_all : (xs : List Entry) → Begins xs xs
begins_all xs = ([], sym (append-nil xs))

pub begins_none : (xs : List Entry) → Begins [] xs
begins_none xs = (xs, refl)

pub begins_more : (xs ys zs : List Entry) → Begins xs ys → Begins xs (ys ++ zs)
begins_more xs ys zs h = (h.0 ++ zs, ap (λ (l : List Entry). l ++ zs) h.1 ∙ append_assoc xs h.0 zs)

pub by_editor_append : (n : ℕ) (xs ys : List Entry) → by_editor n (xs ++ ys) ≡ by_editor n xs ++ by_editor n ys
by_editor_append n [] ys = refl
by_editor_append n (x ∷ xs) ys = ap (λ (l : List Entry). own_if n x ++ l) (by_editor_append n xs ys) ∙ sym (append_assoc (own_if n x) (by_editor n xs) (by_editor n ys))

pub set_cases : (views : List View) (id j : ℕ) (v w u : View) → get_elem? views id ≡ opt.some v → get_elem? views j ≡ opt.some u → ((get_elem? (set views id w) j ≡ opt.some w) × (v ≡ u)) ⊎ (get_elem? (set views id w) j ≡ opt.some u)
set_cases [] id j v w u at t = absurd (some-ne-none v (sym at))
set_cases (x ∷ xs) zero zero v w u at t = inl (refl, some-injective v u (sym at ∙ t))
set_cases (x ∷ xs) zero (suc j) v w u at t = inr t
set_cases (x ∷ xs) (suc id) zero v w u at t = inr t
set_cases (x ∷ xs) (suc id) (suc j) v w u at t = set_cases xs id j v w u at t

pub kept_read : {A : Type 0} (read : View → Option A) (views : List View) (id : ℕ) (v w : View) → get_elem? views id ≡ opt.some v → read w ≡ read v
    → (j : ℕ) (a : A) → At read views j a → At read (set views id w) j a
kept_read read views id v w at same j a t = by (set_cases views id j v w t.0 at t.1)
  where
    by : ((get_elem? (set views id w) j ≡ opt.some w) × (v ≡ t.0)) ⊎ (get_elem? (set views id w) j ≡ opt.some t.0) → At read (set views id w) j a
    by (inl h) = (w, h.0, same ∙ ap read h.1 ∙ t.2)
    by (inr h) = (t.0, h, t.2)

pub some_within : {A : Type 0} (l : List A) (i : ℕ) (a : A) → get_elem? l i ≡ opt.some a → i < length l
some_within [] i a e = absurd (some-ne-none a (sym e))
some_within (x ∷ xs) zero a e = omega arith
some_within (x ∷ xs) (suc i) a e = let h = some_within xs i a e in omega (arith, h)
