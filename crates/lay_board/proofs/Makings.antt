-- What is kept while passes are made.
use Rattle.std.proofs.Common.{◌≡◌, ◌⊎◌, inl, inr, ⊎_elim, ℕ, zero, suc, ◌+◌, List, [], ◌∷◌, ◌++◌, length, slice_get, Some, refl, sym, ap, ◌∙◌, subst, arith, length-append, append_assoc, append-nil}
use Rattle.atomic_table.specs.Seated.{TableId}
use Rattle.std.proofs.lemmas.Option.{none-some, same_Some}
use Rattle.lay_board.specs.Rules.{SeatView, maker_view}
use Rattle.lay_board.specs.Passes.{AreNew, PassOf, maker_in, new_pass}
use Rattle.lay_board.specs.declared.views.Origin.{Origin}

pub record IsMaking (table : TableId) (origin : Origin) (calls yielded left : List ℕ) (me : SeatView) (passes : List PassOf) : Type 0 where
  pub all : yielded ++ left ≡ calls
  pub me_is : me ≡ (maker_view origin (length yielded) left, [])
  pub made : AreNew table origin yielded passes

middle_at : {X : Type 0} (xs ys : List X) (x : X) → slice_get (xs ++ x ∷ ys) (length xs) ≡ Some x
middle_at [] ys x = refl
middle_at (a ∷ xs) ys x = middle_at xs ys x

longer_at : {X : Type 0} (xs ys : List X) (i : ℕ) (x : X) → slice_get xs i ≡ Some x → slice_get (xs ++ ys) i ≡ Some x
longer_at [] ys i x h = absurd (none-some x h)
longer_at (a ∷ xs) ys zero x h = h
longer_at (a ∷ xs) ys (suc i) x h = longer_at xs ys i x h

snoc_at : {X : Type 0} (xs : List X) (x : X) (i : ℕ) (y : X) → slice_get (xs ++ x ∷ []) i ≡ Some y → (slice_get xs i ≡ Some y) ⊎ ((i ≡ length xs) × (x ≡ y))
snoc_at [] x zero y h = inr (refl, same_Some x y h)
snoc_at [] x (suc i) y h = absurd (none-some y h)
snoc_at (a ∷ xs) x zero y h = inl h
snoc_at (a ∷ xs) x (suc i) y h = ⊎_elim (λ g. inl g) (λ (g : (i ≡ length xs) × (x ≡ y)). inr (ap suc g.0, g.1)) (snoc_at xs x i y h)

pub making_more : (table : TableId) (origin : Origin) (calls yielded rest : List ℕ) (x : ℕ) (me me' : SeatView) (passes passes' : List PassOf) → IsMaking table origin calls yielded (x ∷ rest) me passes
    → me' ≡ (maker_view origin (length yielded + 1) rest, []) → passes' ≡ passes ++ record { table = table; knows = new_pass origin (length yielded + 1) x } ∷ []
    → IsMaking table origin calls (yielded ++ x ∷ []) rest me' passes'
making_more table origin calls yielded rest x me me' passes passes' was me_is is = record {
  all = append_assoc yielded (x ∷ []) rest ∙ was.all;
  me_is = me_is ∙ ap (λ n. (maker_view origin n rest, [])) (sym (length-append yielded (x ∷ [])));
  made = subst (AreNew table origin (yielded ++ x ∷ [])) (sym is) record {
    count = (let a = length-append yielded (x ∷ []) in let b = length-append passes (p ∷ []) in let l = was.made.count in omega (arith, a, b, l));
    each = (λ i q h.
        ⊎_elim
        (λ g. let o = was.made.each i q g in (o.0, longer_at yielded (x ∷ []) i o.0 o.1, o.2))
        (λ (g : (i ≡ length passes) × (p ≡ q)).
        let here : i ≡ length yielded = g.0 ∙ was.made.count in
        (x, ap (slice_get (yielded ++ x ∷ [])) here ∙ middle_at yielded [] x, sym g.1 ∙ ap (λ n. record { table = table; knows = new_pass origin (n + 1) x }) (sym here)))
        (snoc_at passes p i q h));
  };
}
  where
    p : PassOf
    p = record { table = table; knows = new_pass origin (length yielded + 1) x }

pub made_all : (table : TableId) (origin : Origin) (calls yielded left : List ℕ) (me : SeatView) (passes : List PassOf) → left ≡ [] → IsMaking table origin calls yielded left me passes → IsMaking table origin calls calls [] me passes
made_all table origin calls yielded left me passes none was =
    let whole : yielded ≡ calls = sym (append-nil yielded) ∙ ap (λ l. yielded ++ l) (sym none) ∙ was.all in
    subst (λ ys. IsMaking table origin calls ys [] me passes) whole (subst (λ l. IsMaking table origin calls yielded l me passes) none was)

pub few_made : (table : TableId) (origin : Origin) (calls yielded left : List ℕ) (me : SeatView) (passes : List PassOf) → IsMaking table origin calls yielded left me passes → length passes + length left ≡ length calls
few_made table origin calls yielded left me passes was = let a = was.made.count in let b = length-append yielded left in let c = ap length was.all in omega (arith, a, b, c)

pub is_maker : (me : SeatView) (i : Origin) (n : ℕ) (calls : List ℕ) → me ≡ (maker_view i n calls, []) → me ≡ (maker_view (maker_in me).origin (maker_in me).made (maker_in me).calls, [])
is_maker me i n calls e = e ∙ ap (λ (m : SeatView). (maker_view (maker_in m).origin (maker_in m).made (maker_in m).calls, [])) (sym e)
