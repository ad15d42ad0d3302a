-- The values that one more option adds to those that were found.
use Rattle.std.proofs.Common.{◌≡◌, true, false, List, [], ◌∷◌, ◌++◌, refl, sym, ap, ◌∙◌, subst, append-nil}
use Rattle.std.specs.Prelude.{if◌then◌else◌}
use Rattle.std.specs.Str.{bytes_eq}
use Rattle.std.proofs.lemmas.List.Concat.{flat_map-append}
use Rattle.std.proofs.Common.{◌++◌, append-nil, subst}
use Rattle.std.proofs.lemmas.Slice.Eq.{bytes_eq-Decides}
use Rattle.std.proofs.lemmas.Bool.{true≢false}
use Rattle.clap.specs.Walk.{Row, Text, used}
use Rattle.lay_words.specs.Grammar.{Pairs, given}
use Rattle.lay_words.specs.Agree.{Gives, values_at}
use Rattle.lay_words.specs.Command.{option_rule}
use Rattle.lay_words.proofs.WordKinds.{by_bool, same_text_at}

pub values_more : (id n v : Text) (rows : List Row) → values_at id (used (option_rule n) (v ∷ []) rows) ≡ values_at id rows ++ (if bytes_eq n id then v ∷ [] else [])
values_more id n v [] = by_bool (bytes_eq n id) (λ e. rw e refl) (λ e. rw e refl)
values_more id n v (r ∷ rs) = by_bool (bytes_eq r.id n)
    (λ e. let q = same_text_at r.id n e in by_bool (bytes_eq r.id id)
    (λ f. rw (e, f, subst (λ t. bytes_eq t id ≡ true) q f) refl)
    (λ f. rw (e, f, subst (λ t. bytes_eq t id ≡ false) q f) (sym (append-nil (values_at id rs)))))
    (λ e. by_bool (bytes_eq r.id id)
    (λ f. rw (e, f, other r.id n id e f) (sym (append-nil r.values)))
    (λ f. rw (e, f) (values_more id n v rs)))
  where
    other : (x n id : Text) → bytes_eq x n ≡ false → bytes_eq x id ≡ true → bytes_eq n id ≡ false
    other x n id e f = by_bool (bytes_eq n id)
        (λ g. absurd (true≢false (sym ((bytes_eq-Decides x n).1 (same_text_at x id f ∙ sym (same_text_at n id g))) ∙ e)))
        (λ g. g)

pub gives_more : (rows : List Row) (got : Pairs) (n v : Text) → Gives rows got → Gives (used (option_rule n) (v ∷ []) rows) (got ++ (n, v) ∷ [])
gives_more rows got n v g id =
    values_more id n v rows ∙ (ap (λ xs. xs ++ (if bytes_eq n id then v ∷ [] else [])) (g id)
    ∙ sym (flat_map-append (λ p. if bytes_eq p.0 id then p.1 ∷ [] else []) got ((n, v) ∷ []) ∙ ap (λ xs. given id got ++ xs) (append-nil (if bytes_eq n id then v ∷ [] else []))))
