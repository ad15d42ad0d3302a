-- What is read of the matches of the words.
use Rattle.std.proofs.Common.{◌≡◌, ◌∙◌, ap, ap₂, ◌==◌, ℕ, true, false, List, [], ◌∷◌, length, None, refl, codes, arith}
use Rattle.std.proofs.lemmas.Bool.{ne_eqb}
use Rattle.clap.specs.Kinds.{Kinds}
use Rattle.clap.specs.Words.{fault_of, matches_of, is_simple, is_simple_and_free}
use Rattle.lay_words.specs.Agree.{values_at}
use Rattle.lay_drawing.specs.Words.{drawing_app, wish_with, wish_of}

pub is_ours_simple : is_simple_and_free drawing_app ≡ true
is_ours_simple = refl

pub is_ours_plain : is_simple drawing_app ≡ true
is_ours_plain = refl

pub taken : (words : List (List ℕ)) → fault_of drawing_app words ≡ [] → wish_of words ≡ wish_with (values_at (codes "version") (matches_of drawing_app words)) (values_at (codes "between") (matches_of drawing_app words)) (values_at (codes "hit") (matches_of drawing_app words))
taken words e = rw e refl

some_faults : (f : Kinds) → (f ≡ [] → ⊥) → (length f == 0) ≡ false
some_faults [] e = absurd (e refl)
some_faults (x ∷ xs) e = ne_eqb (length (x ∷ xs)) 0 (λ q. omega arith)

pub refused : (words : List (List ℕ)) → (fault_of drawing_app words ≡ [] → ⊥) → wish_of words ≡ None
refused words e = rw (some_faults (fault_of drawing_app words) e) refl

-- equal values ask for the same
pub same_wish : (v w b c h i : List (List ℕ)) → v ≡ w → b ≡ c → h ≡ i → wish_with v b h ≡ wish_with w c i
same_wish v w b c h i versions between hit = ap₂ (λ (x y : List (List ℕ)). wish_with x y h) versions between ∙ ap (wish_with w c) hit
