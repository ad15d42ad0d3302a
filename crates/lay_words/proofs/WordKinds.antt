-- The kinds of words, and the options that a command knows.
use Rattle.std.proofs.Common.{◌≡◌, ℕ, ◌==◌, Bool, true, false, List, [], ◌∷◌, Option, Some, None, refl, sym, ap, map}
use Rattle.std.specs.Str.{bytes_eq}
use Rattle.std.proofs.lemmas.Slice.Eq.{bytes_eq-Decides}
use Rattle.std.proofs.lemmas.Bool.{true≢false}
use Rattle.clap.specs.Lexer.{name_and_value, long_of, short_of}
use Rattle.clap.specs.Walk.{Text, arg_by_index, arg_by_id, arg_by_long}
use Rattle.lay_words.specs.Grammar.{is_known, is_odd}
use Rattle.lay_words.specs.Command.{option_rule}

pub data Kind (w : Text) : Type 0 where
  flag : (p : Text × Option Text) → long_of w ≡ Some p → bytes_eq w (45 ∷ 45 ∷ []) ≡ false → Kind w
  value : long_of w ≡ None → short_of w ≡ None → bytes_eq w (45 ∷ 45 ∷ []) ≡ false → Kind w

pub by_bool : {P : Type 0} (b : Bool) → (b ≡ true → P) → (b ≡ false → P) → P
by_bool true t f = t refl
by_bool false t f = f refl

pub long_kind : (x y z : ℕ) (zs : Text) (b : Bool) → (x == 45) ≡ true → (y == 45) ≡ b → is_odd (x ∷ y ∷ z ∷ zs) ≡ false → Kind (x ∷ y ∷ z ∷ zs)
long_kind x y z zs true q r e = flag (name_and_value (z ∷ zs)) (rw (q, r) refl) (rw (q, r) refl)
long_kind x y z zs false q r e = absurd (true≢false (rw (q, r) at e))

pub kind_at : (x : ℕ) (xs : Text) (b : Bool) → (x == 45) ≡ b → is_odd (x ∷ xs) ≡ false → Kind (x ∷ xs)
kind_at x xs false q e = value (rw q refl) (rw q refl) (rw q refl)
kind_at x [] true q e = absurd (true≢false (rw q at e))
kind_at x (y ∷ []) true q e = absurd (true≢false (rw q at e))
kind_at x (y ∷ z ∷ zs) true q e = long_kind x y z zs (y == 45) q refl e

pub kind_of_word : (w : Text) → is_odd w ≡ false → Kind w
kind_of_word [] e = absurd (true≢false e)
kind_of_word (x ∷ xs) e = kind_at x xs (x == 45) refl e

pub bytes_eq-refl : (n : Text) → bytes_eq n n ≡ true
bytes_eq-refl n = (bytes_eq-Decides n n).1 refl

pub same_text_at : (x n : Text) → bytes_eq x n ≡ true → x ≡ n
same_text_at x n e = (bytes_eq-Decides x n).0 e

pub by_long : (names : List Text) (n : Text) → is_known names n ≡ true → arg_by_long (map option_rule names) n ≡ Some (option_rule n)
by_long [] n k = absurd (true≢false (sym k))
by_long (x ∷ xs) n k = by_bool (bytes_eq x n)
    (λ e. rw e (ap (λ t. Some (option_rule t)) (same_text_at x n e)))
    (λ e. rw e (by_long xs n (rw e at k)))

pub not_long : (names : List Text) (n : Text) → is_known names n ≡ false → arg_by_long (map option_rule names) n ≡ None
not_long [] n k = refl
not_long (x ∷ xs) n k = by_bool (bytes_eq x n)
    (λ e. absurd (true≢false (rw e at k)))
    (λ e. rw e (not_long xs n (rw e at k)))

pub by_id : (names : List Text) (n : Text) → is_known names n ≡ true → arg_by_id (map option_rule names) n ≡ Some (option_rule n)
by_id [] n k = absurd (true≢false (sym k))
by_id (x ∷ xs) n k = by_bool (bytes_eq x n)
    (λ e. rw e (ap (λ t. Some (option_rule t)) (same_text_at x n e)))
    (λ e. rw e (by_id xs n (rw e at k)))

pub no_index : (names : List Text) → arg_by_index (map option_rule names) 1 ≡ None
no_index [] = refl
no_index (x ∷ xs) = no_index xs
