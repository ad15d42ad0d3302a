-- The numbers of a form are in their ranges.
use Rattle.std.proofs.Common.{◌≡◌, ◌≤◌, ◌&&◌, ℕ, List, [], ◌∷◌, length, Option, Some, None, arith, codes, nat_le, nat_lt, IfSome}
use Rattle.std.specs.List.{list_any}
use Rattle.std.specs.Str.{bytes_eq}
use Rattle.lay_words.specs.declared.form.Form.{Form}
use Rattle.lay_words.specs.Grammar.{IsFormInRange, Pairs, Text, all_digits, form_named, form_of_words, form_with, gen_with, given, hit_with, is_odd, number_in, number_of, parsed, run_with, value_from}
use Rattle.lay_words.proofs.WordKinds.{by_bool}

abbrev Within : ℕ → ℕ → ℕ → Type 0
Within low high n = (low ≤ n) × (n ≤ high)

number_within : (low high : ℕ) (t : Text) → IfSome (number_in low high t) (Within low high)
number_within low high t = by_bool (nat_lt 0 (length t) && nat_le (length t) 10 && all_digits t && nat_le low (value_from 0 t) && nat_le (value_from 0 t) high)
    (λ e. rw e (grind arith))
    (λ e. rw e tt)

of_within : (default : Option ℕ) (low high : ℕ) (vs : List Text) → IfSome default (Within low high) → IfSome (number_of default low high vs) (Within low high)
of_within default low high [] d = d
of_within default low high (v ∷ []) d = number_within low high v
of_within default low high (v ∷ w ∷ vs) d = tt

run_within : (workers : Option ℕ) → IfSome workers (Within 1 16) → IfSome (run_with workers) IsFormInRange
run_within None w = tt
run_within (Some n) w = w

gen_within : (size seed workers : Option ℕ) → IfSome size (Within 1 1000) → IfSome seed (Within 0 2147483647) → IfSome workers (Within 1 16) → IfSome (gen_with size seed workers) IsFormInRange
gen_within (Some size) (Some seed) (Some workers) a b c = (a.0, a.1, b.1, c.0, c.1)
gen_within (Some size) (Some seed) None a b c = tt
gen_within (Some size) None workers a b c = tt
gen_within None seed workers a b c = tt

hit_within : (x y : Option ℕ) → IfSome x (Within 0 1000000) → IfSome y (Within 0 1000000) → IfSome (hit_with x y) IsFormInRange
hit_within (Some x) (Some y) a b = (a.1, b.1)
hit_within (Some x) None a b = tt
hit_within None y a b = tt

workers_within : (vs : List Text) → IfSome (number_of (Some 4) 1 16 vs) (Within 1 16)
workers_within vs = of_within (Some 4) 1 16 vs (omega arith, omega arith)

named_within : (n : Text) (values : Text → List Text) → IfSome (form_named n values) IsFormInRange
named_within n values = by_bool (bytes_eq n (codes "run"))
    (λ r. rw r (run_within _ (workers_within (values (codes "workers")))))
    (λ r. by_bool (bytes_eq n (codes "gen"))
    (λ g. rw (r, g) (gen_within _ _ _ (of_within None 1 1000 (values (codes "size")) tt) (of_within None 0 2147483647 (values (codes "seed")) tt) (workers_within (values (codes "workers")))))
    (λ g. by_bool (bytes_eq n (codes "hit"))
    (λ h. rw (r, g, h) (hit_within _ _ (of_within None 0 1000000 (values (codes "x")) tt) (of_within None 0 1000000 (values (codes "y")) tt)))
    (λ h. by_bool (bytes_eq n (codes "check"))
    (λ k. rw (r, g, h, k) tt)
    (λ k. rw (r, g, h, k) tt))))

with_within : (o : Option (Text × Pairs)) → IfSome (form_with o) IsFormInRange
with_within None = tt
with_within (Some p) = named_within p.0 (λ id. given id p.1)

form_within : (words : List Text) → IfSome (form_of_words words) IsFormInRange
form_within words = by_bool (list_any is_odd words) (λ e. rw e tt) (λ e. rw e (with_within (parsed words)))

pub in_range : (words : List Text) (form : Form) → form_of_words words ≡ Some form → IsFormInRange form
in_range words form e = rw e at (form_within words)
