-- The forms that the words of a command line may have:
--     scratch
--     run [--workers N]                          N from 1 to 16, or else 4
--     gen --size N --seed K [--workers W]        N from 1 to 1,000, K from 0 to 2,147,483,647, W as above
--     hit --x X --y Y                            X and Y from 0 to 1,000,000
--     check
-- Options come in any order, each at most once, as two words or as one with `=`. A value is 1 to 10 decimal digits.
-- A word that is empty, that is `-` or `--`, or that begins with a single hyphen is in none of them.
use Rattle.std.specs.Prelude.{ℕ, ◌+◌, ◌*◌, ◌-◌, ◌==◌, ◌≡◌, ◌≤◌, ◌&&◌, Bool, true, not, List, [], ◌∷◌, ◌++◌}
use Rattle.std.specs.Prelude.{length, codes, Option, Some, None, if◌then◌else◌, nat_le, nat_lt, flat_map}
use Rattle.std.specs.List.{list_all, list_any}
use Rattle.std.specs.Str.{bytes_eq}
use Rattle.std.specs.Char.{is_ascii_digit}
use Rattle.lay_words.specs.declared.form.Form.{Form}
use Rattle.lay_words.specs.declared.form.Form.TheVariants.{Scratch, Run, Gen, Hit, Check}
use Rattle.clap.specs.Lexer.{long_of}

abbrev pub Text : Type 0
Text = List ℕ

-- what follows one hyphen: the word is `-` or `--`, or has one hyphen in front
abbrev pub is_one_hyphen : Text → Bool
is_one_hyphen [] = true
is_one_hyphen (x ∷ []) = true
is_one_hyphen (x ∷ y ∷ ys) = not (x == 45)

-- the word is empty, `-` or `--`, or begins with a single hyphen
abbrev pub is_odd : Text → Bool
is_odd [] = true
is_odd (x ∷ xs) = x == 45 && is_one_hyphen xs

-- options with their values, in order
abbrev pub Pairs : Type 0
Pairs = List (Text × Text)

abbrev pub is_known : List Text → Text → Bool
is_known names n = list_any (λ x. bytes_eq x n) names

-- What a word means after the options `got`: `--name=value` is an option with its value, and `--name` one that
-- waits for the next word, which must be no option; `waits` is the one that waits. (`long_of` parts `--name` and
-- `--name=value` into the name and the value.) Only known names are taken.
abbrev pub waits_for : Option Text → Pairs → Option (Text × Option Text) → Text → (Option Text → Pairs → Option Pairs) → Bool → Option Pairs
waits_for None got None w next known = None
waits_for None got (Some (n, None)) w next known = if known then next (Some n) got else None
waits_for None got (Some (n, Some v)) w next known = if known then next None (got ++ (n, v) ∷ []) else None
waits_for (Some n) got None w next known = next None (got ++ (n, w) ∷ [])
waits_for (Some n) got (Some p) w next known = None

abbrev pub name_or_empty : Option (Text × Option Text) → Text
name_or_empty None = []
name_or_empty (Some p) = p.0

-- no option may wait at the end
abbrev pub at_end : Option Text → Pairs → Option Pairs
at_end None got = Some got
at_end (Some n) got = None

-- the options that words give, by the names that are known
unfoldable pub options : List Text → Option Text → Pairs → List Text → Option Pairs
options names waits got [] = at_end waits got
options names waits got (w ∷ ws) =
    waits_for waits got (long_of w) w (λ x g. options names x g ws) (is_known names (name_or_empty (long_of w)))

-- the values of one option, in order
abbrev pub given : Text → Pairs → List Text
given id got = flat_map (λ p. if bytes_eq p.0 id then p.1 ∷ [] else []) got

-- the number that decimal digits write, after the digits of n
abbrev pub value_from : ℕ → Text → ℕ
value_from n [] = n
value_from n (x ∷ xs) = value_from (n * 10 + (x - 48)) xs

abbrev pub all_digits : Text → Bool
all_digits xs = list_all is_ascii_digit xs

-- 1 to 10 digits, in the range
abbrev pub number_in : ℕ → ℕ → Text → Option ℕ
number_in low high t =
    if nat_lt 0 (length t) && nat_le (length t) 10 && all_digits t && nat_le low (value_from 0 t) && nat_le (value_from 0 t) high
    then Some (value_from 0 t) else None

-- the number of an option that is given at most once; without a default it must be given
abbrev pub number_of : Option ℕ → ℕ → ℕ → List Text → Option ℕ
number_of default low high [] = default
number_of default low high (v ∷ []) = number_in low high v
number_of default low high (v ∷ w ∷ vs) = None

abbrev pub run_with : Option ℕ → Option Form
run_with None = None
run_with (Some workers) = Some (Run workers)

abbrev pub gen_with : Option ℕ → Option ℕ → Option ℕ → Option Form
gen_with (Some size) (Some seed) (Some workers) = Some (Gen size seed workers)
gen_with (Some size) (Some seed) None = None
gen_with (Some size) None workers = None
gen_with None seed workers = None

abbrev pub hit_with : Option ℕ → Option ℕ → Option Form
hit_with (Some x) (Some y) = Some (Hit x y)
hit_with (Some x) None = None
hit_with None y = None

-- the names of the options
abbrev pub run_options : List Text
run_options = codes "workers" ∷ []

abbrev pub gen_options : List Text
gen_options = codes "size" ∷ codes "seed" ∷ codes "workers" ∷ []

abbrev pub hit_options : List Text
hit_options = codes "x" ∷ codes "y" ∷ []

-- the first word and the options behind it
abbrev pub with_name : Text → Option Pairs → Option (Text × Pairs)
with_name n None = None
with_name n (Some got) = Some (n, got)

abbrev pub parsed : List Text → Option (Text × Pairs)
parsed [] = None
parsed (w ∷ ws) =
    if bytes_eq (codes "run") w then with_name (codes "run") (options run_options None [] ws)
    else (if bytes_eq (codes "gen") w then with_name (codes "gen") (options gen_options None [] ws)
    else (if bytes_eq (codes "hit") w then with_name (codes "hit") (options hit_options None [] ws)
    else (if bytes_eq (codes "check") w then with_name (codes "check") (options [] None [] ws)
    else (if bytes_eq (codes "scratch") w then with_name (codes "scratch") (options [] None [] ws) else None))))

-- the form of a name, by the values of its options
abbrev pub form_named : Text → (Text → List Text) → Option Form
form_named n values =
    if bytes_eq n (codes "run") then run_with (number_of (Some 4) 1 16 (values (codes "workers")))
    else (if bytes_eq n (codes "gen")
    then gen_with (number_of None 1 1000 (values (codes "size"))) (number_of None 0 2147483647 (values (codes "seed")))
    (number_of (Some 4) 1 16 (values (codes "workers")))
    else (if bytes_eq n (codes "hit")
    then hit_with (number_of None 0 1000000 (values (codes "x"))) (number_of None 0 1000000 (values (codes "y")))
    else (if bytes_eq n (codes "check") then Some Check
    else Some Scratch)))

abbrev pub form_with : Option (Text × Pairs) → Option Form
form_with None = None
form_with (Some p) = form_named p.0 (λ id. given id p.1)

-- the form that the words have, or none
abbrev pub form_of_words : List Text → Option Form
form_of_words words = if list_any is_odd words then None else form_with (parsed words)

-- the numbers of a form are in their ranges
abbrev pub IsFormInRange : Form → Type 0
IsFormInRange Scratch = Unit {0}
IsFormInRange (Run workers) = (1 ≤ workers) × (workers ≤ 16)
IsFormInRange (Gen size seed workers) = (1 ≤ size) × (size ≤ 1000) × (seed ≤ 2147483647) × (1 ≤ workers) × (workers ≤ 16)
IsFormInRange (Hit x y) = (x ≤ 1000000) × (y ≤ 1000000)
IsFormInRange Check = Unit {0}

abbrev pub NumbersAreInRange : Type 0
NumbersAreInRange = (words : List Text) (form : Form) → form_of_words words ≡ Some form → IsFormInRange form
