-- That `clap` reads the words as the grammar says: it refuses what the grammar doesn't take, takes what it takes,
-- and finds the same name and the same values of each option.
use Rattle.std.specs.Prelude.{ℕ, ◌≡◌, false, List, [], codes, Option, Some, None, find}
use Rattle.std.specs.List.{list_any}
use Rattle.std.specs.Option.{option_map_or}
use Rattle.std.specs.Str.{bytes_eq}
use Rattle.clap.specs.Words.{Row, fault_of, subcommand_of}
use Rattle.clap.specs.Kinds.{Kinds}
use Rattle.lay_words.specs.declared.form.Form.{Form}
use Rattle.lay_words.specs.Grammar.{Pairs, Text, form_named, gen_with, given, hit_with, is_odd, number_of, parsed, run_with}
use Rattle.lay_words.specs.Command.{our_app}

-- the values that clap found for an option
abbrev pub values_at : Text → List Row → List Text
values_at id rows = option_map_or (λ r. r.values) (find (λ r. bytes_eq r.id id) rows) []

abbrev pub Gives : List Row → Pairs → Type 0
Gives rows got = (id : Text) → values_at id rows ≡ given id got

abbrev pub ReadsWords : Option (Text × Pairs) → Kinds → Option (Text × List Row) → Type 0
ReadsWords None f sub = f ≡ [] → ⊥
ReadsWords (Some p) f sub = (f ≡ []) × ((rows : List Row) × (sub ≡ Some (p.0, rows)) × Gives rows p.1)

abbrev pub ClapAgrees : Type 0
ClapAgrees = (words : List Text) → list_any is_odd words ≡ false
    → ReadsWords (parsed words) (fault_of our_app words) (subcommand_of our_app words)

-- the number that was found for an option
abbrev pub number_found : Text → Option ℕ → ℕ → ℕ → List Row → Option ℕ
number_found name default low high rows = number_of default low high (values_at name rows)

abbrev pub run_found : List Row → Option Form
run_found rows = run_with (number_found (codes "workers") (Some 4) 1 16 rows)

abbrev pub gen_found : List Row → Option Form
gen_found rows =
    gen_with (number_found (codes "size") None 1 1000 rows) (number_found (codes "seed") None 0 2147483647 rows)
    (number_found (codes "workers") (Some 4) 1 16 rows)

abbrev pub hit_found : List Row → Option Form
hit_found rows = hit_with (number_found (codes "x") None 0 1000000 rows) (number_found (codes "y") None 0 1000000 rows)

-- the form in what clap found
abbrev pub form_in : Option (Text × List Row) → Option Form
form_in None = None
form_in (Some p) = form_named p.0 (λ id. values_at id p.1)
