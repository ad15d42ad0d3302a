-- What a caller reads of the matches.
use Rattle.std.proofs.Common.{◌≡◌, true, false, List, [], ◌∷◌, Option, Some, None, refl, sym, ap, ◌∙◌, map, option_map, unwrap_or, codes}
use Rattle.std.specs.Prelude.{if◌then◌else◌}
use Rattle.std.specs.Option.{option_map_or}
use Rattle.std.specs.List.{find, list_any}
use Rattle.std.specs.Str.{bytes_eq}
use Rattle.clap.specs.Facts.{Entry}
use Rattle.clap.specs.Matches.{matched_of, raw_values}
use Rattle.clap.specs.declared.parser.matches.Found.{Found}
use Rattle.clap.specs.declared.parser.matches.MatchedArg.{MatchedArg}
use Rattle.clap.specs.Kinds.{Kinds}
use Rattle.clap.specs.Walk.{Row, Text, row_of, rows_of}
use Rattle.clap.specs.Words.{fault_of, is_simple_and_free, subcommand_of}
use Rattle.lay_words.specs.declared.form.Form.{Form}
use Rattle.lay_words.specs.Agree.{Gives, ReadsWords, form_in, values_at}
use Rattle.lay_words.specs.Grammar.{Pairs, form_named, form_of_words, form_with, gen_with, given, hit_with, is_odd, number_of, parsed, run_with}
use Rattle.lay_words.specs.Command.{our_app}
use Rattle.lay_words.proofs.WordKinds.{by_bool}
use Rattle.lay_words.proofs.Whole.{reads}

pub is_ours_simple : is_simple_and_free our_app ≡ true
is_ours_simple = refl

same_values : (id : Text) (es : List Entry) → option_map_or raw_values (option_map (λ (e : Entry). e.1) (find (λ (e : Entry). bytes_eq e.0.now id) es)) [] ≡ values_at id (map row_of es)
same_values id [] = refl
same_values id (e ∷ es) = by_bool (bytes_eq e.0.now id) (λ q. rw q refl) (λ q. rw q (same_values id es))

or_of : (o : Option MatchedArg) → unwrap_or (option_map raw_values o) [] ≡ option_map_or raw_values o []
or_of None = refl
or_of (Some a) = refl

pub values_are : (r : Option (List Text)) (f : Found) (id : Text) → r ≡ option_map raw_values (matched_of f id) → unwrap_or r [] ≡ values_at id (rows_of f)
values_are r f id e = ap (λ o. unwrap_or o []) e ∙ (or_of (matched_of f id) ∙ same_values id f.entries.items)

abbrev gen_by : List Text → List Text → List Text → Option Form
gen_by sizes seeds workers = gen_with (number_of None 1 1000 sizes) (number_of None 0 2147483647 seeds) (number_of (Some 4) 1 16 workers)

abbrev hit_by : List Text → List Text → Option Form
hit_by xs ys = hit_with (number_of None 0 1000000 xs) (number_of None 0 1000000 ys)

-- the form of a name depends on the values of the options alone
form_same : (n : Text) (rows : List Row) (got : Pairs) → Gives rows got → form_named n (λ id. values_at id rows) ≡ form_named n (λ id. given id got)
form_same n rows got g = by_bool (bytes_eq n (codes "run"))
    (λ r. rw r (ap (λ vs. run_with (number_of (Some 4) 1 16 vs)) (g (codes "workers"))))
    (λ r. by_bool (bytes_eq n (codes "gen"))
    (λ e. rw (r, e) (ap (λ vs. gen_by vs (values_at (codes "seed") rows) (values_at (codes "workers") rows)) (g (codes "size"))
    ∙ (ap (λ vs. gen_by (given (codes "size") got) vs (values_at (codes "workers") rows)) (g (codes "seed"))
    ∙ ap (λ vs. gen_by (given (codes "size") got) (given (codes "seed") got) vs) (g (codes "workers")))))
    (λ e. by_bool (bytes_eq n (codes "hit"))
    (λ h. rw (r, e, h) (ap (λ vs. hit_by vs (values_at (codes "y") rows)) (g (codes "x"))
    ∙ ap (λ vs. hit_by (given (codes "x") got) vs) (g (codes "y"))))
    (λ h. by_bool (bytes_eq n (codes "check"))
    (λ k. rw (r, e, h, k) refl)
    (λ k. rw (r, e, h, k) refl))))

taken : (o : Option (Text × Pairs)) (f : Kinds) (sub : Option (Text × List Row)) → ReadsWords o f sub → f ≡ [] → form_in sub ≡ form_with o
taken None f sub r e = absurd (r e)
taken (Some p) f sub r e = ap form_in r.1.1 ∙ form_same p.0 r.1.0 p.1 r.1.2

refused : (o : Option (Text × Pairs)) (f : Kinds) (sub : Option (Text × List Row)) → ReadsWords o f sub → (f ≡ [] → ⊥) → form_with o ≡ None
refused None f sub r e = refl
refused (Some p) f sub r e = absurd (e r.0)

tidy_form : (words : List Text) → list_any is_odd words ≡ false → form_of_words words ≡ form_with (parsed words)
tidy_form words odd = ap (λ b. if b then None else form_with (parsed words)) odd

pub taken_form : (words : List Text) (sub : Option (Text × List Row)) → list_any is_odd words ≡ false → fault_of our_app words ≡ [] → sub ≡ subcommand_of our_app words → form_in sub ≡ form_of_words words
taken_form words sub odd e s = ap form_in s ∙ (taken (parsed words) (fault_of our_app words) (subcommand_of our_app words) (reads words odd) e ∙ sym (tidy_form words odd))

pub refused_form : (words : List Text) → list_any is_odd words ≡ false → (fault_of our_app words ≡ [] → ⊥) → None ≡ form_of_words words
refused_form words odd e = sym (tidy_form words odd ∙ refused (parsed words) (fault_of our_app words) (subcommand_of our_app words) (reads words odd) e)
