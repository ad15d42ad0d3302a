-- What clap makes of all words.
use Rattle.std.proofs.Common.{◌≡◌, Bool, false, List, [], ◌∷◌, ◌++◌, codes, Option, Some, None, refl, sym, ap, ◌∙◌, subst, map, append-nil, append_assoc, fold}
use Rattle.std.specs.Prelude.{if◌then◌else◌}
use Rattle.std.specs.Str.{bytes_eq}
use Rattle.std.specs.Option.{option_map_or}
use Rattle.std.specs.List.{find, list_any}
use Rattle.std.proofs.Common.{◌||◌, ◌++◌, fold, append-nil, subst}
use Rattle.clap.proofs.OnLiterals.{clap_on_literals}
use Rattle.clap.specs.declared.error.kind.ErrorKind.TheVariants as kind
use Rattle.clap.specs.Kinds.{Kinds, or_else}
use Rattle.clap.specs.Lexer.{long_of}
use Rattle.clap.specs.Faults.{bundle_fault, flag_word_fault, other_fault, settle_fault, step_fault, turn_fault, walk_fault, word_fault}
use Rattle.clap.specs.Simple.{Shape, entered, names_of}
use Rattle.clap.specs.Words.{App, subcommand_of}
use Rattle.clap.specs.Faults.{entered_fault}
use Rattle.clap.specs.Walk.{Names, answers_to}
use Rattle.clap.specs.Walk.{value as step_value}
use Rattle.std.proofs.Common.{append_assoc, is_some, option_map}
use Rattle.std.proofs.lemmas.Bool.{or_parts}
use Rattle.clap.specs.Faults.{check_fault, defaults_fault, level_fault}
use Rattle.clap.specs.Walk.{finished, nothing_held, rows_after, walk_from}
use Rattle.clap.specs.Walk.{Held, Row, Rule, Step, Text, Walk, idle, long_or_other, settled, short_or_plain, subcommand_met, subcommand_or_other, trailing, walked, word_met}
use Rattle.clap.specs.Words.{built, fault_of}
use Rattle.lay_words.specs.Grammar.{with_name, parsed, Pairs, options, is_odd, run_options, gen_options, hit_options}
use Rattle.lay_words.specs.Agree.{ReadsWords}
use Rattle.lay_words.specs.Command.{our_app, option_rule, leaf}
use Rattle.lay_words.proofs.WordKinds.{Kind, by_bool, kind_of_word, same_text_at, flag, value}
use Rattle.lay_words.proofs.Turns.{some_not}
use Rattle.lay_words.proofs.Leaves.{Agrees, or_first, or_nothing, leaf_agrees}

abbrev pub stop_at : Text → List Text → Walk
stop_at n ws = record { held = nothing_held; waiting = idle; position = 1; is_trailing = false; stopped = Some (n, ws) }

pub on_and_on : (c : List Rule) (names : Names) (n : Text) (xs ws : List Text) → fold (walked c names) (stop_at n xs) ws ≡ stop_at n (xs ++ ws)
unfolding clap_on_literals
on_and_on c names n xs [] = ap (stop_at n) (sym (append-nil xs))
on_and_on c names n xs (w ∷ ws) = on_and_on c names n (xs ++ w ∷ []) ws ∙ ap (stop_at n) (append_assoc xs (w ∷ []) ws)

pub quiet_after : (s : Shape) (names : Names) (n : Text) (xs ws : List Text) → walk_fault s names (stop_at n xs) ws ≡ []
unfolding clap_on_literals
quiet_after s names n xs [] = refl
quiet_after s names n xs (w ∷ ws) = quiet_after s names n (xs ++ w ∷ []) ws

abbrev pub ours : App
ours = built our_app

abbrev pub top_level : Walk → Kinds → Kinds
top_level w f = or_else f (or_else (entered_fault ours w.stopped) (or_else (settle_fault [] false w.held)
    (or_else (defaults_fault (settled [] w.held).rows []) (check_fault ours.top (finished [] w.held) (is_some (entered ours w.stopped))))))

pub run_fault : (ws : List Text) → fault_of our_app (codes "run" ∷ ws) ≡ level_fault (leaf (codes "run") run_options) [] nothing_held ws false []
unfolding clap_on_literals
run_fault ws =
    ap (λ f. top_level (fold (walked [] (names_of ours)) (stop_at (codes "run") []) ws) f) (quiet_after ours.top (names_of ours) (codes "run") [] ws)
    ∙ (ap (λ w. top_level w []) (on_and_on [] (names_of ours) (codes "run") [] ws) ∙ or_nothing (level_fault (leaf (codes "run") run_options) [] nothing_held ws false []))

pub run_rows : (ws : List Text) → subcommand_of our_app (codes "run" ∷ ws) ≡ Some (codes "run", rows_after (map option_rule run_options) [] ws)
unfolding clap_on_literals
run_rows ws = ap (λ w. entered ours w.stopped) (on_and_on [] (names_of ours) (codes "run") [] ws)

pub gen_fault : (ws : List Text) → fault_of our_app (codes "gen" ∷ ws) ≡ level_fault (leaf (codes "gen") gen_options) [] nothing_held ws false []
unfolding clap_on_literals
gen_fault ws =
    ap (λ f. top_level (fold (walked [] (names_of ours)) (stop_at (codes "gen") []) ws) f) (quiet_after ours.top (names_of ours) (codes "gen") [] ws)
    ∙ (ap (λ w. top_level w []) (on_and_on [] (names_of ours) (codes "gen") [] ws) ∙ or_nothing (level_fault (leaf (codes "gen") gen_options) [] nothing_held ws false []))

pub gen_rows : (ws : List Text) → subcommand_of our_app (codes "gen" ∷ ws) ≡ Some (codes "gen", rows_after (map option_rule gen_options) [] ws)
unfolding clap_on_literals
gen_rows ws = ap (λ w. entered ours w.stopped) (on_and_on [] (names_of ours) (codes "gen") [] ws)

pub hit_fault : (ws : List Text) → fault_of our_app (codes "hit" ∷ ws) ≡ level_fault (leaf (codes "hit") hit_options) [] nothing_held ws false []
unfolding clap_on_literals
hit_fault ws =
    ap (λ f. top_level (fold (walked [] (names_of ours)) (stop_at (codes "hit") []) ws) f) (quiet_after ours.top (names_of ours) (codes "hit") [] ws)
    ∙ (ap (λ w. top_level w []) (on_and_on [] (names_of ours) (codes "hit") [] ws) ∙ or_nothing (level_fault (leaf (codes "hit") hit_options) [] nothing_held ws false []))

pub hit_rows : (ws : List Text) → subcommand_of our_app (codes "hit" ∷ ws) ≡ Some (codes "hit", rows_after (map option_rule hit_options) [] ws)
unfolding clap_on_literals
hit_rows ws = ap (λ w. entered ours w.stopped) (on_and_on [] (names_of ours) (codes "hit") [] ws)

pub check_fault_is : (ws : List Text) → fault_of our_app (codes "check" ∷ ws) ≡ level_fault (leaf (codes "check") []) [] nothing_held ws false []
unfolding clap_on_literals
check_fault_is ws =
    ap (λ f. top_level (fold (walked [] (names_of ours)) (stop_at (codes "check") []) ws) f) (quiet_after ours.top (names_of ours) (codes "check") [] ws)
    ∙ (ap (λ w. top_level w []) (on_and_on [] (names_of ours) (codes "check") [] ws) ∙ or_nothing (level_fault (leaf (codes "check") []) [] nothing_held ws false []))

pub check_rows : (ws : List Text) → subcommand_of our_app (codes "check" ∷ ws) ≡ Some (codes "check", rows_after [] [] ws)
unfolding clap_on_literals
check_rows ws = ap (λ w. entered ours w.stopped) (on_and_on [] (names_of ours) (codes "check") [] ws)

pub scratch_fault : (ws : List Text) → fault_of our_app (codes "scratch" ∷ ws) ≡ level_fault (leaf (codes "scratch") []) [] nothing_held ws false []
unfolding clap_on_literals
scratch_fault ws =
    ap (λ f. top_level (fold (walked [] (names_of ours)) (stop_at (codes "scratch") []) ws) f) (quiet_after ours.top (names_of ours) (codes "scratch") [] ws)
    ∙ (ap (λ w. top_level w []) (on_and_on [] (names_of ours) (codes "scratch") [] ws) ∙ or_nothing (level_fault (leaf (codes "scratch") []) [] nothing_held ws false []))

pub scratch_rows : (ws : List Text) → subcommand_of our_app (codes "scratch" ∷ ws) ≡ Some (codes "scratch", rows_after [] [] ws)
unfolding clap_on_literals
scratch_rows ws = ap (λ w. entered ours w.stopped) (on_and_on [] (names_of ours) (codes "scratch") [] ws)

-- another first word
abbrev pub found_name : Option (Text × List Text) → Option Text
found_name o = option_map (λ (x : Text × List Text). x.0) o

pub no_name : (w : Text) → bytes_eq (codes "run") w ≡ false → bytes_eq (codes "gen") w ≡ false → bytes_eq (codes "hit") w ≡ false → bytes_eq (codes "check") w ≡ false
    → bytes_eq (codes "scratch") w ≡ false → subcommand_met (names_of ours) idle w ≡ None
no_name w r g h k s =
    ap (λ b. found_name (if b || false then Some (codes "run", []) else find (answers_to w) ((codes "gen", []) ∷ (codes "hit", []) ∷ (codes "check", []) ∷ (codes "scratch", []) ∷ []))) r
    ∙ (ap (λ b. found_name (if b || false then Some (codes "gen", []) else find (answers_to w) ((codes "hit", []) ∷ (codes "check", []) ∷ (codes "scratch", []) ∷ []))) g
    ∙ (ap (λ b. found_name (if b || false then Some (codes "hit", []) else find (answers_to w) ((codes "check", []) ∷ (codes "scratch", []) ∷ []))) h
    ∙ (ap (λ b. found_name (if b || false then Some (codes "check", []) else find (answers_to w) ((codes "scratch", []) ∷ []))) k
    ∙ ap (λ b. found_name (if b || false then Some (codes "scratch", []) else None)) s)))

pub first_faulty : (w : Text) → Kind w → subcommand_met (names_of ours) idle w ≡ None → turn_fault ours.top (names_of ours) (walk_from nothing_held) w ≡ [] → ⊥
first_faulty w (flag (n, v) l d) sub e = first_flag (ap (λ x. or_else x (step_fault ours.top 1 m.0 m.1)) fault)
  where
    m : Held × Step
    m = word_met [] (names_of ours) false idle 1 w nothing_held

    fault : word_fault ours.top (names_of ours) false idle w nothing_held ≡ kind.UnknownArgument ∷ []
    fault = ap (λ o. other_fault ours.top o w nothing_held) sub
        ∙ (ap (λ b. if b then [] else flag_word_fault [] false (long_of w) w nothing_held) d ∙ ap (λ x. flag_word_fault [] false x w nothing_held) l)

    first_flag : turn_fault ours.top (names_of ours) (walk_from nothing_held) w ≡ or_else (kind.UnknownArgument ∷ []) (step_fault ours.top 1 m.0 m.1) → ⊥
    first_flag is = some_not kind.UnknownArgument [] (sym is ∙ e)
first_faulty w (value l s d) sub e = some_not kind.UnknownArgument (kind.InvalidSubcommand ∷ []) (sym (ap (λ x. or_else x (step_fault ours.top 1 m.0 m.1)) fault ∙ ap (λ x. step_fault ours.top 1 x.0 x.1) met) ∙ e)
  where
    m : Held × Step
    m = word_met [] (names_of ours) false idle 1 w nothing_held

    met : word_met [] (names_of ours) false idle 1 w nothing_held ≡ (nothing_held, step_value)
    met = ap (λ o. subcommand_or_other [] o idle 1 w nothing_held) sub
        ∙ (ap (λ b. if b then (nothing_held, trailing 1) else long_or_other [] idle w (long_of w) nothing_held) d
        ∙ (ap (λ x. long_or_other [] idle w x nothing_held) l ∙ ap (λ o. short_or_plain [] idle w o nothing_held) s))

    fault : word_fault ours.top (names_of ours) false idle w nothing_held ≡ []
    fault = ap (λ o. other_fault ours.top o w nothing_held) sub
        ∙ (ap (λ b. if b then [] else flag_word_fault [] false (long_of w) w nothing_held) d
        ∙ (ap (λ x. flag_word_fault [] false x w nothing_held) l ∙ ap (λ o. option_map_or (λ flags. bundle_fault [] false flags nothing_held) o []) s))

pub lift : (n : Text) (o : Option Pairs) (f : Kinds) (rows : List Row) (sub : Option (Text × List Row)) → Agrees o f rows → sub ≡ Some (n, rows) → ReadsWords (with_name n o) f sub
lift n None f rows sub a e = a
lift n (Some got) f rows sub a e = (a.0, (rows, e, a.1))

pub reads_run : (ws : List Text) → list_any is_odd ws ≡ false → ReadsWords (with_name (codes "run") (options run_options None [] ws)) (fault_of our_app (codes "run" ∷ ws)) (subcommand_of our_app (codes "run" ∷ ws))
reads_run ws odd =
    lift (codes "run") (options run_options None [] ws) (fault_of our_app (codes "run" ∷ ws)) (rows_after (map option_rule run_options) [] ws) (subcommand_of our_app (codes "run" ∷ ws))
    (subst (λ f. Agrees (options run_options None [] ws) f (rows_after (map option_rule run_options) [] ws)) (sym (run_fault ws)) (leaf_agrees (codes "run") run_options ws odd))
    (run_rows ws)

pub reads_gen : (ws : List Text) → list_any is_odd ws ≡ false → ReadsWords (with_name (codes "gen") (options gen_options None [] ws)) (fault_of our_app (codes "gen" ∷ ws)) (subcommand_of our_app (codes "gen" ∷ ws))
reads_gen ws odd =
    lift (codes "gen") (options gen_options None [] ws) (fault_of our_app (codes "gen" ∷ ws)) (rows_after (map option_rule gen_options) [] ws) (subcommand_of our_app (codes "gen" ∷ ws))
    (subst (λ f. Agrees (options gen_options None [] ws) f (rows_after (map option_rule gen_options) [] ws)) (sym (gen_fault ws)) (leaf_agrees (codes "gen") gen_options ws odd))
    (gen_rows ws)

pub reads_hit : (ws : List Text) → list_any is_odd ws ≡ false → ReadsWords (with_name (codes "hit") (options hit_options None [] ws)) (fault_of our_app (codes "hit" ∷ ws)) (subcommand_of our_app (codes "hit" ∷ ws))
reads_hit ws odd =
    lift (codes "hit") (options hit_options None [] ws) (fault_of our_app (codes "hit" ∷ ws)) (rows_after (map option_rule hit_options) [] ws) (subcommand_of our_app (codes "hit" ∷ ws))
    (subst (λ f. Agrees (options hit_options None [] ws) f (rows_after (map option_rule hit_options) [] ws)) (sym (hit_fault ws)) (leaf_agrees (codes "hit") hit_options ws odd))
    (hit_rows ws)

pub reads_check : (ws : List Text) → list_any is_odd ws ≡ false → ReadsWords (with_name (codes "check") (options [] None [] ws)) (fault_of our_app (codes "check" ∷ ws)) (subcommand_of our_app (codes "check" ∷ ws))
reads_check ws odd =
    lift (codes "check") (options [] None [] ws) (fault_of our_app (codes "check" ∷ ws)) (rows_after [] [] ws) (subcommand_of our_app (codes "check" ∷ ws))
    (subst (λ f. Agrees (options [] None [] ws) f (rows_after [] [] ws)) (sym (check_fault_is ws)) (leaf_agrees (codes "check") [] ws odd))
    (check_rows ws)

pub reads_scratch : (ws : List Text) → list_any is_odd ws ≡ false → ReadsWords (with_name (codes "scratch") (options [] None [] ws)) (fault_of our_app (codes "scratch" ∷ ws)) (subcommand_of our_app (codes "scratch" ∷ ws))
reads_scratch ws odd =
    lift (codes "scratch") (options [] None [] ws) (fault_of our_app (codes "scratch" ∷ ws)) (rows_after [] [] ws) (subcommand_of our_app (codes "scratch" ∷ ws))
    (subst (λ f. Agrees (options [] None [] ws) f (rows_after [] [] ws)) (sym (scratch_fault ws)) (leaf_agrees (codes "scratch") [] ws odd))
    (scratch_rows ws)

pub none_fault : fault_of our_app [] ≡ kind.MissingSubcommand ∷ []
unfolding clap_on_literals
none_fault = refl

pub other_word : (w : Text) (ws : List Text) → is_odd w ≡ false → bytes_eq (codes "run") w ≡ false → bytes_eq (codes "gen") w ≡ false → bytes_eq (codes "hit") w ≡ false
    → bytes_eq (codes "check") w ≡ false → bytes_eq (codes "scratch") w ≡ false → fault_of our_app (w ∷ ws) ≡ [] → ⊥
unfolding clap_on_literals
other_word w ws odd r g h k s e = first_faulty w (kind_of_word w odd) (no_name w r g h k s) (or_first _ _ (or_first _ _ e))

-- what is read of a first word and those behind it
abbrev pub ReadsFrom : List Text → Text → Type 0
ReadsFrom ws v = ReadsWords (parsed (v ∷ ws)) (fault_of our_app (v ∷ ws)) (subcommand_of our_app (v ∷ ws))

abbrev pub scratch_or_none : Bool → List Text → Option (Text × Pairs)
scratch_or_none b ws = if b then with_name (codes "scratch") (options [] None [] ws) else None

abbrev pub check_or_less : Bool → Bool → List Text → Option (Text × Pairs)
check_or_less k s ws = if k then with_name (codes "check") (options [] None [] ws) else scratch_or_none s ws

abbrev pub hit_or_less : Bool → Bool → Bool → List Text → Option (Text × Pairs)
hit_or_less h k s ws = if h then with_name (codes "hit") (options hit_options None [] ws) else check_or_less k s ws

abbrev pub gen_or_less : Bool → Bool → Bool → Bool → List Text → Option (Text × Pairs)
gen_or_less g h k s ws = if g then with_name (codes "gen") (options gen_options None [] ws) else hit_or_less h k s ws

pub not_parsed : (w : Text) (ws : List Text) → bytes_eq (codes "run") w ≡ false → bytes_eq (codes "gen") w ≡ false → bytes_eq (codes "hit") w ≡ false
    → bytes_eq (codes "check") w ≡ false → bytes_eq (codes "scratch") w ≡ false → parsed (w ∷ ws) ≡ None
not_parsed w ws r g h k s =
    ap (λ b. if b then with_name (codes "run") (options run_options None [] ws)
    else gen_or_less (bytes_eq (codes "gen") w) (bytes_eq (codes "hit") w) (bytes_eq (codes "check") w) (bytes_eq (codes "scratch") w) ws) r
    ∙ (ap (λ b. gen_or_less b (bytes_eq (codes "hit") w) (bytes_eq (codes "check") w) (bytes_eq (codes "scratch") w) ws) g
    ∙ (ap (λ b. hit_or_less b (bytes_eq (codes "check") w) (bytes_eq (codes "scratch") w) ws) h
    ∙ (ap (λ b. check_or_less b (bytes_eq (codes "scratch") w) ws) k ∙ ap (λ b. scratch_or_none b ws) s)))

pub reads : (words : List Text) → list_any is_odd words ≡ false → ReadsWords (parsed words) (fault_of our_app words) (subcommand_of our_app words)
reads [] odd = λ e. some_not kind.MissingSubcommand [] (sym none_fault ∙ e)
reads (w ∷ ws) odd =
    let tidy = or_parts (is_odd w) (list_any is_odd ws) odd in
    by_bool (bytes_eq (codes "run") w)
    (λ r. subst (ReadsFrom ws) (same_text_at (codes "run") w r) (reads_run ws tidy.1))
    (λ r. by_bool (bytes_eq (codes "gen") w)
    (λ g. subst (ReadsFrom ws) (same_text_at (codes "gen") w g) (reads_gen ws tidy.1))
    (λ g. by_bool (bytes_eq (codes "hit") w)
    (λ h. subst (ReadsFrom ws) (same_text_at (codes "hit") w h) (reads_hit ws tidy.1))
    (λ h. by_bool (bytes_eq (codes "check") w)
    (λ k. subst (ReadsFrom ws) (same_text_at (codes "check") w k) (reads_check ws tidy.1))
    (λ k. by_bool (bytes_eq (codes "scratch") w)
    (λ s. subst (ReadsFrom ws) (same_text_at (codes "scratch") w s) (reads_scratch ws tidy.1))
    (λ s. subst (λ o. ReadsWords o (fault_of our_app (w ∷ ws)) (subcommand_of our_app (w ∷ ws))) (sym (not_parsed w ws r g h k s)) (other_word w ws tidy.0 r g h k s))))))
