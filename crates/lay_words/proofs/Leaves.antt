-- What clap makes of all words of a subcommand with options.
use Rattle.std.proofs.Common.{◌≡◌, Bool, true, false, List, [], ◌∷◌, ◌++◌, Option, Some, None, refl, sym, ap, ◌∙◌, subst, map, fold}
use Rattle.std.specs.Prelude.{if◌then◌else◌}
use Rattle.std.specs.List.{list_any}
use Rattle.std.proofs.Common.{◌||◌, ◌++◌, fold, subst}
use Rattle.clap.proofs.OnLiterals.{clap_on_literals}
use Rattle.clap.specs.Kinds.{Kinds, or_else}
use Rattle.clap.specs.Lexer.{long_of}
use Rattle.clap.specs.Faults.{settle_fault, walk_fault}
use Rattle.clap.specs.Kinds.{check_kinds}
use Rattle.clap.specs.Takes.{is_given}
use Rattle.clap.specs.Faults.{given_default_fault, check_fault, defaults_fault, level_fault}
use Rattle.clap.specs.Walk.{finished, has_row, nothing_held, rows_after, walk, walk_from, with_default}
use Rattle.std.proofs.Common.{◌&&◌, not}
use Rattle.std.proofs.lemmas.Bool.{or_parts}
use Rattle.clap.specs.Walk.{Row, Text, Walk, idle, option, settled, used, walked}
use Rattle.lay_words.specs.Grammar.{Pairs, name_or_empty, options, waits_for, is_known, is_odd}
use Rattle.lay_words.specs.Agree.{Gives}
use Rattle.lay_words.specs.Command.{option_rule, leaf}
use Rattle.lay_words.proofs.WordKinds.{Kind, by_bool, kind_of_word, flag, value}
use Rattle.lay_words.proofs.Turns.{St, pending_in, walk_of, KnownIn, rows_in, settled_is, settle_none, settle_hungry, Turns, Halts, some_not, attached, begun, stranger, hungry, stray, filled_in, none, one}
use Rattle.lay_words.proofs.FoundValues.{gives_more}

abbrev pub rest_fault : Text → List Text → Walk → List Text → Kinds
rest_fault name names w words = or_else (walk_fault (leaf name names) [] w words) (settle_fault (map option_rule names) false (fold (walked (map option_rule names) []) w words).held)

abbrev pub end_rows : List Text → Walk → List Text → List Row
end_rows names w words = (settled (map option_rule names) (fold (walked (map option_rule names) []) w words).held).rows

abbrev pub Agrees : Option Pairs → Kinds → List Row → Type 0
Agrees None f rows = f ≡ [] → ⊥
Agrees (Some got) f rows = (f ≡ []) × Gives rows got

pub or_first : (a b : Kinds) → or_else a b ≡ [] → a ≡ []
or_first [] b e = refl
or_first (k ∷ ks) b e = absurd (some_not k ks e)

pub or_none : (a b c : Kinds) → a ≡ [] → or_else (or_else a b) c ≡ or_else b c
or_none a b c e = ap (λ x. or_else (or_else x b) c) e

pub stops : (name : Text) (names : List Text) (from : Walk) (w : Text) (ws : List Text) → Halts name names from w → Agrees None (rest_fault name names from (w ∷ ws)) (end_rows names from (w ∷ ws))
unfolding clap_on_literals
stops name names from w ws halts e = halts (or_first _ _ (or_first _ _ e))

pub goes : (name : Text) (names : List Text) (from to : Walk) (w : Text) (ws : List Text) (o : Option Pairs) → Turns name names from w to
    → Agrees o (rest_fault name names to ws) (end_rows names to ws) → Agrees o (rest_fault name names from (w ∷ ws)) (end_rows names from (w ∷ ws))
unfolding clap_on_literals
goes name names from to w ws o turns agrees =
    subst (λ f. Agrees o f (end_rows names from (w ∷ ws)))
    (sym (or_none _ (walk_fault (leaf name names) [] (walked (map option_rule names) [] from w) ws) _ turns.0))
    (subst (λ x. Agrees o (rest_fault name names x ws) (end_rows names x ws)) (sym turns.1) agrees)

pub step_is : (names : List Text) (x : Option Text) (got : Pairs) (w : Text) (ws : List Text) (lo : Option (Text × Option Text)) (b : Bool) → long_of w ≡ lo → is_known names (name_or_empty lo) ≡ b
    → options names x got (w ∷ ws) ≡ waits_for x got lo w (λ y g. options names y g ws) b
unfolding options
step_is names x got w ws lo b l k =
    ap (λ o. waits_for x got o w (λ y g. options names y g ws) (is_known names (name_or_empty o))) l
    ∙ ap (λ c. waits_for x got lo w (λ y g. options names y g ws) c) k

abbrev pub Idle : Text → List Text → List Text → Type 0
Idle name names ws = (rows : List Row) (st : St) (got : Pairs) → KnownIn names st → Gives (rows_in rows st) got
    → Agrees (options names None got ws) (rest_fault name names (walk_of rows (pending_in st) idle) ws) (end_rows names (walk_of rows (pending_in st) idle) ws)

abbrev pub Waits : Text → List Text → List Text → Type 0
Waits name names ws = (rows : List Row) (m : Text) (got : Pairs) → is_known names m ≡ true → Gives rows got
    → Agrees (options names (Some m) got ws) (rest_fault name names (walk_of rows (Some (m, [])) (option m)) ws) (end_rows names (walk_of rows (Some (m, [])) (option m)) ws)

pub by_step : (o p : Option Pairs) (f : Kinds) (rows : List Row) → o ≡ p → Agrees p f rows → Agrees o f rows
by_step o p f rows e a = subst (λ x. Agrees x f rows) (sym e) a

pub idle_word : (name : Text) (names : List Text) (w : Text) (ws : List Text) → Kind w → Idle name names ws → Waits name names ws → Idle name names (w ∷ ws)
idle_word name names w ws (flag (n, None) l d) idles waits rows st got k g =
    let from = walk_of rows (pending_in st) idle in by_bool (is_known names n)
    (λ known. by_step (options names None got (w ∷ ws)) (options names (Some n) got ws) (rest_fault name names from (w ∷ ws)) (end_rows names from (w ∷ ws))
    (step_is names None got w ws (Some (n, None)) true l known)
    (goes name names from (walk_of (rows_in rows st) (Some (n, [])) (option n)) w ws (options names (Some n) got ws) (begun name names rows st w n k l d known) (waits (rows_in rows st) n got known g)))
    (λ un. by_step (options names None got (w ∷ ws)) None (rest_fault name names from (w ∷ ws)) (end_rows names from (w ∷ ws))
    (step_is names None got w ws (Some (n, None)) false l un)
    (stops name names from w ws (stranger name names rows (pending_in st) idle w n None refl l d un)))
idle_word name names w ws (flag (n, Some v) l d) idles waits rows st got k g =
    let from = walk_of rows (pending_in st) idle in by_bool (is_known names n)
    (λ known. by_step (options names None got (w ∷ ws)) (options names None (got ++ (n, v) ∷ []) ws) (rest_fault name names from (w ∷ ws)) (end_rows names from (w ∷ ws))
    (step_is names None got w ws (Some (n, Some v)) true l known)
    (goes name names from (walk_of (used (option_rule n) (v ∷ []) (rows_in rows st)) None idle) w ws (options names None (got ++ (n, v) ∷ []) ws) (attached name names rows st w n v k l d known)
    (idles (used (option_rule n) (v ∷ []) (rows_in rows st)) none (got ++ (n, v) ∷ []) tt (gives_more (rows_in rows st) got n v g))))
    (λ un. by_step (options names None got (w ∷ ws)) None (rest_fault name names from (w ∷ ws)) (end_rows names from (w ∷ ws))
    (step_is names None got w ws (Some (n, Some v)) false l un)
    (stops name names from w ws (stranger name names rows (pending_in st) idle w n (Some v) refl l d un)))
idle_word name names w ws (value l s d) idles waits rows st got k g =
    let from = walk_of rows (pending_in st) idle in
    by_step (options names None got (w ∷ ws)) None (rest_fault name names from (w ∷ ws)) (end_rows names from (w ∷ ws))
    (step_is names None got w ws None (is_known names []) l refl)
    (stops name names from w ws (stray name names rows (pending_in st) w l s d))

pub wait_word : (name : Text) (names : List Text) (w : Text) (ws : List Text) → Kind w → Idle name names ws → Waits name names (w ∷ ws)
wait_word name names w ws (flag (n, v) l d) idles rows m got k g =
    let from = walk_of rows (Some (m, [])) (option m) in
    by_step (options names (Some m) got (w ∷ ws)) None (rest_fault name names from (w ∷ ws)) (end_rows names from (w ∷ ws))
    (step_is names (Some m) got w ws (Some (n, v)) (is_known names n) l refl)
    (stops name names from w ws (by_bool (is_known names n)
    (λ known. hungry name names rows m w n v k l d known)
    (λ un. stranger name names rows (Some (m, [])) (option m) w n v refl l d un)))
wait_word name names w ws (value l s d) idles rows m got k g =
    let from = walk_of rows (Some (m, [])) (option m) in
    by_step (options names (Some m) got (w ∷ ws)) (options names None (got ++ (m, w) ∷ []) ws) (rest_fault name names from (w ∷ ws)) (end_rows names from (w ∷ ws))
    (step_is names (Some m) got w ws None (is_known names []) l refl)
    (goes name names from (walk_of rows (Some (m, w ∷ [])) idle) w ws (options names None (got ++ (m, w) ∷ []) ws) (filled_in name names rows m w k l s d)
    (idles rows (one m w) (got ++ (m, w) ∷ []) k (gives_more rows got m w g)))

pub ends_idle : (name : Text) (names : List Text) → Idle name names []
unfolding clap_on_literals options
ends_idle name names rows st got k g = (settle_none names rows st k, subst (λ h. Gives h.rows got) (sym (settled_is names rows st k)) g)

pub ends_waiting : (name : Text) (names : List Text) → Waits name names []
unfolding clap_on_literals options
ends_waiting name names rows m got k g e = some_not _ _ (sym (settle_hungry names rows m k) ∙ e)

pub both : (name : Text) (names : List Text) (words : List Text) → list_any is_odd words ≡ false → Idle name names words × Waits name names words
both name names [] odd = (ends_idle name names, ends_waiting name names)
both name names (w ∷ ws) odd =
    let tidy = or_parts (is_odd w) (list_any is_odd ws) odd in
    let ih = both name names ws tidy.1 in
    let kind_of_w = kind_of_word w tidy.0 in
    (idle_word name names w ws kind_of_w ih.0 ih.1, wait_word name names w ws kind_of_w ih.0)

pub no_default : (x : Text) (rows : List Row) → with_default rows (option_rule x) ≡ rows
no_default x rows = by_bool (has_row x rows) (λ e. ap (λ b. if b then rows else rows) e) (λ e. ap (λ b. if b then rows else rows) e)

pub no_defaults : (names : List Text) (rows : List Row) → fold with_default rows (map option_rule names) ≡ rows
no_defaults [] rows = refl
no_defaults (x ∷ xs) rows = ap (λ r. fold with_default r (map option_rule xs)) (no_default x rows) ∙ no_defaults xs rows

pub none_faulty : (names : List Text) (rows : List Row) → defaults_fault rows (map option_rule names) ≡ []
unfolding clap_on_literals
none_faulty [] rows = refl
none_faulty (x ∷ xs) rows =
    let first = by_bool (has_row x rows) (λ e. ap (λ b. if b || true then [] else given_default_fault (option_rule x) []) e)
    (λ e. ap (λ b. if b || true then [] else given_default_fault (option_rule x) []) e) in
    ap (λ k. or_else k (defaults_fault (with_default rows (option_rule x)) (map option_rule xs))) first
    ∙ (ap (λ r. defaults_fault r (map option_rule xs)) (no_default x rows) ∙ none_faulty xs rows)

pub none_required : (names : List Text) (rows : List Row) → list_any (λ a. a.required && not (is_given a.id rows)) (map option_rule names) ≡ false
none_required [] rows = refl
none_required (x ∷ xs) rows = none_required xs rows

pub or_nothing : (a : Kinds) → or_else a [] ≡ a
or_nothing [] = refl
or_nothing (k ∷ ks) = refl

pub no_checks : (name : Text) (names : List Text) (rows : List Row) → check_fault (leaf name names) rows false ≡ []
no_checks name names rows = ap (λ b. check_kinds false false b) (none_required names rows)

pub leaf_agrees : (name : Text) (names : List Text) (words : List Text) → list_any is_odd words ≡ false
    → Agrees (options names None [] words) (level_fault (leaf name names) [] nothing_held words false []) (rows_after (map option_rule names) [] words)
leaf_agrees name names words odd =
    let c = map option_rule names in
    let end = (walk c [] nothing_held words).held in
    let o = options names None [] words in
    let a = (both name names words odd).0 [] none [] tt (λ id. refl) in
    subst (λ f. Agrees o f (rows_after c [] words))
    (ap (λ x. or_else (walk_fault (leaf name names) [] (walk_from nothing_held) words) x)
    (sym (ap (λ x. or_else (settle_fault c false end) x) (ap (λ x. or_else x (check_fault (leaf name names) (finished c end) false)) (none_faulty names (settled c end).rows) ∙ no_checks name names (finished c end)) ∙ or_nothing (settle_fault c false end))))
    (subst (λ r. Agrees o (rest_fault name names (walk_from nothing_held) words) r) (sym (no_defaults names (settled c end).rows)) a)
