-- What clap makes of one word, by where its walk stands.
use Rattle.std.proofs.Common.{◌≡◌, true, false, List, [], ◌∷◌, Option, Some, None, refl, sym, ap, ◌∙◌, rules, map, nat_lt}
use Rattle.std.specs.Prelude.{if◌then◌else◌}
use Rattle.std.specs.Str.{bytes_eq}
use Rattle.std.specs.Option.{option_map_or}
use Rattle.clap.proofs.OnLiterals.{clap_on_literals}
use Rattle.clap.specs.declared.error.kind.ErrorKind.{ErrorKind}
use Rattle.clap.specs.declared.error.kind.ErrorKind.TheVariants as kind
use Rattle.clap.specs.Kinds.{Kinds, or_else}
use Rattle.clap.specs.Lexer.{long_of, short_of}
use Rattle.clap.specs.Faults.{bundle_fault, flag_word_fault, long_fault, other_fault, positional_fault, settle_fault, step_fault, turn_fault, use_fault, word_fault}
use Rattle.clap.specs.Simple.{Shape}
use Rattle.clap.specs.Walk.{Held, Row, Rule, Step, Text, Waiting, Walk, after_flag, after_step, idle, long_met, long_or_other, next, option, option_word, settled, short_or_plain, subcommand_met, subcommand_or_other, trailing, used, used_by_id, walked, word_met}
use Rattle.lay_words.specs.Grammar.{is_known}
use Rattle.lay_words.specs.Command.{option_rule, leaf}
use Rattle.lay_words.proofs.WordKinds.{bytes_eq-refl, by_long, not_long, by_id, no_index}

-- nothing is pending, or an option with its value
pub data St : Type 0 where
  none : St
  one : Text → Text → St

abbrev pub pending_in : St → Option (Text × List Text)
pending_in none = None
pending_in (one n v) = Some (n, v ∷ [])

abbrev pub held_of : List Row → Option (Text × List Text) → Held
held_of rows p = record { rows = rows; pending = p; skip = 0 }

abbrev pub walk_of : List Row → Option (Text × List Text) → Waiting → Walk
walk_of rows p waiting = record { held = held_of rows p; waiting = waiting; position = 1; is_trailing = false; stopped = None }

abbrev pub KnownIn : List Text → St → Type 0
KnownIn names none = Unit {0}
KnownIn names (one n v) = is_known names n ≡ true

-- the rows once what is pending is used
abbrev pub rows_in : List Row → St → List Row
rows_in rows none = rows
rows_in rows (one n v) = used (option_rule n) (v ∷ []) rows

pub settled_is : (names : List Text) (rows : List Row) (st : St) → KnownIn names st
    → settled (map option_rule names) (held_of rows (pending_in st)) ≡ held_of (rows_in rows st) None
settled_is names rows none k = refl
settled_is names rows (one m x) k = ap (λ o. held_of (used_by_id o (x ∷ []) rows) None) (by_id names m k)

pub settle_none : (names : List Text) (rows : List Row) (st : St) → KnownIn names st
    → settle_fault (map option_rule names) false (held_of rows (pending_in st)) ≡ []
settle_none names rows none k = refl
settle_none names rows (one m x) k = ap (λ o. option_map_or (λ a. use_fault false a (x ∷ []) rows) o []) (by_id names m k)

pub settle_hungry : (names : List Text) (rows : List Row) (m : Text) → is_known names m ≡ true
    → settle_fault (map option_rule names) false (held_of rows (Some (m, []))) ≡ kind.InvalidValue ∷ []
settle_hungry names rows m k = ap (λ o. option_map_or (λ a. use_fault false a [] rows) o []) (by_id names m k)

-- what clap makes of a word, by what is known of it
pub met_is : (c : List Rule) (wt : Waiting) (w : Text) (h : Held) (lo : Option (Text × Option Text)) → subcommand_met [] wt w ≡ None
    → bytes_eq w (45 ∷ 45 ∷ []) ≡ false → long_of w ≡ lo → word_met c [] false wt 1 w h ≡ long_or_other c wt w lo h
met_is c wt w h lo sub d l =
    ap (λ o. subcommand_or_other c o wt 1 w h) sub
    ∙ (ap (λ b. if b then (h, trailing 1) else long_or_other c wt w (long_of w) h) d ∙ ap (λ x. long_or_other c wt w x h) l)

pub word_is : (s : Shape) (wt : Waiting) (w : Text) (h : Held) (lo : Option (Text × Option Text)) → subcommand_met [] wt w ≡ None
    → bytes_eq w (45 ∷ 45 ∷ []) ≡ false → long_of w ≡ lo → word_fault s [] false wt w h ≡ flag_word_fault s.rules s.args_override_self lo w h
word_is s wt w h lo sub d l =
    ap (λ o. other_fault s o w h) sub
    ∙ (ap (λ b. if b then [] else flag_word_fault s.rules s.args_override_self (long_of w) w h) d ∙ ap (λ x. flag_word_fault s.rules s.args_override_self x w h) l)

-- the turn of one word, by these two
pub turn_is : (s : Shape) (rows : List Row) (p : Option (Text × List Text)) (wt : Waiting) (w : Text) (m : Held × Step) (f : Kinds)
    → word_met s.rules [] false wt 1 w (held_of rows p) ≡ m → word_fault s [] false wt w (held_of rows p) ≡ f
    → (turn_fault s [] (walk_of rows p wt) w ≡ or_else f (step_fault s 1 m.0 m.1))
    × (walked s.rules [] (walk_of rows p wt) w ≡ after_step s.rules w (walk_of rows p wt) m.0 m.1)
unfolding clap_on_literals
turn_is s rows p wt w m f is fault = (
  ap (λ x. or_else x (step_fault s 1 (word_met s.rules [] false wt 1 w (held_of rows p)).0 (word_met s.rules [] false wt 1 w (held_of rows p)).1)) fault
      ∙ ap (λ x. or_else f (step_fault s 1 x.0 x.1)) is,
  ap (λ x. after_step s.rules w (walk_of rows p wt) x.0 x.1) is,
)

abbrev pub Turns : Text → List Text → Walk → Text → Walk → Type 0
Turns name names from w to = (turn_fault (leaf name names) [] from w ≡ []) × (walked (map option_rule names) [] from w ≡ to)

abbrev pub Halts : Text → List Text → Walk → Text → Type 0
Halts name names from w = turn_fault (leaf name names) [] from w ≡ [] → ⊥

pub some_not : {X : Type 0} (x : X) (xs : List X) → x ∷ xs ≡ [] → ⊥
some_not x xs e = search rules

pub halts_by : (name : Text) (names : List Text) (from : Walk) (w : Text) (k : ErrorKind) (ks : Kinds) → turn_fault (leaf name names) [] from w ≡ k ∷ ks → Halts name names from w
halts_by name names from w k ks is e = some_not k ks (sym is ∙ e)

-- `--name=value`
pub attached : (name : Text) (names : List Text) (rows : List Row) (st : St) (w n v : Text) → KnownIn names st
    → long_of w ≡ Some (n, Some v) → bytes_eq w (45 ∷ 45 ∷ []) ≡ false → is_known names n ≡ true
    → Turns name names (walk_of rows (pending_in st) idle) w (walk_of (used (option_rule n) (v ∷ []) (rows_in rows st)) None idle)
attached name names rows st w n v k l d known =
    let c = map option_rule names in
    let h = held_of rows (pending_in st) in
    let met = met_is c idle w h _ refl d l ∙ ap (λ o. after_flag c idle w (long_met c o (Some v) h).0 (long_met c o (Some v) h).1) (by_long names n known)
    ∙ ap (λ x. (held_of (used (option_rule n) (v ∷ []) x.rows) None, next idle)) (settled_is names rows st k) in
    let fault = word_is (leaf name names) idle w h _ refl d l ∙ ap (λ o. long_fault c false o (Some v) h) (by_long names n known)
    ∙ ap (λ x. or_else x (use_fault false (option_rule n) (v ∷ []) (settled c h).rows)) (settle_none names rows st k) in
    turn_is (leaf name names) rows (pending_in st) idle w _ _ met fault

-- `--name`
pub begun : (name : Text) (names : List Text) (rows : List Row) (st : St) (w n : Text) → KnownIn names st
    → long_of w ≡ Some (n, None) → bytes_eq w (45 ∷ 45 ∷ []) ≡ false → is_known names n ≡ true
    → Turns name names (walk_of rows (pending_in st) idle) w (walk_of (rows_in rows st) (Some (n, [])) (option n))
begun name names rows st w n k l d known =
    let c = map option_rule names in
    let h = held_of rows (pending_in st) in
    let met = met_is c idle w h _ refl d l ∙ ap (λ o. after_flag c idle w (long_met c o None h).0 (long_met c o None h).1) (by_long names n known)
    ∙ ap (λ x. (record x { pending = Some (n, []) }, next (option n))) (settled_is names rows st k) in
    let fault = word_is (leaf name names) idle w h _ refl d l ∙ ap (λ o. long_fault c false o None h) (by_long names n known)
    ∙ settle_none names rows st k in
    turn_is (leaf name names) rows (pending_in st) idle w _ _ met fault

-- an option that is not known
pub stranger : (name : Text) (names : List Text) (rows : List Row) (p : Option (Text × List Text)) (wt : Waiting) (w n : Text) (v : Option Text) → subcommand_met [] wt w ≡ None
    → long_of w ≡ Some (n, v) → bytes_eq w (45 ∷ 45 ∷ []) ≡ false → is_known names n ≡ false → Halts name names (walk_of rows p wt) w
stranger name names rows p wt w n v sub l d known =
    let c = map option_rule names in
    let h = held_of rows p in
    let fault = word_is (leaf name names) wt w h _ sub d l ∙ ap (λ o. long_fault c false o v h) (not_long names n known) in
    halts_by name names (walk_of rows p wt) w _ _ (turn_is (leaf name names) rows p wt w _ _ refl fault).0

-- an option where a value is waited for
pub hungry : (name : Text) (names : List Text) (rows : List Row) (m w n : Text) (v : Option Text) → is_known names m ≡ true
    → long_of w ≡ Some (n, v) → bytes_eq w (45 ∷ 45 ∷ []) ≡ false → is_known names n ≡ true → Halts name names (walk_of rows (Some (m, [])) (option m)) w
hungry name names rows m w n None k l d known =
    let c = map option_rule names in
    let h = held_of rows (Some (m, [])) in
    let fault = word_is (leaf name names) (option m) w h _ refl d l ∙ ap (λ o. long_fault c false o None h) (by_long names n known) ∙ settle_hungry names rows m k in
    halts_by name names (walk_of rows (Some (m, [])) (option m)) w _ _ (turn_is (leaf name names) rows (Some (m, [])) (option m) w _ _ refl fault).0
hungry name names rows m w n (Some v) k l d known =
    let c = map option_rule names in
    let h = held_of rows (Some (m, [])) in
    let fault = word_is (leaf name names) (option m) w h _ refl d l ∙ ap (λ o. long_fault c false o (Some v) h) (by_long names n known)
    ∙ ap (λ x. or_else x (use_fault false (option_rule n) (v ∷ []) (settled c h).rows)) (settle_hungry names rows m k) in
    halts_by name names (walk_of rows (Some (m, [])) (option m)) w _ _ (turn_is (leaf name names) rows (Some (m, [])) (option m) w _ _ refl fault).0

-- a word that is no option, where none waits
pub stray : (name : Text) (names : List Text) (rows : List Row) (p : Option (Text × List Text)) (w : Text)
    → long_of w ≡ None → short_of w ≡ None → bytes_eq w (45 ∷ 45 ∷ []) ≡ false → Halts name names (walk_of rows p idle) w
stray name names rows p w l s d =
    let c = map option_rule names in
    let h = held_of rows p in
    let met = met_is c idle w h _ refl d l ∙ ap (λ o. short_or_plain c idle w o h) s in
    let fault = word_is (leaf name names) idle w h _ refl d l ∙ ap (λ o. option_map_or (λ flags. bundle_fault c false flags h) o []) s in
    halts_by name names (walk_of rows p idle) w kind.UnknownArgument [] ((turn_is (leaf name names) rows p idle w _ _ met fault).0
    ∙ ap (λ o. option_map_or (λ a. positional_fault c false a h) o (kind.UnknownArgument ∷ [])) (no_index names))

-- the value of an option that waits
pub filled_in : (name : Text) (names : List Text) (rows : List Row) (m w : Text) → is_known names m ≡ true
    → long_of w ≡ None → short_of w ≡ None → bytes_eq w (45 ∷ 45 ∷ []) ≡ false
    → Turns name names (walk_of rows (Some (m, [])) (option m)) w (walk_of rows (Some (m, w ∷ [])) idle)
filled_in name names rows m w k l s d =
    let c = map option_rule names in
    let h = held_of rows (Some (m, [])) in
    let met = met_is c (option m) w h _ refl d l ∙ ap (λ o. short_or_plain c (option m) w o h) s
    ∙ ap (λ o. ((option_word o m w h).0, next (option_word o m w h).1)) (by_id names m k)
    ∙ ap (λ b. (held_of rows (Some (m, w ∷ [])), next (if nat_lt (if b then 1 else 0) 1 then option m else idle))) (bytes_eq-refl m) in
    let fault = word_is (leaf name names) (option m) w h _ refl d l ∙ ap (λ o. option_map_or (λ flags. bundle_fault c false flags h) o []) s in
    turn_is (leaf name names) rows (Some (m, [])) (option m) w _ _ met fault
