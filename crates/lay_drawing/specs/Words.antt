-- What the words of the command line ask for, as `clap` reads them: the option `--version` with the number of a version, or
-- the option `--between` with those of two, or the option `--hit` with the kind, the node and the part of a piece, as the program
-- `lay` names the one that is seen at a point; one of them, and once at most. Without them the last tree is asked for. Numbers are
-- written as a report writes them.
use Rattle.std.specs.Prelude.{ℕ, ◌≡◌, ◌==◌, ◌&&◌, true, List, [], ◌∷◌, length, codes, map}
use Rattle.std.specs.Prelude.{string_bytes, String, Option, Some, None, option_and_then, if◌then◌else◌}
use Rattle.std.specs.declared.alloc.Global.{Global}
use Rattle.clap.specs.Words.{App, Rule, new_app, new_rule, with_rule, fault_of, matches_of}
use Rattle.clap.specs.declared.builder.action.ArgAction.TheVariants.{Append}
use Rattle.lay_words.specs.Agree.{values_at}
use Rattle.lay_drawing.specs.declared.words.Wish.{Wish}
use Rattle.lay_drawing.specs.declared.words.Wish.TheVariants.{Tree, Between, Hit}
use Rattle.lay_drawing.specs.Reading.{kind_of, number_of, small_of}

abbrev pub version_rule : Rule
version_rule = record (new_rule (codes "version")) { long = Some (codes "version"); action = Some Append }

-- an option with two values
abbrev pub between_rule : Rule
between_rule =
    record
    (new_rule (codes "between")) {
      long = Some (codes "between");
      action = Some Append;
      range = Some (record { start_inclusive = 2; end_inclusive = 2 });
    }

-- and one with three
abbrev pub hit_rule : Rule
hit_rule =
    record
    (new_rule (codes "hit")) {
      long = Some (codes "hit");
      action = Some Append;
      range = Some (record { start_inclusive = 3; end_inclusive = 3 });
    }

abbrev pub bare_app : App
bare_app = let a =
    new_app
    (codes "lay_picture") in record a {
      top =
          record a.top { no_binary_name = true; disable_help_flag = true; disable_version_flag = true };
    }

-- the command with its three options
abbrev pub drawing_app : App
drawing_app = with_rule (with_rule (with_rule bare_app version_rule) between_rule) hit_rule

abbrev pub tree_at : List ℕ → Option Wish
tree_at value = option_and_then (λ version. Some (Tree (Some version))) (number_of value)

abbrev pub between_at : List ℕ → List ℕ → Option Wish
between_at a b = option_and_then (λ before. option_and_then (λ after. Some (Between before after)) (number_of b)) (number_of a)

abbrev pub hit_at : List ℕ → List ℕ → List ℕ → Option Wish
hit_at k n p =
    option_and_then
    (λ kind.
    option_and_then (λ node. option_and_then (λ part. Some (Hit (record { kind = kind; node = node; part = part }))) (small_of p))
    (small_of n)) (kind_of k)

-- the wish of these values of `--version`, where there are none of `--between`
abbrev pub wish_with_one : List (List ℕ) → Option Wish
wish_with_one [] = Some (Tree None)
wish_with_one (value ∷ more) = if length more == 0 then tree_at value else None

-- the wish of these values of `--between`, of which there are some
abbrev pub wish_with_two : List ℕ → List (List ℕ) → Option Wish
wish_with_two a [] = None
wish_with_two a (b ∷ more) = if length more == 0 then between_at a b else None

-- of these values of both, where there are none of `--hit`
abbrev pub wish_of_trees : List (List ℕ) → List (List ℕ) → Option Wish
wish_of_trees versions [] = wish_with_one versions
wish_of_trees versions (a ∷ more) = if length versions == 0 then wish_with_two a more else None

-- the wish of these values of `--hit`, of which there are some
abbrev pub wish_with_rest : List ℕ → List ℕ → List (List ℕ) → Option Wish
wish_with_rest k n [] = None
wish_with_rest k n (p ∷ more) = if length more == 0 then hit_at k n p else None

abbrev pub wish_with_three : List ℕ → List (List ℕ) → Option Wish
wish_with_three k [] = None
wish_with_three k (n ∷ rest) = wish_with_rest k n rest

abbrev pub wish_with : List (List ℕ) → List (List ℕ) → List (List ℕ) → Option Wish
wish_with versions between [] = wish_of_trees versions between
wish_with versions between (k ∷ more) = if length versions == 0 && length between == 0 then wish_with_three k more else None

-- words with a fault ask for nothing
abbrev pub wish_of : List (List ℕ) → Option Wish
wish_of words =
    if length (fault_of drawing_app words) == 0
    then wish_with (values_at (codes "version") (matches_of drawing_app words))
    (values_at (codes "between") (matches_of drawing_app words)) (values_at (codes "hit") (matches_of drawing_app words))
    else None

-- what the words ask for
abbrev pub AskFor : List (String Global) → Wish → Type 0
AskFor words wish = wish_of (map string_bytes words) ≡ Some wish

abbrev pub AreWrong : List (String Global) → Type 0
AreWrong words = wish_of (map string_bytes words) ≡ None
