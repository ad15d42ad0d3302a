-- The command as `clap` sees it, and its subcommands once it is built.
use Rattle.std.specs.Prelude.{ℕ, true, List, codes, Some, map}
use Rattle.clap.specs.Words.{App, Rule, Shape, new_app, new_rule, with_rule, with_subcommand}
use Rattle.clap.specs.declared.builder.action.ArgAction.TheVariants.{Append}
use Rattle.clap.specs.declared.builder.value_parser.ValueParser.TheVariants as vp

-- an option `--name`, whose values are listed
abbrev pub option_given : List ℕ → Rule
option_given name = record (new_rule name) { long = Some name; action = Some Append }

-- a subcommand without options
abbrev pub plain : List ℕ → App
plain name = let a = new_app name in record a { top = record a.top { disable_help_flag = true } }

-- the command before its subcommands
abbrev pub strict : App
strict =
    let top = new_app (codes "lay") in
    record top {
      top =
          record top.top { no_binary_name = true; disable_help_flag = true; disable_help_subcommand = true; subcommand_required = true };
    }

abbrev pub run_app : App
run_app = with_rule (plain (codes "run")) (option_given (codes "workers"))

abbrev pub gen_app : App
gen_app =
    with_rule (with_rule (with_rule (plain (codes "gen")) (option_given (codes "size"))) (option_given (codes "seed")))
    (option_given (codes "workers"))

abbrev pub hit_app : App
hit_app = with_rule (with_rule (plain (codes "hit")) (option_given (codes "x"))) (option_given (codes "y"))

-- the command with the subcommands that have options
abbrev pub with_options : App
with_options = with_subcommand (with_subcommand (with_subcommand strict run_app.top) gen_app.top) hit_app.top

abbrev pub our_app : App
our_app = with_subcommand (with_subcommand with_options (plain (codes "check")).top) (plain (codes "scratch")).top

-- an option, once the command is built
abbrev pub option_rule : List ℕ → Rule
option_rule name = record (new_rule name) {
  long = Some name;
  action = Some Append;
  parser = Some vp.String;
  range = Some (record { start_inclusive = 1; end_inclusive = 1 });
}

-- a subcommand with these options, once the command is built
abbrev pub leaf : List ℕ → List (List ℕ) → Shape
leaf name options = record (plain name).top {
  rules = map option_rule options;
  no_binary_name = true;
  disable_help_subcommand = true;
  is_built = true;
}
