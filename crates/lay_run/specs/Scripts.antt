-- The scripts of a run: for each editor, in order, its commands. There are at most 16 scripts, with at most 8,192
-- commands together, of which at most 256 read.
use Rattle.std.specs.Prelude.{ℕ, ◌≡◌, ◌≤◌, List, length, sum_by, count_by, Bool, true, false}
use Rattle.lay_history.specs.declared.edits.command.Cmd.{Cmd}
use Rattle.lay_history.specs.declared.edits.command.Cmd.TheVariants.{Edits, Latest, Sync}

-- whether a command is to be shown a version
abbrev pub is_read : Cmd → Bool
is_read (Edits edits) = false
is_read Latest = true
is_read Sync = true

-- how many commands of a script read
abbrev pub reads_of : List Cmd → ℕ
reads_of script = count_by is_read script

-- how many commands there are in all scripts together, and how many of them read
abbrev pub command_count : List (List Cmd) → ℕ
command_count scripts = sum_by length scripts

abbrev pub read_count : List (List Cmd) → ℕ
read_count scripts = sum_by reads_of scripts

-- at most 16 scripts, 8,192 commands and 256 reads
pub record IsWithinLimits (scripts : List (List Cmd)) : Type 0 where
  pub lists : length scripts ≤ 16
  pub commands : command_count scripts ≤ 8192
  pub reads : read_count scripts ≤ 256

-- two numbers are those of the commands and of the reads of scripts that are within the limits
pub record AreCommandsCounted (scripts : List (List Cmd)) (commands reads : ℕ) : Type 0 where
  pub within : IsWithinLimits scripts
  pub commands_are : commands ≡ command_count scripts
  pub reads_are : reads ≡ read_count scripts

-- a number is that of the reads of a script that is within the limits by itself
pub record IsScript (script : List Cmd) (reads : ℕ) : Type 0 where
  pub few : length script ≤ 8192
  pub reads_few : reads ≤ 256
  pub reads_are : reads ≡ reads_of script
