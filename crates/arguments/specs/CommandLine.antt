-- The command line of the program, as clap reads it: its commands with their options and words, and no others.
use Rattle.std.specs.Prelude.{◌≡◌, [], ◌∷◌, Some, true, false, codes, pos}
use Rattle.clap.specs.Words.{App, Rule, app_of, new_app, new_rule, with_rule, with_subcommand}
use Rattle.clap.specs.Lexer.{usize_max}
use Rattle.clap.specs.Simple.{Shape}
use Rattle.clap.specs.declared.builder.command.Command.{Command}
use Rattle.clap.specs.declared.builder.command.Command.TheViews.{out-Command}
use Rattle.clap.specs.declared.builder.action.ArgAction.TheVariants.{SetTrue}
use Rattle.clap.specs.declared.builder.value_parser.ValueParser.TheVariants as parsers

-- ---- options

-- `--carriers N`: a number from 1 to 64, or else 4
abbrev pub carriers_rule : Rule
carriers_rule = record (new_rule (codes "carriers")) {
  long = Some (codes "carriers");
  value_names = 1;
  parser = Some (parsers.Signed (pos 1) (pos 64));
  defaults = codes "4" ∷ [];
}

-- `--events N`: a number from 1,000 to 33,554,432, or else 4,194,304
abbrev pub events_rule : Rule
events_rule = record (new_rule (codes "events")) {
  long = Some (codes "events");
  value_names = 1;
  parser = Some (parsers.Signed (pos 1000) (pos 33554432));
  defaults = codes "4194304" ∷ [];
}

-- `--trace`
abbrev pub trace_rule : Rule
trace_rule = record (new_rule (codes "trace")) { long = Some (codes "trace"); action = Some SetTrue }

-- ---- words

-- the word MAIN
abbrev pub main_rule : Rule
main_rule = record (new_rule (codes "MAIN")) { required = true }

-- one word FILE or more
abbrev pub files_rule : Rule
files_rule = record (new_rule (codes "FILE")) {
  required = true;
  range = Some (record { start_inclusive = 1; end_inclusive = usize_max });
}

-- one word FILE
abbrev pub file_rule : Rule
file_rule = record (new_rule (codes "FILE")) { required = true }

-- the word COUNT: a number from 1 to 50,000
abbrev pub count_rule : Rule
count_rule = record (new_rule (codes "COUNT")) {
  required = true;
  parser = Some (parsers.Signed (pos 1) (pos 50000));
}

-- ---- commands

-- `run [--carriers N] [--events N] [--trace] MAIN FILE..`
abbrev pub run_app : App
run_app =
    with_rule (with_rule (with_rule (with_rule (with_rule (new_app (codes "run")) carriers_rule) events_rule) trace_rule) main_rule) files_rule

-- `asm FILE`
abbrev pub asm_app : App
asm_app = with_rule (new_app (codes "asm")) file_rule

-- `list FILE`
abbrev pub list_app : App
list_app = with_rule (new_app (codes "list")) file_rule

-- `gen [--carriers N] COUNT`
abbrev pub gen_app : App
gen_app = with_rule (with_rule (new_app (codes "gen")) carriers_rule) count_rule

-- the program's name and its version, without a command `help`
abbrev pub program_shape : Shape
program_shape = record (new_app (codes "jvt")).top { has_version = true; subcommand_required = true; disable_help_subcommand = true }

abbrev pub program_app : App
program_app = record { top = program_shape; subs = [] }

abbrev pub command_line : App
command_line =
    with_subcommand (with_subcommand (with_subcommand (with_subcommand program_app run_app.top) asm_app.top) list_app.top) gen_app.top

-- clap reads the command as this one, and none of its arguments is one of other commands too
pub record IsReadAs (c : Command) (a : App) : Type 0 where
  pub app : app_of c ≡ a
  pub local : (out-Command c).has_globals ≡ false
