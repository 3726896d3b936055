-- What the values of the code mean.
use Rattle.std.specs.Prelude.{◌≡◌, ◌≤◌, true, false, List, Option, None, Result, Ok, Err, option_and_then}
use Rattle.std.specs.String.{string_bytes}
use Rattle.arguments.specs.declared.command.Command.{Command as CodeCommand}
use Rattle.arguments.specs.declared.command.Command.TheVariants as code
use Rattle.arguments.specs.declared.command.Run as run_struct
use Rattle.arguments.specs.declared.command.Gen as gen_struct
use Rattle.arguments.specs.declared.command.CommandError.{CommandError}
use Rattle.arguments.specs.declared.command.CommandError.TheVariants.{Usage, NoMemory}
use Rattle.clap.specs.Matches.{found_of}
use Rattle.clap.specs.Words.{Row, rows_of, subcommand_rows_of}
use Rattle.clap.specs.declared.error.kind.ErrorKind.{ErrorKind}
use Rattle.clap.specs.declared.error.kind.ErrorKind.TheVariants.{OutOfMemory}
use Rattle.clap.specs.declared.parser.matches.ArgMatches.{ArgMatches}
use Rattle.arguments.specs.Commands.{Command, Gen, Run, run, asm, list, gen, help, asks_for_text, matched, texts}

abbrev pub run_meaning : run_struct.Run → Run
run_meaning r = record {
  carriers = r.carriers;
  events = r.events;
  trace = r.trace;
  main = string_bytes r.main;
  files = texts r.files.items;
}

abbrev pub gen_meaning : gen_struct.Gen → Gen
gen_meaning g = record { carriers = g.carriers; count = g.count }

abbrev pub command_meaning : CodeCommand → Command
command_meaning (code.Run r) = run (run_meaning r)
command_meaning (code.Asm file) = asm (string_bytes file)
command_meaning (code.List file) = list (string_bytes file)
command_meaning (code.Gen g) = gen (gen_meaning g)
command_meaning (code.Help text) = help

-- the numbers of a run are within the bounds of its options
pub record HasBounds (r : Run) : Type 0 where
  pub some_carriers : 1 ≤ r.carriers
  pub most_carriers : r.carriers ≤ 64
  pub some_events : 1000 ≤ r.events
  pub most_events : r.events ≤ 33554432

-- the numbers of a run of the generated program are within theirs
pub record HasGenBounds (g : Gen) : Type 0 where
  pub some_carriers : 1 ≤ g.carriers
  pub most_carriers : g.carriers ≤ 64
  pub some_threads : 1 ≤ g.count
  pub most_threads : g.count ≤ 50000

abbrev pub IsInBounds : Command → Type 0
IsInBounds (run r) = HasBounds r
IsInBounds (gen g) = HasGenBounds g
IsInBounds other = Unit {0}

-- a refusal of what spells this: it spells nothing, or memory ran out
abbrev pub IsRefusal : {X : Type 0} → Option X → CommandError → Type 0
IsRefusal c (Usage text) = c ≡ None
IsRefusal c NoMemory = Unit {0}

-- what a parse of a subcommand's words found, row by row
abbrev pub rows_in : ArgMatches → List Row
rows_in m = rows_of (found_of m)

-- the command that a parse matched
abbrev pub matched_in : ArgMatches → Option Command
matched_in m = option_and_then matched (subcommand_rows_of m)

-- an answer in place of matches, for an error of this kind: a text that is asked for, or what is wrong; or memory ran out
abbrev pub AnswersTo : ErrorKind → Result CodeCommand CommandError → Type 0
AnswersTo k (Ok (code.Help text)) = asks_for_text k ≡ true
AnswersTo k (Ok command) = ⊥
AnswersTo k (Err (Usage text)) = (k ≡ OutOfMemory → ⊥) × (asks_for_text k ≡ false)
AnswersTo k (Err NoMemory) = Unit {0}
