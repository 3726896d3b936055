-- The command that a list of arguments spells.
use Rattle.std.specs.Prelude.{ℕ, Bool, true, false, List, [], ◌∷◌, ◌&&◌, Option, Some, None, map, codes, nat_le, nat_lt, ◌^◌, unwrap_or, option_map, option_and_then, String, if◌then◌else◌}
use Rattle.std.specs.String.{string_bytes}
use Rattle.std.specs.Global.{Global}
use Rattle.std.specs.Option.{option_map_or}
use Rattle.std.specs.Str.{bytes_eq}
use Rattle.std.specs.Str.Parse.{digits_value, without_leading_plus}
use Rattle.clap.specs.ValueTests.{is_numeral}
use Rattle.clap.specs.Words.{Kinds, Row, Text, all_of, fault_of, first_of, one_of, subcommand_of}
use Rattle.clap.specs.declared.error.kind.ErrorKind.{ErrorKind}
use Rattle.clap.specs.declared.error.kind.ErrorKind.TheVariants.{DisplayHelp, DisplayVersion}
use Rattle.arguments.specs.CommandLine.{command_line}

-- `run`: on how many carriers, how many entries its history may have, whether that is printed, and the words MAIN and FILE..
pub record Run : Type 0 where
  pub carriers : ℕ
  pub events : ℕ
  pub trace : Bool
  pub main : Text
  pub files : List Text

-- `gen`: on how many carriers, and COUNT
pub record Gen : Type 0 where
  pub carriers : ℕ
  pub count : ℕ

-- a run; the assembler's text FILE, and the class file FILE that is listed; the generated program; or the help or the version is asked for
pub data Command : Type 0 where
  run : Run → Command
  asm : Text → Command
  list : Text → Command
  gen : Gen → Command
  help : Command

-- the bytes of each argument
abbrev pub texts : List (String Global) → List Text
texts args = map (λ (a : String Global). string_bytes a) args

-- the number of 32 bits that a text spells in digits, which may come after a plus sign
abbrev pub number_in : Text → Option ℕ
number_in text =
    let digits = without_leading_plus text in
    let n = digits_value 10 digits in
    if is_numeral digits && nat_lt n (2 ^ 32) then Some n else None

-- a number, if it is from `least` to `most`
abbrev pub within : ℕ → ℕ → ℕ → Option ℕ
within least most n = if nat_le least n && nat_le n most then Some n else None

-- the number of an option, within its bounds
abbrev pub number_of : Text → ℕ → ℕ → List Row → Option ℕ
number_of id least most rows = option_and_then (within least most) (option_and_then number_in (one_of id rows))

-- whether a flag is up
abbrev pub flag_of : Text → List Row → Bool
flag_of id rows = option_map_or (λ text. bytes_eq text (codes "true")) (one_of id rows) false

-- the word of this name, and the words of this name
abbrev pub word_of : Text → List Row → Text
word_of id rows = unwrap_or (first_of id rows) []

abbrev pub words_of : Text → List Row → List Text
words_of id rows = unwrap_or (all_of id rows) []

abbrev pub run_with : List Row → ℕ → ℕ → Run
run_with rows carriers events = record {
  carriers = carriers;
  events = events;
  trace = flag_of (codes "trace") rows;
  main = word_of (codes "MAIN") rows;
  files = words_of (codes "FILE") rows;
}

-- the run that was matched
abbrev pub run_of : List Row → Option Run
run_of rows =
    option_and_then (λ carriers. option_map (λ events. run_with rows carriers events) (number_of (codes "events") 1000 33554432 rows))
    (number_of (codes "carriers") 1 64 rows)

abbrev pub gen_with : ℕ → ℕ → Gen
gen_with carriers count = record { carriers = carriers; count = count }

-- the run of the generated program that was matched
abbrev pub gen_of : List Row → Option Gen
gen_of rows =
    option_and_then (λ carriers. option_map (gen_with carriers) (number_of (codes "COUNT") 1 50000 rows)) (number_of (codes "carriers") 1 64 rows)

-- the command of this name that was matched
abbrev pub named : Text → List Row → Option Command
named name rows =
    if bytes_eq name (codes "run") then option_map run (run_of rows)
    else (if bytes_eq name (codes "asm") then Some (asm (word_of (codes "FILE") rows))
    else (if bytes_eq name (codes "list") then Some (list (word_of (codes "FILE") rows))
    else (if bytes_eq name (codes "gen") then option_map gen (gen_of rows)
    else None)))

-- the command that was matched, by its name
abbrev pub matched : Text × List Row → Option Command
matched p = named p.0 p.1

-- whether it is no mistake, but the help or the version is asked for
abbrev pub asks_for_text : ErrorKind → Bool
asks_for_text DisplayHelp = true
asks_for_text DisplayVersion = true
asks_for_text other = false

-- the command where clap has these reasons to give no matches
abbrev pub command_by : Kinds → List Text → Option Command
command_by [] words = option_and_then matched (subcommand_of command_line words)
command_by (k ∷ ks) words = if asks_for_text k then Some help else None

-- the command that the arguments spell, of which the first is the program's name
abbrev pub command_of : List Text → Option Command
command_of words = command_by (fault_of command_line words) words
