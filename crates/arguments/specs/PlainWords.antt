-- Plain words, which always spell their command: the program's name, a command's name, each of its options at most once, and then its other
-- words. A number comes after its option, is within its bounds, and is in decimal without leading zeros. A word that is no number begins with
-- no minus and isn't empty.
use Rattle.std.specs.Prelude.{◌≢◌, ℕ, ◌≤◌, Bool, true, false, List, [], ◌∷◌, ◌++◌, Option, Some, None, codes, unwrap_or}
use Rattle.std.specs.Fmt.{decimal}
use Rattle.std.specs.List.{AllByRecursion, flat_map}
use Rattle.clap.specs.Walk.{Text}
use Rattle.arguments.specs.Commands.{Gen, Run}

-- a word that isn't empty, and begins with no minus
abbrev pub IsPlain : Text → Type 0
IsPlain [] = ⊥
IsPlain (c ∷ cs) = c ≢ 45

-- ---- `run [--carriers N] [--events N] [--trace] MAIN FILE..`

pub data RunOption : Type 0 where
  carriers : ℕ → RunOption
  events : ℕ → RunOption
  trace : RunOption

abbrev pub option_words : RunOption → List Text
option_words (carriers n) = codes "--carriers" ∷ decimal n ∷ []
option_words (events n) = codes "--events" ∷ decimal n ∷ []
option_words trace = codes "--trace" ∷ []

-- the number is within the option's bounds
abbrev pub IsInRange : RunOption → Type 0
IsInRange (carriers n) = (1 ≤ n) × (n ≤ 64)
IsInRange (events n) = (1000 ≤ n) × (n ≤ 33554432)
IsInRange trace = Unit {0}

abbrev pub AreOther : RunOption → RunOption → Type 0
AreOther (carriers m) (carriers n) = ⊥
AreOther (events m) (events n) = ⊥
AreOther trace trace = ⊥
AreOther a b = Unit {0}

-- no option comes twice
abbrev pub AreDifferent : List RunOption → Type 0
AreDifferent [] = Unit {0}
AreDifferent (o ∷ os) = AllByRecursion (AreOther o) os × AreDifferent os

abbrev pub plain_run_words : Text → List RunOption → Text → List Text → List Text
plain_run_words program options main files = program ∷ (codes "run" ∷ (flat_map option_words options ++ (main ∷ files)))

-- the number that is given by an option, and whether the flag is up
abbrev pub carriers_given : List RunOption → Option ℕ
carriers_given [] = None
carriers_given (carriers n ∷ os) = Some n
carriers_given (o ∷ os) = carriers_given os

abbrev pub events_given : List RunOption → Option ℕ
events_given [] = None
events_given (events n ∷ os) = Some n
events_given (o ∷ os) = events_given os

abbrev pub trace_given : List RunOption → Bool
trace_given [] = false
trace_given (trace ∷ os) = true
trace_given (o ∷ os) = trace_given os

-- the run that plain words spell
abbrev pub plain_run : List RunOption → Text → List Text → Run
plain_run options main files = record {
  carriers = unwrap_or (carriers_given options) 4;
  events = unwrap_or (events_given options) 4194304;
  trace = trace_given options;
  main = main;
  files = files;
}

-- ---- `asm FILE` and `list FILE`

abbrev pub plain_asm_words : Text → Text → List Text
plain_asm_words program file = program ∷ (codes "asm" ∷ (file ∷ []))

abbrev pub plain_list_words : Text → Text → List Text
plain_list_words program file = program ∷ (codes "list" ∷ (file ∷ []))

-- ---- `gen [--carriers N] COUNT`

-- `--carriers` with its number, or nothing
abbrev pub carriers_words : Option ℕ → List Text
carriers_words None = []
carriers_words (Some n) = option_words (carriers n)

abbrev pub plain_gen_words : Text → Option ℕ → ℕ → List Text
plain_gen_words program n count = program ∷ (codes "gen" ∷ (carriers_words n ++ (decimal count ∷ [])))

-- the run of the generated program that plain words spell
abbrev pub plain_gen : Option ℕ → ℕ → Gen
plain_gen n count = record { carriers = unwrap_or n 4; count = count }
