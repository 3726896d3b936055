-- Plain words of `run` always spell it.
use Rattle.std.proofs.Common.{◌≡◌, ◌<◌, ◌^◌, List, ◌∷◌, length, Some, refl, ap, ◌∙◌, codes}
use Rattle.std.specs.Prelude.{option_map}
use Rattle.std.specs.List.{AllByRecursion}
use Rattle.clap.specs.Walk.{Text}
use Rattle.arguments.specs.Commands.{command_of, run}
use Rattle.arguments.specs.PlainWords.{AreDifferent, IsInRange, IsPlain, RunOption, plain_run, plain_run_words}
use Rattle.arguments.proofs.PlainCommands.{IsCommand, spelled}
use Rattle.arguments.proofs.PlainRun.{ends, in_files, plain_rows, run_shape, run_words}
use Rattle.arguments.proofs.PlainRunRows.{defaults_are, defaults_quiet, plain_run_read, run_checks, with_all}
use Rattle.arguments.proofs.PlainWalk.{comes}

run_is : IsCommand (codes "run") run_shape
run_is = record { met = refl; entered = refl }

pub plain_run_is_spelled : (program : Text) (os : List RunOption) (m f : Text) (fs : List Text) → AllByRecursion IsInRange os → AreDifferent os → IsPlain m → IsPlain f → AllByRecursion IsPlain fs → length (f ∷ fs) < 2 ^ 64
    → command_of (plain_run_words program os m (f ∷ fs)) ≡ Some (run (plain_run os m (f ∷ fs)))
plain_run_is_spelled program os m f fs range different main_plain file_plain plain few =
    let e = ends os m f fs different range main_plain file_plain plain few in
    let given = plain_rows os m (f ∷ fs) in
    let come = comes run_shape (run_words os m (f ∷ fs)) (in_files e.last) given (with_all given) refl e.leads e.at (defaults_are given) (defaults_quiet given) (run_checks os m (f ∷ fs) range) in
    spelled (codes "run") run_shape run_is program (run_words os m (f ∷ fs)) (with_all given) come
    ∙ ap (option_map run) (plain_run_read os m (f ∷ fs) range)
