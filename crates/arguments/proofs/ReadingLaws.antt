-- What is answered to arguments, by what clap makes of them.
use Rattle.std.proofs.Common.{◌≡◌, true, Bool, List, [], ◌∷◌, Option, Some, None, Result, Ok, Err, String, inl, inr, length, arith, refl, sym, ap, subst, ◌∙◌}
use Rattle.std.specs.Prelude.{◌==◌, IfErr, IfOk, option_and_then, if◌then◌else◌}
use Rattle.std.specs.Global.{Global}
use Rattle.std.proofs.lemmas.Bool.{eqb-true}
use Rattle.std.specs.List.{AllByRecursion}
use Rattle.clap.proofs.OnLiterals.{clap_on_literals}
use Rattle.clap.specs.Faults.{fault_of, is_simple_and_free}
use Rattle.clap.specs.Kinds.{FailsBy, IsAmong, Kinds}
use Rattle.clap.specs.Simple.{App, HasMatchesOf, is_simple, subcommand_of}
use Rattle.clap.specs.Values.{kind_of}
use Rattle.clap.specs.Walk.{Text}
use Rattle.clap.specs.declared.error.Error.{Error}
use Rattle.clap.specs.declared.error.kind.ErrorKind.{ErrorKind}
use Rattle.clap.specs.declared.error.kind.ErrorKind.TheVariants.{OutOfMemory}
use Rattle.clap.specs.declared.parser.matches.ArgMatches.{ArgMatches}
use Rattle.arguments.specs.CommandLine.{command_line}
use Rattle.arguments.specs.Commands.{Command, command_by, command_of, help, asks_for_text, matched, texts}
use Rattle.arguments.specs.Meanings.{AnswersTo, IsRefusal, command_meaning, matched_in}
use Rattle.arguments.specs.declared.command.Command.{Command as CodeCommand}
use Rattle.arguments.specs.declared.command.Command.TheVariants as code
use Rattle.arguments.specs.declared.command.CommandError.{CommandError}
use Rattle.arguments.specs.declared.command.CommandError.TheVariants.{Usage, NoMemory}
use Rattle.arguments.proofs.FaultLaws.{AreAlike, faults_alike}

simple : is_simple command_line ≡ true
simple = refl

free : is_simple_and_free command_line ≡ true
free = refl

-- the answer is to arguments that spell this
abbrev pub Answers : Option Command → Result CodeCommand CommandError → Type 0
Answers spelled (Ok c) = spelled ≡ Some (command_meaning c)
Answers spelled (Err e) = IsRefusal spelled e

-- ---- no matches

-- what one of the reasons says
abbrev told : ErrorKind → Option Command
told k = if asks_for_text k then Some help else None

same_asking : (x : ErrorKind) (ks : Kinds) (k : ErrorKind) → AllByRecursion (λ y. asks_for_text y ≡ asks_for_text x) ks → IsAmong k ks → asks_for_text k ≡ asks_for_text x
same_asking x [] k alike among = absurd among
same_asking x (y ∷ ks) k alike (inl e) = ap asks_for_text e ∙ alike.0
same_asking x (y ∷ ks) k alike (inr among) = same_asking x ks k alike.1 among

by_reason : (ks : Kinds) (words : List Text) (k : ErrorKind) → AreAlike ks → IsAmong k ks → command_by ks words ≡ told k
by_reason [] words k alike among = absurd among
by_reason (x ∷ ks) words k alike (inl e) = ap told (sym e)
by_reason (x ∷ ks) words k alike (inr among) = ap (λ (b : Bool). if b then Some help else None) (sym (same_asking x ks k alike among))

-- memory ran out, or there is such a reason
answered : (spelled : Option Command) (k : ErrorKind) (r : Result CodeCommand CommandError) → spelled ≡ told k → AnswersTo k r → Answers spelled r
answered spelled k (Ok (code.Help text)) is h = is ∙ ap (λ (b : Bool). if b then Some help else None) h
answered spelled k (Ok command) is h = absurd h
answered spelled k (Err (Usage text)) is h = is ∙ ap (λ (b : Bool). if b then Some help else None) h.1
answered spelled k (Err NoMemory) is h = tt

without_memory : (spelled : Option Command) (k : ErrorKind) (r : Result CodeCommand CommandError) → k ≡ OutOfMemory → AnswersTo k r → Answers spelled r
without_memory spelled k (Ok (code.Help text)) is h = let bad : asks_for_text OutOfMemory ≡ true = subst (λ (x : ErrorKind). asks_for_text x ≡ true) is h in absurd cc
without_memory spelled k (Ok command) is h = absurd h
without_memory spelled k (Err (Usage text)) is h = absurd (h.0 is)
without_memory spelled k (Err NoMemory) is h = tt

pub refused : (a : App) (words : List Text) (e : Error) (r : Result CodeCommand CommandError) → a ≡ command_line
    → (is_simple_and_free a ≡ true → FailsBy {T = ArgMatches} (fault_of a words) (Err e)) → AnswersTo (kind_of e) r → Answers (command_of words) r
refused a words e r is fails answers = by_cases (fails (ap is_simple_and_free is ∙ free))
  where
    by_cases : FailsBy {T = ArgMatches} (fault_of a words) (Err e) → Answers (command_of words) r
    by_cases (inl memory) = without_memory (command_of words) (kind_of e) r memory answers
    by_cases (inr among) =
        answered (command_of words) (kind_of e) r
        (by_reason (fault_of command_line words) words (kind_of e) (faults_alike words) (subst (λ (x : App). IsAmong (kind_of e) (fault_of x words)) is among)) answers

-- ---- matches

pub spelled_by : (a : App) (words : List Text) (m : ArgMatches) → a ≡ command_line → (is_simple_and_free a ≡ true → FailsBy (fault_of a words) (Ok m))
    → HasMatchesOf a words m → matched_in m ≡ command_of words
spelled_by a words m is passes has =
    let none = ap (λ (x : App). fault_of x words) (sym is) ∙ passes (ap is_simple_and_free is ∙ free) in
    ap (option_and_then matched) ((has (ap is_simple is ∙ simple)).1 ∙ ap (λ (x : App). subcommand_of x words) is)
    ∙ sym (ap (λ (ks : Kinds). command_by ks words) none)

-- ---- no arguments

-- without even the program's name they spell nothing
nothing_spelled : command_of [] ≡ None
unfolding clap_on_literals
nothing_spelled = refl

pub no_arguments : (args : List (String Global)) → (length args == 0) ≡ true → command_of (texts args) ≡ None
no_arguments [] none = nothing_spelled
no_arguments (a ∷ args) none = absurd (omega (arith, eqb-true _ _ none))

-- ---- the two clauses

pub when_ok : (spelled : Option Command) (r : Result CodeCommand CommandError) → Answers spelled r → IfOk r (λ c. spelled ≡ Some (command_meaning c))
when_ok spelled (Ok c) h = h
when_ok spelled (Err e) h = tt

pub when_err : (spelled : Option Command) (r : Result CodeCommand CommandError) → Answers spelled r → IfErr r (IsRefusal spelled)
when_err spelled (Ok c) h = tt
when_err spelled (Err e) h = h
