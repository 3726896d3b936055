-- What clap matches for the plain words of `run`, and what is read of it.
use Rattle.std.proofs.Common.{◌≡◌, ℕ, ◌≤◌, Bool, true, false, List, [], ◌∷◌, ◌++◌, map, Option, Some, None, refl, sym, ap, subst, ◌∙◌, arith, codes}
use Rattle.std.specs.Prelude.{◌||◌, fold, option_and_then, option_map, slice_get, unwrap_or, if◌then◌else◌}
use Rattle.std.specs.List.{AllByRecursion}
use Rattle.std.specs.Option.{option_map_or, option_or}
use Rattle.std.specs.Str.{bytes_eq}
use Rattle.std.proofs.lemmas.List.Folds.{find-append}
use Rattle.clap.specs.Faults.{check_fault, defaults_fault}
use Rattle.clap.specs.Facts.{explicit_source}
use Rattle.clap.specs.Kinds.{Kinds}
use Rattle.clap.specs.Takes.{is_given}
use Rattle.clap.specs.Walk.{Row, Text, has_row, row_text, with_default}
use Rattle.clap.specs.declared.builder.value_parser.Reading.TheVariants.{AsWritten, WithoutMinus}
use Rattle.clap.specs.declared.error.kind.ErrorKind.TheVariants as kind
use Rattle.arguments.specs.Commands.{run_of, run_with}
use Rattle.arguments.specs.PlainWords.{IsInRange, RunOption, carriers, carriers_given, events, events_given, plain_run, trace, trace_given}
use Rattle.arguments.proofs.PlainWalk.{or_both}
use Rattle.arguments.proofs.PlainRows.{number_by, number_given, or_nones, other_default, own_default, own_given, row_named, with_one}
use Rattle.arguments.proofs.PlainRun.{carriers_arg, events_arg, files_arg, files_row, main_arg, main_row, option_row, plain_rows, run_shape, trace_arg}

-- ---- defaults

if_same : {X : Type 0} (b : Bool) (x : X) → (if b then x else x) ≡ x
if_same true x = refl
if_same false x = refl

or_true : (b : Bool) → (b || true) ≡ true
or_true true = refl
or_true false = refl

-- the rows with their defaults
abbrev pub with_all : List Row → List Row
with_all rows = with_one (codes "trace") AsWritten (codes "false") (with_one (codes "events") WithoutMinus (codes "4194304") (with_one (codes "carriers") WithoutMinus (codes "4") rows))

pub defaults_are : (rows : List Row) → fold with_default rows run_shape.rules ≡ with_all rows
defaults_are rows =
    let d = with_all rows in
    let m = if has_row (codes "MAIN") d then d else d in
    let f = if has_row (codes "FILE") m then m else m in
    if_same (has_row (codes "help") f) f ∙ if_same (has_row (codes "FILE") m) m ∙ if_same (has_row (codes "MAIN") d) d

given_none : (b : Bool) (x : Kinds) → (if b || true then [] else x) ≡ []
given_none true x = refl
given_none false x = refl

pub defaults_quiet : (rows : List Row) → defaults_fault rows run_shape.rules ≡ []
unfolding defaults_fault
defaults_quiet rows =
    let a = with_default rows carriers_arg in
    let b = with_default a events_arg in
    let c = with_default b trace_arg in
    let d = with_default c main_arg in
    let e = with_default d files_arg in
    or_both _ _ (if_same (has_row (codes "carriers") rows || false) [])
    (or_both _ _ (if_same (has_row (codes "events") a || false) [])
    (or_both _ _ (if_same (has_row (codes "trace") b || false) [])
    (or_both _ _ (given_none (has_row (codes "MAIN") c) [])
    (or_both _ _ (given_none (has_row (codes "FILE") d) [])
    (or_both _ _ (given_none (has_row (codes "help") e) (kind.DisplayHelp ∷ [])) refl)))))

-- ---- what is read of the rows

carriers_row : (os : List RunOption) → row_named (codes "carriers") (map option_row os) ≡ option_map (λ n. option_row (carriers n)) (carriers_given os)
carriers_row [] = refl
carriers_row (carriers n ∷ os) = refl
carriers_row (events n ∷ os) = carriers_row os
carriers_row (trace ∷ os) = carriers_row os

events_row : (os : List RunOption) → row_named (codes "events") (map option_row os) ≡ option_map (λ n. option_row (events n)) (events_given os)
events_row [] = refl
events_row (carriers n ∷ os) = events_row os
events_row (events n ∷ os) = refl
events_row (trace ∷ os) = events_row os

trace_row : (os : List RunOption) → row_named (codes "trace") (map option_row os) ≡ (if trace_given os then Some (option_row trace) else None)
trace_row [] = refl
trace_row (carriers n ∷ os) = trace_row os
trace_row (events n ∷ os) = trace_row os
trace_row (trace ∷ os) = refl

no_main_row : (os : List RunOption) → row_named (codes "MAIN") (map option_row os) ≡ None
no_main_row [] = refl
no_main_row (carriers n ∷ os) = no_main_row os
no_main_row (events n ∷ os) = no_main_row os
no_main_row (trace ∷ os) = no_main_row os

no_files_row : (os : List RunOption) → row_named (codes "FILE") (map option_row os) ≡ None
no_files_row [] = refl
no_files_row (carriers n ∷ os) = no_files_row os
no_files_row (events n ∷ os) = no_files_row os
no_files_row (trace ∷ os) = no_files_row os

-- a row among those of the words: that of an option, or MAIN's or the FILEs'
among : (id : Text) (os : List RunOption) (m : Text) (fs : List Text)
    → row_named id (plain_rows os m fs) ≡ option_or (option_or (row_named id (map option_row os)) (row_named id (main_row m ∷ []))) (row_named id (files_row fs ∷ []))
among id os m fs =
    find-append (λ r. bytes_eq r.id id) (map option_row os ++ main_row m ∷ []) (files_row fs ∷ [])
    ∙ ap (λ (o : Option Row). option_or o (row_named id (files_row fs ∷ []))) (find-append (λ r. bytes_eq r.id id) (map option_row os) (main_row m ∷ []))

carriers_fit : (os : List RunOption) (n : ℕ) → AllByRecursion IsInRange os → carriers_given os ≡ Some n → (1 ≤ n) × (n ≤ 64)
carriers_fit [] n range is = absurd cc
carriers_fit (carriers m ∷ os) n range is = let same : m ≡ n = cc in subst (λ (k : ℕ). (1 ≤ k) × (k ≤ 64)) same range.0
carriers_fit (events m ∷ os) n range is = carriers_fit os n range.1 is
carriers_fit (trace ∷ os) n range is = carriers_fit os n range.1 is

events_fit : (os : List RunOption) (n : ℕ) → AllByRecursion IsInRange os → events_given os ≡ Some n → (1000 ≤ n) × (n ≤ 33554432)
events_fit [] n range is = absurd cc
events_fit (carriers m ∷ os) n range is = events_fit os n range.1 is
events_fit (events m ∷ os) n range is = let same : m ≡ n = cc in subst (λ (k : ℕ). (1000 ≤ k) × (k ≤ 33554432)) same range.0
events_fit (trace ∷ os) n range is = events_fit os n range.1 is

module _ (os : List RunOption) (m : Text) (fs : List Text) (range : AllByRecursion IsInRange os) where
  -- a row that is no option's
  pub word_row : (id : Text) → bytes_eq (codes "carriers") id ≡ false → bytes_eq (codes "events") id ≡ false → bytes_eq (codes "trace") id ≡ false
      → row_named id (with_all (plain_rows os m fs)) ≡ row_named id (plain_rows os m fs)
  word_row id one two three =
      let rows = plain_rows os m fs in
      let a = with_one (codes "carriers") WithoutMinus (codes "4") rows in
      let b = with_one (codes "events") WithoutMinus (codes "4194304") a in
      other_default (codes "trace") id AsWritten (codes "false") b three ∙ other_default (codes "events") id WithoutMinus (codes "4194304") a two ∙ other_default (codes "carriers") id WithoutMinus (codes "4") rows one

  pub main_is_there : row_named (codes "MAIN") (with_all (plain_rows os m fs)) ≡ Some (main_row m)
  main_is_there =
      word_row (codes "MAIN") refl refl refl ∙ among (codes "MAIN") os m fs
      ∙ ap (λ (o : Option Row). option_or (option_or o (Some (main_row m))) None) (no_main_row os)

  pub files_are_there : row_named (codes "FILE") (with_all (plain_rows os m fs)) ≡ Some (files_row fs)
  files_are_there =
      word_row (codes "FILE") refl refl refl ∙ among (codes "FILE") os m fs
      ∙ ap (λ (o : Option Row). option_or (option_or o None) (Some (files_row fs))) (no_files_row os)

  pub carriers_number : number_by 1 64 (row_named (codes "carriers") (with_all (plain_rows os m fs))) ≡ Some (unwrap_or (carriers_given os) 4)
  carriers_number =
      let rows = plain_rows os m fs in
      let a = with_one (codes "carriers") WithoutMinus (codes "4") rows in
      let b = with_one (codes "events") WithoutMinus (codes "4194304") a in
      let same = other_default (codes "trace") (codes "carriers") AsWritten (codes "false") b refl ∙ other_default (codes "events") (codes "carriers") WithoutMinus (codes "4194304") a refl in
      let told = among (codes "carriers") os m fs ∙ or_nones (row_named (codes "carriers") (map option_row os)) ∙ carriers_row os in
      ap (number_by 1 64) same ∙ go (carriers_given os) refl told
    where
      go : (o : Option ℕ) → carriers_given os ≡ o → row_named (codes "carriers") (plain_rows os m fs) ≡ option_map (λ n. option_row (carriers n)) (carriers_given os)
          → number_by 1 64 (row_named (codes "carriers") (with_one (codes "carriers") WithoutMinus (codes "4") (plain_rows os m fs))) ≡ Some (unwrap_or (carriers_given os) 4)
      go None e told =
          let none = told ∙ ap (option_map (λ n. option_row (carriers n))) e in
          ap (number_by 1 64) (own_default (codes "carriers") WithoutMinus (codes "4") (plain_rows os m fs) refl none) ∙ ap (λ (x : Option ℕ). Some (unwrap_or x 4)) (sym e)
      go (Some n) e told =
          let given = told ∙ ap (option_map (λ n. option_row (carriers n))) e in
          let fits = carriers_fit os n range e in
          ap (number_by 1 64) (own_given (codes "carriers") WithoutMinus (codes "4") (plain_rows os m fs) (option_row (carriers n)) given)
          ∙ number_given (codes "carriers") 1 64 n fits.0 fits.1 (omega arith) ∙ ap (λ (x : Option ℕ). Some (unwrap_or x 4)) (sym e)

  pub events_number : number_by 1000 33554432 (row_named (codes "events") (with_all (plain_rows os m fs))) ≡ Some (unwrap_or (events_given os) 4194304)
  events_number =
      let rows = plain_rows os m fs in
      let a = with_one (codes "carriers") WithoutMinus (codes "4") rows in
      let b = with_one (codes "events") WithoutMinus (codes "4194304") a in
      let told = other_default (codes "carriers") (codes "events") WithoutMinus (codes "4") rows refl ∙ among (codes "events") os m fs ∙ or_nones (row_named (codes "events") (map option_row os)) ∙ events_row os in
      ap (number_by 1000 33554432) (other_default (codes "trace") (codes "events") AsWritten (codes "false") b refl) ∙ go (events_given os) refl told
    where
      go : (o : Option ℕ) → events_given os ≡ o
          → row_named (codes "events") (with_one (codes "carriers") WithoutMinus (codes "4") (plain_rows os m fs)) ≡ option_map (λ n. option_row (events n)) (events_given os)
          → number_by 1000 33554432 (row_named (codes "events") (with_one (codes "events") WithoutMinus (codes "4194304") (with_one (codes "carriers") WithoutMinus (codes "4") (plain_rows os m fs)))) ≡ Some (unwrap_or (events_given os) 4194304)
      go None e told =
          let none = told ∙ ap (option_map (λ n. option_row (events n))) e in
          ap (number_by 1000 33554432) (own_default (codes "events") WithoutMinus (codes "4194304") (with_one (codes "carriers") WithoutMinus (codes "4") (plain_rows os m fs)) refl none)
          ∙ ap (λ (x : Option ℕ). Some (unwrap_or x 4194304)) (sym e)
      go (Some n) e told =
          let given = told ∙ ap (option_map (λ n. option_row (events n))) e in
          let fits = events_fit os n range e in
          ap (number_by 1000 33554432) (own_given (codes "events") WithoutMinus (codes "4194304") (with_one (codes "carriers") WithoutMinus (codes "4") (plain_rows os m fs)) (option_row (events n)) given)
          ∙ number_given (codes "events") 1000 33554432 n fits.0 fits.1 (omega arith) ∙ ap (λ (x : Option ℕ). Some (unwrap_or x 4194304)) (sym e)

  abbrev flag_by : Option Row → Bool
  flag_by o = option_map_or (λ text. bytes_eq text (codes "true")) (option_and_then row_text o) false

  pub trace_flag : flag_by (row_named (codes "trace") (with_all (plain_rows os m fs))) ≡ trace_given os
  trace_flag =
      let rows = plain_rows os m fs in
      let a = with_one (codes "carriers") WithoutMinus (codes "4") rows in
      let told = other_default (codes "events") (codes "trace") WithoutMinus (codes "4194304") a refl ∙ other_default (codes "carriers") (codes "trace") WithoutMinus (codes "4") rows refl
      ∙ among (codes "trace") os m fs ∙ or_nones (row_named (codes "trace") (map option_row os)) ∙ trace_row os in
      go (trace_given os) refl told
    where
      go : (b : Bool) → trace_given os ≡ b
          → row_named (codes "trace") (with_one (codes "events") WithoutMinus (codes "4194304") (with_one (codes "carriers") WithoutMinus (codes "4") (plain_rows os m fs))) ≡ (if trace_given os then Some (option_row trace) else None)
          → flag_by (row_named (codes "trace") (with_all (plain_rows os m fs))) ≡ trace_given os
      go true e told =
          let given = told ∙ ap (λ (b : Bool). if b then Some (option_row trace) else None) e in
          ap flag_by (own_given (codes "trace") AsWritten (codes "false") (with_one (codes "events") WithoutMinus (codes "4194304") (with_one (codes "carriers") WithoutMinus (codes "4") (plain_rows os m fs))) (option_row trace) given) ∙ sym e
      go false e told =
          let none = told ∙ ap (λ (b : Bool). if b then Some (option_row trace) else None) e in
          ap flag_by (own_default (codes "trace") AsWritten (codes "false") (with_one (codes "events") WithoutMinus (codes "4194304") (with_one (codes "carriers") WithoutMinus (codes "4") (plain_rows os m fs))) refl none) ∙ sym e

  -- the run that is read
  pub plain_run_read : run_of (with_all (plain_rows os m fs)) ≡ Some (plain_run os m fs)
  plain_run_read =
      ap (λ (c : Option ℕ). option_and_then (λ carriers. option_map (λ events. run_with (with_all (plain_rows os m fs)) carriers events)
      (number_by 1000 33554432 (row_named (codes "events") (with_all (plain_rows os m fs))))) c) carriers_number
      ∙ ap (λ (e : Option ℕ). option_map (λ events. run_with (with_all (plain_rows os m fs)) (unwrap_or (carriers_given os) 4) events) e) events_number
      ∙ ap Some (run_is trace_flag main_is_there files_are_there)
    where
      run_is : flag_by (row_named (codes "trace") (with_all (plain_rows os m fs))) ≡ trace_given os → row_named (codes "MAIN") (with_all (plain_rows os m fs)) ≡ Some (main_row m)
          → row_named (codes "FILE") (with_all (plain_rows os m fs)) ≡ Some (files_row fs)
          → run_with (with_all (plain_rows os m fs)) (unwrap_or (carriers_given os) 4) (unwrap_or (events_given os) 4194304) ≡ plain_run os m fs
      run_is flag main files = λ i. record {
        carriers = unwrap_or (carriers_given os) 4;
        events = unwrap_or (events_given os) 4194304;
        trace = flag i;
        main = ap (λ (o : Option Row). unwrap_or (option_and_then (λ r. slice_get r.values 0) o) []) main i;
        files = ap (λ (o : Option Row). unwrap_or (option_map (λ r. r.values) o) []) files i;
      }

-- the last checks, where MAIN and the FILEs are there
check_quiet : (rows : List Row) (m : Text) (fs : List Text) → row_named (codes "MAIN") rows ≡ Some (main_row m) → row_named (codes "FILE") rows ≡ Some (files_row fs) → check_fault run_shape rows false ≡ []
check_quiet rows m fs main files =
    let has_main : is_given (codes "MAIN") rows ≡ true = ap (λ (o : Option Row). option_map_or (λ r. explicit_source r.source) o false) main in
    let has_files : is_given (codes "FILE") rows ≡ true = ap (λ (o : Option Row). option_map_or (λ r. explicit_source r.source) o false) files in
    rw (has_main, has_files) refl

pub run_checks : (os : List RunOption) (m : Text) (fs : List Text) → AllByRecursion IsInRange os → check_fault run_shape (with_all (plain_rows os m fs)) false ≡ []
run_checks os m fs range = check_quiet (with_all (plain_rows os m fs)) m fs (main_is_there os m fs range) (files_are_there os m fs range)
