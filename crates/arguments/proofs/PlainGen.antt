-- The walk of clap over the plain words of `gen`, and what is read of it.
use Rattle.std.proofs.Common.{◌≡◌, ℕ, ◌≤◌, false, List, [], ◌∷◌, ◌++◌, Option, None, Some, refl, ap, ◌∙◌, arith, codes}
use Rattle.std.specs.Prelude.{IfSome, fold, option_and_then, option_map, pos, unwrap_or}
use Rattle.std.specs.Fmt.{decimal}
use Rattle.clap.specs.Facts.{parser_of_value}
use Rattle.clap.specs.Faults.{check_fault, defaults_fault}
use Rattle.clap.specs.Kinds.{values_kinds}
use Rattle.clap.specs.Simple.{Shape, built_leaf, inherited}
use Rattle.clap.specs.Walk.{Held, Row, Text, has_row, nothing_held, walk_from, with_default}
use Rattle.clap.specs.declared.builder.value_parser.Reading.TheVariants.{WithoutMinus}
use Rattle.clap.specs.declared.builder.value_parser.ValueParser.{ValueParser}
use Rattle.clap.specs.declared.builder.value_parser.ValueParser.TheVariants as parsers
use Rattle.clap.specs.declared.parser.matches.ValueSource.TheVariants.{DefaultValue}
use Rattle.arguments.specs.CommandLine.{command_line, gen_app}
use Rattle.arguments.specs.Commands.{command_of, gen, gen_of, gen_with}
use Rattle.arguments.specs.PlainWords.{carriers_words, plain_gen, plain_gen_words}
use Rattle.arguments.proofs.PlainCommands.{IsCommand, spelled}
use Rattle.arguments.proofs.PlainRows.{number_by, number_given, row_named}
use Rattle.arguments.proofs.PlainWalk.{At, Comes, HasNumber, HasWord, Leads, behind_word, comes, leads_nowhere, leads_on, new_row, number_held, number_passes, number_plain, number_row, option_at, option_leads, starts, word_at, word_held, word_leads}

-- the built command `gen`
abbrev gen_shape : Shape
gen_shape = built_leaf (inherited command_line.top gen_app.top)

abbrev count_parser : Option ValueParser
count_parser = Some (parsers.Signed (pos 1) (pos 50000))

has_carriers : HasNumber gen_shape (codes "carriers") (codes "--carriers") (codes "4") 1 64
has_carriers = record { once = refl; by_long = refl; by_id = refl; itself = refl; dashes = refl; long = refl }

has_count : HasWord gen_shape (codes "COUNT") count_parser
has_count = record { once = refl; by_index = refl; by_id = refl }

-- ---- the words

abbrev IsInRange : Option ℕ → Type 0
IsInRange n = IfSome n (λ k. (1 ≤ k) × (k ≤ 64))

abbrev option_rows : Option ℕ → List Row
option_rows None = []
option_rows (Some n) = number_row (codes "carriers") n ∷ []

abbrev count_row : ℕ → Row
count_row count = number_row (codes "COUNT") count

-- behind the option, or where there is none
record Passes (n : Option ℕ) : Type 0 where
  after : Held
  leads : Leads gen_shape (walk_from nothing_held) (carriers_words n) (walk_from after)
  at : At gen_shape after (option_rows n)

option_passes : (n : Option ℕ) → IsInRange n → Passes n
option_passes None range = record { after = nothing_held; leads = leads_nowhere gen_shape (walk_from nothing_held); at = starts gen_shape }
option_passes (Some n) range = record {
  after = number_held gen_shape (codes "carriers") nothing_held n;
  leads = option_leads gen_shape (codes "carriers") (codes "--carriers") (codes "4") 1 64 has_carriers nothing_held [] n (starts gen_shape) range.1 (omega arith);
  at = option_at gen_shape (codes "carriers") (codes "--carriers") (codes "4") 1 64 has_carriers nothing_held [] n (starts gen_shape) refl range.0 range.1 (omega arith);
}

no_count_yet : (n : Option ℕ) → has_row (codes "COUNT") (option_rows n) ≡ false
no_count_yet None = refl
no_count_yet (Some n) = refl

count_passes : (count : ℕ) → 1 ≤ count → count ≤ 50000 → values_kinds false (parser_of_value count_parser) (decimal count ∷ []) ≡ []
count_passes count some few = rw (number_passes 1 50000 count some few (omega arith)) refl

-- ---- the rows

abbrev given_rows : Option ℕ → ℕ → List Row
given_rows n count = option_rows n ++ count_row count ∷ []

-- with the default
abbrev all_rows : Option ℕ → ℕ → List Row
all_rows None count = count_row count ∷ new_row (codes "carriers") WithoutMinus DefaultValue (codes "4" ∷ []) ∷ []
all_rows (Some n) count = given_rows (Some n) count

defaults_are : (n : Option ℕ) (count : ℕ) → fold with_default (given_rows n count) gen_shape.rules ≡ all_rows n count
defaults_are None count = refl
defaults_are (Some n) count = refl

defaults_quiet : (n : Option ℕ) (count : ℕ) → defaults_fault (given_rows n count) gen_shape.rules ≡ []
unfolding defaults_fault
defaults_quiet None count = refl
defaults_quiet (Some n) count = refl

checks : (n : Option ℕ) (count : ℕ) → check_fault gen_shape (all_rows n count) false ≡ []
checks None count = refl
checks (Some n) count = refl

gen_comes : (n : Option ℕ) (count : ℕ) → IsInRange n → 1 ≤ count → count ≤ 50000 → Comes gen_shape (carriers_words n ++ decimal count ∷ []) (all_rows n count)
gen_comes n count range some few =
    let option = option_passes n range in
    let h = option.after in
    let last = behind_word (word_held gen_shape (codes "COUNT") h (decimal count)) in
    let leads = word_leads gen_shape (codes "COUNT") count_parser has_count h (option_rows n) (decimal count) option.at (number_plain count (omega arith)) in
    let at = word_at gen_shape (codes "COUNT") count_parser has_count h (option_rows n) (decimal count) option.at (no_count_yet n) (count_passes count some few) in
    comes gen_shape (carriers_words n ++ decimal count ∷ []) last (given_rows n count) (all_rows n count) refl
    (leads_on gen_shape (walk_from nothing_held) (walk_from h) last (carriers_words n) (decimal count ∷ []) option.leads leads) at
    (defaults_are n count) (defaults_quiet n count) (checks n count)

-- ---- what is read of them

carriers_are : (n : Option ℕ) (count : ℕ) → IsInRange n → number_by 1 64 (row_named (codes "carriers") (all_rows n count)) ≡ Some (unwrap_or n 4)
carriers_are None count range = refl
carriers_are (Some n) count range = number_given (codes "carriers") 1 64 n range.0 range.1 (omega arith)

count_is : (n : Option ℕ) (count : ℕ) → 1 ≤ count → count ≤ 50000 → number_by 1 50000 (row_named (codes "COUNT") (all_rows n count)) ≡ Some count
count_is None count some few = number_given (codes "COUNT") 1 50000 count some few (omega arith)
count_is (Some n) count some few = number_given (codes "COUNT") 1 50000 count some few (omega arith)

gen_read : (n : Option ℕ) (count : ℕ) → IsInRange n → 1 ≤ count → count ≤ 50000 → gen_of (all_rows n count) ≡ Some (plain_gen n count)
gen_read n count range some few =
    ap (λ (c : Option ℕ). option_and_then (λ k. option_map (gen_with k) (number_by 1 50000 (row_named (codes "COUNT") (all_rows n count)))) c) (carriers_are n count range)
    ∙ ap (λ (c : Option ℕ). option_map (gen_with (unwrap_or n 4)) c) (count_is n count some few)

gen_is : IsCommand (codes "gen") gen_shape
gen_is = record { met = refl; entered = refl }

pub plain_gen_is_spelled : (program : Text) (n : Option ℕ) (count : ℕ) → IfSome n (λ k. (1 ≤ k) × (k ≤ 64)) → 1 ≤ count → count ≤ 50000
    → command_of (plain_gen_words program n count) ≡ Some (gen (plain_gen n count))
plain_gen_is_spelled program n count range some few =
    spelled (codes "gen") gen_shape gen_is program (carriers_words n ++ decimal count ∷ []) (all_rows n count) (gen_comes n count range some few)
    ∙ ap (option_map gen) (gen_read n count range some few)
