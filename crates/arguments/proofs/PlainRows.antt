-- The rows that clap matches, with their defaults, and what is read of them.
use Rattle.std.proofs.Common.{◌≡◌, ℕ, ◌≤◌, ◌<◌, ◌^◌, Bool, true, false, List, [], ◌∷◌, Option, Some, None, refl, ap, ◌∙◌, arith}
use Rattle.std.specs.Prelude.{◌||◌, is_some, find, option_and_then, if◌then◌else◌}
use Rattle.std.specs.Fmt.{decimal}
use Rattle.std.specs.Option.{option_or}
use Rattle.std.specs.Str.{bytes_eq}
use Rattle.std.proofs.lemmas.Bool.{ne_eqb, le-leb}
use Rattle.std.proofs.lemmas.List.Folds.{find-append}
use Rattle.clap.specs.Lexer.{without_minus}
use Rattle.clap.specs.Walk.{Row, Text, has_row, row_text, with_values}
use Rattle.clap.specs.declared.builder.value_parser.Reading.{Reading}
use Rattle.clap.specs.declared.parser.matches.ValueSource.TheVariants.{DefaultValue}
use Rattle.arguments.specs.Commands.{number_in, within}
use Rattle.arguments.specs.PlainWords.{IsPlain}
use Rattle.arguments.proofs.PlainWalk.{added, new_row, number_is, number_plain, number_row}

-- ---- rows that are looked up

-- the rows with a default, where there was none
abbrev pub with_one : Text → Reading → Text → List Row → List Row
with_one id how text rows = if has_row id rows then rows else with_values id how DefaultValue (text ∷ []) rows

abbrev pub row_named : Text → List Row → Option Row
row_named id rows = find (λ r. bytes_eq r.id id) rows

row_found : (id : Text) (rows : List Row) → has_row id rows ≡ is_some (row_named id rows)
row_found id [] = refl
row_found id (r ∷ rs) = go (bytes_eq r.id id) (row_found id rs)
  where
    go : (b : Bool) → has_row id rs ≡ is_some (row_named id rs) → (b || has_row id rs) ≡ is_some (if b then Some r else row_named id rs)
    go true e = refl
    go false e = e

or_none : {X : Type 0} (o : Option X) → option_or o None ≡ o
or_none None = refl
or_none (Some x) = refl

-- a default of another argument
pub other_default : (id other : Text) (how : Reading) (text : Text) (rows : List Row) → bytes_eq id other ≡ false → row_named other (with_one id how text rows) ≡ row_named other rows
other_default id other how text rows apart = go (has_row id rows) refl
  where
    go : (b : Bool) → has_row id rows ≡ b → row_named other (if b then rows else with_values id how DefaultValue (text ∷ []) rows) ≡ row_named other rows
    go true e = refl
    go false e =
        ap (row_named other) (added id how DefaultValue (text ∷ []) rows e)
        ∙ find-append (λ r. bytes_eq r.id other) rows (new_row id how DefaultValue (text ∷ []) ∷ [])
        ∙ ap (λ (b : Bool). option_or (row_named other rows) (if b then Some (new_row id how DefaultValue (text ∷ [])) else None)) apart
        ∙ or_none (row_named other rows)

-- and of this one
pub own_default : (id : Text) (how : Reading) (text : Text) (rows : List Row) → bytes_eq id id ≡ true → row_named id rows ≡ None → row_named id (with_one id how text rows) ≡ Some (new_row id how DefaultValue (text ∷ []))
own_default id how text rows same none =
    let absent : has_row id rows ≡ false = row_found id rows ∙ ap (λ (o : Option Row). is_some o) none in
    ap (λ (b : Bool). row_named id (if b then rows else with_values id how DefaultValue (text ∷ []) rows)) absent
    ∙ ap (row_named id) (added id how DefaultValue (text ∷ []) rows absent)
    ∙ find-append (λ r. bytes_eq r.id id) rows (new_row id how DefaultValue (text ∷ []) ∷ [])
    ∙ ap (λ (o : Option Row). option_or o (row_named id (new_row id how DefaultValue (text ∷ []) ∷ []))) none
    ∙ ap (λ (b : Bool). if b then Some (new_row id how DefaultValue (text ∷ [])) else None) same

pub own_given : (id : Text) (how : Reading) (text : Text) (rows : List Row) (r : Row) → row_named id rows ≡ Some r → row_named id (with_one id how text rows) ≡ Some r
own_given id how text rows r given =
    let present : has_row id rows ≡ true = row_found id rows ∙ ap (λ (o : Option Row). is_some o) given in
    ap (λ (b : Bool). row_named id (if b then rows else with_values id how DefaultValue (text ∷ []) rows)) present ∙ given

-- ---- numbers that are read

pub or_nones : {X : Type 0} (o : Option X) → option_or (option_or o None) None ≡ o
or_nones None = refl
or_nones (Some x) = refl

without_minus_plain : (t : Text) → IsPlain t → without_minus t ≡ t
without_minus_plain [] h = absurd h
without_minus_plain (x ∷ xs) h = rw (ne_eqb x 45 h) refl

within_is : (least most n : ℕ) → least ≤ n → n ≤ most → within least most n ≡ Some n
within_is least most n some few = rw (le-leb least n some, le-leb n most few) refl

-- the number of an option that was given
abbrev pub number_by : ℕ → ℕ → Option Row → Option ℕ
number_by least most o = option_and_then (within least most) (option_and_then number_in (option_and_then row_text o))

pub number_given : (id : Text) (least most n : ℕ) → least ≤ n → n ≤ most → most < 2 ^ 32 → number_by least most (Some (number_row id n)) ≡ Some n
number_given id least most n some few fits =
    ap (λ (t : Text). option_and_then (within least most) (number_in t)) (without_minus_plain (decimal n) (number_plain n (omega arith)))
    ∙ ap (option_and_then (within least most)) (number_is n (omega arith))
    ∙ within_is least most n some few
