-- The walk of clap over plain words, in any command.
use Rattle.std.proofs.Common.{◌≡◌, ℕ, ◌≤◌, ◌<◌, ◌^◌, Bool, true, false, List, [], ◌∷◌, ◌++◌, length, Option, Some, None, refl, ap, ◌∙◌, arith}
use Rattle.std.specs.Prelude.{◌&&◌, ◌||◌, ◌==◌, fold, pos, nat_lt, if◌then◌else◌}
use Rattle.std.specs.Fmt.{decimal}
use Rattle.std.specs.List.{list_all}
use Rattle.std.specs.Str.{bytes_eq}
use Rattle.std.specs.Char.{digit_value}
use Rattle.std.specs.Str.Parse.{AllDigits, IsNumeral, digits_value, without_leading_plus, without_leading_sign, signed_digits_value}
use Rattle.std.proofs.lemmas.Bool.{ne_eqb, lt-ltb, le-leb}
use Rattle.std.proofs.lemmas.Fmt.{decimal_is_IsNumeral}
use Rattle.std.proofs.lemmas.List.Folds.{list_any-append}
use Rattle.std.proofs.lemmas.List.Sums.{fold-append}
use Rattle.std.proofs.lemmas.Str.Parse.{digit_from_value}
use Rattle.clap.specs.Lexer.{long_of, short_of}
use Rattle.clap.specs.Facts.{parser_of_value}
use Rattle.clap.specs.Faults.{defaults_fault, check_fault, level_fault, settle_fault, step_fault, walk_fault, word_fault}
use Rattle.clap.specs.Kinds.{Kinds, or_else, values_kinds}
use Rattle.clap.specs.Simple.{Shape, filled, new_rule, with_index}
use Rattle.clap.specs.ValueTests.{accepts}
use Rattle.clap.specs.Walk.{Held, Row, Rule, Step, Text, Waiting, Walk, after_step, arg_by_id, arg_by_index, arg_by_long, at_row, has_row, idle, is_pending, more_values, next, nothing_held, option, plain_word, positional, pushed, reading_by, rows_after, settled, walk, walk_from, walked, with_default, with_values, without, word_met}
use Rattle.clap.specs.declared.builder.value_parser.Reading.{Reading}
use Rattle.clap.specs.declared.builder.value_parser.Reading.TheVariants.{WithoutMinus}
use Rattle.clap.specs.declared.builder.value_parser.ValueParser.{ValueParser}
use Rattle.clap.specs.declared.builder.value_parser.ValueParser.TheVariants as parsers
use Rattle.clap.specs.declared.parser.matches.ValueSource.{ValueSource}
use Rattle.clap.specs.declared.parser.matches.ValueSource.TheVariants.{CommandLine}
use Rattle.arguments.specs.Commands.{number_in}
use Rattle.arguments.specs.PlainWords.{IsPlain}

-- ---- rows

neither : (a b : Bool) → (a || b) ≡ false → (a ≡ false) × (b ≡ false)
neither true b e = absurd cc
neither false b e = (refl, e)

pub never : (b : Bool) → (b && false) ≡ false
never true = refl
never false = refl

-- a row that isn't there is added at the end
at_row_absent : (id : Text) (change : Row → List Row) (missing rows : List Row) → has_row id rows ≡ false → at_row id change missing rows ≡ rows ++ missing
at_row_absent id change missing [] e = refl
at_row_absent id change missing (r ∷ rs) e =
    let parts = neither (bytes_eq r.id id) (has_row id rs) e in
    rw parts.0 (ap (λ (xs : List Row). r ∷ xs) (at_row_absent id change missing rs parts.1))

pub append_nil : {X : Type 0} (xs : List X) → xs ++ [] ≡ xs
append_nil [] = refl
append_nil (x ∷ xs) = ap (λ (ys : List _). x ∷ ys) (append_nil xs)

abbrev pub new_row : Text → Reading → ValueSource → List Text → Row
new_row id how source values = record { id = id; values = values; count = None; source = Some source; reading = how }

-- the first use of an argument
pub added : (id : Text) (how : Reading) (source : ValueSource) (values : List Text) (rows : List Row) → has_row id rows ≡ false → with_values id how source values rows ≡ rows ++ new_row id how source values ∷ []
added id how source values rows e = at_row_absent id (more_values source values) (new_row id how source values ∷ []) rows e

pub first_use : (id : Text) (how : Reading) (values : List Text) (rows : List Row) → has_row id rows ≡ false
    → with_values id how CommandLine values (without id rows) ≡ rows ++ new_row id how CommandLine values ∷ []
first_use id how values rows e =
    ap (with_values id how CommandLine values) (at_row_absent id (λ _. []) [] rows e ∙ append_nil rows) ∙ added id how CommandLine values rows e

pub no_row : (id : Text) (xs ys : List Row) → has_row id xs ≡ false → has_row id ys ≡ false → has_row id (xs ++ ys) ≡ false
no_row id xs ys one two = list_any-append (λ r. bytes_eq r.id id) xs ys ∙ rw (one, two) refl

-- ---- words

pub record IsWord (w : Text) : Type 0 where
  pub dashes : bytes_eq w (45 ∷ 45 ∷ []) ≡ false
  pub long : long_of w ≡ None
  pub short : short_of w ≡ None

pub plain_is_word : (w : Text) → IsPlain w → IsWord w
plain_is_word [] h = absurd h
plain_is_word (x ∷ xs) h =
    let no : (x == 45) ≡ false = ne_eqb _ _ h in
    record { dashes = rw no refl; long = rw no refl; short = rw no refl }

-- it is no flag and no subcommand
pub word_is : (c : List Rule) (waiting : Waiting) (position : ℕ) (w : Text) (h : Held) → IsWord w → word_met c [] false waiting position w h ≡ plain_word c waiting w h
word_is c idle position w h is = rw (is.dashes, is.long, is.short) refl
word_is c (option id) position w h is = rw (is.dashes, is.long, is.short) refl
word_is c positional position w h is = rw (is.dashes, is.long, is.short) refl

pub word_quiet : (s : Shape) (waiting : Waiting) (w : Text) (h : Held) → IsWord w → word_fault s [] false waiting w h ≡ []
word_quiet s idle w h is = rw (is.dashes, is.long, is.short) refl
word_quiet s (option id) w h is = rw (is.dashes, is.long, is.short) refl
word_quiet s positional w h is = rw (is.dashes, is.long, is.short) refl

-- a number is such a word
numeral_plain : (t : Text) → IsNumeral 10 t → IsPlain t
numeral_plain [] h = absurd (omega (arith, h.0))
numeral_plain (d ∷ ds) h = λ e. omega (arith, digit_from_value d h.1.0)

pub number_plain : (n : ℕ) → n < 2 ^ 64 → IsPlain (decimal n)
number_plain n fits = numeral_plain (decimal n) (decimal_is_IsNumeral n fits).0

numeral_sign : (t : Text) → IsNumeral 10 t → (without_leading_sign t ≡ t) × (without_leading_plus t ≡ t) × (signed_digits_value 10 t ≡ pos (digits_value 10 t))
numeral_sign [] h = absurd (omega (arith, h.0))
numeral_sign (d ∷ ds) h =
    let plus : (d == 43) ≡ false = ne_eqb _ _ (λ e. omega (arith, digit_from_value d h.1.0)) in
    let minus : (d == 45) ≡ false = ne_eqb _ _ (λ e. omega (arith, digit_from_value d h.1.0)) in
    (rw (minus, plus) refl, rw plus refl, rw (minus, plus) refl)

digits_pass : (ds : Text) → AllDigits 10 ds → list_all (λ d. nat_lt (digit_value d) 10) ds ≡ true
digits_pass [] h = refl
digits_pass (d ∷ ds) h = rw (lt-ltb (digit_value d) 10 h.0) (digits_pass ds h.1)

-- a number within its bounds passes
pub number_passes : (low high n : ℕ) → low ≤ n → n ≤ high → high < 2 ^ 63 → accepts false (parsers.Signed (pos low) (pos high)) (decimal n) ≡ true
number_passes low high n least most fits =
    let is = decimal_is_IsNumeral n (omega arith) in
    let sign = numeral_sign (decimal n) is.0 in
    let z : signed_digits_value 10 (decimal n) ≡ pos n = sign.2 ∙ ap (λ (k : ℕ). pos k) is.1 in
    rw (z, sign.0, lt-ltb 0 (length (decimal n)) is.0.0, digits_pass (decimal n) is.0.1, lt-ltb n (2 ^ 63) (omega arith), le-leb low n least, le-leb n high most) refl

-- and is read as itself
pub number_is : (n : ℕ) → n < 2 ^ 32 → number_in (decimal n) ≡ Some n
number_is n fits =
    let is = decimal_is_IsNumeral n (omega arith) in
    let sign = numeral_sign (decimal n) is.0 in
    rw (sign.1, lt-ltb 0 (length (decimal n)) is.0.0, digits_pass (decimal n) is.0.1, is.1, lt-ltb n (2 ^ 32) fits) refl

-- ---- the walk over the words of a command

-- what is held comes to these rows, and nothing is wrong with it
pub record At (s : Shape) (h : Held) (rows : List Row) : Type 0 where
  pub is : settled s.rules h ≡ record { rows = rows; pending = None; skip = 0 }
  pub quiet : settle_fault s.rules false h ≡ []

-- the words lead from one place of the walk to another, and nothing is wrong with them
pub record Leads (s : Shape) (w : Walk) (words : List Text) (last : Walk) : Type 0 where
  pub goes : fold (walked s.rules []) w words ≡ last
  pub quiet : walk_fault s [] w words ≡ []

pub or_both : (a b : Kinds) → a ≡ [] → b ≡ [] → or_else a b ≡ []
or_both a b one two = ap (λ (x : Kinds). or_else x b) one ∙ two

first_none : (a b : Kinds) → or_else a b ≡ [] → a ≡ []
first_none [] b e = refl
first_none (k ∷ ks) b e = absurd cc

both_none : (a b : Kinds) → or_else a b ≡ [] → b ≡ []
both_none [] b e = e
both_none (k ∷ ks) b e = absurd cc

faults_after : (s : Shape) (w : Walk) (xs ys : List Text) → walk_fault s [] w xs ≡ [] → walk_fault s [] (fold (walked s.rules []) w xs) ys ≡ [] → walk_fault s [] w (xs ++ ys) ≡ []
unfolding walk_fault
faults_after s w [] ys one two = two
faults_after s w (x ∷ xs) ys one two = or_both _ _ (first_none _ _ one) (faults_after s (walked s.rules [] w x) xs ys (both_none _ _ one) two)

pub leads_on : (s : Shape) (a b c : Walk) (xs ys : List Text) → Leads s a xs b → Leads s b ys c → Leads s a (xs ++ ys) c
leads_on s a b c xs ys one two = record {
  goes = fold-append (walked s.rules []) a xs ys ∙ ap (λ (w : Walk). fold (walked s.rules []) w ys) one.goes ∙ two.goes;
  quiet = faults_after s a xs ys one.quiet (ap (λ (w : Walk). walk_fault s [] w ys) one.goes ∙ two.quiet);
}

pub leads_nowhere : (s : Shape) (w : Walk) → Leads s w [] w
unfolding walk_fault
leads_nowhere s w = record { goes = refl; quiet = refl }

pub held_is : (a b : List Row) (k n : ℕ) → a ≡ b → k ≡ n → (let x : Held = record { rows = a; pending = None; skip = k } in x) ≡ record { rows = b; pending = None; skip = n }
held_is a b k n rows skip = λ i. record { rows = rows i; pending = None; skip = skip i }

pub rows_of_held : (s : Shape) (h : Held) (rows : List Row) → At s h rows → (settled s.rules h).rows ≡ rows
rows_of_held s h rows at = ap (λ (x : Held). x.rows) at.is

pub skip_of_held : (s : Shape) (h : Held) (rows : List Row) → At s h rows → h.skip ≡ 0
skip_of_held s h rows at = ap (λ (x : Held). x.skip) at.is

pub starts : (s : Shape) → At s nothing_held []
starts s = record { is = refl; quiet = refl }

-- ---- an option with a number

-- the option as it is built
abbrev pub number_arg : Text → Text → ℕ → ℕ → Rule
number_arg id default low high = with_index 1 (filled (record (new_rule id) {
  long = Some id;
  value_names = 1;
  parser = Some (parsers.Signed (pos low) (pos high));
  defaults = default ∷ [];
}))

-- the command has the option, and `flag` is its word
pub record HasNumber (s : Shape) (id flag default : Text) (low high : ℕ) : Type 0 where
  pub once : s.args_override_self ≡ false
  pub by_long : arg_by_long s.rules id ≡ Some (number_arg id default low high)
  pub by_id : arg_by_id s.rules id ≡ Some (number_arg id default low high)
  pub itself : bytes_eq id id ≡ true
  pub dashes : bytes_eq flag (45 ∷ 45 ∷ []) ≡ false
  pub long : long_of flag ≡ Some (id, None)

abbrev pub number_row : Text → ℕ → Row
number_row id n = new_row id WithoutMinus CommandLine (decimal n ∷ [])

-- the option waits for its number
abbrev waits : Shape → Text → Held → Held
waits s id h = record (settled s.rules h) { pending = Some (id, []) }

abbrev waiting_at : Shape → Text → Held → Walk
waiting_at s id h = record { held = waits s id h; waiting = option id; position = 1; is_trailing = false; stopped = None }

-- the number waits to be used
abbrev pub number_held : Shape → Text → Held → ℕ → Held
number_held s id h n = record (settled s.rules h) { pending = Some (id, decimal n ∷ []) }

module _ (s : Shape) (id flag default : Text) (low high : ℕ) (has : HasNumber s id flag default low high) where
  flag_met : (h : Held) → word_met s.rules [] false idle 1 flag h ≡ (waits s id h, next (option id))
  flag_met h = rw (has.dashes, has.long, has.by_long) refl

  flag_leads : (h : Held) (rows : List Row) → At s h rows → Leads s (walk_from h) (flag ∷ []) (waiting_at s id h)
  unfolding walked walk_fault
  flag_leads h rows at =
      let met = flag_met h in
      record {
        goes = ap (λ (m : Held × Step). after_step s.rules flag (walk_from h) m.0 m.1) met;
        quiet = or_both _ _ (or_both _ _ (rw (has.dashes, has.long, has.by_long, has.once) at.quiet)
            (ap (λ (m : Held × Step). step_fault s 1 m.0 m.1) met)) refl;
      }

  number_met : (h : Held) (n : ℕ) → IsPlain (decimal n) → word_met s.rules [] false (option id) 1 (decimal n) (waits s id h) ≡ (number_held s id h n, next idle)
  number_met h n plain = word_is s.rules (option id) 1 (decimal n) (waits s id h) (plain_is_word (decimal n) plain) ∙ rw (has.by_id, has.itself) refl

  number_leads : (h : Held) (n : ℕ) → IsPlain (decimal n) → Leads s (waiting_at s id h) (decimal n ∷ []) (walk_from (number_held s id h n))
  unfolding walked walk_fault
  number_leads h n plain =
      let met = number_met h n plain in
      record {
        goes = ap (λ (m : Held × Step). after_step s.rules (decimal n) (waiting_at s id h) m.0 m.1) met;
        quiet = or_both _ _ (or_both _ _ (word_quiet s (option id) (decimal n) (waits s id h) (plain_is_word (decimal n) plain))
            (ap (λ (m : Held × Step). step_fault s 1 m.0 m.1) met)) refl;
      }

  -- the option and its number
  pub option_leads : (h : Held) (rows : List Row) (n : ℕ) → At s h rows → n ≤ high → high < 2 ^ 63 → Leads s (walk_from h) (flag ∷ decimal n ∷ []) (walk_from (number_held s id h n))
  option_leads h rows n at most fits =
      leads_on s (walk_from h) (waiting_at s id h) (walk_from (number_held s id h n)) (flag ∷ []) (decimal n ∷ []) (flag_leads h rows at) (number_leads h n (number_plain n (omega arith)))

  pub option_at : (h : Held) (rows : List Row) (n : ℕ) → At s h rows → has_row id rows ≡ false → low ≤ n → n ≤ high → high < 2 ^ 63 → At s (number_held s id h n) (rows ++ number_row id n ∷ [])
  option_at h rows n at none least most fits =
      let same = rows_of_held s h rows at in
      let no : has_row id (settled s.rules h).rows ≡ false = ap (has_row id) same ∙ none in
      let passes = number_passes low high n least most fits in
      record {
        is = rw has.by_id (held_is _ _ _ _ (first_use id WithoutMinus (decimal n ∷ []) (settled s.rules h).rows no ∙ ap (λ (rs : List Row). rs ++ number_row id n ∷ []) same) (skip_of_held s h rows at));
        quiet = rw (has.by_id, no, passes) refl;
      }

-- ---- the first word

-- a required word as it is built, where it is the first
abbrev pub word_arg : Text → Option ValueParser → Rule
word_arg id parser = with_index 1 (filled (record (new_rule id) { required = true; parser = parser }))

pub record HasWord (s : Shape) (id : Text) (parser : Option ValueParser) : Type 0 where
  pub once : s.args_override_self ≡ false
  pub by_index : arg_by_index s.rules 1 ≡ Some (word_arg id parser)
  pub by_id : arg_by_id s.rules id ≡ Some (word_arg id parser)

pub if_none : (b : Bool) (x : Kinds) → x ≡ [] → (if b then [] else x) ≡ []
if_none true x e = refl
if_none false x e = e

-- the place behind the first word
abbrev pub behind_word : Held → Walk
behind_word h = record { held = h; waiting = idle; position = 2; is_trailing = false; stopped = None }

-- the word waits to be used
abbrev pub word_held : Shape → Text → Held → Text → Held
word_held s id h w = record (settled s.rules h) { pending = Some (id, w ∷ []) }

abbrev pub word_row : Text → Option ValueParser → Text → Row
word_row id parser w = new_row id (reading_by (word_arg id parser)) CommandLine (w ∷ [])

module _ (s : Shape) (id : Text) (parser : Option ValueParser) (has : HasWord s id parser) where
  pub word_leads : (h : Held) (rows : List Row) (w : Text) → At s h rows → IsPlain w → Leads s (walk_from h) (w ∷ []) (behind_word (word_held s id h w))
  unfolding walked walk_fault
  word_leads h rows w at plain =
      let word = plain_is_word w plain in
      let met = word_is s.rules idle 1 w h word in
      let pending = is_pending (word_arg id parser) h.pending in
      record {
        goes = ap (λ (x : Held × Step). after_step s.rules w (walk_from h) x.0 x.1) met
            ∙ rw has.by_index (ap (λ (b : Bool). behind_word (pushed id w (if b then h else settled s.rules h))) (never pending));
        quiet = or_both _ _ (or_both _ _ (word_quiet s idle w h word)
            (ap (λ (x : Held × Step). step_fault s 1 x.0 x.1) met ∙ rw (has.by_index, has.once) (if_none (pending && false) (settle_fault s.rules false h) at.quiet))) refl;
      }

  pub word_at : (h : Held) (rows : List Row) (w : Text) → At s h rows → has_row id rows ≡ false → values_kinds false (parser_of_value (word_arg id parser).parser) (w ∷ []) ≡ []
      → At s (word_held s id h w) (rows ++ word_row id parser w ∷ [])
  word_at h rows w at none passes =
      let same = rows_of_held s h rows at in
      let no : has_row id (settled s.rules h).rows ≡ false = ap (has_row id) same ∙ none in
      record {
        is = rw has.by_id (held_is _ _ _ _ (first_use id (reading_by (word_arg id parser)) (w ∷ []) (settled s.rules h).rows no ∙ ap (λ (rs : List Row). rs ++ word_row id parser w ∷ []) same) (skip_of_held s h rows at));
        quiet = rw (has.by_id, no) passes;
      }

-- ---- a command and its words

-- nothing is wrong with the words of the command, and these rows come of them
pub record Comes (s : Shape) (words : List Text) (rows : List Row) : Type 0 where
  pub quiet : level_fault s [] nothing_held words false [] ≡ []
  pub is : rows_after s.rules [] words ≡ rows

-- what is wrong behind the walk
abbrev end_faults : Shape → Held → Kinds
end_faults s h =
    or_else (settle_fault s.rules s.args_override_self h) (or_else (defaults_fault (settled s.rules h).rows s.rules) (check_fault s (fold with_default (settled s.rules h).rows s.rules) false))

-- the walk leads to `last`, which comes to the rows `given`, and with the defaults to `rows`
pub comes : (s : Shape) (words : List Text) (last : Walk) (given rows : List Row) → s.args_override_self ≡ false → Leads s (walk_from nothing_held) words last → At s last.held given
    → fold with_default given s.rules ≡ rows → defaults_fault given s.rules ≡ [] → check_fault s rows false ≡ [] → Comes s words rows
comes s words last given rows once leads at defaults quiet checks =
    let same : (walk s.rules [] nothing_held words).held ≡ last.held = ap (λ (w : Walk). w.held) leads.goes in
    let settles : settle_fault s.rules s.args_override_self last.held ≡ [] = rw once at.quiet in
    let final : fold with_default (settled s.rules last.held).rows s.rules ≡ rows = ap (λ (h : Held). fold with_default h.rows s.rules) at.is ∙ defaults in
    let defaulted : defaults_fault (settled s.rules last.held).rows s.rules ≡ [] = ap (λ (h : Held). defaults_fault h.rows s.rules) at.is ∙ quiet in
    let checked : check_fault s (fold with_default (settled s.rules last.held).rows s.rules) false ≡ [] = ap (λ (rs : List Row). check_fault s rs false) final ∙ checks in
    record {
      quiet = or_both (walk_fault s [] (walk_from nothing_held) words) (end_faults s (walk s.rules [] nothing_held words).held) leads.quiet
          (ap (end_faults s) same ∙ or_both _ _ settles (or_both _ _ defaulted checked));
      is = ap (λ (h : Held). fold with_default (settled s.rules h).rows s.rules) same ∙ final;
    }
