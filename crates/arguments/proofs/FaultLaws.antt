-- The reasons that clap has to give no matches: each of them asks for a text, or none does.
use Rattle.std.proofs.Common.{◌≡◌, ℕ, zero, suc, Bool, true, false, List, [], ◌∷◌, Option, Some, None, refl, length, drop, min, codes}
use Rattle.std.specs.Prelude.{◌&&◌, ◌+◌, is_some, nat_lt, ◌==◌, encode_utf8, find, slice_get, if◌then◌else◌}
use Rattle.std.specs.List.{AllByRecursion}
use Rattle.std.specs.Option.{option_map_or}
use Rattle.std.specs.Str.{bytes_eq, chars}
use Rattle.clap.specs.Lexer.{long_of, short_of}
use Rattle.clap.specs.Facts.{parser_of_value, unwrap_or_range}
use Rattle.clap.specs.Faults.{action_fault, bundle_step_fault, count_fault, default_fault, defaults_fault, entered_fault, built_fault, fault_of, flag_word_fault, flags_fault, level_fault, long_fault, option_fault, other_fault, positional_fault, react_fault, set_fault, settle_fault, short_fault, step_fault, stray_fault, turn_fault, use_fault, walk_fault, word_fault}
use Rattle.clap.specs.Kinds.{Kinds, check_kinds, or_else, range_kinds, request_kinds, value_kinds, values_kinds}
use Rattle.clap.specs.Matches.{count_text}
use Rattle.clap.specs.Simple.{App, Shape, built, argument_words, entered, label_of, names_of}
use Rattle.clap.specs.Values.{refused_kind}
use Rattle.clap.specs.Walk.{Held, Names, Row, Rule, Step, Text, Waiting, Walk, action_of, answers_to, arg_by_id, arg_by_index, arg_by_long, arg_by_short, attached_value, count_of, most_values, nothing_held, next, reacted, settled, subcommand, subcommand_met, takes_values, trailing, value, values_or_missing, walk, walk_from, walked, with_default, word_met}
use Rattle.clap.specs.declared.builder.action.ArgAction.{ArgAction}
use Rattle.clap.specs.declared.builder.action.ArgAction.TheVariants as action
use Rattle.clap.specs.declared.builder.value_parser.ValueParser.{ValueParser}
use Rattle.clap.specs.declared.error.kind.ErrorKind.TheVariants as kind
use Rattle.arguments.specs.CommandLine.{command_line}
use Rattle.arguments.specs.Commands.{asks_for_text}

-- each of them asks for a text as the first does
abbrev pub AreAlike : Kinds → Type 0
AreAlike [] = Unit {0}
AreAlike (k ∷ ks) = AllByRecursion (λ x. asks_for_text x ≡ asks_for_text k) ks

-- ---- how lists are put together

first_or : (a b : Kinds) → AreAlike a → AreAlike b → AreAlike (or_else a b)
first_or [] b one two = two
first_or (k ∷ ks) b one two = one

either : (b : Bool) (x y : Kinds) → AreAlike x → AreAlike y → AreAlike (if b then x else y)
either true x y one two = one
either false x y one two = two

of_some : {X : Type 0} (f : X → Kinds) (o : Option X) → ((x : X) → AreAlike (f x)) → AreAlike (option_map_or f o [])
of_some f None each = tt
of_some f (Some x) each = each x

-- ---- one use of an argument

of_value : (i : Bool) (p : ValueParser) (text : Text) → AreAlike (value_kinds i p text)
of_value i p text = either _ [] (refused_kind p ∷ []) tt tt

of_values : (i : Bool) (p : ValueParser) (vs : List Text) → AreAlike (values_kinds i p vs)
of_values i p [] = tt
of_values i p (v ∷ vs) = first_or _ _ (of_value i p v) (of_values i p vs)

of_count : (a : Rule) (vs : List Text) (rows : List Row) → AreAlike (count_fault a vs rows)
of_count a [] rows = of_value a.ignore_case (parser_of_value a.parser) (count_text (min (count_of a.id rows + 1) 255))
of_count a (v ∷ vs) rows = of_values a.ignore_case (parser_of_value a.parser) (v ∷ vs)

of_set : (again : Bool) (a : Rule) (vs : List Text) (rows : List Row) → AreAlike (set_fault again a vs rows)
of_set again a vs rows = first_or _ _ (either _ (kind.ArgumentConflict ∷ []) [] tt tt) (of_values a.ignore_case (parser_of_value a.parser) vs)

of_request : (x : ArgAction) → AreAlike (request_kinds x)
of_request action.Help = tt
of_request action.HelpShort = tt
of_request action.HelpLong = tt
of_request action.Version = tt
of_request other = tt

of_action : (x : ArgAction) (again : Bool) (a : Rule) (vs : List Text) (rows : List Row) → AreAlike (action_fault x again a vs rows)
of_action action.Set again a vs rows = of_set again a vs rows
of_action action.SetTrue again a vs rows = of_set again a vs rows
of_action action.SetFalse again a vs rows = of_set again a vs rows
of_action action.Append again a vs rows = of_values a.ignore_case (parser_of_value a.parser) vs
of_action action.Count again a vs rows = of_count a vs rows
of_action other again a vs rows = of_request other

abbrev in_range : ℕ → ℕ → ℕ → Kinds
in_range least most n = if nat_lt n least then kind.TooFewValues ∷ [] else (if nat_lt most n then kind.TooManyValues ∷ [] else [])

abbrev exactly : ℕ → ℕ → Kinds
exactly least n = if least == n then [] else kind.WrongNumberOfValues ∷ []

of_range : (least most n : ℕ) → AreAlike (range_kinds least most n)
of_range least most n =
    either (nat_lt 0 least && n == 0) (kind.InvalidValue ∷ []) (if least == most then exactly least n else in_range least most n) tt
    (either (least == most) (exactly least n) (in_range least most n) (either (least == n) [] (kind.WrongNumberOfValues ∷ []) tt tt)
    (either (nat_lt n least) (kind.TooFewValues ∷ []) (if nat_lt most n then kind.TooManyValues ∷ [] else []) tt
    (either (nat_lt most n) (kind.TooManyValues ∷ []) [] tt tt)))

of_use : (again : Bool) (a : Rule) (vs : List Text) (rows : List Row) → AreAlike (use_fault again a vs rows)
of_use again a vs rows = first_or _ _ (of_range (unwrap_or_range a.range).start_inclusive (most_values a) (length vs)) (of_action (action_of a) again a (values_or_missing a vs) rows)

-- ---- the walk over the words

of_settled : (c : List Rule) (again : Bool) (h : Held) → AreAlike (settle_fault c again h)
of_settled c again h = of_some _ h.pending (λ p. of_some _ (arg_by_id c p.0) (λ a. of_use again a p.1 h.rows))

of_react : (c : List Rule) (again : Bool) (a : Rule) (vs : List Text) (h : Held) → AreAlike (react_fault c again a vs h)
of_react c again a vs h = first_or _ _ (of_settled c again h) (of_use again a vs (settled c h).rows)

of_option : (c : List Rule) (again : Bool) (a : Rule) (v : Option Text) (h : Held) → AreAlike (option_fault c again a v h)
of_option c again a (Some v) h = of_react c again a (v ∷ []) h
of_option c again a None h = of_settled c again h

of_long : (c : List Rule) (again : Bool) (a : Option Rule) (v : Option Text) (h : Held) → AreAlike (long_fault c again a v h)
of_long c again None v h = tt
of_long c again (Some a) v h = either (takes_values a) _ _ (of_option c again a v h) (either (is_some v) (kind.TooManyValues ∷ []) _ tt (of_react c again a [] h))

of_short : (c : List Rule) (again : Bool) (a : Option Rule) (rest : Text) (h : Held) (more : Held → Kinds) → ((h : Held) → AreAlike (more h)) → AreAlike (short_fault c again a rest h more)
of_short c again None rest h more each = tt
of_short c again (Some a) rest h more each =
    either (takes_values a) _ _ (of_option c again a (attached_value rest) h) (first_or _ _ (of_react c again a [] h) (each (reacted c a [] h)))

of_step : (c : List Rule) (again : Bool) (x : Option ℕ) (flags : Text) (skip : ℕ) (h : Held) (more : Text → ℕ → Held → Kinds)
    → ((flags : Text) (skip : ℕ) (h : Held) → AreAlike (more flags skip h)) → AreAlike (bundle_step_fault c again x flags skip h more)
of_step c again None flags skip h more each = tt
of_step c again (Some x) flags zero h more each =
    let rest = drop (length (encode_utf8 x)) flags in
    of_short c again (arg_by_short c x) rest h (more rest 0) (each rest 0)
of_step c again (Some x) flags (suc skip) h more each = each (drop (length (encode_utf8 x)) flags) skip h

of_flags : (c : List Rule) (again : Bool) (k : ℕ) (flags : Text) (skip : ℕ) (h : Held) → AreAlike (flags_fault c again k flags skip h)
unfolding flags_fault
of_flags c again zero flags skip h = tt
of_flags c again (suc k) flags skip h = of_step c again (slice_get (chars flags) 0) flags skip h (flags_fault c again k) (of_flags c again k)

of_flag_word : (c : List Rule) (again : Bool) (p : Option (Text × Option Text)) (word : Text) (h : Held) → AreAlike (flag_word_fault c again p word h)
of_flag_word c again (Some p) word h = of_long c again (arg_by_long c p.0) p.1 h
of_flag_word c again None word h = of_some _ (short_of word) (λ flags. of_flags c again (length flags) flags h.skip (record h { skip = 0 }))

never : (b : Bool) → (b && false) ≡ false
never true = refl
never false = refl

of_other : (s : Shape) (name : Option Text) (word : Text) (h : Held) → s.disable_help_subcommand ≡ true → AreAlike (other_fault s name word h)
of_other s (Some name) word h off = rw (off, never (bytes_eq name (codes "help"))) tt
of_other s None word h off = either (bytes_eq word (45 ∷ 45 ∷ [])) [] _ tt (of_flag_word s.rules s.args_override_self (long_of word) word h)

of_word : (s : Shape) (names : Names) (is_trailing : Bool) (waiting : Waiting) (word : Text) (h : Held) → s.disable_help_subcommand ≡ true
    → AreAlike (word_fault s names is_trailing waiting word h)
of_word s names is_trailing waiting word h off = either is_trailing [] _ tt (of_other s (subcommand_met names waiting word) word h off)

of_positional : (c : List Rule) (again : Bool) (a : Rule) (h : Held) → AreAlike (positional_fault c again a h)
of_positional c again a h = either _ [] _ tt (of_settled c again h)

of_stray : (s : Shape) → AreAlike (stray_fault s)
of_stray s = either s.is_leaf (kind.UnknownArgument ∷ []) (kind.UnknownArgument ∷ kind.InvalidSubcommand ∷ []) tt (refl, tt)

of_word_step : (s : Shape) (position : ℕ) (h : Held) (step : Step) → AreAlike (step_fault s position h step)
of_word_step s position h (next waiting) = tt
of_word_step s position h (trailing n) = tt
of_word_step s position h (subcommand name) = tt
of_word_step s position h value = by_index (arg_by_index s.rules position)
  where
    by_index : (a : Option Rule) → AreAlike (option_map_or (λ a. positional_fault s.rules s.args_override_self a h) a (stray_fault s))
    by_index None = of_stray s
    by_index (Some a) = of_positional s.rules s.args_override_self a h

of_turn : (s : Shape) (names : Names) (w : Walk) (word : Text) → s.disable_help_subcommand ≡ true → AreAlike (turn_fault s names w word)
of_turn s names w word off =
    let met = word_met s.rules names w.is_trailing w.waiting w.position word w.held in
    either (is_some w.stopped) [] _ tt
    (first_or _ _ (of_word s names w.is_trailing w.waiting word w.held off) (of_word_step s w.position met.0 met.1))

of_walk : (s : Shape) (names : Names) (w : Walk) (words : List Text) → s.disable_help_subcommand ≡ true → AreAlike (walk_fault s names w words)
unfolding walk_fault
of_walk s names w [] off = tt
of_walk s names w (word ∷ rest) off = first_or _ _ (of_turn s names w word off) (of_walk s names (walked s.rules names w word) rest off)

-- ---- after the walk

of_default : (rows : List Row) (a : Rule) → AreAlike (default_fault rows a)
of_default rows a =
    either _ [] _ tt (first_or _ _ (of_request (action_of a)) (of_values a.ignore_case (parser_of_value a.parser) a.defaults))

of_defaults : (rows : List Row) (rules : List Rule) → AreAlike (defaults_fault rows rules)
unfolding defaults_fault
of_defaults rows [] = tt
of_defaults rows (a ∷ rest) = first_or _ _ (of_default rows a) (of_defaults (with_default rows a) rest)

of_check : (a b c : Bool) → AreAlike (check_kinds a b c)
of_check a b c =
    either a (kind.DisplayHelpOnMissingArgumentOrSubcommand ∷ []) _ tt
    (either b (kind.MissingSubcommand ∷ []) _ tt (either c (kind.MissingRequiredArgument ∷ []) [] tt tt))

of_level : (s : Shape) (names : Names) (h : Held) (words : List Text) (has : Bool) (below : Kinds) → s.disable_help_subcommand ≡ true → AreAlike below
    → AreAlike (level_fault s names h words has below)
of_level s names h words has below off alike =
    let end = (walk s.rules names h words).held in
    first_or _ _ (of_walk s names (walk_from h) words off)
    (first_or _ _ alike
    (first_or _ _ (of_settled s.rules s.args_override_self end) (first_or _ _ (of_defaults (settled s.rules end).rows s.rules) (of_check _ _ _))))

-- ---- the whole command line

of_found : (p : Shape → Bool) (shapes : List Shape) (words : List Text) → AllByRecursion (λ s. s.disable_help_subcommand ≡ true) shapes
    → AreAlike (option_map_or (λ s. level_fault s [] nothing_held words false []) (find p shapes) [])
of_found p [] words off = tt
of_found p (s ∷ shapes) words off = go (p s) (of_found p shapes words off.1)
  where
    go : (b : Bool) → AreAlike (option_map_or (λ s. level_fault s [] nothing_held words false []) (find p shapes) [])
        → AreAlike (option_map_or (λ s. level_fault s [] nothing_held words false []) (if b then Some s else find p shapes) [])
    go true others = of_level s [] nothing_held words false [] off.0 tt
    go false others = others

of_built : (a : App) (h : Held) (words : List Text) → a.top.disable_help_subcommand ≡ true → AllByRecursion (λ s. s.disable_help_subcommand ≡ true) a.subs
    → AreAlike (built_fault a h words)
of_built a h words off quiet =
    let stop = (walk a.top.rules (names_of a) h words).stopped in
    of_level a.top (names_of a) h words (is_some (entered a stop)) (entered_fault a stop) off
    (of_some _ stop (λ p. of_found (λ s. answers_to p.0 (label_of s)) a.subs p.1 quiet))

-- where there are several reasons, all ask for a text, or none does
pub faults_alike : (words : List Text) → AreAlike (fault_of command_line words)
faults_alike words = of_built (built command_line) nothing_held (argument_words command_line words) refl (refl, (refl, (refl, (refl, tt))))
