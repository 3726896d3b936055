-- The walk of clap over the plain words of `run`.
use Rattle.std.proofs.Common.{◌≡◌, ℕ, ◌≤◌, ◌<◌, ◌^◌, Bool, true, false, List, [], ◌∷◌, ◌++◌, map, length, Some, None, refl, sym, ap, subst, ◌∙◌, arith, codes, append_assoc}
use Rattle.std.specs.Prelude.{◌&&◌, ◌==◌, if◌then◌else◌}
use Rattle.std.specs.List.{AllByRecursion, flat_map}
use Rattle.std.proofs.lemmas.Bool.{ne_eqb, le-ltb}
use Rattle.clap.specs.Faults.{settle_fault, step_fault, use_fault, walk_fault}
use Rattle.clap.specs.Kinds.{range_kinds, values_kinds}
use Rattle.clap.specs.Simple.{Shape, built_leaf, filled, inherited, with_index}
use Rattle.clap.specs.Walk.{Held, Row, Rule, Step, Text, Walk, after_step, has_row, idle, is_pending, nothing_held, positional, pushed, reacted, settled, walk_from, walked}
use Rattle.clap.specs.declared.builder.value_parser.Reading.TheVariants.{AsWritten}
use Rattle.clap.specs.declared.builder.value_parser.ValueParser.TheVariants as parsers
use Rattle.clap.specs.declared.parser.matches.ValueSource.TheVariants.{CommandLine}
use Rattle.arguments.specs.CommandLine.{carriers_rule, command_line, events_rule, files_rule, main_rule, run_app, trace_rule}
use Rattle.arguments.specs.PlainWords.{AreDifferent, AreOther, IsInRange, IsPlain, RunOption, carriers, events, option_words, trace}
use Rattle.arguments.proofs.PlainWalk.{At, HasNumber, HasWord, Leads, added, append_nil, behind_word, first_use, held_is, if_none, leads_nowhere, leads_on, new_row, no_row, number_held, number_row, option_at, option_leads, or_both, plain_is_word, rows_of_held, skip_of_held, starts, word_at, word_held, word_is, word_leads, word_quiet}

-- the built command `run`, and its arguments
abbrev pub run_shape : Shape
run_shape = built_leaf (inherited command_line.top run_app.top)

abbrev pub carriers_arg : Rule
carriers_arg = with_index 1 (filled carriers_rule)

abbrev pub events_arg : Rule
events_arg = with_index 1 (filled events_rule)

abbrev pub trace_arg : Rule
trace_arg = with_index 1 (filled trace_rule)

abbrev pub main_arg : Rule
main_arg = with_index 1 (filled main_rule)

abbrev pub files_arg : Rule
files_arg = with_index 2 (filled files_rule)

-- ---- rows

abbrev pub option_row : RunOption → Row
option_row (carriers n) = number_row (codes "carriers") n
option_row (events n) = number_row (codes "events") n
option_row trace = new_row (codes "trace") AsWritten CommandLine (codes "true" ∷ [])

abbrev pub main_row : Text → Row
main_row m = new_row (codes "MAIN") AsWritten CommandLine (m ∷ [])

abbrev pub files_row : List Text → Row
files_row fs = new_row (codes "FILE") AsWritten CommandLine fs

-- ---- an option

pub record Steps (h : Held) (rows : List Row) (o : RunOption) : Type 0 where
  pub after : Held
  pub leads : Leads run_shape (walk_from h) (option_words o) (walk_from after)
  pub at : At run_shape after (rows ++ option_row o ∷ [])

has_carriers : HasNumber run_shape (codes "carriers") (codes "--carriers") (codes "4") 1 64
has_carriers = record { once = refl; by_long = refl; by_id = refl; itself = refl; dashes = refl; long = refl }

has_events : HasNumber run_shape (codes "events") (codes "--events") (codes "4194304") 1000 33554432
has_events = record { once = refl; by_long = refl; by_id = refl; itself = refl; dashes = refl; long = refl }

carriers_step : (h : Held) (rows : List Row) (n : ℕ) → At run_shape h rows → has_row (codes "carriers") rows ≡ false → 1 ≤ n → n ≤ 64 → Steps h rows (carriers n)
carriers_step h rows n at none least most = record {
  after = number_held run_shape (codes "carriers") h n;
  leads = option_leads run_shape (codes "carriers") (codes "--carriers") (codes "4") 1 64 has_carriers h rows n at most (omega arith);
  at = option_at run_shape (codes "carriers") (codes "--carriers") (codes "4") 1 64 has_carriers h rows n at none least most (omega arith);
}

events_step : (h : Held) (rows : List Row) (n : ℕ) → At run_shape h rows → has_row (codes "events") rows ≡ false → 1000 ≤ n → n ≤ 33554432 → Steps h rows (events n)
events_step h rows n at none least most = record {
  after = number_held run_shape (codes "events") h n;
  leads = option_leads run_shape (codes "events") (codes "--events") (codes "4194304") 1000 33554432 has_events h rows n at most (omega arith);
  at = option_at run_shape (codes "events") (codes "--events") (codes "4194304") 1000 33554432 has_events h rows n at none least most (omega arith);
}

trace_step : (h : Held) (rows : List Row) → At run_shape h rows → has_row (codes "trace") rows ≡ false → Steps h rows trace
unfolding walked walk_fault
trace_step h rows at none =
    let same = rows_of_held run_shape h rows at in
    let no : has_row (codes "trace") (settled run_shape.rules h).rows ≡ false = ap (has_row (codes "trace")) same ∙ none in
    let used_once : use_fault false trace_arg [] (settled run_shape.rules h).rows ≡ [] = rw no refl in
    record {
      after = reacted run_shape.rules trace_arg [] h;
      leads = record { goes = refl; quiet = or_both _ _ (or_both _ _ (or_both _ _ at.quiet used_once) refl) refl };
      at = record {
        is = held_is _ _ _ _ (first_use (codes "trace") AsWritten (codes "true" ∷ []) (settled run_shape.rules h).rows no ∙ ap (λ (rs : List Row). rs ++ option_row trace ∷ []) same) (skip_of_held run_shape h rows at);
        quiet = refl;
      };
    }

-- ---- MAIN and the FILEs

has_main : HasWord run_shape (codes "MAIN") None
has_main = record { once = refl; by_index = refl; by_id = refl }

abbrev main_held : Held → Text → Held
main_held h m = word_held run_shape (codes "MAIN") h m

main_leads : (h : Held) (rows : List Row) (m : Text) → At run_shape h rows → IsPlain m → Leads run_shape (walk_from h) (m ∷ []) (behind_word (main_held h m))
main_leads h rows m at plain = word_leads run_shape (codes "MAIN") None has_main h rows m at plain

main_at : (h : Held) (rows : List Row) (m : Text) → At run_shape h rows → has_row (codes "MAIN") rows ≡ false → At run_shape (main_held h m) (rows ++ main_row m ∷ [])
main_at h rows m at none = word_at run_shape (codes "MAIN") None has_main h rows m at none refl

-- the place behind a FILE
abbrev pub in_files : Held → Walk
in_files h = record { held = h; waiting = positional; position = 2; is_trailing = false; stopped = None }

-- the words wait to be used as FILEs
abbrev files_held : Held → List Text → Held
files_held h fs = record (settled run_shape.rules h) { pending = Some (codes "FILE", fs) }

first_file : (h : Held) (rows : List Row) (m f : Text) → At run_shape h rows → h.pending ≡ Some (codes "MAIN", m ∷ []) → IsPlain f → Leads run_shape (behind_word h) (f ∷ []) (in_files (files_held h (f ∷ [])))
unfolding walked walk_fault
first_file h rows m f at waits plain =
    let word = plain_is_word f plain in
    let met = word_is run_shape.rules idle 2 f h word in
    let other : is_pending files_arg h.pending ≡ false = ap (is_pending files_arg) waits in
    record {
      goes = ap (λ (x : Held × Step). after_step run_shape.rules f (behind_word h) x.0 x.1) met
          ∙ ap (λ (b : Bool). in_files (pushed (codes "FILE") f (if b && true then h else settled run_shape.rules h))) other;
      quiet = or_both _ _ (or_both _ _ (word_quiet run_shape idle f h word)
          (ap (λ (x : Held × Step). step_fault run_shape 2 x.0 x.1) met ∙ if_none (is_pending files_arg h.pending && true) (settle_fault run_shape.rules false h) at.quiet)) refl;
    }

next_file : (h : Held) (fs : List Text) (f : Text) → IsPlain f → Leads run_shape (in_files (files_held h fs)) (f ∷ []) (in_files (files_held h (fs ++ f ∷ [])))
unfolding walked walk_fault
next_file h fs f plain =
    let word = plain_is_word f plain in
    let met = word_is run_shape.rules positional 2 f (files_held h fs) word in
    record {
      goes = ap (λ (x : Held × Step). after_step run_shape.rules f (in_files (files_held h fs)) x.0 x.1) met;
      quiet = or_both _ _ (or_both _ _ (word_quiet run_shape positional f (files_held h fs) word) (ap (λ (x : Held × Step). step_fault run_shape 2 x.0 x.1) met)) refl;
    }

more_files : (h : Held) (fs gs : List Text) → AllByRecursion IsPlain gs → Leads run_shape (in_files (files_held h fs)) gs (in_files (files_held h (fs ++ gs)))
unfolding walk_fault
more_files h fs [] plain = record { goes = ap (λ (xs : List Text). in_files (files_held h xs)) (sym (append_nil fs)); quiet = refl }
more_files h fs (g ∷ gs) plain =
    let one = next_file h fs g plain.0 in
    let rest = more_files h (fs ++ g ∷ []) gs plain.1 in
    subst (λ (xs : List Text). Leads run_shape (in_files (files_held h fs)) (g ∷ gs) (in_files (files_held h xs))) (append_assoc fs (g ∷ []) gs)
    (leads_on run_shape (in_files (files_held h fs)) (in_files (files_held h (fs ++ g ∷ []))) (in_files (files_held h ((fs ++ g ∷ []) ++ gs))) (g ∷ []) gs one rest)

values_pass : (fs : List Text) → values_kinds false parsers.String fs ≡ []
values_pass [] = refl
values_pass (f ∷ fs) = values_pass fs

count_passes : (n : ℕ) → 1 ≤ n → n < 2 ^ 64 → range_kinds 1 18446744073709551615 n ≡ []
count_passes n some few =
    let none : (n == 0) ≡ false = ne_eqb _ _ (λ e. omega arith) in
    rw (none, le-ltb n 1 some, le-ltb 18446744073709551615 n (omega arith)) refl

files_at : (h : Held) (rows : List Row) (f : Text) (fs : List Text) → At run_shape h rows → has_row (codes "FILE") rows ≡ false → length (f ∷ fs) < 2 ^ 64 → At run_shape (files_held h (f ∷ fs)) (rows ++ files_row (f ∷ fs) ∷ [])
files_at h rows f fs at none few =
    let same = rows_of_held run_shape h rows at in
    let no : has_row (codes "FILE") (settled run_shape.rules h).rows ≡ false = ap (has_row (codes "FILE")) same ∙ none in
    record {
      is = held_is _ _ _ _ (added (codes "FILE") AsWritten CommandLine (f ∷ fs) (settled run_shape.rules h).rows no ∙ ap (λ (rs : List Row). rs ++ files_row (f ∷ fs) ∷ []) same) (skip_of_held run_shape h rows at);
      quiet = or_both (range_kinds 1 18446744073709551615 (length (f ∷ fs))) (values_kinds false parsers.String (f ∷ fs)) (count_passes (length (f ∷ fs)) (omega arith) few) (values_pass (f ∷ fs));
    }

-- ---- all the words

abbrev Absent : List Row → RunOption → Type 0
Absent rows (carriers n) = has_row (codes "carriers") rows ≡ false
Absent rows (events n) = has_row (codes "events") rows ≡ false
Absent rows trace = has_row (codes "trace") rows ≡ false

absent_more : (rows : List Row) (o p : RunOption) → AreOther o p → Absent rows p → Absent (rows ++ option_row o ∷ []) p
absent_more rows (carriers m) (carriers n) other absent = absurd other
absent_more rows (carriers m) (events n) other absent = no_row (codes "events") rows (option_row (carriers m) ∷ []) absent refl
absent_more rows (carriers m) trace other absent = no_row (codes "trace") rows (option_row (carriers m) ∷ []) absent refl
absent_more rows (events m) (carriers n) other absent = no_row (codes "carriers") rows (option_row (events m) ∷ []) absent refl
absent_more rows (events m) (events n) other absent = absurd other
absent_more rows (events m) trace other absent = no_row (codes "trace") rows (option_row (events m) ∷ []) absent refl
absent_more rows trace (carriers n) other absent = no_row (codes "carriers") rows (option_row trace ∷ []) absent refl
absent_more rows trace (events n) other absent = no_row (codes "events") rows (option_row trace ∷ []) absent refl
absent_more rows trace trace other absent = absurd other

all_absent_more : (rows : List Row) (o : RunOption) (os : List RunOption) → AllByRecursion (AreOther o) os → AllByRecursion (Absent rows) os → AllByRecursion (Absent (rows ++ option_row o ∷ [])) os
all_absent_more rows o [] others absent = tt
all_absent_more rows o (p ∷ os) others absent = (absent_more rows o p others.0 absent.0, all_absent_more rows o os others.1 absent.1)

none_yet : (os : List RunOption) → AllByRecursion (Absent []) os
none_yet [] = tt
none_yet (carriers n ∷ os) = (refl, none_yet os)
none_yet (events n ∷ os) = (refl, none_yet os)
none_yet (trace ∷ os) = (refl, none_yet os)

one_step : (h : Held) (rows : List Row) (o : RunOption) → At run_shape h rows → Absent rows o → IsInRange o → Steps h rows o
one_step h rows (carriers n) at absent range = carriers_step h rows n at absent range.0 range.1
one_step h rows (events n) at absent range = events_step h rows n at absent range.0 range.1
one_step h rows trace at absent range = trace_step h rows at absent

record Passes (h : Held) (rows : List Row) (os : List RunOption) : Type 0 where
  after : Held
  leads : Leads run_shape (walk_from h) (flat_map option_words os) (walk_from after)
  at : At run_shape after (rows ++ map option_row os)

all_steps : (h : Held) (rows : List Row) (os : List RunOption) → At run_shape h rows → AllByRecursion (Absent rows) os → AreDifferent os → AllByRecursion IsInRange os → Passes h rows os
unfolding walk_fault
all_steps h rows [] at absent different range = record {
  after = h;
  leads = leads_nowhere run_shape (walk_from h);
  at = subst (At run_shape h) (sym (append_nil rows)) at;
}
all_steps h rows (o ∷ os) at absent different range =
    let one = one_step h rows o at absent.0 range.0 in
    let rest = all_steps one.after (rows ++ option_row o ∷ []) os one.at (all_absent_more rows o os different.0 absent.1) different.1 range.1 in
    record {
      after = rest.after;
      leads = leads_on run_shape (walk_from h) (walk_from one.after) (walk_from rest.after) (option_words o) (flat_map option_words os) one.leads rest.leads;
      at = subst (At run_shape rest.after) (append_assoc rows (option_row o ∷ []) (map option_row os)) rest.at;
    }

no_main_yet : (os : List RunOption) → has_row (codes "MAIN") (map option_row os) ≡ false
no_main_yet [] = refl
no_main_yet (carriers n ∷ os) = no_main_yet os
no_main_yet (events n ∷ os) = no_main_yet os
no_main_yet (trace ∷ os) = no_main_yet os

no_file_yet : (os : List RunOption) → has_row (codes "FILE") (map option_row os) ≡ false
no_file_yet [] = refl
no_file_yet (carriers n ∷ os) = no_file_yet os
no_file_yet (events n ∷ os) = no_file_yet os
no_file_yet (trace ∷ os) = no_file_yet os

abbrev pub plain_rows : List RunOption → Text → List Text → List Row
plain_rows os m fs = (map option_row os ++ main_row m ∷ []) ++ files_row fs ∷ []

abbrev pub run_words : List RunOption → Text → List Text → List Text
run_words os m fs = flat_map option_words os ++ (m ∷ fs)

-- the walk over the words of a run
pub record Ends (os : List RunOption) (m : Text) (fs : List Text) : Type 0 where
  pub last : Held
  pub leads : Leads run_shape (walk_from nothing_held) (run_words os m fs) (in_files last)
  pub at : At run_shape last (plain_rows os m fs)

pub ends : (os : List RunOption) (m f : Text) (fs : List Text) → AreDifferent os → AllByRecursion IsInRange os → IsPlain m → IsPlain f → AllByRecursion IsPlain fs → length (f ∷ fs) < 2 ^ 64 → Ends os m (f ∷ fs)
ends os m f fs different range main_plain file_plain plain few =
    let options = all_steps nothing_held [] os (starts run_shape) (none_yet os) different range in
    let h = options.after in
    let rows = map option_row os in
    let main_is = main_at h rows m options.at (no_main_yet os) in
    let no_file = no_row (codes "FILE") rows (main_row m ∷ []) (no_file_yet os) refl in
    let held = main_held h m in
    let files = leads_on run_shape (behind_word held) (in_files (files_held held (f ∷ []))) (in_files (files_held held (f ∷ fs))) (f ∷ []) fs
    (first_file held (rows ++ main_row m ∷ []) m f main_is refl file_plain) (more_files held (f ∷ []) fs plain) in
    let words = leads_on run_shape (walk_from h) (behind_word held) (in_files (files_held held (f ∷ fs))) (m ∷ []) (f ∷ fs) (main_leads h rows m options.at main_plain) files in
    record {
      last = files_held held (f ∷ fs);
      leads = leads_on run_shape (walk_from nothing_held) (walk_from h) (in_files (files_held held (f ∷ fs))) (flat_map option_words os) (m ∷ (f ∷ fs)) options.leads words;
      at = files_at held (rows ++ main_row m ∷ []) f fs main_is no_file few;
    }
