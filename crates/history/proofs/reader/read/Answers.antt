use Rattle.std.proofs.Common.{◌≡◌, ◌+◌, ℕ, length, sym, subst, arith, rules}
use Rattle.history.specs.FirstBadLine.{IsFirstBadLine}
use Rattle.history.specs.FirstBadLine.IsFirstBadLine.{first, next, last}
use Rattle.history.proofs.TextLaws.{no_first_line, begins, entries_below, trace_same, trace_ends, no_next_line, goes_on, is_trace, not_empty, no_more, at_end}
use Rattle.history.proofs.reader.read.Goals as goal

pub returns-in_default-clause-only : goal.returns-in_default-clause-only
returns-in_default-clause-only c d es small are e = absurd ((no_first_line c.args.text.now (sym c.in_default.ensures)).none d _ small e)

pub returns-in_default-clause-bad : goal.returns-in_default-clause-bad
returns-in_default-clause-bad c line e = let one : line ≡ 1 = cc in first one (no_first_line c.args.text.now (sym c.in_default.ensures))

pub overflow_add-result : goal.overflow_add-result
overflow_add-result c =
    let size : c.len-count.result ≡ length c.in_ok-entries.entries.items = search rules in
    let below = entries_below (begins c.in-Some.ensures c.in_ok-entries.ensures size c.requires) in
    record { fits = omega (arith, below, c.requires) }

pub overflow_cast-result : goal.overflow_cast-result
overflow_cast-result c =
    let size : c.len-count.result ≡ length c.in_ok-entries.entries.items = search rules in
    let below = entries_below (begins c.in-Some.ensures c.in_ok-entries.ensures size c.requires) in
    record { fits = omega (arith, below, c.requires) }

pub returns-in_default-last_line_at-clause-only : goal.returns-in_default-last_line_at-clause-only
returns-in_default-last_line_at-clause-only c d es small are e =
    let size : c.len-count.result ≡ length c.in_ok-entries.entries.items = search rules in
    let ends = trace_ends (begins c.in-Some.ensures c.in_ok-entries.ensures size c.requires) d es small are e in
    absurd (cc (ends, c.in_default-last_line_at.ensures))

pub returns-in_default-last_line_at-clause-bad : goal.returns-in_default-last_line_at-clause-bad
returns-in_default-last_line_at-clause-bad c at e =
    let size : c.len-count.result ≡ length c.in_ok-entries.entries.items = search rules in
    let same : c.len-count.result + 2 ≡ at = cc in
    let none = no_next_line (begins c.in-Some.ensures c.in_ok-entries.ensures size c.requires) (sym c.in_default-last_line_at.ensures) in
    subst (λ (k : ℕ). IsFirstBadLine c.args.text.now k) same (next none)

pub overflow_cast-result-then-not-is_empty : goal.overflow_cast-result-then-not-is_empty
overflow_cast-result-then-not-is_empty c =
    let size : c.len-count.result ≡ length c.in_ok-entries.entries.items = search rules in
    let below = entries_below (begins c.in-Some.ensures c.in_ok-entries.ensures size c.requires) in
    record { fits = omega (arith, below, c.requires) }

pub overflow_add-result-then-not-is_empty : goal.overflow_add-result-then-not-is_empty
overflow_add-result-then-not-is_empty c =
    let size : c.len-count.result ≡ length c.in_ok-entries.entries.items = search rules in
    let below = entries_below (begins c.in-Some.ensures c.in_ok-entries.ensures size c.requires) in
    record { fits = omega (arith, below, c.requires) }

pub returns-then-not-is_empty-clause-only : goal.returns-then-not-is_empty-clause-only
returns-then-not-is_empty-clause-only c d es small are e =
    let size : c.len-count.result ≡ length c.in_ok-entries.entries.items = search rules in
    let ends = trace_ends (begins c.in-Some.ensures c.in_ok-entries.ensures size c.requires) d es small are e in
    absurd (no_more _ _ ends c.in-Some-last_line_at.ensures c.if-not-is_empty.ensures)

pub returns-then-not-is_empty-clause-bad : goal.returns-then-not-is_empty-clause-bad
returns-then-not-is_empty-clause-bad c at e =
    let size : c.len-count.result ≡ length c.in_ok-entries.entries.items = search rules in
    let same : c.len-count.result + 3 ≡ at = cc in
    let more = not_empty _ c.if-not-is_empty.ensures in
    let past = goes_on (begins c.in-Some.ensures c.in_ok-entries.ensures size c.requires) _ (sym c.in-Some-last_line_at.ensures) more in
    subst (λ (k : ℕ). IsFirstBadLine c.args.text.now k) same (last past)

pub returns-clause-found : goal.returns-clause-found
returns-clause-found c =
    let size : c.len-count.result ≡ length c.in_ok-entries.entries.items = search rules in
    is_trace (begins c.in-Some.ensures c.in_ok-entries.ensures size c.requires) (at_end _ _ c.in-Some-last_line_at.ensures c.if-not-is_empty.ensures)

pub returns-clause-only : goal.returns-clause-only
returns-clause-only c d es small are e =
    let size : c.len-count.result ≡ length c.in_ok-entries.entries.items = search rules in
    trace_same (begins c.in-Some.ensures c.in_ok-entries.ensures size c.requires) d es small are e
