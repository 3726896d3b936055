-- Handlers that are satisfied at more than one pc.
use Rattle.std.proofs.Common.{◌≡◌, ◌⊎◌, inl, inr, ℕ, ◌<◌, ◌≤◌, true, false, Bool, cond, List, [], ◌∷◌, Option, Some, None, refl, ap, sym, subst, ◌∙◌, arith}
use Rattle.std.specs.Prelude.{IfSome, not, nat_le, nat_lt, ◌&&◌, ◌||◌}
use Rattle.std.specs.List.{list_all}
use Rattle.std.proofs.lemmas.Bool.{ltb-true, ltb-false, leb-true, le-leb, lt-ltb, and_parts, and_from, and_cases}
use Rattle.verify_types.specs.TypeStates.{TypeState}
use Rattle.verify_types.specs.Environment.{Handler, Environment}
use Rattle.verify_types.specs.Calls.{covers}
use Rattle.verify_types.specs.Handlers.{are_satisfied, is_satisfied}
use Rattle.verify_frames.specs.declared.known_state.Judged.{Judged}
use Rattle.verify_code.specs.declared.satisfied.JudgedTwice.{JudgedTwice}
use Rattle.verify_code.specs.Merged.{AskSame, is_kept}
use Rattle.verify_code.specs.Satisfied.{AreJudged}
use Rattle.verify_code.specs.Handlers.{keeps_more, nearer, next_start}
use Rattle.verify_frames.specs.KnownStates.{IsJudged, holds_at}

-- ---- rows that cover another pc too

at_two : (a x y c d e : Bool) → (not x || d) ≡ true → (not y || e) ≡ true → (d ≡ true → e ≡ true → c ≡ true) → (not a || ((x && y) || c)) ≡ (not a || c)
at_two a true true c d e p q f = ap (λ z. not a || z) (sym (f p q))
at_two a true false c d e p q f = refl
at_two a false y c d e p q f = refl

more_all : (env : Environment) (t : JudgedTwice) (pc : ℕ) (s one other : TypeState) (hs : List Handler) → ((h : Handler) → is_satisfied env one h ≡ true → is_satisfied env other h ≡ true → is_satisfied env s h ≡ true)
    → list_all (is_kept env t.one.at one) hs ≡ true → list_all (is_kept env t.other.at other) hs ≡ true → list_all (keeps_more env (Some t) pc s) hs ≡ list_all (is_kept env pc s) hs
more_all env t pc s one other [] both e f = refl
more_all env t pc s one other (h ∷ hs) both e f =
    let first = and_parts (is_kept env t.one.at one h) (list_all (is_kept env t.one.at one) hs) e in
    let second = and_parts (is_kept env t.other.at other h) (list_all (is_kept env t.other.at other) hs) f in
    ap (λ x. x && list_all (keeps_more env (Some t) pc s) hs)
    (at_two (covers pc h) (covers t.one.at h) (covers t.other.at h) (is_satisfied env s h) (is_satisfied env one h) (is_satisfied env other h) first.0 second.0 (both h))
    ∙ ap (λ x. is_kept env pc s h && x) (more_all env t pc s one other hs both first.1 second.1)

-- handlers that ask what those of the method do are satisfied where those are
asked : (env : Environment) (pc : ℕ) (s : TypeState) (hs : List Handler) → AskSame env hs env.handlers → list_all (is_kept env pc s) hs ≡ are_satisfied env pc s
asked env pc s hs alike = alike.same pc s

more_is : (env : Environment) (pc : ℕ) (s : TypeState) (hs : List Handler) (o : Option JudgedTwice) → AskSame env hs env.handlers → IfSome o (AreJudged env s)
    → list_all (keeps_more env o pc s) hs ≡ are_satisfied env pc s
more_is env pc s hs None alike h = asked env pc s hs alike
more_is env pc s hs (Some t) alike h =
    more_all env t pc s h.first h.second hs h.both (asked env t.one.at h.first hs alike ∙ h.one.at) (asked env t.other.at h.second hs alike ∙ h.other.at) ∙ asked env pc s hs alike

-- ---- up to the next start of a row

abbrev Is_nearer : ℕ → ℕ → ℕ → Bool
Is_nearer at n start = nat_lt at start && nat_lt start n

nearer_low : (at n start : ℕ) → nearer at n start ≤ n
nearer_low at n start = by_test (Is_nearer at n start) refl
  where
    by_test : (b : Bool) → Is_nearer at n start ≡ b → cond b start n ≤ n
    by_test true e = omega (arith, ltb-true start n (and_parts (nat_lt at start) (nat_lt start n) e).1)
    by_test false e = omega arith

nearer_high : (at n start : ℕ) → at < n → at < nearer at n start
nearer_high at n start h = by_test (Is_nearer at n start) refl
  where
    by_test : (b : Bool) → Is_nearer at n start ≡ b → at < cond b start n
    by_test true e = ltb-true at start (and_parts (nat_lt at start) (nat_lt start n) e).0
    by_test false e = h

next_low : (at n : ℕ) (hs : List Handler) → next_start at n hs ≤ n
next_low at n [] = omega arith
next_low at n (h ∷ hs) = omega (arith, next_low at (nearer at n h.row.start) hs, nearer_low at n h.row.start)

next_high : (at n : ℕ) (hs : List Handler) → at < n → at < next_start at n hs
next_high at n [] low = low
next_high at n (h ∷ hs) low = next_high at (nearer at n h.row.start) hs (nearer_high at n h.row.start low)

starts_before : (at pc n start : ℕ) → pc < nearer at n start → start ≤ pc → start ≤ at
starts_before at pc n start high low = by_test (Is_nearer at n start) refl high
  where
    behind : (x : (nat_lt at start ≡ false) ⊎ (nat_lt start n ≡ false)) → pc < n → start ≤ at
    behind (inl e) h = ltb-false at start e
    behind (inr e) h = absurd (omega (arith, ltb-false start n e))

    by_test : (b : Bool) → Is_nearer at n start ≡ b → pc < cond b start n → start ≤ at
    by_test true e h = absurd (omega arith)
    by_test false e h = behind (and_cases (nat_lt at start) (nat_lt start n) e) h

covers_both : (at pc n : ℕ) (h : Handler) → at ≤ pc → pc < nearer at n h.row.start → covers pc h ≡ true → covers at h ≡ true
covers_both at pc n h low high is =
    let parts = and_parts (nat_le h.row.start pc) (nat_lt pc h.row.end) is in
    and_from (nat_le h.row.start at) (nat_lt at h.row.end)
    (le-leb h.row.start at (starts_before at pc n h.row.start high (leb-true h.row.start pc parts.0)))
    (lt-ltb at h.row.end (omega (arith, ltb-true pc h.row.end parts.1)))

asked_before : (x y c : Bool) → (x ≡ true → y ≡ true) → (not y || c) ≡ true → (not x || c) ≡ true
asked_before false y c f h = refl
asked_before true y c f h = subst (λ b. (not b || c) ≡ true) (f refl) h

all_on : (env : Environment) (at pc n : ℕ) (s : TypeState) (hs : List Handler) → at ≤ pc → pc < next_start at n hs → list_all (is_kept env at s) hs ≡ true → list_all (is_kept env pc s) hs ≡ true
all_on env at pc n s [] low high e = refl
all_on env at pc n s (h ∷ hs) low high e =
    let parts = and_parts (is_kept env at s h) (list_all (is_kept env at s) hs) e in
    and_from (is_kept env pc s h) (list_all (is_kept env pc s) hs)
    (asked_before (covers pc h) (covers at h) (is_satisfied env s h) (λ is. covers_both at pc n h low (omega (arith, high, next_low at (nearer at n h.row.start) hs)) is) parts.0)
    (all_on env at pc (nearer at n h.row.start) s hs low high parts.1)

pub judged_here : (env : Environment) (s : TypeState) (pc until : ℕ) (hs : List Handler) → AskSame env hs env.handlers → until ≡ next_start pc 65536 hs → are_satisfied env pc s ≡ true → IsJudged env s (record { at = pc; until = until })
judged_here env s pc until hs alike is satisfied = record {
  at = satisfied;
  on = λ p low high. sym (asked env p s hs alike) ∙ all_on env pc p 65536 s hs low (subst (λ (n : ℕ). p < n) is high) (asked env pc s hs alike ∙ satisfied);
}

pub holds_here : (pc until : ℕ) (hs : List Handler) → pc < 65536 → until ≡ next_start pc 65536 hs → holds_at pc (Some (record { at = pc; until = until })) ≡ true
holds_here pc until hs low is =
    and_from (nat_le pc pc) (nat_lt pc until) (le-leb pc pc (omega arith)) (lt-ltb pc until (subst (λ (n : ℕ). pc < n) (sym is) (next_high pc 65536 hs low)))

pub held : (env : Environment) (pc : ℕ) (s : TypeState) (o : Option Judged) → IfSome o (IsJudged env s) → holds_at pc o ≡ true → are_satisfied env pc s ≡ true
held env pc s None h e = absurd cc
held env pc s (Some j) h e =
    let parts = and_parts (nat_le j.at pc) (nat_lt pc j.until) e in
    h.on pc (leb-true j.at pc parts.0) (ltb-true pc j.until parts.1)

pub satisfied_is : (env : Environment) (pc : ℕ) (s : TypeState) (hs : List Handler) (o : Option JudgedTwice) (b : Bool) → AskSame env hs env.handlers → b ≡ list_all (keeps_more env o pc s) hs
    → IfSome o (AreJudged env s) → b ≡ are_satisfied env pc s
satisfied_is env pc s hs o b alike is h = is ∙ more_is env pc s hs o alike h
