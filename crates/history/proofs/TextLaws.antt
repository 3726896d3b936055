-- A trace text is the text of one history.
use Rattle.std.proofs.Common.{◌≡◌, ℕ, ◌+◌, ◌^◌, ◌<◌, ◌≤◌, List, [], ◌∷◌, ◌++◌, length, Option, Some, None, refl, sym, ap, subst, ◌∙◌, append_assoc, arith, length-append, append-nil}
use Rattle.std.proofs.Common.{true, false, eqb}
use Rattle.std.specs.List.{flat_map}
use Rattle.std.proofs.lemmas.Bool.{eqb-true}
use Rattle.std.proofs.lemmas.Bool.Decides.{nat_tests}
use Rattle.std.proofs.lemmas.Grind.{flat_map-append}
use Rattle.history.specs.declared.entry.Entry.{Entry}
use Rattle.history.specs.TraceText.{field, newline, letter, fields, line, first_line, last_line, trace_text, IsEntry, AreEntries}
use Rattle.std.specs.Prelude.{codes}
use Rattle.history.specs.Parsing.{entry_at, first_line_at, last_line_at}
use Rattle.history.specs.FirstBadLine.{NoFirstLine, NoNextLine, GoesOn}
use Rattle.history.specs.Reading.{TakesEntries}
use Rattle.history.proofs.LineLaws.{letter_is, entry_takes, entry_again, first_line_takes, first_line_again, last_line_takes, last_line_again}
use Rattle.history.proofs.Tests.{some, some_same}

pub are_entries_push : (es : List Entry) (e : Entry) → AreEntries es → IsEntry e → AreEntries (es ++ e ∷ [])
are_entries_push [] e all one = (one, tt)
are_entries_push (x ∷ es) e all one = (all.0, are_entries_push es e all.1 one)

-- a line isn't empty
pub line_long : (e : Entry) → 0 < length (line e)
line_long e = omega (arith, length-append (letter e.what) (field e.carrier ++ (fields e.what ++ newline)), ap length (letter_is e.what))

pub lines_long : (es : List Entry) → length es ≤ length (flat_map line es)
lines_long [] = omega arith
lines_long (e ∷ es) = omega (arith, lines_long es, line_long e, length-append (line e) (flat_map line es))

-- two lists of lines, after each of which there is no entry's line
pub lines_same : (xs es : List Entry) (a b : List ℕ) → AreEntries xs → AreEntries es → flat_map line xs ++ a ≡ flat_map line es ++ b
    → entry_at a ≡ None → entry_at b ≡ None → (xs ≡ es) × (a ≡ b)
lines_same [] [] a b p q e f g = (refl, e)
lines_same [] (y ∷ es) a b p q e f g =
    let here : entry_at a ≡ Some (y, flat_map line es ++ b) = ap entry_at (e ∙ append_assoc (line y) (flat_map line es) b) ∙ entry_again y (flat_map line es ++ b) q.0 in
    absurd cc
lines_same (x ∷ xs) [] a b p q e f g =
    let here : entry_at b ≡ Some (x, flat_map line xs ++ a) = ap entry_at (sym e ∙ append_assoc (line x) (flat_map line xs) a) ∙ entry_again x (flat_map line xs ++ a) p.0 in
    absurd cc
lines_same (x ∷ xs) (y ∷ es) a b p q e f g =
    let here : some (x, flat_map line xs ++ a) ≡ Some (y, flat_map line es ++ b) =
    sym (entry_again x (flat_map line xs ++ a) p.0)
    ∙ ap entry_at (sym (append_assoc (line x) (flat_map line xs) a) ∙ e ∙ append_assoc (line y) (flat_map line es) b)
    ∙ entry_again y (flat_map line es ++ b) q.0 in
    let both = some_same (x, flat_map line xs ++ a) (y, flat_map line es ++ b) here in
    let rest = lines_same xs es a b p.1 q.1 (ap (λ (t : Entry × List ℕ). t.1) both) f g in
    ((λ i. (both i).0 ∷ rest.0 i), rest.1)

-- one more line
pub line_more : (es : List Entry) (e : Entry) (rest : List ℕ) → flat_map line (es ++ e ∷ []) ++ rest ≡ flat_map line es ++ (line e ++ rest)
line_more es e rest = simp (flat_map-append, append_assoc)

-- after the first line of a trace text
pub trace_parts : (carriers : ℕ) (es : List Entry) (rest : List ℕ) → trace_text carriers es ++ rest ≡ first_line carriers ++ (flat_map line es ++ (last_line (length es) ++ rest))
trace_parts carriers es rest = regroup (first_line carriers) (flat_map line es) (last_line (length es)) rest
  where
    regroup : (a b c d : List ℕ) → (a ++ (b ++ c)) ++ d ≡ a ++ (b ++ (c ++ d))
    regroup a b c d = simp append_assoc

-- reading the first line of a trace text
pub trace_begins : (text : List ℕ) (carriers : ℕ) (es : List Entry) → carriers < 2 ^ 32 → text ≡ trace_text carriers es
    → first_line_at text ≡ Some (carriers, flat_map line es ++ last_line (length es))
trace_begins text carriers es small e = ap first_line_at e ∙ first_line_again carriers (flat_map line es ++ last_line (length es)) small

-- and its entries
pub trace_entries : (bytes : List ℕ) (xs es : List Entry) (rest : List ℕ) → AreEntries es → bytes ≡ flat_map line es ++ last_line (length es) → TakesEntries bytes xs rest
    → (xs ≡ es) × (rest ≡ last_line (length es))
trace_entries bytes xs es rest are e takes = lines_same xs es rest (last_line (length es)) takes.are_entries are (sym takes.parts ∙ e) takes.no_entry refl

-- ---- what was read of a text

pub no_first_line : (text : List ℕ) → first_line_at text ≡ None → NoFirstLine text
no_first_line text e = record { none = λ c rest small is. let here : first_line_at text ≡ Some (c, rest) = ap first_line_at is ∙ first_line_again c rest small in absurd cc }

-- a text begins with a first line and a number of entries
pub record Begins (text : List ℕ) (carriers count : ℕ) (entries : List Entry) (rest : List ℕ) : Type 0 where
  pub lines : List ℕ
  pub first : first_line_at text ≡ Some (carriers, lines)
  pub takes : TakesEntries lines entries rest
  pub size : count ≡ length entries
  pub short : length text < 2 ^ 32

pub begins : {text : List ℕ} {carriers count : ℕ} {lines : List ℕ} {entries : List Entry} {rest : List ℕ} → Some (carriers, lines) ≡ first_line_at text → TakesEntries lines entries rest
    → count ≡ length entries → length text < 2 ^ 32 → Begins text carriers count entries rest
begins {lines = lines} first takes size short = record { lines = lines; first = sym first; takes = takes; size = size; short = short }

module _ {text : List ℕ} {carriers count : ℕ} {entries : List Entry} {rest : List ℕ} (h : Begins text carriers count entries rest) where
  first_parts : (text ≡ first_line carriers ++ (flat_map line entries ++ rest)) × (carriers < 2 ^ 32)
  first_parts =
      let first = first_line_takes text (carriers, h.lines) h.first in
      (first.0 ∙ ap (λ (t : List ℕ). first_line carriers ++ t) h.takes.parts, first.1)

  -- there are fewer entries than bytes
  pub entries_below : count + 3 ≤ length text
  entries_below =
      let parts = ap length first_parts.0 in
      omega (arith, parts, h.size, length-append (first_line carriers) (flat_map line entries ++ rest), length-append (flat_map line entries) rest, lines_long entries, length-append (codes "jvt-trace carriers") (field carriers ++ newline))

  last_again : (behind : List ℕ) → last_line_at count (last_line (length entries) ++ behind) ≡ Some behind
  last_again behind = ap (λ (n : ℕ). last_line_at count (last_line n ++ behind)) (sym h.size) ∙ last_line_again count behind (omega (arith, entries_below, h.short))

  -- a trace text that begins so
  pub trace_same : (d : ℕ) (es : List Entry) → d < 2 ^ 32 → AreEntries es → text ≡ trace_text d es → (carriers ≡ d) × (entries ≡ es)
  trace_same d es small are e =
      let both : (carriers, h.lines) ≡ (d, flat_map line es ++ last_line (length es)) = some_same _ _ (sym h.first ∙ trace_begins text d es small e) in
      (ap (λ (t : ℕ × List ℕ). t.0) both, (trace_entries h.lines entries es rest are (ap (λ (t : ℕ × List ℕ). t.1) both) h.takes).0)

  -- ends there
  pub trace_ends : (d : ℕ) (es : List Entry) → d < 2 ^ 32 → AreEntries es → text ≡ trace_text d es → last_line_at count rest ≡ Some []
  trace_ends d es small are e =
      let both : (carriers, h.lines) ≡ (d, flat_map line es ++ last_line (length es)) = some_same _ _ (sym h.first ∙ trace_begins text d es small e) in
      let end = trace_entries h.lines entries es rest are (ap (λ (t : ℕ × List ℕ). t.1) both) h.takes in
      let rest_is : rest ≡ last_line (length entries) ++ [] = end.1 ∙ ap (λ (t : List Entry). last_line (length t)) (sym end.0) ∙ sym (append-nil (last_line (length entries))) in
      ap (last_line_at count) rest_is ∙ last_again []

  pub no_next_line : last_line_at count rest ≡ None → NoNextLine text (count + 2)
  no_next_line e = record {
    carriers = carriers;
    entries = entries;
    rest = rest;
    number = ap (λ (n : ℕ). n + 2) h.size;
    in_range = first_parts.1;
    are_entries = h.takes.are_entries;
    before = first_parts.0;
    no_entry = λ x behind is same. let here : entry_at rest ≡ Some (x, behind) = ap entry_at same ∙ entry_again x behind is in let none = h.takes.no_entry in absurd cc;
    no_end = λ behind same. let here : last_line_at count rest ≡ Some behind = ap (last_line_at count) same ∙ last_again behind in absurd cc;
  }

  last_parts : (behind : List ℕ) → last_line_at count rest ≡ Some behind → text ≡ trace_text carriers entries ++ behind
  last_parts behind e =
      let end : rest ≡ last_line (length entries) ++ behind = last_line_takes count rest behind e ∙ ap (λ (n : ℕ). last_line n ++ behind) h.size in
      first_parts.0 ∙ ap (λ (t : List ℕ). first_line carriers ++ (flat_map line entries ++ t)) end ∙ sym (trace_parts carriers entries behind)

  pub goes_on : (behind : List ℕ) → last_line_at count rest ≡ Some behind → 0 < length behind → GoesOn text (count + 3)
  goes_on behind e more = record {
    carriers = carriers;
    entries = entries;
    rest = behind;
    number = ap (λ (n : ℕ). n + 3) h.size;
    in_range = first_parts.1;
    are_entries = h.takes.are_entries;
    before = last_parts behind e;
    behind = more;
  }

  pub is_trace : last_line_at count rest ≡ Some [] → text ≡ trace_text carriers entries
  is_trace e = last_parts [] e ∙ append-nil (trace_text carriers entries)

-- ---- what is left of a text

pub not_empty : (behind : List ℕ) → false ≡ eqb (length behind) 0 → 0 < length behind
not_empty behind e = grind (arith, nat_tests)

pub no_more : (behind : List ℕ) (last : Option (List ℕ)) → last ≡ Some [] → Some behind ≡ last → false ≡ eqb (length behind) 0 → ⊥
no_more [] last e is more = absurd cc
no_more (b ∷ behind) last e is more = absurd cc

pub at_end : (behind : List ℕ) (last : Option (List ℕ)) → Some behind ≡ last → true ≡ eqb (length behind) 0 → last ≡ Some []
at_end [] last is none = sym is
at_end (b ∷ behind) last is none = absurd (omega (arith, eqb-true (length (b ∷ behind)) 0 (sym none)))

-- ---- one more entry

pub entry_shortens : (rest : List ℕ) (e : Entry) (behind : List ℕ) → Some (e, behind) ≡ entry_at rest → length behind < length rest
entry_shortens rest e behind is = omega (arith, ap length (entry_takes rest (e, behind) (sym is)).0, length-append (line e) behind, line_long e)

pub entry_more : (lines : List ℕ) (es new : List Entry) (rest : List ℕ) (e : Entry) (behind : List ℕ) → (lines ≡ flat_map line es ++ rest) × AreEntries es → Some (e, behind) ≡ entry_at rest
    → new ≡ es ++ e ∷ [] → (lines ≡ flat_map line new ++ behind) × AreEntries new
entry_more lines es new rest e behind h is pushed =
    let takes = entry_takes rest (e, behind) (sym is) in
    let parts : lines ≡ flat_map line (es ++ e ∷ []) ++ behind = h.0 ∙ ap (λ (t : List ℕ). flat_map line es ++ t) takes.0 ∙ sym (line_more es e behind) in
    subst (λ (xs : List Entry). (lines ≡ flat_map line xs ++ behind) × AreEntries xs) (sym pushed) (parts, are_entries_push es e h.1 takes.1)

-- a text is that of one history at most
pub one_text : (c d : ℕ) (es fs : List Entry) → c < 2 ^ 32 → d < 2 ^ 32 → AreEntries es → AreEntries fs → trace_text c es ≡ trace_text d fs → (c ≡ d) × (es ≡ fs)
one_text c d es fs small low are be e =
    let both : (c, flat_map line es ++ last_line (length es)) ≡ (d, flat_map line fs ++ last_line (length fs)) = some_same _ _ (sym (trace_begins (trace_text c es) c es small refl) ∙ trace_begins (trace_text c es) d fs low e) in
    (ap (λ (t : ℕ × List ℕ). t.0) both, (lines_same es fs (last_line (length es)) (last_line (length fs)) are be (ap (λ (t : ℕ × List ℕ). t.1) both) refl refl).0)
