-- Where the texts of a pool are while it is read.
use Rattle.std.proofs.Common.{◌≡◌, ℕ, ◌+◌, ◌<◌, ◌≤◌, List, [], ◌∷◌, ◌++◌, length, set, take, drop, Result, Ok, Err, refl, sym, ap, subst, ◌∙◌, arith}
use Rattle.std.specs.List.{sum_by, AllByRecursion}
use Rattle.std.proofs.lemmas.List.{append-nil, set-append_left, length-set, length-drop, take-append-le, drop-append-le}
use Rattle.std.proofs.lemmas.List.Sums.{sum_by-cons, sum_by_push}
use Rattle.std.proofs.Math.Seq.{set-append_seam, take-append_seam, take-length, drop-append_seam, drop-length}
use Rattle.jvm_utf8.specs.Units.{after}
use Rattle.class_model.specs.declared.constant.Const.{Const}
use Rattle.class_model.specs.declared.constant.Const.TheVariants.{Utf8}
use Rattle.class_file.specs.declared.texts.Entry.{Entry}
use Rattle.class_file.specs.declared.texts.Entry.TheVariants as entries
use Rattle.class_file.specs.declared.texts.Mark.{Mark}
use Rattle.class_grammar.specs.Ranges.{is_wide}
use Rattle.class_file.specs.Texts.{constant_of, is_wide_entry, appended, Appends, with_texts, len_of, IsWithin, Divides}

-- ---- a constant after the others

-- the others stay as they are with a constant that isn't marked
push_other : (marks : List Mark) (units : List ℕ) (constants : List Const) (c : Const) → AllByRecursion (IsWithin (length constants)) marks
    → with_texts marks units (constants ++ c ∷ []) ≡ with_texts marks units constants ++ c ∷ []
push_other [] units constants c within = refl
push_other (m ∷ marks) units constants c within =
    let text = Utf8 (take m.len units) in
    let others = subst (λ n. AllByRecursion (IsWithin n) marks) (sym (length-set constants m.index text)) within.1 in
    rw (set-append_left constants (c ∷ []) m.index text within.0) (push_other marks (drop m.len units) (set constants m.index text) c others)

abbrev mark_of : ℕ → ℕ → Mark
mark_of index len = record { index = index; len = len }

-- a text after the others, which is marked in the place of any constant
push_text : (marks : List Mark) (units text : List ℕ) (constants : List Const) (c : Const) (n : ℕ) → length constants ≡ n → sum_by len_of marks ≡ length units
    → AllByRecursion (IsWithin n) marks
    → with_texts (marks ++ mark_of n (length text) ∷ []) (units ++ text) (constants ++ c ∷ []) ≡ with_texts marks units constants ++ Utf8 text ∷ []
push_text [] [] text constants c n is total within =
    rw (sym is, take-length text) (set-append_seam constants c [] (Utf8 text))
push_text [] (u ∷ us) text constants c n is total within = absurd (omega (arith, total))
push_text (m ∷ marks) units text constants c n is total within =
    let sum = sum_by-cons len_of m marks in
    let fits : m.len ≤ length units = omega (arith, total, sum) in
    let here : m.index < length constants = omega (arith, within.0, is) in
    let placed = Utf8 (take m.len units) in
    let rest : sum_by len_of marks ≡ length (drop m.len units) = omega (arith, total, sum, length-drop m.len units) in
    let others = push_text marks (drop m.len units) text (set constants m.index placed) c n (length-set constants m.index placed ∙ is) rest within.1 in
    let same : with_texts (marks ++ mark_of n (length text) ∷ []) (drop m.len (units ++ text)) (set (constants ++ c ∷ []) m.index (Utf8 (take m.len (units ++ text))))
    ≡ with_texts marks (drop m.len units) (set constants m.index placed) ++ Utf8 text ∷ [] =
    rw (take-append-le m.len units text fits, drop-append-le m.len units text fits, set-append_left constants (c ∷ []) m.index placed here) others in
    same

-- the same, where the units of the text are the last ones
pub text_pushed : (marks : List Mark) (units before text : List ℕ) (constants : List Const) (c : Const) (index len : ℕ) → before ++ text ≡ units → length constants ≡ index → length text ≡ len
    → Divides marks (length before) (length constants) → with_texts (marks ++ mark_of index len ∷ []) units (constants ++ c ∷ []) ≡ with_texts marks before constants ++ Utf8 text ∷ []
text_pushed marks units before text constants c index len whole is size divides =
    rw (sym whole, sym size, sym is) (push_text marks before text constants c (length constants) refl divides.total divides.within)

-- the same of a constant that isn't marked, with which no units came
pub other_pushed : (marks : List Mark) (units before text : List ℕ) (constants : List Const) (c : Const) → before ++ text ≡ units → length text ≡ 0 → Divides marks (length before) (length constants)
    → with_texts marks units (constants ++ c ∷ []) ≡ with_texts marks before constants ++ c ∷ []
other_pushed marks units before [] constants c whole none divides =
    rw (sym whole, append-nil before) (push_other marks before constants c divides.within)
other_pushed marks units before (u ∷ us) constants c whole none divides = absurd (omega (arith, none))

-- ---- the marks after one more

all_push : (n : ℕ) (marks : List Mark) (m : Mark) → AllByRecursion (IsWithin n) marks → m.index < n + 1 → AllByRecursion (IsWithin (n + 1)) (marks ++ m ∷ [])
all_push n [] m within new = (new, tt)
all_push n (x ∷ marks) m within new = (omega (arith, within.0), all_push n marks m within.1 new)

all_more : (n : ℕ) (marks : List Mark) → AllByRecursion (IsWithin n) marks → AllByRecursion (IsWithin (n + 1)) marks
all_more n [] within = tt
all_more n (x ∷ marks) within = (omega (arith, within.0), all_more n marks within.1)

pub divides_text : (marks : List Mark) (before units n count index len : ℕ) → Divides marks before n → before + len ≡ units → count ≡ n + 1 → n ≡ index → Divides (marks ++ mark_of index len ∷ []) units count
divides_text marks before units n count index len d sum more is = record {
  total = omega (arith, d.total, sum, sum_by_push len_of marks (mark_of index len));
  within = rw more (all_push n marks (mark_of index len) d.within (omega (arith, is)));
}

pub divides_other : (marks : List Mark) (before units n count : ℕ) → Divides marks before n → before ≡ units → count ≡ n + 1 → Divides marks units count
divides_other marks before units n count d same more = record { total = d.total ∙ same; within = rw more (all_more n marks d.within) }

-- ---- an entry that is read

pub wide_entry : (units : List ℕ) (e : Entry) → is_wide_entry e ≡ is_wide (constant_of units e)
wide_entry units entries.Text = refl
wide_entry units (entries.Other c) = refl

-- the units that were there are in front of those that were appended
pub front_of : (before units : List ℕ) → Appends before units → take (length before) units ≡ before
front_of before units kept = ap (take (length before)) kept ∙ take-append_seam before (appended before units)

-- the units that were appended are those of the text
pub are_appended : (before units : List ℕ) (r : Result (List ℕ) ℕ) → after before r ≡ Ok units → (r ≡ Ok (appended before units)) × Appends before units
are_appended before units (Ok text) e =
    let is : before ++ text ≡ units = cc in
    let rest : appended before units ≡ text = ap (appended before) (sym is) ∙ drop-append_seam before text in
    (ap (λ us. Ok us) (sym rest), sym is ∙ ap (λ us. before ++ us) (sym rest))
are_appended before units (Err at) e = absurd cc

none_rest : (units : List ℕ) → appended units units ≡ []
none_rest units = drop-length units

-- where no unit was appended
pub appends_none : (units : List ℕ) → Appends units units
appends_none units = rw (none_rest units) (sym (append-nil units))

pub none_appended : (units : List ℕ) → length (appended units units) ≡ 0
none_appended units = rw (none_rest units) refl
