-- The view of a place, from step to step of a turn.
use Rattle.std.proofs.Common.{◌≡◌, ◌≢◌, ◌<◌, ◌≤◌, ◌+◌, ◌==◌, ℕ, true, false, Option, Some, None, List, [], ◌∷◌, ◌++◌, length, take, refl, sym, ap, subst, ◌∙◌, arith, add-one, ne_eqb}
use Rattle.std.specs.Prelude.{MatchBool, is_some, unwrap_or}
use Rattle.std.proofs.lemmas.List.{length-take-le, take-append-le, take_all}
use mathlib.Core.Option.{some}
use prog.Atomic.{either}
use Rattle.atomic_table.specs.Seated.{TableId}
use Rattle.atomic_table.specs.Table.{Allows, rest, step}
use Rattle.history.specs.Carriers.{made_by}
use Rattle.history.specs.declared.entry.Entry.{Entry}
use Rattle.turn_lock.specs.declared.view.View.{View}
use Rattle.turn_lock.specs.Badges.{only_view}
use Rattle.turn_lock.specs.Moves.{Counts, HasTaken, IsCounted, IsTaken, Mine}
use Rattle.turn_lock.specs.Rules.{IsInOrder}
use Rattle.turn_lock.specs.Seats.{Continues}
use Rattle.turn_lock.specs.Views.{after_step, note, number_of, seen_of, view, view_of}
use Rattle.turn_lock.proofs.EntryLaws.{all_by, next_entry}
use Rattle.turn_lock.proofs.TurnLaws.{counts_one}

-- a place made of a badge
pub place_view : {V : Type 0} (views : List View) (v : View) (me : Mine V) → views ≡ v ∷ [] → views ≡ me.0 ∷ [] → me.1 ≡ [] → me ≡ (v, [])
place_view views v me is made empty = λ i. ((ap only_view (sym made) ∙ ap only_view is) i, empty i)

-- .. by what it has seen itself
pub own_view : {V : Type 0} (number : ℕ) (seen : List Entry) (me : Mine V) → me ≡ (view_of false number seen, []) → me ≡ (view_of false number (seen_of me.0), [])
own_view number seen me is = is ∙ ap (λ es. (view_of false number es, [])) (sym (ap (λ (m : Mine _). seen_of m.0) is))

-- the table of a place after three steps
pub same_table : (a b c d : TableId) → a ≡ b → b ≡ c → c ≡ d → a ≡ d
same_table a b c d first second third = first ∙ second ∙ third

-- the slot that was taken last
pub first_slot : {V : Type 0} (slots : List (ℕ × Option V)) (x : ℕ × Option V) (xs : List (ℕ × Option V)) → slots ≡ x ∷ xs → slots ≡ x ∷ rest slots
first_slot slots x xs is = is ∙ ap (λ ys. x ∷ ys) (sym (ap rest is))

-- ---- taking

abbrev top : {V : Type 0} → List (ℕ × Option V) → Option V
top [] = None
top (x ∷ xs) = x.1

pub taken : {V : Type 0} (history : V → List Entry) (admits : V → Type 0) (me : Mine V) (found : ℕ) (next : Mine V)
    → found ≡ 0 → MatchBool (found == 0) ((value : V) × HasTaken history admits me value next) (next ≡ me) → (value : V) × HasTaken history admits me value next
taken history admits me found next free takes =
    subst (λ n. MatchBool (n == 0) ((value : _) × HasTaken history admits me value next) (next ≡ me)) free takes

pub not_taken : (found : ℕ) (A B : Type 0) → found ≢ 0 → MatchBool (found == 0) A B → B
not_taken found A B other takes = subst (λ b. MatchBool b A B) (ne_eqb found 0 other) takes

-- the value that was in the slot
pub some_found : {V : Type 0} (begun next : Mine V) (v : View) (x : V) (found : Option V) → next ≡ (v, (0, Some x) ∷ begun.1) → next.1 ≡ (0, found) ∷ rest next.1 → is_some found ≡ true
some_found begun next v x found took slot = ap is_some (sym (ap top slot) ∙ ap (λ (m : Mine _). top m.1) took)

-- the view once the value is out of the slot
pub down_view : {V : Type 0} (number : ℕ) (seen now : List Entry) (value : V) (begun next out : Mine V)
    → begun ≡ (view_of false number seen, []) → next ≡ (after_step begun.0 true true now, (0, Some value) ∷ begun.1) → out ≡ (next.0, (0, None) ∷ rest next.1)
    → out ≡ (view true true (note number now ∷ []), (0, None) ∷ [])
down_view number seen now value begun next out is took emptied =
    emptied ∙ ap (λ (m : Mine _). (m.0, (0, None) ∷ rest m.1)) took ∙ ap (λ (m : Mine _). (after_step m.0 true true now, (0, None) ∷ m.1)) is

-- the seat once it has the turn, and the value that was found in the slot is out of it
pub taken_all : {V : Type 0} (history : V → List Entry) (admits : V → Type 0) (number : ℕ) (begun next out last : Mine V) (x value : V) (found : Option V)
    → begun ≡ (view_of false number (seen_of begun.0), []) → HasTaken history admits begun x next → next.1 ≡ (0, found) ∷ rest next.1 → found ≡ Some value
    → out ≡ (next.0, (0, None) ∷ rest next.1) → last ≡ (after_step out.0 true false (seen_of out.0), []) → IsTaken history admits number (seen_of begun.0) value last
taken_all history admits number begun next out last x value found is took slot some_value emptied put =
    let same : x ≡ value = ap (λ o. unwrap_or o value) (sym (ap (λ (m : Mine _). top m.1) took.after) ∙ ap top slot ∙ some_value) in
    let down = down_view number (seen_of begun.0) (history x) x begun next out is took.after emptied in
    subst (λ v. IsTaken history admits number (seen_of begun.0) v last) same
    record {
      view = put ∙ ap (λ (m : Mine _). (after_step m.0 true false (seen_of m.0), [])) down;
      begins = took.begins;
      exact = subst (λ n. made_by n (history x) ≡ made_by n (seen_of begun.0)) (ap (λ (m : Mine _). number_of m.0) is) took.exact;
      admitted = took.admitted;
    }

-- ---- giving

-- the view once the slot was picked up: what was seen are the first entries of the value
pub begins_counting : {V : Type 0} (number count : ℕ) (seen log : List Entry) (begun loaded : Mine V) → count ≡ length seen → Continues number seen log
    → begun ≡ (view_of true number seen, []) → loaded ≡ (after_step begun.0 true true (seen_of begun.0), (0, None) ∷ [])
    → loaded ≡ (view true true (note number (take count log) ∷ []), (0, None) ∷ [])
begins_counting number count seen log begun loaded counts on is picked =
    let first : take count log ≡ seen =
    ap (λ n. take n log) counts ∙ ap (λ es. take (length seen) es) on.all ∙ take-append-le (length seen) seen on.new (omega arith) ∙ take_all (length seen) seen (omega arith) in
    picked
    ∙ ap (λ (m : Mine _). (after_step m.0 true true (seen_of m.0), (0, None) ∷ [])) is
    ∙ ap (λ es. (view true true (note number es ∷ []), (0, None) ∷ [])) (sym first)

next_of : (number n : ℕ) (seen log : List Entry) → Continues number seen log → length seen ≤ n → n < length log
    → (e : Entry) × (e.carrier ≡ number) × (take (n + 1) log ≡ take n log ++ e ∷ [])
next_of number n seen log on from low =
    subst (λ es. (e : Entry) × (e.carrier ≡ number) × (take (n + 1) es ≡ take n es ++ e ∷ [])) (sym on.all)
    (let below : n < length (seen ++ on.new) = subst (λ es. n < length es) on.all low in
    let r = next_entry number seen on.new n from below (all_by number on.new on.own) in
    (r.0, r.1, ap (λ k. take k (seen ++ on.new)) (add-one n) ∙ r.2))

module _ {V C : Type 0} (history : V → List Entry) (setting : V → C) (initial : V) (seats : ℕ) where
  pub counts_next : (slots id number n : ℕ) (seen : List Entry) (me : Mine V) (value : V) → Continues number seen (history value) → length seen ≤ n → n < length (history value)
      → me ≡ (view true true (note number (take n (history value)) ∷ []), (0, None) ∷ [])
      → Allows (λ s. IsInOrder history setting initial seats s) slots id me 1 (λ k. either (k == n) (n + 1) k) (Counts history (step slots 1 n (n + 1) (some (Some value))) me)
  counts_next slots id number n seen me value on from low is =
      let r = next_of number n seen (history value) on from low in
      counts_one history setting initial seats slots id number n (take n (history value)) me value r.0 (ap (λ (m : Mine V). m.0) is)
      (sym (length-take-le n (history value) (omega arith))) r.1 r.2

-- all entries are counted
pub counted_all : {V : Type 0} (history : V → List Entry) (number n : ℕ) (value : V) (me : Mine V) → length (history value) ≤ n
    → me ≡ (view true true (note number (take n (history value)) ∷ []), (0, None) ∷ []) → IsCounted history me (Some value)
counted_all history number n value me end is =
    let all = is ∙ ap (λ es. (view true true (note number es ∷ []), (0, None) ∷ [])) (take_all n (history value) end) in
    record { value = value; is = refl; view = all ∙ ap (λ (m : Mine _). (view true true (note (number_of m.0) (history value) ∷ []), (0, None) ∷ [])) (sym all) }

-- the value is in the slot
pub filled_view : {V : Type 0} (history : V → List Entry) (me next : Mine V) (found : Option V) → (c : IsCounted history me found) → next ≡ (me.0, (0, found) ∷ rest me.1)
    → next ≡ (view true true (note (number_of me.0) (history c.value) ∷ []), (0, Some c.value) ∷ [])
filled_view history me next found c put =
    put ∙ ap (λ o. (me.0, (0, o) ∷ rest me.1)) c.is ∙ ap (λ (m : Mine _). (m.0, (0, Some c.value) ∷ rest m.1)) c.view

-- one entry more is counted
pub one_counted : {V : Type 0} (number n : ℕ) (log : List Entry) (me next : Mine V) → n < length log
    → me ≡ (view true true (note number (take n log) ∷ []), (0, None) ∷ []) → next ≡ (after_step me.0 true true (take (length (seen_of me.0) + 1) log), me.1)
    → next ≡ (view true true (note number (take (n + 1) log) ∷ []), (0, None) ∷ [])
one_counted number n log me next low is counted =
    counted ∙ ap (λ (m : Mine _). (after_step m.0 true true (take (length (seen_of m.0) + 1) log), m.1)) is
    ∙ ap (λ k. (view true true (note number (take (k + 1) log) ∷ []), (0, None) ∷ [])) (length-take-le n log (omega arith))

-- the badge after the turn
pub given_view : {V : Type 0} (number n : ℕ) (log : List Entry) (me last : Mine V) (views : List View) → length log ≤ n
    → me ≡ (view true true (note number (take n log) ∷ []), (0, None) ∷ []) → last ≡ (view_of false (number_of me.0) (seen_of me.0), []) → views ≡ last.0 ∷ []
    → views ≡ view_of false number log ∷ []
given_view number n log me last views end is given made =
    made ∙ ap (λ (m : Mine _). m.0 ∷ []) given ∙ ap (λ (m : Mine _). view_of false (number_of m.0) (seen_of m.0) ∷ []) is ∙ ap (λ es. view_of false number es ∷ []) (take_all n log end)
