-- Seats that are dealt one by one, and joined again.
use Rattle.std.proofs.Common.{◌≡◌, ◌<◌, ◌+◌, ◌-◌, ℕ, suc, false, List, [], ◌∷◌, ◌++◌, map, sym, ap, subst, ◌∙◌, arith}
use Rattle.std.specs.Prelude.{All}
use Rattle.std.specs.List.{range_with_len}
use Rattle.std.proofs.lemmas.List.{append_assoc}
use Rattle.std.proofs.lemmas.List.Elements.{All-head, All-tail}
use Rattle.std.proofs.lemmas.List.FromFn.{map-range_with_len_more}
use Rattle.atomic_table.specs.Seated.{TableId}
use Rattle.turn_lock.specs.declared.view.View.{View}
use Rattle.turn_lock.specs.Badges.{only_view}
use Rattle.turn_lock.specs.Collected.{all_view}
use Rattle.turn_lock.specs.Moves.{Mine}
use Rattle.turn_lock.specs.Seats.{IsIdle, SeatState, new_seat, new_seats}
use Rattle.turn_lock.specs.Views.{joined_view, others_view, own_view, view, view_of}
use Rattle.turn_lock.proofs.NoteLaws.{blank_notes}

-- ---- dealing

one_off : (n seats : ℕ) → n < seats → seats - n ≡ suc (seats - (n + 1))
one_off n seats low = omega arith

-- the seat with the first of the numbers that are left
pub own_blank : {V : Type 0} (n seats : ℕ) (me : Mine V) (views : List View) → n < seats → me ≡ (view false false (blank_notes n (seats - n)), [])
    → views ≡ own_view me.0 ∷ [] → views ≡ view_of false n [] ∷ []
own_blank n seats me views low is made =
    made ∙ ap (λ (m : Mine _). own_view m.0 ∷ []) is ∙ ap (λ k. own_view (view false false (blank_notes n k)) ∷ []) (one_off n seats low)

pub others_blank : {V : Type 0} (n seats : ℕ) (me others : Mine V) → n < seats → me ≡ (view false false (blank_notes n (seats - n)), [])
    → others ≡ (others_view me.0, []) → others ≡ (view false false (blank_notes (n + 1) (seats - (n + 1))), [])
others_blank n seats me others low is split =
    split ∙ ap (λ (m : Mine _). (others_view m.0, [])) is ∙ ap (λ k. (others_view (view false false (blank_notes n k)), [])) (one_off n seats low)

-- the last number alone
pub last_blank : {V : Type 0} (n last seats : ℕ) (me : Mine V) (views : List View) → n ≡ last → last + 1 ≡ seats → me ≡ (view false false (blank_notes n (seats - n)), [])
    → views ≡ me.0 ∷ [] → views ≡ view_of false last [] ∷ []
last_blank n last seats me views here all is made =
    let one : seats - last ≡ 1 = omega arith in
    made ∙ ap (λ (m : Mine _). m.0 ∷ []) is ∙ ap (λ k. view false false (blank_notes k (seats - k)) ∷ []) here ∙ ap (λ k. view false false (blank_notes last k) ∷ []) one

pub one_more_seat : (lock id : TableId) (n : ℕ) (items now : List SeatState) (s : SeatState) → items ≡ map (new_seat lock) (range_with_len 0 n)
    → id ≡ lock → s ≡ new_seat id n → now ≡ items ++ s ∷ [] → now ≡ map (new_seat lock) (range_with_len 0 (n + 1))
one_more_seat lock id n items now s so_far same new pushed =
    pushed ∙ ap (λ (x : SeatState). items ++ x ∷ []) (new ∙ ap (λ (l : TableId). new_seat l n) same) ∙ ap (λ xs. xs ++ new_seat lock n ∷ []) so_far
    ∙ sym (map-range_with_len_more (new_seat lock) 0 n n (omega arith))

pub last_seat : (lock id : TableId) (n last seats : ℕ) (items now : List SeatState) (s : SeatState) → n ≡ last → last + 1 ≡ seats → items ≡ map (new_seat lock) (range_with_len 0 n)
    → id ≡ lock → s ≡ new_seat id last → now ≡ items ++ s ∷ [] → now ≡ new_seats lock seats
last_seat lock id n last seats items now s here all so_far same new pushed =
    one_more_seat lock id last items now s (so_far ∙ ap (λ k. map (new_seat lock) (range_with_len 0 k)) here) same new pushed
    ∙ ap (λ k. map (new_seat lock) (range_with_len 0 k)) all

-- ---- joining

all_at : (lock : TableId) (front : List SeatState) (s : SeatState) (back : List SeatState) → All (IsIdle lock) (front ++ s ∷ back) → IsIdle lock s
all_at lock [] s back idle = All-head (IsIdle lock) s back idle
all_at lock (x ∷ xs) s back idle = all_at lock xs s back (All-tail (IsIdle lock) x (xs ++ s ∷ back) idle)

-- the list of seats, where the last of those that are left goes to those that are joined
pub regrouped : (all left front back : List SeatState) (s : SeatState) → all ≡ left ++ back → left ≡ front ++ s ∷ [] → all ≡ front ++ s ∷ back
regrouped all left front back s whole last = whole ∙ ap (λ xs. xs ++ back) last ∙ append_assoc front (s ∷ []) back

pub idle_seat : (lock : TableId) (all left front back : List SeatState) (s : SeatState) → All (IsIdle lock) all → all ≡ left ++ back → left ≡ front ++ s ∷ [] → IsIdle lock s
idle_seat lock all left front back s idle whole last = all_at lock front s back (subst (All (IsIdle lock)) (regrouped all left front back s whole last) idle)

pub last_idle : (lock : TableId) (all front : List SeatState) (s : SeatState) → All (IsIdle lock) all → all ≡ front ++ s ∷ [] → IsIdle lock s
last_idle lock all front s idle is = all_at lock front s [] (subst (All (IsIdle lock)) is idle)

-- the view of an idle seat's badge, as a place has it
place_of : (lock : TableId) (s : SeatState) (views : List View) (v : View) → IsIdle lock s → views ≡ view_of s.holds s.number s.seen ∷ [] → views ≡ v ∷ [] → v ≡ view_of false s.number s.seen
place_of lock s views v idle is made = sym (ap only_view made) ∙ ap only_view is ∙ ap (λ h. view_of h s.number s.seen) idle.idle

pub calm : (lock : TableId) (s : SeatState) (views : List View) (v : View) → IsIdle lock s → views ≡ view_of s.holds s.number s.seen ∷ [] → views ≡ v ∷ [] → v.holds ≡ false
calm lock s views v idle is made = ap (λ (x : View). x.holds) (place_of lock s views v idle is made)

pub whole_view : {V : Type 0} (lock : TableId) (s : SeatState) (views : List View) (place : Mine V) → IsIdle lock s → views ≡ view_of s.holds s.number s.seen ∷ []
    → views ≡ place.0 ∷ [] → place.1 ≡ [] → place ≡ (all_view (s ∷ []), [])
whole_view lock s views place idle is made empty = λ i. (place_of lock s views place.0 idle is made i, empty i)

pub joined_all : {V : Type 0} (lock : TableId) (s : SeatState) (back : List SeatState) (views : List View) (place all now : Mine V)
    → IsIdle lock s → views ≡ view_of s.holds s.number s.seen ∷ [] → views ≡ place.0 ∷ [] → place.1 ≡ []
    → all ≡ (all_view back, []) → now ≡ (joined_view place.0 all.0, place.1) → now ≡ (all_view (s ∷ back), [])
joined_all lock s back views place all now idle is made empty before joined =
    joined ∙ (λ i. (joined_view (place_of lock s views place.0 idle is made i) (before i).0, empty i))
