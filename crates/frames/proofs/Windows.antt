-- Slots that were lent, of which only the top frame's part was written: what was lent, and what the stack is then.
use Rattle.std.proofs.Common.{ℕ, zero, suc, ◌≡◌, ◌+◌, ◌-◌, List, [], ◌∷◌, ◌++◌, length, take, drop, reverse, refl, ap, sym, ◌∙◌, arith, append_assoc}
use Rattle.std.proofs.lemmas.List.{get_or-append-add, reverse-reverse, length-append, length-reverse, length-drop, take_all, drop_all, append-nil, take_at, drop_at}
use Rattle.std.proofs.Common.{drop-drop}
use borrow.Rule.Slice.PartMut.{put_mid}
use Rattle.instruction_rows.specs.declared.value.Slot.{Slot}
use Rattle.instruction_rows.specs.declared.value.Slot.TheVariants.{Second}
use Rattle.state_model.specs.Frames.{Frame}
use Rattle.frames.specs.Slots.{slot_at, ascending, descending}
use Rattle.frames.specs.Frames.{Frames, slots_of, size_of, all_slots, read_from, over, with_all_slots, window, with_window}
use Rattle.frames.proofs.SlotLaws.{cons_is, reverse_descending, ascending_add, drop_ascending}
use Rattle.frames.proofs.StackLaws.{kept, kept_is}

-- slots after others
pub ascending_behind : (n from at : ℕ) (front new : List Slot) → at ≡ length front + from → ascending (front ++ new) at n ≡ ascending new from n
ascending_behind zero from at front new e = refl
ascending_behind (suc n) from at front new e =
    cons_is (ap (slot_at (front ++ new)) e ∙ get_or-append-add front new from Second) (ascending_behind n (suc from) (suc at) front new (omega arith))

pub descending_behind : (n from at : ℕ) (front new : List Slot) → at ≡ length front + from → descending (front ++ new) at n ≡ descending new from n
descending_behind zero from at front new e = refl
descending_behind (suc n) from at front new e =
    let is : at + n ≡ length front + (from + n) = omega arith in
    cons_is (ap (slot_at (front ++ new)) is ∙ get_or-append-add front new (from + n) Second) (descending_behind n from at front new e)

-- slots read off themselves
ascending_front : (xs ys : List Slot) → ascending (xs ++ ys) 0 (length xs) ≡ xs
ascending_front [] ys = refl
ascending_front (x ∷ xs) ys = cons_is refl (ascending_behind (length xs) 0 1 (x ∷ []) (xs ++ ys) refl ∙ ascending_front xs ys)

descending_front : (xs ys : List Slot) → descending (reverse xs ++ ys) 0 (length xs) ≡ xs
descending_front xs ys =
    let slots = reverse xs ++ ys in
    sym (reverse-reverse (descending slots 0 (length xs)))
    ∙ ap reverse (reverse_descending (length xs) 0 slots ∙ ap (ascending slots 0) (sym (length-reverse xs)) ∙ ascending_front (reverse xs) ys)
    ∙ reverse-reverse xs

pub length-slots_of : (fs : List Frame) → length (slots_of fs) ≡ size_of fs
length-slots_of [] = refl
length-slots_of (f ∷ below) =
    let rest = length-slots_of below in
    let mine = length-append f.locals (reverse f.stack) in
    let stack = length-reverse f.stack in
    length-append (slots_of below) (f.locals ++ reverse f.stack) ∙ omega arith

-- frames that are read off the slots in which they lie
pub read_own : (fs : List Frame) (behind slots : List Slot) → slots ≡ slots_of fs ++ behind → read_from slots fs ≡ fs
read_own [] behind slots e = refl
read_own (f ∷ below) behind slots e =
    let under = slots_of below in
    let size = length-slots_of below in
    let stack = reverse f.stack in
    let whole : slots ≡ under ++ (f.locals ++ (stack ++ behind)) =
    e ∙ append_assoc under (f.locals ++ stack) behind ∙ ap (λ xs. under ++ xs) (append_assoc f.locals stack behind) in
    let locals : ascending slots (size_of below) (length f.locals) ≡ f.locals =
    ap (λ r. ascending r (size_of below) (length f.locals)) whole
    ∙ ascending_behind (length f.locals) 0 (size_of below) under (f.locals ++ (stack ++ behind)) (omega arith)
    ∙ ascending_front f.locals (stack ++ behind) in
    let long = length-append under f.locals in
    let operands : descending slots (size_of below + length f.locals) (length f.stack) ≡ f.stack =
    ap (λ r. descending r (size_of below + length f.locals) (length f.stack)) (whole ∙ sym (append_assoc under f.locals (stack ++ behind)))
    ∙ descending_behind (length f.stack) 0 (size_of below + length f.locals) (under ++ f.locals) (stack ++ behind) (omega arith)
    ∙ descending_front f.stack behind in
    cons_is (λ i. record { method = f.method; pc = f.pc; locals = locals i; stack = operands i; room = f.room })
    (read_own below (f.locals ++ (stack ++ behind)) slots whole)

-- where all slots are written, none of the old ones is left
pub over_all : (slots new : List Slot) → length new ≡ length slots → over slots new ≡ new
over_all slots new e =
    ap (λ xs. take (length slots) (new ++ xs)) (drop_all (length new) slots (omega arith))
    ∙ ap (take (length slots)) (append-nil new) ∙ take_all (length slots) new (omega arith)

-- the top frame's part of the slots
abbrev pub base_of : Frames → ℕ
base_of s = size_of (drop 1 s.frames)

wrote : (fs : List Frame) (spare new : List Slot) (calls : ℕ) → length new ≡ length (window (kept fs spare calls))
    → with_all_slots (kept fs spare calls) (take (base_of (kept fs spare calls)) (all_slots (kept fs spare calls)) ++ new) ≡ with_window new (kept fs spare calls)
wrote [] spare new calls e = kept_is refl (over_all spare new e) refl
wrote (f ∷ below) spare new calls e =
    let under = slots_of below in
    let mine = f.locals ++ reverse f.stack in
    let slots = slots_of (f ∷ below) ++ spare in
    let size = length-slots_of below in
    let split : slots ≡ under ++ (mine ++ spare) = append_assoc under mine spare in
    let front : take (size_of below) slots ≡ under = ap (take (size_of below)) split ∙ take_at under (mine ++ spare) (size_of below) size in
    let rest : length (drop (size_of below) slots) + size_of below ≡ length slots =
    let d = length-drop (size_of below) slots in let l = ap length split ∙ length-append under (mine ++ spare) in omega arith in
    let now : over slots (take (size_of below) slots ++ new) ≡ under ++ new =
    ap (λ xs. over slots (xs ++ new)) front ∙ over_all slots (under ++ new) (length-append under new ∙ omega arith) in
    let locals : ascending (under ++ new) (size_of below) (length f.locals) ≡ ascending new 0 (length f.locals) =
    ascending_behind (length f.locals) 0 (size_of below) under new (omega arith) in
    let stack : descending (under ++ new) (size_of below + length f.locals) (length f.stack) ≡ descending new (length f.locals) (length f.stack) =
    descending_behind (length f.stack) (length f.locals) (size_of below + length f.locals) under new (omega arith) in
    let behind : drop (size_of (f ∷ below)) (under ++ new) ≡ drop (length f.locals + length f.stack) new =
    let sum : size_of (f ∷ below) ≡ size_of below + (length f.locals + length f.stack) = omega arith in
    ap (λ n. drop n (under ++ new)) sum ∙ sym (drop-drop (length f.locals + length f.stack) (size_of below) (under ++ new))
    ∙ ap (drop (length f.locals + length f.stack)) (drop_at under new (size_of below) size) in
    kept_is
    (ap (λ xs. read_from xs (f ∷ below)) now
    ∙ cons_is (λ i. record { method = f.method; pc = f.pc; locals = locals i; stack = stack i; room = f.room }) (read_own below new (under ++ new) refl))
    (ap (drop (size_of (f ∷ below))) now ∙ behind) refl

-- what the stack is after its top frame's part was written
pub wrote_window : (s : Frames) (new : List Slot) → length new ≡ length (window s) → with_all_slots s (take (base_of s) (all_slots s) ++ new) ≡ with_window new s
wrote_window s new e = wrote s.frames s.spare new s.calls e

-- a second look at the same part
seen_again : (fs : List Frame) (spare new : List Slot) (calls : ℕ) → length new ≡ length (window (kept fs spare calls))
    → window (with_window new (kept fs spare calls)) ≡ new
seen_again [] spare new calls e = refl
seen_again (f ∷ below) spare new calls e =
    let l = length f.locals in
    let n = length f.stack in
    let under = slots_of below in
    let size = length-slots_of below in
    let mine = f.locals ++ reverse f.stack in
    let old : window (kept (f ∷ below) spare calls) ≡ mine ++ spare =
    ap (drop (size_of below)) (append_assoc under mine spare) ∙ drop_at under (mine ++ spare) (size_of below) size in
    let long : length new ≡ l + n + length spare =
    e ∙ ap length old ∙ length-append mine spare ∙ ap (λ k. k + length spare) (length-append f.locals (reverse f.stack) ∙ ap (λ k. l + k) (length-reverse f.stack)) in
    let now : ascending new 0 l ++ reverse (descending new l n) ≡ ascending new 0 (l + n) =
    let first : l ≡ 0 + l = omega arith in
    ap (λ xs. ascending new 0 l ++ xs) (reverse_descending n l new ∙ ap (λ k. ascending new k n) first) ∙ sym (ascending_add l n (l + n) 0 new refl) in
    let whole : new ≡ ascending new 0 (l + n) ++ drop (l + n) new =
    let all : 0 + (l + n) ≡ l + n = omega arith in
    drop_ascending (l + n) 0 new (omega arith) ∙ ap (λ k. ascending new 0 (l + n) ++ drop k new) all in
    let again = ascending new 0 l ++ reverse (descending new l n) in
    ap (drop (size_of below)) (append_assoc under again (drop (l + n) new))
    ∙ drop_at under (again ++ drop (l + n) new) (size_of below) size
    ∙ ap (λ xs. xs ++ drop (l + n) new) now ∙ sym whole

pub window_with : (s : Frames) (new : List Slot) → length new ≡ length (window s) → window (with_window new s) ≡ new
window_with s new e = seen_again s.frames s.spare new s.calls e

-- the same where only the part from an index on was lent and written
pub part_window : (s : Frames) (slots : List Slot) (n : ℕ) → slots ≡ all_slots s → n ≡ base_of s → take (length slots - n) (drop n slots) ≡ window s
part_window s slots n is at =
    let d = length-drop n slots in
    take_all (length slots - n) (drop n slots) (omega arith) ∙ (λ i. drop (at i) (is i))

pub wrote_part : (s : Frames) (slots new : List Slot) (n : ℕ) → slots ≡ all_slots s → n ≡ base_of s → length new ≡ length (window s)
    → with_all_slots s (put_mid n (length slots - n) slots new) ≡ with_window new s
wrote_part s slots new n is at e =
    let d = length-drop n slots in
    let none : new ++ drop (length slots - n) (drop n slots) ≡ new =
    ap (λ xs. new ++ xs) (drop_all (length slots - n) (drop n slots) (omega arith)) ∙ append-nil new in
    (λ i. with_all_slots s (take (at i) (is i) ++ none i)) ∙ wrote_window s new e
