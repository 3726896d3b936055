-- The frames of a stack after a change of its top frame's record or of its slots.
use Rattle.std.proofs.Common.{ℕ, suc, ◌≡◌, ◌+◌, ◌-◌, ◌<◌, ◌≤◌, List, [], ◌∷◌, ◌++◌, length, take, drop, reverse, replicate, Some, refl, ap, sym, ◌∙◌, arith, drop-drop, append_assoc}
use Rattle.std.proofs.lemmas.List.{get_or-reverse, get_or-set_same, drop-set-lt, length-reverse, take_all}
use Rattle.std.specs.Prelude.{get_or, slice_get, slice_set, zero}
use Rattle.instruction_rows.specs.declared.value.Slot.{Slot}
use Rattle.instruction_rows.specs.declared.value.Slot.TheVariants.{Second}
use Rattle.state_model.specs.Frames.{Frame}
use Rattle.frames.specs.Slots.{slot_at, ascending, descending}
use Rattle.frames.specs.Frames.{Frames, top_locals, top_stack, top_method, top_pc, top_room, room_left, at_pc, with_stack, with_local, entered, slots_of, size_of, read_from}
use Rattle.frames.specs.Layout.{end_of, frame_of, frames_of, ArePlaced}
use Rattle.frames.specs.declared.record.Record.{Record}
use Rattle.frames.proofs.SlotLaws.{Agree, agree_within, agree_below, agree_above, ascending_agree, descending_agree, cons_is, length-ascending, length-descending, get_ascending, get_descending, set_ascending, take_descending, drop_descending, drop_ascending, reverse_descending, descending_drop, ascending_add, ascending_unset}

abbrev pub kept : List Frame → List Slot → ℕ → Frames
kept frames spare calls = record { frames = frames; spare = spare; calls = calls }

pub kept_is : {fs gs : List Frame} {xs ys : List Slot} {m n : ℕ} → fs ≡ gs → xs ≡ ys → m ≡ n → kept fs xs m ≡ kept gs ys n
kept_is p q r = λ i. record { frames = p i; spare = q i; calls = r i }

pub length-frames_of : (qs : List Record) (slots : List Slot) (r : Record) → length (frames_of slots r qs) ≡ length qs
length-frames_of [] slots r = refl
length-frames_of (q ∷ qs) slots r = ap suc (length-frames_of qs slots q)

-- a frame reads its own slots alone
pub frame_agree : (xs ys : List Slot) (r : Record) → Agree r.base (end_of r) xs ys → frame_of ys r ≡ frame_of xs r
frame_agree xs ys r agree =
    let locals : ascending ys r.base r.locals ≡ ascending xs r.base r.locals =
    ascending_agree r.locals r.base xs ys (agree_within r.base (end_of r) r.base (r.base + r.locals) xs ys (omega arith) (omega arith) agree) in
    let stack : descending ys (r.base + r.locals) r.used ≡ descending xs (r.base + r.locals) r.used =
    descending_agree r.used (r.base + r.locals) xs ys (agree_within r.base (end_of r) (r.base + r.locals) (r.base + r.locals + r.used) xs ys (omega arith) (omega arith) agree) in
    λ i. record { method = r.method; pc = r.pc; locals = locals i; stack = stack i; room = r.room }

pub frames_agree : (qs : List Record) (len high : ℕ) (xs ys : List Slot) (r : Record) → ArePlaced len r qs → end_of r ≤ high → Agree 0 high xs ys → frames_of ys r qs ≡ frames_of xs r qs
frames_agree [] len high xs ys r placed h agree = refl
frames_agree (q ∷ qs) len high xs ys r placed h agree =
    let p = placed.0.placed in
    cons_is (frame_agree xs ys r (agree_within 0 high r.base (end_of r) xs ys (omega arith) h agree))
    (frames_agree qs len high xs ys q placed.1 (omega arith) agree)

-- those below the top frame end where it begins
pub below_agree : (qs : List Record) (len : ℕ) (xs ys : List Slot) (r q : Record) → ArePlaced len r (q ∷ qs) → Agree 0 r.base xs ys → frames_of ys q qs ≡ frames_of xs q qs
below_agree qs len xs ys r q placed agree =
    let p = placed.0.placed in
    frames_agree qs len r.base xs ys q placed.1 (omega arith) agree

-- what the top record says
pub top_stack_is : (qs : List Record) (len : ℕ) (slots : List Slot) (r : Record) → ArePlaced len r qs → top_stack (frames_of slots r qs) ≡ descending slots (r.base + r.locals) r.used
top_stack_is [] len slots r placed = let end = placed.end in let none : 0 ≡ r.used = omega arith in ap (descending slots (r.base + r.locals)) none
top_stack_is (q ∷ qs) len slots r placed = refl

pub top_locals_is : (qs : List Record) (len : ℕ) (slots : List Slot) (r : Record) → ArePlaced len r qs → top_locals (frames_of slots r qs) ≡ ascending slots r.base r.locals
top_locals_is [] len slots r placed = let end = placed.end in let none : 0 ≡ r.locals = omega arith in ap (ascending slots r.base) none
top_locals_is (q ∷ qs) len slots r placed = refl

pub top_room_is : (qs : List Record) (len : ℕ) (slots : List Slot) (r : Record) → ArePlaced len r qs → top_room (frames_of slots r qs) ≡ r.room
top_room_is [] len slots r placed = sym placed.room
top_room_is (q ∷ qs) len slots r placed = refl

pub used_is : (qs : List Record) (len : ℕ) (slots : List Slot) (r : Record) → ArePlaced len r qs → length (top_stack (frames_of slots r qs)) ≡ r.used
used_is qs len slots r placed = ap length (top_stack_is qs len slots r placed) ∙ length-descending r.used (r.base + r.locals) slots

pub locals_is : (qs : List Record) (len : ℕ) (slots : List Slot) (r : Record) → ArePlaced len r qs → length (top_locals (frames_of slots r qs)) ≡ r.locals
locals_is qs len slots r placed = ap length (top_locals_is qs len slots r placed) ∙ length-ascending r.locals r.base slots

pub room_is : (qs : List Record) (len : ℕ) (slots : List Slot) (r : Record) → ArePlaced len r qs → r.room - r.used ≡ room_left (frames_of slots r qs)
room_is [] len slots r placed = let room = placed.room in omega arith
room_is (q ∷ qs) len slots r placed = let l = length-descending r.used (r.base + r.locals) slots in omega arith

pub method_is : (qs : List Record) (slots : List Slot) (r : Record) → 0 < length (frames_of slots r qs) → r.method ≡ top_method (frames_of slots r qs)
method_is [] slots r h = absurd (omega arith)
method_is (q ∷ qs) slots r h = refl

-- a frame further down is that of a record further down
pub below_method : (qs : List Record) (slots : List Slot) (r d : Record) (k : ℕ) → suc k < length qs → top_method (drop (suc k) (frames_of slots r qs)) ≡ (get_or qs k d).method
below_method [] slots r d k h = absurd (omega arith)
below_method (q ∷ []) slots r d k h = absurd (omega arith)
below_method (q ∷ (p ∷ qs)) slots r d zero h = refl
below_method (q ∷ (p ∷ qs)) slots r d (suc k) h = below_method (p ∷ qs) slots q d k (omega arith)

pub saved_method : (saved : List Record) (slots : List Slot) (r d : Record) (above : ℕ) → (above ≡ 0 → ⊥) → above < length saved →
    (get_or saved (length saved - above) d).method ≡ top_method (drop above (frames_of slots r (reverse saved)))
saved_method saved slots r d zero some h = absurd (some refl)
saved_method saved slots r d (suc k) some h =
    let long = length-reverse saved in
    let index : length saved - suc k ≡ length saved - 1 - k = omega arith in
    ap (λ n. (get_or saved n d).method) index ∙ ap (λ (q : Record). q.method) (sym (get_or-reverse saved k d (omega arith)))
    ∙ sym (below_method (reverse saved) slots r d k (omega arith))

pub pc_is : (qs : List Record) (slots : List Slot) (r : Record) → 0 < length (frames_of slots r qs) → r.pc ≡ top_pc (frames_of slots r qs)
pc_is [] slots r h = absurd (omega arith)
pc_is (q ∷ qs) slots r h = refl

-- the top frame, with the operands that it may have, lies in the slots
pub record IsWithin (len : ℕ) (r : Record) : Type 0 where
  pub held : r.used ≤ r.room
  pub end : end_of r ≤ len
  pub room : 0 < r.room → r.base + r.locals + r.room ≤ len

pub within : (qs : List Record) (len : ℕ) (r : Record) → ArePlaced len r qs → IsWithin len r
within [] len r placed = let end = placed.end in record { held = omega arith; end = omega arith; room = λ h. absurd (let room = placed.room in omega arith) }
within (q ∷ qs) len r placed = let held = placed.0.held in let fits = placed.0.fits in record { held = held; end = omega arith; room = λ h. fits }

pub placed_longer : (qs : List Record) (len more : ℕ) (r : Record) → len ≤ more → ArePlaced len r qs → ArePlaced more r qs
placed_longer [] len more r h placed = placed
placed_longer (q ∷ qs) len more r h placed =
    let fits = placed.0.fits in
    (record { placed = placed.0.placed; held = placed.0.held; fits = omega arith }, placed_longer qs len more q h placed.1)

-- another pc, another count of operands
pub placed_at : (qs : List Record) (len pc used : ℕ) (r : Record) → used ≤ r.room → ArePlaced len r qs → ArePlaced len (record r { pc = pc; used = used }) qs
placed_at [] len pc used r h placed = let end = placed.end in let room = placed.room in record { end = omega arith; room = room }
placed_at (q ∷ qs) len pc used r h placed = (record { placed = placed.0.placed; held = h; fits = placed.0.fits }, placed.1)

pub frames_at : (qs : List Record) (pc used : ℕ) (slots : List Slot) (r : Record)
    → frames_of slots (record r { pc = pc; used = used }) qs ≡ at_pc pc (with_stack (descending slots (r.base + r.locals) used) (frames_of slots r qs))
frames_at [] pc used slots r = refl
frames_at (q ∷ qs) pc used slots r = refl

-- the same count, as it stands
pub frames_pc : (qs : List Record) (pc : ℕ) (slots : List Slot) (r : Record) → frames_of slots (record r { pc = pc }) qs ≡ at_pc pc (frames_of slots r qs)
frames_pc [] pc slots r = refl
frames_pc (q ∷ qs) pc slots r = refl

pub frames_used : (qs : List Record) (used : ℕ) (slots : List Slot) (r : Record)
    → frames_of slots (record r { used = used }) qs ≡ with_stack (descending slots (r.base + r.locals) used) (frames_of slots r qs)
frames_used [] used slots r = refl
frames_used (q ∷ qs) used slots r = refl

pub get_local : (qs : List Record) (len : ℕ) (slots : List Slot) (r : Record) (i : ℕ) → ArePlaced len r qs → i < r.locals → slice_get (top_locals (frames_of slots r qs)) i ≡ Some (slot_at slots (r.base + i))
get_local qs len slots r i placed h = ap (λ xs. slice_get xs i) (top_locals_is qs len slots r placed) ∙ get_ascending r.locals r.base i slots h

pub get_operand : (qs : List Record) (len : ℕ) (slots : List Slot) (r : Record) (i at : ℕ) → ArePlaced len r qs → at + suc i ≡ end_of r → i < r.used → slice_get (top_stack (frames_of slots r qs)) i ≡ Some (slot_at slots at)
get_operand qs len slots r i at placed e h = ap (λ xs. slice_get xs i) (top_stack_is qs len slots r placed) ∙ get_descending r.used (r.base + r.locals) i at slots e h

-- a local variable set
local_set_at : (qs : List Record) (len : ℕ) (slots : List Slot) (r : Record) (i : ℕ) (x : Slot) → ArePlaced len r qs → i < r.locals → len ≤ length slots
    → frames_of (slice_set slots (r.base + i) x) r qs ≡ with_local i x (frames_of slots r qs)
local_set_at [] len slots r i x placed h l = absurd (let end = placed.end in omega arith)
local_set_at (q ∷ qs) len slots r i x placed h l =
    let fits = placed.0.fits in
    let locals : ascending (slice_set slots (r.base + i) x) r.base r.locals ≡ slice_set (ascending slots r.base r.locals) i x =
    set_ascending r.locals r.base i (r.base + i) slots x refl h (omega arith) in
    let stack : descending (slice_set slots (r.base + i) x) (r.base + r.locals) r.used ≡ descending slots (r.base + r.locals) r.used =
    descending_agree r.used (r.base + r.locals) slots (slice_set slots (r.base + i) x)
    (agree_above (r.base + r.locals) (r.base + r.locals + r.used) (r.base + i) slots x (omega arith)) in
    cons_is (λ k. record { method = r.method; pc = r.pc; locals = locals k; stack = stack k; room = r.room })
    (below_agree qs len slots (slice_set slots (r.base + i) x) r q placed (agree_below 0 r.base (r.base + i) slots x (omega arith)))

pub local_set : (qs : List Record) (len : ℕ) (slots : List Slot) (r : Record) (i : ℕ) (x y : Slot) → ArePlaced len r qs → y ≡ x → i < r.locals → len ≤ length slots
    → frames_of (slice_set slots (r.base + i) y) r qs ≡ with_local i x (frames_of slots r qs)
local_set qs len slots r i x y placed e h l = ap (λ z. frames_of (slice_set slots (r.base + i) z) r qs) e ∙ local_set_at qs len slots r i x placed h l

pub spare_set : (r : Record) (slots : List Slot) (i : ℕ) (x : Slot) → i < r.locals → drop (end_of r) (slice_set slots (r.base + i) x) ≡ drop (end_of r) slots
spare_set r slots i x h = drop-set-lt (end_of r) slots (r.base + i) x (omega arith)

-- an operand pushed
pub operand_pushed : (qs : List Record) (len used at : ℕ) (slots : List Slot) (r : Record) (x y : Slot) → ArePlaced len r qs → at ≡ end_of r → y ≡ x → end_of r < length slots → used ≡ r.used + 1
    → frames_of (slice_set slots at y) (record r { used = used }) qs ≡ with_stack (x ∷ top_stack (frames_of slots r qs)) (frames_of slots r qs)
operand_pushed qs len used at slots r x y placed is_at is_x l e =
    let slots' = slice_set slots (end_of r) x in
    let floor = r.base + r.locals in
    let more : used ≡ suc r.used = omega arith in
    let stack : descending slots' floor used ≡ x ∷ top_stack (frames_of slots r qs) =
    ap (descending slots' floor) more
    ∙ cons_is (get_or-set_same slots (end_of r) x Second l)
    (descending_agree r.used floor slots slots' (agree_below floor (floor + r.used) (end_of r) slots x (omega arith)) ∙ sym (top_stack_is qs len slots r placed)) in
    (λ i. frames_of (slice_set slots (is_at i) (is_x i)) (record r { used = used }) qs)
    ∙ frames_used qs used slots' r
    ∙ (λ i. with_stack (stack i) (frames_agree qs len (end_of r) slots slots' r placed (omega arith) (agree_below 0 (end_of r) (end_of r) slots x (omega arith)) i))

pub spare_pushed : (r : Record) (slots : List Slot) (used at : ℕ) (y : Slot) → at ≡ end_of r → used ≡ r.used + 1
    → drop (r.base + r.locals + used) (slice_set slots at y) ≡ drop 1 (drop (end_of r) slots)
spare_pushed r slots used at y is_at e =
    let more : r.base + r.locals + used ≡ end_of r + 1 = omega arith in
    ap (λ n. drop n (slice_set slots at y)) more ∙ drop-set-lt (end_of r + 1) slots at y (omega arith) ∙ sym (drop-drop 1 (end_of r) slots)

-- operands dropped
pub operands_dropped : (qs : List Record) (len used args : ℕ) (slots : List Slot) (r : Record) → ArePlaced len r qs → r.used ≡ used + args
    → frames_of slots (record r { used = used }) qs ≡ with_stack (drop args (top_stack (frames_of slots r qs))) (frames_of slots r qs)
operands_dropped qs len used args slots r placed e =
    frames_used qs used slots r
    ∙ ap (λ xs. with_stack xs (frames_of slots r qs))
    (sym (ap (drop args) (top_stack_is qs len slots r placed) ∙ drop_descending r.used args used (r.base + r.locals) slots e))

-- what becomes spare where operands are dropped
pub spare_dropped : (qs : List Record) (len used args : ℕ) (slots : List Slot) (r : Record) → ArePlaced len r qs → len ≤ length slots → r.used ≡ used + args
    → drop (r.base + r.locals + used) slots ≡ reverse (take args (top_stack (frames_of slots r qs))) ++ drop (end_of r) slots
spare_dropped qs len used args slots r placed l e =
    let floor = r.base + r.locals in
    let end = (within qs len r placed).end in
    let at : floor + used + args ≡ end_of r = omega arith in
    let dropped : reverse (take args (top_stack (frames_of slots r qs))) ≡ ascending slots (floor + used) args =
    ap (λ xs. reverse (take args xs)) (top_stack_is qs len slots r placed)
    ∙ ap reverse (take_descending r.used args used floor slots e) ∙ reverse_descending args (floor + used) slots in
    drop_ascending args (floor + used) slots (omega arith)
    ∙ (λ i. sym dropped i ++ drop (at i) slots)

pub take_used : (qs : List Record) (len : ℕ) (slots : List Slot) (r : Record) → ArePlaced len r qs → take r.used (top_stack (frames_of slots r qs)) ≡ top_stack (frames_of slots r qs)
take_used qs len slots r placed = let e = used_is qs len slots r placed in take_all r.used (top_stack (frames_of slots r qs)) (omega arith)

-- what becomes spare where the top frame is left
pub spare_left : (qs : List Record) (len : ℕ) (slots : List Slot) (r : Record) → ArePlaced len r qs → len ≤ length slots
    → drop r.base slots ≡ top_locals (frames_of slots r qs) ++ (reverse (top_stack (frames_of slots r qs)) ++ drop (end_of r) slots)
spare_left qs len slots r placed l =
    let floor = r.base + r.locals in
    let end = (within qs len r placed).end in
    let stack : reverse (top_stack (frames_of slots r qs)) ≡ ascending slots floor r.used =
    ap reverse (top_stack_is qs len slots r placed) ∙ reverse_descending r.used floor slots in
    drop_ascending r.locals r.base slots (omega arith)
    ∙ (λ i. sym (top_locals_is qs len slots r placed) i ++ (drop_ascending r.used floor slots (omega arith) ∙ ap (λ xs. xs ++ drop (end_of r) slots) (sym stack)) i)

pub reverse_one : (xs : List Slot) → reverse (take 1 xs) ≡ take 1 xs
reverse_one [] = refl
reverse_one (x ∷ xs) = refl

-- a record whose last operands were given away
abbrev pub caller_of : ℕ → Record → Record
caller_of used r = record r { used = used }

abbrev pub callee_of : ℕ → ℕ → ℕ → ℕ → Record
callee_of base method locals room = record { base = base; method = method; pc = 0; locals = locals; used = 0; room = room }

pub callee_placed : (qs : List Record) (len base method locals room used : ℕ) (r : Record) → ArePlaced len r qs → used ≤ r.room → base ≡ r.base + r.locals + used → base + locals + room ≤ len
    → ArePlaced len (callee_of base method locals room) (caller_of used r ∷ qs)
callee_placed qs len base method locals room used r placed h e fits =
    (record { placed = e; held = omega arith; fits = fits }, placed_at qs len r.pc used r h placed)

pub callee_frames : (qs : List Record) (len base method locals room args used : ℕ) (slots slots' : List Slot) (r : Record) → ArePlaced len r qs
    → r.used ≡ used + args → base ≡ r.base + r.locals + used → args ≤ locals
    → ((i : ℕ) → i < base + args → slot_at slots' i ≡ slot_at slots i)
    → ((i : ℕ) → base + args ≤ i → i < base + locals → slot_at slots' i ≡ Second)
    → frames_of slots' (callee_of base method locals room) (caller_of used r ∷ qs) ≡ entered method locals room args (frames_of slots r qs)
callee_frames qs len base method locals room args used slots slots' r placed e at h kept unset =
    let given : ascending slots' base args ≡ reverse (take args (top_stack (frames_of slots r qs))) =
    ascending_agree args base slots slots' (record { same = λ i a b. kept i (omega arith) })
    ∙ ap (λ n. ascending slots n args) at
    ∙ sym (reverse_descending args (r.base + r.locals + used) slots)
    ∙ ap reverse (sym (take_descending r.used args used (r.base + r.locals) slots e))
    ∙ ap (λ xs. reverse (take args xs)) (sym (top_stack_is qs len slots r placed)) in
    let others : ascending slots' (base + args) (locals - args) ≡ replicate (locals - args) Second =
    ascending_unset (locals - args) (base + args) slots' (λ i a b. unset i a (omega arith)) in
    let variables : ascending slots' base locals ≡ reverse (take args (top_stack (frames_of slots r qs))) ++ replicate (locals - args) Second =
    ascending_add args (locals - args) locals base slots' (omega arith) ∙ (λ i. given i ++ others i) in
    let held = (within qs len r placed).held in
    cons_is (λ i. record { method = method; pc = 0; locals = variables i; stack = []; room = room })
    (frames_agree qs len base slots slots' (caller_of used r) (placed_at qs len r.pc used r (omega arith) placed) (omega arith) (record { same = λ i a b. kept i (omega arith) })
    ∙ operands_dropped qs len used args slots r placed e)

pub callee_spare : (base locals args used : ℕ) (slots slots' : List Slot) (r : Record) → r.used ≡ used + args → base ≡ r.base + r.locals + used → args ≤ locals
    → drop (base + locals) slots' ≡ drop (base + locals) slots
    → drop (base + locals + 0) slots' ≡ drop (locals - args) (drop (end_of r) slots)
callee_spare base locals args used slots slots' r e at h behind =
    let none : base + locals + 0 ≡ base + locals = omega arith in
    let more : base + locals ≡ end_of r + (locals - args) = omega arith in
    ap (λ n. drop n slots') none ∙ behind ∙ ap (λ n. drop n slots) more ∙ sym (drop-drop (locals - args) (end_of r) slots)

-- the slots of the frames, and the spare ones
pub size_is : (qs : List Record) (len : ℕ) (slots : List Slot) (r : Record) → ArePlaced len r qs → size_of (frames_of slots r qs) ≡ end_of r
size_is [] len slots r placed = sym placed.end
size_is (q ∷ qs) len slots r placed =
    let below = size_is qs len slots q placed.1 in
    let base = placed.0.placed in
    let l = length-ascending r.locals r.base slots in
    let s = length-descending r.used (r.base + r.locals) slots in
    omega arith

pub slots_are : (qs : List Record) (len : ℕ) (slots : List Slot) (r : Record) → ArePlaced len r qs → len ≤ length slots → slots_of (frames_of slots r qs) ++ drop (end_of r) slots ≡ slots
slots_are [] len slots r placed l = ap (λ n. drop n slots) placed.end
slots_are (q ∷ qs) len slots r placed l =
    let mine = ascending slots r.base r.locals ++ reverse (descending slots (r.base + r.locals) r.used) in
    append_assoc (slots_of (frames_of slots q qs)) mine (drop (end_of r) slots)
    ∙ ap (λ xs. slots_of (frames_of slots q qs) ++ xs)
    (append_assoc (ascending slots r.base r.locals) (reverse (descending slots (r.base + r.locals) r.used)) (drop (end_of r) slots)
    ∙ sym (spare_left (q ∷ qs) len slots r placed l) ∙ ap (λ n. drop n slots) placed.0.placed)
    ∙ slots_are qs len slots q placed.1 l

pub read_is : (qs : List Record) (len : ℕ) (slots slots' : List Slot) (r : Record) → ArePlaced len r qs → frames_of slots' r qs ≡ read_from slots' (frames_of slots r qs)
read_is [] len slots slots' r placed = refl
read_is (q ∷ qs) len slots slots' r placed =
    let below = size_is qs len slots q placed.1 in
    let base : r.base ≡ size_of (frames_of slots q qs) = placed.0.placed ∙ sym below in
    let l = length-ascending r.locals r.base slots in
    let s = length-descending r.used (r.base + r.locals) slots in
    cons_is (λ i. record {
      method = r.method;
      pc = r.pc;
      locals = ascending slots' (base i) (sym l i);
      stack = descending slots' (base i + sym l i) (sym s i);
      room = r.room;
    }) (read_is qs len slots slots' q placed.1)

-- the slots from the top frame's operands on
pub floor_slots : (qs : List Record) (len : ℕ) (slots : List Slot) (r : Record) → ArePlaced len r qs → len ≤ length slots
    → drop (r.base + r.locals) slots ≡ reverse (top_stack (frames_of slots r qs)) ++ drop (end_of r) slots
floor_slots qs len slots r placed l =
    let none : r.base + r.locals ≡ r.base + r.locals + 0 = omega arith in
    ap (λ n. drop n slots) none ∙ spare_dropped qs len 0 r.used slots r placed l (omega arith)
    ∙ ap (λ xs. reverse xs ++ drop (end_of r) slots) (take_used qs len slots r placed)

pub frames_set : (qs : List Record) (len pc used : ℕ) (slots : List Slot) (r : Record) → ArePlaced len r qs → len ≤ length slots
    → frames_of slots (record r { pc = pc; used = used }) qs
    ≡ at_pc pc (with_stack (descending (reverse (top_stack (frames_of slots r qs)) ++ drop (end_of r) slots) 0 used) (frames_of slots r qs))
frames_set qs len pc used slots r placed l =
    let stack : descending slots (r.base + r.locals) used ≡ descending (reverse (top_stack (frames_of slots r qs)) ++ drop (end_of r) slots) 0 used =
    sym (descending_drop used (r.base + r.locals) slots) ∙ ap (λ xs. descending xs 0 used) (floor_slots qs len slots r placed l) in
    frames_at qs pc used slots r ∙ ap (λ xs. at_pc pc (with_stack xs (frames_of slots r qs))) stack

pub spare_behind : (qs : List Record) (len used : ℕ) (slots : List Slot) (r : Record) → ArePlaced len r qs → len ≤ length slots
    → drop (r.base + r.locals + used) slots ≡ drop used (reverse (top_stack (frames_of slots r qs)) ++ drop (end_of r) slots)
spare_behind qs len used slots r placed l =
    sym (drop-drop used (r.base + r.locals) slots) ∙ ap (drop used) (floor_slots qs len slots r placed l)

pub base_is : (qs : List Record) (len : ℕ) (slots : List Slot) (r : Record) → ArePlaced len r qs → r.base ≡ size_of (drop 1 (frames_of slots r qs))
base_is [] len slots r placed = let end = placed.end in omega arith
base_is (q ∷ qs) len slots r placed = placed.0.placed ∙ sym (size_is qs len slots q placed.1)

pub base_room : (qs : List Record) (len : ℕ) (slots : List Slot) (r : Record) → ArePlaced len r qs → r.base + r.locals + r.room ≤ len
base_room [] len slots r placed = let end = placed.end in let room = placed.room in omega arith
base_room (q ∷ qs) len slots r placed = placed.0.fits
