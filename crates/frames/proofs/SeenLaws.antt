-- What a stack's value says of what lies in memory.
use Rattle.std.proofs.Common.{◌≡◌, ◌+◌, ◌-◌, ◌<◌, ◌≤◌, ◌^◌, List, [], ◌∷◌, ◌++◌, length, take, drop, reverse, refl, ap, sym, ◌∙◌, arith}
use Rattle.std.proofs.lemmas.List.{length-reverse, length-drop, reverse-append}
use Rattle.frames.specs.Frames.{Frames, top_locals, top_stack, top_room, room_left, all_slots, over, read_from, size_of, with_all_slots}
use Rattle.frames.specs.Layout.{end_of, saved_of, frames_of, seen, IsStack}
use Rattle.instruction_rows.specs.declared.value.Slot.{Slot}
use Rattle.frames.specs.declared.stack.Stack.TheInside.{Inside}
use Rattle.frames.proofs.StackLaws.{length-frames_of, slots_are, base_room, size_is, read_is, kept, kept_is, within, used_is, locals_is, room_is, top_room_is}

pub record Bounds (a : Inside) (v : Frames) : Type 0 where
  pub held : a.top.used ≤ a.top.room
  pub end : end_of a.top ≤ a.slots.len
  pub room : 0 < a.top.room → a.top.base + a.top.locals + a.top.room ≤ a.slots.len
  pub slots : a.slots.len ≡ length a.slots.items
  pub short : a.slots.len < 2 ^ 63
  pub used : length (top_stack v.frames) ≡ a.top.used
  pub locals : length (top_locals v.frames) ≡ a.top.locals
  pub left : a.top.room - a.top.used ≡ room_left v.frames
  pub rows : length (all_slots v) ≡ a.slots.len
  pub fits : a.top.base + a.top.locals + a.top.room ≤ a.slots.len
  pub spare : length v.spare + end_of a.top ≡ a.slots.len
  pub calls : v.calls + a.saved.len ≡ a.saved.cap
  pub count : length v.frames ≡ a.saved.len
  pub most : top_room v.frames ≡ a.top.room

pub bounds : (a : Inside) (v : Frames) → IsStack a → seen a ≡ v → Bounds a v
bounds a v is e =
    let w = within (saved_of a) a.slots.len a.top is.placed in
    let fits = a.slots.ok.1 in
    let small = a.slots.small in
    let slots = a.slots.ok.0 in
    let end = w.end in
    let saved = a.saved.ok.1 in
    let dropped = length-drop (end_of a.top) a.slots.items in
    let rest : length (drop (end_of a.top) a.slots.items) + end_of a.top ≡ a.slots.len = omega arith in
    let left : a.saved.cap - a.saved.len + a.saved.len ≡ a.saved.cap = omega arith in
    record {
      held = w.held;
      end = w.end;
      room = w.room;
      slots = a.slots.ok.0;
      short = omega arith;
      used = ap (λ (x : Frames). length (top_stack x.frames)) (sym e) ∙ used_is (saved_of a) a.slots.len a.slots.items a.top is.placed;
      locals = ap (λ (x : Frames). length (top_locals x.frames)) (sym e) ∙ locals_is (saved_of a) a.slots.len a.slots.items a.top is.placed;
      left = room_is (saved_of a) a.slots.len a.slots.items a.top is.placed ∙ ap (λ (x : Frames). room_left x.frames) e;
      rows = ap (λ (x : Frames). length (all_slots x)) (sym e) ∙ ap length (slots_are (saved_of a) a.slots.len a.slots.items a.top is.placed (omega arith)) ∙ sym slots;
      fits = base_room (saved_of a) a.slots.len a.slots.items a.top is.placed;
      spare = ap (λ (x : Frames). length x.spare + end_of a.top) (sym e) ∙ rest;
      calls = ap (λ (x : Frames). x.calls + a.saved.len) (sym e) ∙ left;
      count = ap (λ (x : Frames). length x.frames) (sym e) ∙ length-frames_of (saved_of a) a.slots.items a.top ∙ length-reverse a.saved.items ∙ sym a.saved.ok.0;
      most = ap (λ (x : Frames). top_room x.frames) (sym e) ∙ top_room_is (saved_of a) a.slots.len a.slots.items a.top is.placed;
    }

-- a record saved after others comes first among those below
pub reverse_push : {A : Type 0} (xs ys : List A) (x : A) → ys ≡ xs ++ x ∷ [] → reverse ys ≡ x ∷ reverse xs
reverse_push xs ys x e = ap reverse e ∙ reverse-append xs (x ∷ [])

-- a stack whose slots were lent has those that were left there
abbrev pub left_in : Inside → List Slot → List Slot
left_in a new = take a.slots.len (new ++ drop (length new) a.slots.items)

pub lent : (a : Inside) (new : List Slot) → IsStack a
    → kept (frames_of (left_in a new) a.top (saved_of a)) (drop (end_of a.top) (left_in a new)) (seen a).calls ≡ with_all_slots (seen a) new
lent a new is =
    let len = a.slots.ok.0 in
    let slots : all_slots (seen a) ≡ a.slots.items = slots_are (saved_of a) a.slots.len a.slots.items a.top is.placed (omega arith) in
    let long : a.slots.len ≡ length (all_slots (seen a)) = len ∙ ap length (sym slots) in
    let now : left_in a new ≡ over (all_slots (seen a)) new = λ i. take (long i) (new ++ drop (length new) (sym slots i)) in
    let size : end_of a.top ≡ size_of (seen a).frames = sym (size_is (saved_of a) a.slots.len a.slots.items a.top is.placed) in
    kept_is (read_is (saved_of a) a.slots.len a.slots.items (left_in a new) a.top is.placed ∙ ap (λ xs. read_from xs (seen a).frames) now)
    (λ i. drop (size i) (now i)) refl
