-- The frames of synchronized methods: where the receiver lies, and where the monitor.
use Rattle.std.proofs.Common.{arith, ℕ, zero, suc, ◌≡◌, ◌<◌, ◌≤◌, ◌+◌, ◌-◌, ◌++◌, Bool, true, false, List, [], ◌∷◌, Option, Some, None, drop, length, reverse, refl, sym, ap, ◌∙◌}
use Rattle.std.specs.Prelude.{get_or, nat_le, nat_lt, replicate, slice_get, slice_set, take, if◌then◌else◌}
use Rattle.std.proofs.Math.Seq.{take-suc, set-append_seam}
use Rattle.std.proofs.lemmas.Grind.{replicate_next}
use Rattle.std.proofs.lemmas.List.{append_assoc, length-append, length-replicate, length-reverse, length-take-le, reverse-append}
use Rattle.std.proofs.lemmas.Option.{slice_get-get_or}
use Rattle.items.specs.Options.{◌>>=◌}
use Rattle.instruction_rows.specs.declared.value.Slot.{Slot}
use Rattle.instruction_rows.specs.declared.value.Slot.TheVariants.{One, Second}
use Rattle.instruction_rows.specs.declared.value.Value.TheVariants as values
use Rattle.link_model.specs.declared.members.MethodInfo.{MethodInfo}
use Rattle.link_model.specs.World.{World}
use Rattle.state_model.specs.Frames.{Frame}
use Rattle.frames.specs.Frames.{entered, top_stack, with_local, with_stack}
use Rattle.continuation.specs.Continuation.{Continuation}
use Rattle.ref_model.specs.Calls.{receiver_of}
use Rattle.ref_model.specs.Effects.{Effect, asks, throws}
use Rattle.ref_model.specs.LocalRows.{most_frames}
use Rattle.ref_model.specs.Monitors.{method_monitor, reference_in, with_monitor}
use Rattle.ref_model.specs.Requests.{calls}
use Rattle.ref_model.specs.declared.exception.Exception.TheVariants as exceptions
use Rattle.heap_instructions.specs.Operands.{operands}
use Rattle.invocation.specs.declared.synchronized_calls.SynchronizedCall.{SynchronizedCall}
use Rattle.invocation.specs.declared.target.Callee.{Callee}
use Rattle.invocation.specs.SynchronizedCalls.{AsksForMonitor, receiver_in}
use Rattle.invocation.specs.Targets.{asks_to_begin, begins_synchronized, callee_frame, callee_monitor, sized_frame}

-- ---- the receiver is the first local variable

abbrev frame_with : Callee → List Slot → Frame
frame_with c slots = record {
  method = c.method;
  pc = 0;
  locals = slots ++ replicate (c.locals - length slots) Second;
  stack = [];
  room = c.operands;
}

-- what a frame is that a call makes
sized_is : (c : Callee) (slots : List Slot) (g : Frame) → sized_frame c slots ≡ Some g → g ≡ frame_with c slots
sized_is c slots g = by (nat_le (length slots) c.locals)
  where
    by : (b : Bool) → (if b then Some (frame_with c slots) else None) ≡ Some g → g ≡ frame_with c slots
    by true e = cc
    by false e = cc

pub callee_is : (c : Callee) (stack : List Slot) (g : Frame) → callee_frame c stack ≡ Some g → g ≡ frame_with c (reverse (take c.slots stack))
callee_is c stack g = by (nat_le c.slots (length stack))
  where
    by : (b : Bool) → (if b then sized_frame c (reverse (take c.slots stack)) else None) ≡ Some g → g ≡ frame_with c (reverse (take c.slots stack))
    by true e = sized_is c (reverse (take c.slots stack)) g e
    by false e = cc

-- no local variable that is unset refers to an object
none_unset : (k : ℕ) → (slice_get (replicate k Second) 0 >>= reference_in) ≡ None
none_unset zero = refl
none_unset (suc k) = refl

receiver_lies : (n k : ℕ) (stack : List Slot) → n ≤ length stack → (slice_get (reverse (take n stack) ++ replicate k Second) 0 >>= reference_in) ≡ receiver_in n stack
receiver_lies zero k stack few = none_unset k
receiver_lies (suc n) k stack few =
    let rest = replicate k Second in
    let last = get_or stack n Second in
    let taken : reverse (take (suc n) stack) ≡ last ∷ reverse (take n stack) =
    ap reverse (take-suc stack n Second (omega arith)) ∙ reverse-append (take n stack) (last ∷ []) in
    ap (λ (xs : List Slot). slice_get (xs ++ rest) 0 >>= reference_in) taken
    ∙ ap (λ (x : Option Slot). x >>= reference_in) (sym (slice_get-get_or stack n Second (omega arith)))

pub receiver_is : (c : Callee) (stack : List Slot) (g : Frame) → c.slots ≤ length stack → callee_frame c stack ≡ Some g → receiver_of g ≡ receiver_in c.slots stack
receiver_is c stack g few is =
    let slots = reverse (take c.slots stack) in
    ap receiver_of (callee_is c stack g is) ∙ receiver_lies c.slots (c.locals - length slots) stack few

-- ---- what the call asks for

taken_length : (n : ℕ) (stack : List Slot) → n ≤ length stack → length (reverse (take n stack)) ≡ n
taken_length n stack few = length-reverse (take n stack) ∙ length-take-le n stack few

-- there is a frame where there are enough local variables
pub callee_there : (c : Callee) (stack : List Slot) → c.slots ≤ length stack → c.slots ≤ c.locals → callee_frame c stack ≡ Some (frame_with c (reverse (take c.slots stack)))
callee_there c stack few fits =
    let slots = reverse (take c.slots stack) in
    let full : Option Frame = Some (frame_with c slots) in
    let long = taken_length c.slots stack few in
    let sized : nat_le (length slots) c.locals ≡ true = ap (λ n. nat_le n c.locals) long ∙ grind (arith, fits) in
    let given : nat_le c.slots (length stack) ≡ true = grind arith in
    ap (λ (b : Bool). if b then sized_frame c slots else None) given ∙ ap (λ (b : Bool). if b then full else None) sized

pub asks_so : (w : World) (c : Callee) (m : Continuation) (call : SynchronizedCall) (method : MethodInfo) → call.callee ≡ c → length m.stack.frames < most_frames →
    c.slots ≤ length (operands m) → c.slots ≤ c.locals → slice_get w.methods c.method ≡ Some method →
    method_monitor method (receiver_in c.slots (operands m)) ≡ Some call.monitor → AsksForMonitor w c m call
asks_so w c m call method same few given fits there monitor =
    let stack = operands m in
    let rest = drop c.slots stack in
    let g = frame_with c (reverse (take c.slots stack)) in
    let begins = callee_there c stack given fits in
    let full : Option Effect = Some (throws exceptions.StackOverflowError) in
    let lies : receiver_of g ≡ receiver_in c.slots stack = receiver_is c stack g given begins in
    let monitor_is : callee_monitor w g ≡ Some call.monitor =
    ap (λ (x : Option MethodInfo). x >>= λ y. method_monitor y (receiver_of g)) there ∙ ap (method_monitor method) lies ∙ monitor in
    let below : nat_lt (length m.stack.frames) most_frames ≡ true = grind arith in
    record {
      callee = same;
      frame = g;
      begins = begins;
      few = few;
      effect =
          ap (λ (b : Bool). if b then (callee_frame c stack >>= asks_to_begin w rest) else full) below
          ∙ ap (λ (x : Option Frame). x >>= asks_to_begin w rest) begins
          ∙ ap (λ (x : Option ℕ). x >>= λ o. Some (asks (calls o (with_monitor g o)) rest)) monitor_is;
    }

-- there are too many frames
pub deep_throws : (w : World) (c : Callee) (m : Continuation) → most_frames ≤ length m.stack.frames →
    begins_synchronized w (length m.stack.frames) c (operands m) ≡ Some (throws exceptions.StackOverflowError)
deep_throws w c m deep =
    let full : Option Effect = Some (throws exceptions.StackOverflowError) in
    let begun = callee_frame c (operands m) >>= asks_to_begin w (drop c.slots (operands m)) in
    let past : nat_lt (length m.stack.frames) most_frames ≡ false = grind arith in
    ap (λ (b : Bool). if b then begun else full) past

-- ---- the monitor is the last local variable

pub set_last : (xs : List Slot) (k n : ℕ) (x : Slot) → length xs + k ≡ n → slice_set (xs ++ replicate (k + 1) Second) n x ≡ (xs ++ replicate k Second) ++ x ∷ []
set_last xs k n x is =
    let front = xs ++ replicate k Second in
    let long : length front ≡ n = length-append xs (replicate k Second) ∙ ap (λ m. length xs + m) (length-replicate k Second) ∙ is in
    ap (λ (ys : List Slot). slice_set (xs ++ ys) n x) (replicate_next k Second)
    ∙ ap (λ (ys : List Slot). slice_set ys n x) (sym (append_assoc xs (replicate k Second) (Second ∷ [])))
    ∙ ap (λ (i : ℕ). slice_set (front ++ Second ∷ []) i x) (sym long)
    ∙ set-append_seam front Second [] x

-- the frames where one more local variable was set to the monitor
pub monitor_set : (c : Callee) (o : ℕ) (frames : List Frame) (g : Frame) → c.slots ≤ length (top_stack frames) → c.slots ≤ c.locals →
    callee_frame c (top_stack frames) ≡ Some g →
    with_local c.locals (One (values.Ref o)) (entered c.method (c.locals + 1) c.operands c.slots frames) ≡ with_monitor g o ∷ with_stack (drop c.slots (top_stack frames)) frames
monitor_set c o frames g given fits is =
    let slots = reverse (take c.slots (top_stack frames)) in
    let k = c.locals - c.slots in
    let rest = with_stack (drop c.slots (top_stack frames)) frames in
    let some : ℕ → Frame = λ n. record { method = c.method; pc = 0; locals = slots ++ replicate n Second; stack = []; room = c.operands } in
    let with : List Slot → List Frame = λ locals. record { method = c.method; pc = 0; locals = locals; stack = []; room = c.operands } ∷ rest in
    let long : length slots ≡ c.slots = taken_length c.slots (top_stack frames) given in
    let more : c.locals + 1 - c.slots ≡ k + 1 = omega arith in
    let same : c.locals - length slots ≡ k = ap (λ n. c.locals - n) long in
    let whole : length slots + k ≡ c.locals = ap (λ n. n + k) long ∙ omega arith in
    ap (λ n. with (slice_set (slots ++ replicate n Second) c.locals (One (values.Ref o)))) more
    ∙ ap with (set_last slots k c.locals (One (values.Ref o)) whole)
    ∙ ap (λ n. with_monitor (some n) o ∷ rest) (sym same)
    ∙ ap (λ (f : Frame). with_monitor f o ∷ rest) (sym (callee_is c (top_stack frames) g is))
