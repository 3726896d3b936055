-- What an invocation does, where the method that it names is known.
use Rattle.std.proofs.Common.{ℕ, ◌≡◌, ◌-◌, ◌++◌, Bool, true, false, List, [], Option, Some, None, drop, length, reverse, refl, sym, subst, ap, ◌∙◌}
use Rattle.std.specs.Prelude.{Result, Ok, Err, IfOk, nat_le, nat_lt, replicate, slice_get, take, if◌then◌else◌}
use Rattle.items.specs.Options.{◌>>=◌}
use Rattle.items.proofs.Binds.{bind_is}
use Rattle.instruction_rows.specs.declared.value.Slot.{Slot}
use Rattle.instruction_rows.specs.declared.value.Slot.TheVariants.{Second}
use Rattle.instruction_rows.specs.Rows.{Invocation, virtual, special, static, interface}
use Rattle.link_model.specs.declared.members.MethodInfo.{MethodInfo}
use Rattle.link_model.specs.declared.sites.Resolution.{Resolution}
use Rattle.link_model.specs.declared.members.MethodCode.{MethodCode}
use Rattle.link_model.specs.World.{World}
use Rattle.link_model.specs.Decoded.{code_at}
use Rattle.lib_table.specs.declared.native.Native.{Native}
use Rattle.ref_model.specs.Memory.{Memory}
use Rattle.ref_model.specs.Effects.{Effect, asks, invokes, late_failure, throws}
use Rattle.ref_model.specs.Fetch.{Named, method_of, named_method}
use Rattle.ref_model.specs.Kinds.{argument_slots}
use Rattle.ref_model.specs.Calls.{called, code_entered, entered, invoked, method_entered, native_entered, receiver_of}
use Rattle.ref_model.specs.Classes.{is_sub}
use Rattle.ref_model.specs.Frames.{callee, first_frame}
use Rattle.ref_model.specs.Monitors.{method_monitor, with_monitor}
use Rattle.ref_model.specs.Requests.{calls}
use Rattle.state_model.specs.Frames.{Frame}
use Rattle.ref_model.specs.LocalRows.{most_frames}
use Rattle.ref_model.specs.Members.{is_synchronized, native_at}
use Rattle.ref_model.specs.declared.exception.Exception.TheVariants as exceptions
use Rattle.invocation.specs.declared.target.Target.{Target}
use Rattle.invocation.specs.declared.receivers.Receiver.{Receiver}
use Rattle.invocation.specs.declared.invocation_cache.NamedMethod.{NamedMethod}
use Rattle.invocation.specs.declared.target.Callee.{Callee}
use Rattle.invocation.specs.declared.target.Target.TheVariants as targets
use Rattle.invocation.specs.Arguments.{takes_double}
use Rattle.invocation.specs.Receivers.{tested}
use Rattle.invocation.specs.InvocationCache.{FitsReceiver, IsNamed}
use Rattle.invocation.specs.Targets.{Gives, IsLocalCallee, IsLocalCode, IsReceived, IsStaticCallee, asks_to_begin, begins, begins_synchronized, numbered_effect, received_effect, selected_effect, special_effect, virtual_effect}

pub named_is : (w : World) (resolution : Resolution) (n : ℕ) (m : MethodInfo) → Some n ≡ method_of resolution.site → Some m ≡ slice_get w.methods n →
    named_method w resolution ≡ Some (record { number = n; method = m })
named_is w resolution n m site method =
    bind_is (method_of resolution.site) _ n _ (sym site) (bind_is (slice_get w.methods n) _ m _ (sym method) refl)

pub invoked_by : (w : World) (resolution : Resolution) (invocation : Invocation) (r : Memory) (depth : ℕ) (stack : List Slot) (n : ℕ) (m : MethodInfo) →
    Some n ≡ method_of resolution.site → Some m ≡ slice_get w.methods n →
    invoked w resolution invocation r depth stack ≡ called w resolution invocation (record { number = n; method = m }) r depth stack
invoked_by w resolution invocation r depth stack n m site method =
    ap (λ (x : Option Named). x >>= λ named. called w resolution invocation named r depth stack) (named_is w resolution n m site method)

pub static_is : (w : World) (resolution : Resolution) (r : Memory) (depth : ℕ) (stack : List Slot) (n slots : ℕ) (m : MethodInfo) →
    Some n ≡ method_of resolution.site → Some m ≡ slice_get w.methods n → slots ≡ argument_slots m.signature →
    invoked w resolution static r depth stack ≡ numbered_effect w r depth n slots stack
static_is w resolution r depth stack n slots m site method is =
    let named : Named = record { number = n; method = m } in
    invoked_by w resolution static r depth stack n m site method ∙ ap (λ s. entered w r depth named s stack) (sym is)
    ∙ ap (λ (x : Option MethodInfo). (x >>= λ y. Some (record { number = n; method = y })) >>= λ y. entered w r depth y slots stack) method

pub virtual_is : (w : World) (resolution : Resolution) (r : Memory) (depth : ℕ) (stack : List Slot) (n slots : ℕ) (m : MethodInfo) →
    Some n ≡ method_of resolution.site → Some m ≡ slice_get w.methods n → slots ≡ argument_slots m.signature →
    invoked w resolution virtual r depth stack ≡ virtual_effect w resolution n slots r depth stack
virtual_is w resolution r depth stack n slots m site method is =
    invoked_by w resolution virtual r depth stack n m site method ∙ ap (λ s. virtual_effect w resolution n s r depth stack) (sym is)

pub interface_is : (w : World) (resolution : Resolution) (count : ℕ) (r : Memory) (depth : ℕ) (stack : List Slot) (n slots : ℕ) (m : MethodInfo) →
    Some n ≡ method_of resolution.site → Some m ≡ slice_get w.methods n → slots ≡ argument_slots m.signature →
    invoked w resolution (interface count) r depth stack ≡ virtual_effect w resolution n slots r depth stack
interface_is w resolution count r depth stack n slots m site method is =
    invoked_by w resolution (interface count) r depth stack n m site method ∙ ap (λ s. virtual_effect w resolution n s r depth stack) (sym is)

pub special_is : (w : World) (resolution : Resolution) (r : Memory) (depth : ℕ) (stack : List Slot) (n slots : ℕ) (m : MethodInfo) →
    Some n ≡ method_of resolution.site → Some m ≡ slice_get w.methods n → slots ≡ argument_slots m.signature →
    invoked w resolution special r depth stack ≡ special_effect w resolution n slots r depth stack
special_is w resolution r depth stack n slots m site method is =
    invoked_by w resolution special r depth stack n m site method ∙ ap (λ s. special_effect w resolution n s r depth stack) (sym is)

-- ---- a method with code

-- it begins, or asks for its monitor
entered_is : (w : World) (r : Memory) (depth : ℕ) (stack : List Slot) (n slots : ℕ) (m : MethodInfo) (code : MethodCode) →
    slice_get w.methods n ≡ Some m → native_at w n ≡ None → code_at w n ≡ Some code →
    numbered_effect w r depth n slots stack ≡ method_entered w depth (record { number = n; method = m }) code slots stack
entered_is w r depth stack n slots m code method native has =
    let named : Named = record { number = n; method = m } in
    ap (λ (x : Option MethodInfo). (x >>= λ y. Some (record { number = n; method = y })) >>= λ y. entered w r depth y slots stack) method
    ∙ ap (λ (x : Option Native). native_entered w r depth named x slots stack) native ∙ ap (λ (x : Option MethodCode). code_entered w depth named x slots stack) has

-- the effect of a method that is synchronized, or isn't
abbrev monitor_effect : MethodInfo → List Slot → Frame → Option Effect
monitor_effect m rest g = method_monitor m (receiver_of g) >>= λ o. Some (asks (calls o (with_monitor g o)) rest)

abbrev frame_effect : MethodInfo → List Slot → Bool → Frame → Option Effect
frame_effect m rest guarded g = if guarded then monitor_effect m rest g else Some (invokes g rest)

pub coded_is : (w : World) (r : Memory) (depth : ℕ) (stack : List Slot) (n slots : ℕ) (m : MethodInfo) (code : MethodCode) →
    slice_get w.methods n ≡ Some m → native_at w n ≡ None → code_at w n ≡ Some code → is_synchronized m ≡ false →
    numbered_effect w r depth n slots stack ≡ begins depth (record { method = n; slots = slots; locals = code.max_locals; operands = code.max_stack }) stack
coded_is w r depth stack n slots m code method native has plain =
    entered_is w r depth stack n slots m code method native has
    ∙ ap (λ (b : Bool). if nat_lt depth most_frames then (callee n code slots stack >>= frame_effect m (drop slots stack) b) else Some (throws exceptions.StackOverflowError)) plain

-- ---- a synchronized method

abbrev sized_frame : ℕ → MethodCode → List Slot → Frame
sized_frame n code slots = record {
  method = n;
  pc = 0;
  locals = slots ++ replicate (code.max_locals - length slots) Second;
  stack = [];
  room = code.max_stack;
}

first_numbered : (n : ℕ) (code : MethodCode) (slots : List Slot) (g : Frame) → first_frame n code slots ≡ Some g → g.method ≡ n
first_numbered n code slots g = by (nat_le (length slots) code.max_locals)
  where
    by : (b : Bool) → (if b then Some (sized_frame n code slots) else None) ≡ Some g → g.method ≡ n
    by true e = let is : sized_frame n code slots ≡ g = cc in ap (λ (f : Frame). f.method) (sym is)
    by false e = cc

callee_numbered : (n : ℕ) (code : MethodCode) (slots : ℕ) (stack : List Slot) (g : Frame) → callee n code slots stack ≡ Some g → g.method ≡ n
callee_numbered n code slots stack g = by (nat_le slots (length stack))
  where
    by : (b : Bool) → (if b then first_frame n code (reverse (take slots stack)) else None) ≡ Some g → g.method ≡ n
    by true e = first_numbered n code (reverse (take slots stack)) g e
    by false e = cc

-- the method of a frame that begins asks for the monitor of that frame
begun_asks : (w : World) (n : ℕ) (m : MethodInfo) (rest : List Slot) (found : Option Frame) → slice_get w.methods n ≡ Some m →
    ((g : Frame) → found ≡ Some g → g.method ≡ n) → (found >>= monitor_effect m rest) ≡ (found >>= asks_to_begin w rest)
begun_asks w n m rest None method is = refl
begun_asks w n m rest (Some g) method is =
    ap (λ (x : Option MethodInfo). (x >>= λ y. method_monitor y (receiver_of g)) >>= λ o. Some (asks (calls o (with_monitor g o)) rest))
    (sym method ∙ ap (slice_get w.methods) (sym (is g refl)))

pub synchronized_is : (w : World) (r : Memory) (depth : ℕ) (stack : List Slot) (n slots : ℕ) (m : MethodInfo) (code : MethodCode) →
    slice_get w.methods n ≡ Some m → native_at w n ≡ None → code_at w n ≡ Some code → is_synchronized m ≡ true →
    numbered_effect w r depth n slots stack ≡ begins_synchronized w depth (record { method = n; slots = slots; locals = code.max_locals; operands = code.max_stack }) stack
synchronized_is w r depth stack n slots m code method native has synchronized =
    let found = callee n code slots stack in
    let rest = drop slots stack in
    let full : Option Effect = Some (throws exceptions.StackOverflowError) in
    entered_is w r depth stack n slots m code method native has
    ∙ ap (λ (b : Bool). if nat_lt depth most_frames then (found >>= frame_effect m rest b) else full) synchronized
    ∙ ap (λ (x : Option Effect). if nat_lt depth most_frames then x else full)
    (begun_asks w n m rest found method (λ g e. callee_numbered n code slots stack g e))

-- ---- the test of the receiver's class

pub tested_instance : (w : World) (receiver : Receiver) (act : ℕ → Option Effect) → is_sub w receiver.class receiver.named ≡ true →
    tested w receiver act ≡ act receiver.class
tested_instance w receiver act e = ap (λ (b : Bool). if b then act receiver.class else Some (throws (late_failure w receiver.named))) e

pub tested_other : (w : World) (receiver : Receiver) (act : ℕ → Option Effect) → is_sub w receiver.class receiver.named ≡ false →
    tested w receiver act ≡ Some (throws (late_failure w receiver.named))
tested_other w receiver act e = ap (λ (b : Bool). if b then act receiver.class else Some (throws (late_failure w receiver.named))) e

-- ---- what holds of a target, along an equation of its effect

pub if_ok_mapped : {A E : Type 0} (x : Result A E) (P Q : A → Type 0) → ((a : A) → P a → Q a) → IfOk x P → IfOk x Q
if_ok_mapped (Ok a) P Q f h = f a h
if_ok_mapped (Err e) P Q f h = tt

pub gives_along : (w : World) (r : Memory) (depth : ℕ) (stack : List Slot) (effect other : Option Effect) (target : Target) → effect ≡ other →
    Gives w r depth stack other target → Gives w r depth stack effect target
gives_along w r depth stack effect other target e h =
    let P : Option Effect → Type 0 = λ x. Gives w r depth stack x target in subst P (sym e) h

-- what was selected for an instance of the class that is named
pub fits_is_received : (w : World) (receiver : Receiver) (n slots : ℕ) (target : Target) → FitsReceiver w receiver n slots target →
    IsReceived w receiver n slots target
fits_is_received w receiver n slots target h = λ r depth stack.
    gives_along w r depth stack (received_effect w r depth receiver n slots stack) (selected_effect w r depth receiver.class n slots stack) target
    (tested_instance w receiver (λ class. selected_effect w r depth class n slots stack) h.instance) (h.selected r depth stack)

pub other_is_received : (w : World) (receiver : Receiver) (n slots : ℕ) → is_sub w receiver.class receiver.named ≡ false →
    IsReceived w receiver n slots (targets.Throws (late_failure w receiver.named))
other_is_received w receiver n slots e = λ r depth stack. tested_other w receiver (λ class. selected_effect w r depth class n slots stack) e

-- ---- the method that an invokestatic begins

inside : {A : Type 0} (a b : A) → ◌≡◌ {A = Option A} (Some a) (Some b) → a ≡ b
inside a b e = cc

pub static_named : (w : World) (resolution : Resolution) (n : ℕ) (m : NamedMethod) (c : Callee) → method_of resolution.site ≡ Some n → m.number ≡ n → IsNamed w m → m.unbound ≡ targets.Code c
    → IsStaticCallee w resolution c
static_named w resolution n m c site number named is =
    let local : IsLocalCallee w m.number m.slots c = subst (IsLocalCode w m.number m.slots) is named.local in
    let same : named.method ≡ local.method = inside named.method local.method (named.is ∙ local.at) in
    record {
      number = m.number;
      named = site ∙ ap (λ (k : ℕ). Some k) (sym number);
      slots = m.slots;
      callee = local;
      takes = named.slots ∙ ap (λ (x : MethodInfo). argument_slots x.signature) same;
      plain = ap (λ (x : MethodInfo). takes_double x.signature) (sym same) ∙ named.plain;
    }
