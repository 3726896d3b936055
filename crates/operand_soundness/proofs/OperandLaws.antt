-- What the instruction at hand takes is there, since frames keep to the typing.
use Rattle.std.proofs.Common.{◌≡◌, ℕ, true, List, [], ◌∷◌, drop, Option, Some, refl, ap, sym, ◌∙◌, subst}
use Rattle.items.specs.Options.{◌>>=◌}
use Rattle.items.proofs.Binds.{bind_is}
use Rattle.lib_table.specs.declared.native.Native.{Native}
use Rattle.opcodes.specs.declared.op.ValueKind.TheVariants as kinds
use Rattle.instruction_rows.specs.declared.value.Slot.{Slot}
use Rattle.instruction_rows.specs.Kinds.{Of}
use Rattle.instruction_rows.specs.Rows.{Row, Invocation, invoke, virtual, special, static, interface, dynamic}
use Rattle.instruction_rows.specs.SlotEffect.{popped}
use Rattle.instruction_rows.specs.Table.{row as row_of}
use Rattle.link_model.specs.declared.members.MethodInfo.{MethodInfo}
use Rattle.link_model.specs.declared.sites.Resolution.{Resolution}
use Rattle.link_model.specs.World.{World}
use Rattle.verify_types.specs.Environment.{Instruction}
use Rattle.state_model.specs.Frames.{Frame}
use Rattle.frames.specs.Frames.{top_method, top_pc, top_stack}
use Rattle.continuation.specs.Continuation.{Continuation}
use Rattle.heap_objs.specs.Heap.{Heap}
use Rattle.ref_model.specs.Calls.{choice_of}
use Rattle.ref_model.specs.Classes.{is_sub}
use Rattle.ref_model.specs.Fetch.{fetched, Named, named_method}
use Rattle.ref_model.specs.Kinds.{argument_slots}
use Rattle.ref_model.specs.Operands.{FindsArguments, FindsOperands}
use Rattle.frame_soundness.specs.Typed.{Typed}
use Rattle.frame_soundness.specs.CallLaws.{takes_receiver}
use Rattle.frame_soundness.specs.EnterLaws.{IsChosen}
use Rattle.frame_soundness.specs.EventLaws.{OfReceiver}
use Rattle.frame_soundness.proofs.FetchLaws.{fetched_is}
use Rattle.frame_soundness.proofs.OperandProofs.{arguments_are_there, operands_are_there, static_arguments_are_there}
use Rattle.step_soundness.specs.Resolutions.{IsRowResolution, IsSelected, chosen_method, method_run, receiver}
use Rattle.interp_local.specs.Fetched.{instruction_at}
use Rattle.heap_instructions.specs.Operands.{operands}
use Rattle.invocation.specs.declared.receivers.Receiver.{Receiver}
use Rattle.invocation.specs.Natives.{HasReceiver, InvokesNative, IsNative, IsNativeInvoked, IsVirtualNative}
use Rattle.thread_steps.specs.declared.parts.Parts.{Parts}
use Rattle.thread_steps.specs.Operands.{FindsNatives}
use Rattle.thread_steps.specs.States.{memory_of}
use Rattle.operand_soundness.specs.Ready.{IsReady}

inside : (i j : Instruction) → ◌≡◌ {A = Option Instruction} (Some i) (Some j) → i ≡ j
inside i j e = cc

-- the instruction of the typing is the one that is fetched
placed_is : (w : World) (f : Frame) (below : List Frame) (t : Typed w (f ∷ below)) (i : Instruction) → fetched w f ≡ Some i → t.0.at.place.instruction ≡ i
placed_is w f below t i at = inside t.0.at.place.instruction i (sym (fetched_is w f t.0.at) ∙ at)

pub operands_found : (w : World) (frames : List Frame) (i : Instruction) → IsReady w → Typed w frames → instruction_at w (top_method frames) (top_pc frames) ≡ Some i →
    FindsOperands w i.resolution (row_of i.instr.op) (top_stack frames)
operands_found w [] i ready typed at = absurd typed
operands_found w (f ∷ below) i ready typed at =
    subst (λ (j : Instruction). FindsOperands w j.resolution (row_of j.instr.op) f.stack) (placed_is w f below typed i at) (operands_are_there w f below ready.linked typed)

-- ---- native methods

-- The thread is in a frame that keeps to the typing.
record Stands (w : World) (m : Continuation) : Type 0 where
  f : Frame
  below : List Frame
  top : m.stack.frames ≡ f ∷ below
  typed : Typed w (f ∷ below)

abbrev instruction : (w : World) (m : Continuation) → Stands w m → Instruction
instruction w m h = h.typed.0.at.place.instruction

on_top : (w : World) (m : Continuation) (h : Stands w m) (n : Native) → FindsArguments w n h.f.stack → FindsArguments w n (operands m)
on_top w m h n x = subst (λ (fs : List Frame). FindsArguments w n (top_stack fs)) (sym h.top) x

-- one that runs on the receiver at hand
received : (w : World) (m : Continuation) (a : Parts) (h : Stands w m) (invocation : Invocation) (index k : ℕ) (named : Named) (r : Receiver) (n : Native) → IsReady w →
    row_of (instruction w m h).instr.op ≡ invoke invocation index → takes_receiver invocation ≡ true → named_method w (instruction w m h).resolution ≡ Some named →
    OfReceiver w (memory_of a) (receiver named.method.signature h.f.stack) (IsSelected w (instruction w m h).resolution invocation named) →
    HasReceiver w (instruction w m h).resolution (argument_slots named.method.signature) a.natives.heap m r → is_sub w r.class r.named ≡ true →
    method_run w invocation named r.class ≡ Some k → IsNative w k n → FindsArguments w n (operands m)
received w m a h invocation index k named r n ready row takes is names has instance run native =
    let slots = argument_slots named.method.signature in
    let chosen : Named = record { number = k; method = native.method } in
    let lies : receiver named.method.signature h.f.stack ≡ Some has.object =
    ap (λ (fs : List Frame). popped kinds.Reference (drop slots (top_stack fs)) >>= λ x. x.0) (sym h.top)
    ∙ ap (λ (o : Option (Of kinds.Reference × List Slot)). o >>= λ x. x.0) has.lies in
    let at = ap (λ (o : Option MethodInfo). o >>= λ x. Some (record { number = k; method = x })) native.at in
    let fits : IsChosen w named chosen = names has.object r.class lies has.class r.named k chosen has.named instance run at in
    on_top w m h n (arguments_are_there w h.f h.below invocation index named chosen n ready.linked.typed h.typed row takes is fits native.done)

-- one that is selected
selected : (w : World) (m : Continuation) (a : Parts) (h : Stands w m) (invocation : Invocation) (index : ℕ) (named : Named) (n : Native) → IsReady w →
    row_of (instruction w m h).instr.op ≡ invoke invocation index → takes_receiver invocation ≡ true → named_method w (instruction w m h).resolution ≡ Some named →
    OfReceiver w (memory_of a) (receiver named.method.signature h.f.stack) (IsSelected w (instruction w m h).resolution invocation named) →
    ((class : ℕ) → method_run w invocation named class ≡ (choice_of w class named.number >>= chosen_method w)) →
    IsVirtualNative w (instruction w m h).resolution named.number (argument_slots named.method.signature) a.natives.heap m n → FindsArguments w n (operands m)
selected w m a h invocation index named n ready row takes is names runs x =
    let s = x.is.selected in
    received w m a h invocation index _ named x.receiver n ready row takes is names x.has x.is.instance
    (runs x.receiver.class ∙ bind_is (choice_of w x.receiver.class named.number) (chosen_method w) _ _ s.choice refl) s.is

invoked : (w : World) (m : Continuation) (a : Parts) (h : Stands w m) (invocation : Invocation) (index : ℕ) (n : Native) → IsReady w →
    row_of (instruction w m h).instr.op ≡ invoke invocation index → IsRowResolution w (instruction w m h).resolution (invoke invocation index) (memory_of a) h.f.stack →
    InvokesNative w (instruction w m h).resolution invocation a.natives.heap m n → FindsArguments w n (operands m)
invoked w m a h virtual index n ready row names x = selected w m a h virtual index x.named n ready row refl x.is (names x.named x.is) (λ class. refl) x.runs
invoked w m a h (interface count) index n ready row names x =
    selected w m a h (interface count) index x.named n ready row refl x.is (names x.named x.is) (λ class. refl) x.runs
invoked w m a h special index n ready row names x =
    let s = x.runs in
    received w m a h special index x.named.number x.named s.receiver n ready row refl x.is (names x.named x.is) s.has s.instance refl s.is
invoked w m a h static index n ready row names x =
    on_top w m h n (static_arguments_are_there w h.f h.below index x.named n ready.linked.typed h.typed row x.is (names x.named x.is) x.runs.done)
invoked w m a h dynamic index n ready row names x = absurd x.runs

-- only an invocation comes to a native method
invocation_of : (w : World) (resolution : Resolution) (r : Row) (heap : Heap) (m : Continuation) (n : Native) → IsNativeInvoked w resolution r heap m n →
    (invocation : Invocation) × (index : ℕ) × (r ≡ invoke invocation index) × InvokesNative w resolution invocation heap m n
invocation_of w resolution (invoke invocation index) heap m n x = (invocation, index, refl, x)
invocation_of w resolution r heap m n x = absurd x

natives_there : (w : World) (m : Continuation) (a : Parts) (h : Stands w m) → IsReady w →
    FindsNatives w (instruction w m h).resolution (row_of (instruction w m h).instr.op) a.natives.heap m
natives_there w m a h ready = λ n x.
    let i = instruction w m h in
    let by = invocation_of w i.resolution (row_of i.instr.op) a.natives.heap m n x in
    let names = ready.named (memory_of a) h.f i (fetched_is w h.f h.typed.0.at) in
    invoked w m a h by.0 by.1 n ready by.2 (subst (λ (r : Row). IsRowResolution w i.resolution r (memory_of a) h.f.stack) by.2 names) by.3

pub natives_found : (w : World) (a : Parts) (m : Continuation) (frames : List Frame) (i : Instruction) → m.stack.frames ≡ frames → IsReady w → Typed w frames →
    instruction_at w (top_method frames) (top_pc frames) ≡ Some i → FindsNatives w i.resolution (row_of i.instr.op) a.natives.heap m
natives_found w a m [] i top ready typed at = absurd typed
natives_found w a m (f ∷ below) i top ready typed at =
    subst (λ (j : Instruction). FindsNatives w j.resolution (row_of j.instr.op) a.natives.heap m) (placed_is w f below typed i at)
    (natives_there w m a (record { f = f; below = below; top = top; typed = typed }) ready)
